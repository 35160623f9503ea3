use Rattle.etagere_links.specs.Walks.{walk}
use Rattle.bucketed_restoring.proofs.Judged.RefusedWalks.{refused-breaks, refused-read}
use Rattle.bucketed_restoring.proofs.walking.walk_list.Goals as goal

pub returns-in-Err-clause-fault : goal.returns-in-Err-clause-fault
returns-in-Err-clause-fault c =
    let links = c.args.links.now in
    rw c.restore_fault.ensures (refused-breaks links c.args.marks.now (walk links c.args.first) c.in-Err.fault c.in-Err.ensures.fault)

pub returns-in-Err-clause-read : goal.returns-in-Err-clause-read
returns-in-Err-clause-read c =
    let links = c.args.links.now in
    rw c.restore_fault.ensures (refused-read c.args.steps.now c.mark_onto.new.steps (walk links c.args.first) c.in-Err.fault c.in-Err.ensures.read)
