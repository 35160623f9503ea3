use Rattle.std.proofs.Common.{refl, sym}
use Rattle.etagere_run.proofs.RunAnswers.AtlasAnswers.{allocated-at, gone_back}
use Rattle.etagere_run.proofs.RunAnswers.TableEntries.{given-of}
use Rattle.etagere_run.specs.Answers.Live.{allocation_at}
use Rattle.etagere_run.specs.Answers.Private.Tables.{entries_of}
use Rattle.etagere_run.proofs.answers.atlas_running.give_back.Goals as goal

pub returns-clause-answer : goal.returns-clause-answer
returns-clause-answer c position =
    let entries = entries_of c.args.ledger.now in
    let found = given-of c.in-Some.id (allocation_at c.args.other entries) c.in-Some.ensures.found in
    let own = sym found.2 in
    gone_back position c.args.other found.0 entries (entries_of c.take.new.self)
    c.args.atlas.now c.deallocate.new.self c.requires found.1
    (rw own at c.in-Ok.ensures.ok) (rw own at c.in-Ok.ensures.allocated) c.in-Ok.ensures.promises c.in-Some.ensures.taken

-- what is live is allocated, so it goes back
pub unreachable-requires : goal.unreachable-requires
unreachable-requires c =
    let entries = entries_of c.args.ledger.now in
    let found = given-of c.in-Some.id (allocation_at c.args.other entries) c.in-Some.ensures.found in
    let allocated = rw found.2 at (allocated-at entries c.args.atlas.now c.args.other found.0 c.requires found.1) in
    let unknown = c.in-Err.ensures.unknown.0 refl in
    absurd (cc)
