use Rattle.std.proofs.Common.{refl, rules, sym}
use Rattle.etagere_run.proofs.RunAnswers.BucketedAnswers.{gone_back, known-at}
use Rattle.etagere_run.proofs.RunAnswers.TableEntries.{given-of}
use Rattle.etagere_run.specs.Answers.Live.{allocation_at}
use Rattle.etagere_run.specs.Answers.Private.Tables.{entries_of}
use Rattle.etagere_run.proofs.answers.bucketed_running.give_back.Goals as goal

pub returns-clause-answer : goal.returns-clause-answer
returns-clause-answer c position =
    let entries = entries_of c.args.ledger.now in
    let found = given-of c.in-Some.id (allocation_at c.args.other entries) c.in-Some.ensures.found in
    gone_back position c.args.other found.0 entries _ c.args.atlas.now
    c.deallocate.new.self c.requires found.1 (rw (sym found.2) at c.in-Ok.ensures.ok) (search rules)

-- what is live is known, so it goes back
pub unreachable-requires : goal.unreachable-requires
unreachable-requires c =
    let entries = entries_of c.args.ledger.now in
    let found = given-of c.in-Some.id (allocation_at c.args.other entries) c.in-Some.ensures.found in
    let known = rw found.2 at (known-at entries c.args.atlas.now c.args.other found.0 c.requires found.1) in
    let unknown = c.in-Err.ensures.unknown.0 refl in
    absurd (cc)
