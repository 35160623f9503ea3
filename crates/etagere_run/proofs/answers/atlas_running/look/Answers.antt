use Rattle.std.proofs.Common.{◌≡◌, ◌%◌, None, Some, ap, sym, ◌∙◌}
use Rattle.etagere_base.specs.Ids.{index_modulus}
use Rattle.etagere_run.proofs.RunAnswers.AtlasAnswers.{looked, rectangle-at}
use Rattle.etagere_run.proofs.RunAnswers.TableEntries.{given-of}
use Rattle.etagere_run.specs.Answers.Live.{allocation_at}
use Rattle.etagere_run.specs.Answers.Private.Tables.{entries_of}
use Rattle.etagere_run.proofs.answers.atlas_running.look.Goals as goal

pub returns : goal.returns
returns c position =
    let entries = entries_of c.args.ledger.now in
    let found = given-of c.in-Some.id (allocation_at c.args.other entries) c.in-Some.ensures in
    let is = rw found.2 at (rectangle-at entries c.args.atlas.now c.args.other found.0 c.requires found.1) in
    let same : Some c.in-Some-get.rectangle ≡ Some found.0.rectangle = c.in-Some-get.ensures ∙ is in
    looked position c.args.other found.0 c.in-Some-get.rectangle (c.serialize.result % index_modulus)
    entries c.args.atlas.now c.requires found.1 (cc) (ap (λ n. n % index_modulus) (c.serialize.ensures ∙ sym found.2))

-- what is live is allocated, so its rectangle is known
pub unreachable-requires : goal.unreachable-requires
unreachable-requires c =
    let entries = entries_of c.args.ledger.now in
    let found = given-of c.in-Some.id (allocation_at c.args.other entries) c.in-Some.ensures in
    let is = rw found.2 at (rectangle-at entries c.args.atlas.now c.args.other found.0 c.requires found.1) in
    let none : None ≡ Some found.0.rectangle = c.in-None.ensures ∙ is in
    absurd (cc)
