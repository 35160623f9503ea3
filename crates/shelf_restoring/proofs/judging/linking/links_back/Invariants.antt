use Rattle.std.proofs.Common.{None}
use Rattle.etagere_base.proofs.DecidingLemmas.{IsLeft}
use Rattle.shelf_records.specs.Chains.{LeadsBack}
use Rattle.etagere_links.specs.Edits.{link_at}
use Rattle.shelf_restoring.proofs.judging.linking.links_back.Given as goal

-- the records that are left link back where all do
abbrev pub invariant-loop-number : goal.invariant-loop-number
invariant-loop-number g l =
    IsLeft (LeadsBack (link_at g.T.Linked.family.previous l.records) None l.numbers) (LeadsBack (link_at g.T.Linked.family.previous l.records) l.before) l.number-index l.numbers
