use Rattle.std.proofs.Common.{◌≡◌, ◌-◌}
use Rattle.shelf_records.specs.RecordUses.{missing}
use Rattle.shelf_records.proofs.uses.missing.Given as goal

-- what is missing from here on is what is missing
abbrev pub invariant-loop-used : goal.invariant-loop-used
invariant-loop-used g l = missing g.T.Linked.family (l.wanted - l.used) l.at l.records ≡ missing g.T.Linked.family l.wanted l.fn.unused l.records
