use Rattle.std.proofs.Common.{drop}
use Rattle.json.specs.Value.{items_view}
use Rattle.saved_json.specs.Records.{AreRecords}
use Rattle.saved_json.proofs.snapshots.are_spelled.Given as goal

-- where the items still to come spell the records still to come, all do
abbrev pub invariant-loop-i : goal.invariant-loop-i
invariant-loop-i g l =
    AreRecords g.R.Spelled.spells (items_view (drop l.i l.items)) (drop l.i l.records)
    → AreRecords g.R.Spelled.spells (items_view l.items) l.records
