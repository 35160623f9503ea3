use Rattle.std.proofs.Common.{drop}
use Rattle.json.specs.Value.{items_view}
use Rattle.saved_json.specs.Records.{AreRecords}
use Rattle.saved_collections.specs.Caches.Values.{IsSavedKey}
use Rattle.saved_collections.proofs.caches.values.are_keys.Given as goal

-- where the items still to come spell the keys still to come, all do
abbrev pub invariant-loop-i : goal.invariant-loop-i
invariant-loop-i l =
    AreRecords IsSavedKey (items_view (drop l.i l.items)) (drop l.i l.keys)
    → AreRecords IsSavedKey (items_view l.items) l.keys
