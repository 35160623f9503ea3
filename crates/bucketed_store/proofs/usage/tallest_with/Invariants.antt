use Rattle.std.proofs.Common.{◌≡◌, drop}
use Rattle.std.specs.Prelude.{max}
use Rattle.bucketed_store.specs.Private.Refusals.{kept_tallest}
use Rattle.bucketed_store.proofs.usage.tallest_with.Given as goal

-- the tallest so far and that of the shelves from here on make the tallest of all
abbrev pub invariant-loop-kept : goal.invariant-loop-kept
invariant-loop-kept l = max l.tallest (kept_tallest l.width (drop l.kept-index l.shelves)) ≡ kept_tallest l.width l.shelves
