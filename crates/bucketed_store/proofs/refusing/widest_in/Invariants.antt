use Rattle.std.proofs.Common.{◌≡◌, drop}
use Rattle.std.specs.Prelude.{max}
use Rattle.bucketed_store.specs.Private.Refusals.{kept_widest}
use Rattle.bucketed_store.proofs.refusing.widest_in.Given as goal

-- the widest so far and that of the shelves from here on make the widest of all
abbrev pub invariant-loop-kept : goal.invariant-loop-kept
invariant-loop-kept l = max l.widest (kept_widest l.height (drop l.kept-index l.shelves)) ≡ kept_widest l.height l.shelves
