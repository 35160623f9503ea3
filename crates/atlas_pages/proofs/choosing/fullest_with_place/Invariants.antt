use Rattle.std.proofs.Common.{◌≡◌}
use Rattle.atlas_pages.specs.Private.Fullest.{found_of}
use Rattle.atlas_pages.proofs.Fullest.{best_of}
use Rattle.atlas_pages.proofs.choosing.fullest_with_place.Given as goal

-- what was found is the best of the pages so far
abbrev pub invariant-loop-number : goal.invariant-loop-number
invariant-loop-number l = found_of l.best ≡ best_of l.size l.pages l.number
