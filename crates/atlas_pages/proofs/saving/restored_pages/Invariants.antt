use Rattle.std.proofs.Common.{◌≡◌, length, take}
use Rattle.std.specs.List.{AllByRecursion}
use Rattle.atlas_pages.specs.Promises.{IsPage}
use Rattle.atlas_pages.specs.Saved.{EachStandsFor}
use Rattle.atlas_pages.proofs.saving.restored_pages.Given as goal

-- the snapshots so far stand for the pages so far
abbrev pub invariant-loop-snapshot : goal.invariant-loop-snapshot
invariant-loop-snapshot l =
    (length l.pages.items ≡ length l.yielded)
    × EachStandsFor (take (length l.yielded) l.fn.saved.items) l.pages.items
    × AllByRecursion (IsPage l.options) l.pages.items
