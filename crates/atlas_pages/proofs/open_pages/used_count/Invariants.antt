use Rattle.std.proofs.Common.{◌≡◌, take}
use Rattle.atlas_pages.specs.Allocated.{used_pages}
use Rattle.atlas_pages.proofs.open_pages.used_count.Given as goal

abbrev pub invariant-loop-number : goal.invariant-loop-number
invariant-loop-number l = take l.count l.pages ≡ used_pages (take l.number l.pages)
