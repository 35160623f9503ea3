use Rattle.std.proofs.Common.{◌≡◌, ◌*◌, ◌^◌, ◌≤◌, take}
use Rattle.etagere_base.specs.Lists.{total}
use Rattle.atlas_pages.specs.Choosing as choosing
use Rattle.atlas_pages.proofs.open_pages.free_space.Given as goal

abbrev pub invariant-loop-page : goal.invariant-loop-page
invariant-loop-page l =
    (l.space ≡ total choosing.free_space (take l.page-index l.pages)) × (l.space ≤ l.page-index * 2 ^ 31)
