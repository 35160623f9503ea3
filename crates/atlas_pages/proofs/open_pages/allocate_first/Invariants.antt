use Rattle.std.proofs.Common.{◌≡◌, take}
use Rattle.std.specs.List.{AllByRecursion}
use Rattle.shelf_model.specs.Choice.{IsRefused}
use Rattle.shelf_model.specs.State.{AtlasState}
use Rattle.atlas_pages.proofs.open_pages.allocate_first.Given as goal

-- the pages so far refuse the size, and all are as they were
abbrev pub invariant-loop-number : goal.invariant-loop-number
invariant-loop-number l =
    (l.pages.items ≡ l.fn.pages.items)
    × AllByRecursion (λ (page : AtlasState). IsRefused page l.size) (take l.number l.fn.pages.items)
