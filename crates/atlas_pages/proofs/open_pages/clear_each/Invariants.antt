use Rattle.std.proofs.Common.{◌≡◌, drop, length, map, take}
use Rattle.shelf_model.specs.Fresh.{fresh}
use Rattle.shelf_model.specs.State.{AtlasState}
use Rattle.atlas_pages.proofs.open_pages.clear_each.Given as goal

-- the pages so far are empty, and the others are as they were
abbrev pub invariant-loop-number : goal.invariant-loop-number
invariant-loop-number l =
    (length l.pages.items ≡ length l.fn.pages.items)
    × (take l.number l.pages.items ≡ map (λ (page : AtlasState). fresh page.frame) (take l.number l.fn.pages.items))
    × (drop l.number l.pages.items ≡ drop l.number l.fn.pages.items)
