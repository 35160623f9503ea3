use Rattle.std.proofs.Common.{◌≡◌, ℕ, ◌<◌, Some, slice_get}
use Rattle.shelf_model.specs.Choice.{IsRefused}
use Rattle.shelf_model.specs.State.{AtlasState}
use Rattle.uses.proofs.pages.allocate_on_pages.Given as goal

abbrev pub invariant-loop-page : goal.invariant-loop-page
invariant-loop-page l =
    (l.pages.items ≡ l.fn.pages.items)
    × ((page : ℕ) → page < l.page → (state : AtlasState) → slice_get l.fn.pages.items page ≡ Some state
    → IsRefused state l.size)
