-- What becomes of the rectangles of pages that get places on new ones.
use Rattle.std.specs.Prelude.{List, [], ◌∷◌, ◌++◌, map}
use Rattle.etagere_base.specs.Rectangles.{IsLarge}
use Rattle.moves.specs.Atlases.Arranging.{IsAsLarge}
use Rattle.moves.specs.Atlases.Order.{size_of}
use Rattle.atlas_pages.specs.declared.paged_allocation.PagedAllocation.{PagedAllocation}
use Rattle.atlas_pages.specs.Allocated.{Places}
use Rattle.atlas_pages.specs.Choosing.{IsRefusedByAll}
use Rattle.atlas_pages.specs.Pages.{PagesState, no_pages, page_frame}
use Rattle.atlas_pages.specs.Promises.{KeepsPagesPromises}
use Rattle.moves.specs.Pages.Order.{AreTallestFirst}
use Rattle.moves.specs.Pages.Tied.{AreTiedOn}
use Rattle.moves.specs.declared.pages.rearrangement.PageMove.{PageMove}

-- rectangles of old pages asked new ones for places, each by its own sides and one after another: those that moved, those
-- that were refused, and the new pages then
pub data Arranges (start : PagesState)
    : List PagedAllocation → List PageMove → List PagedAllocation → PagesState → Type 0 where
  nothing : Arranges start [] [] [] start
  moved : {asked : List PagedAllocation} {moves : List PageMove} {unplaced : List PagedAllocation}
      {state next : PagesState} {after : PagedAllocation} (before : PagedAllocation)
      → Arranges start asked moves unplaced state
      → Places state (size_of before.allocation.rectangle) after next
      → IsLarge (page_frame state.options) (size_of before.allocation.rectangle) after.allocation.rectangle
      → KeepsPagesPromises next
      → Arranges start (asked ++ before ∷ [])
      (moves ++ record { before = before; after = after } ∷ []) unplaced next
  refused : {asked : List PagedAllocation} {moves : List PageMove} {unplaced : List PagedAllocation}
      {state : PagesState} (before : PagedAllocation)
      → Arranges start asked moves unplaced state
      → IsRefusedByAll state (size_of before.allocation.rectangle)
      → Arranges start (asked ++ before ∷ []) moves (unplaced ++ before ∷ []) state

-- all that is allocated on old pages asked new ones of the same options, of which none was open, for places, the tallest
-- first
pub record IsRearranged (old : PagesState) (moves : List PageMove)
    (unplaced : List PagedAllocation) (new : PagesState) : Type 0 where
  pub asked : List PagedAllocation
  pub each : AreTiedOn asked old
  pub ordered : AreTallestFirst old.options.atlas.vertical_shelves asked
  pub arranged : Arranges (no_pages old.options) asked moves unplaced new

-- what was moved, as it lay before
abbrev pub moved_from : List PageMove → List PagedAllocation
moved_from moves = map (λ (move : PageMove). move.before) moves

-- what was moved, as it lies now
abbrev pub moved_to : List PageMove → List PagedAllocation
moved_to moves = map (λ (move : PageMove). move.after) moves

-- nothing was cut by a move
abbrev pub HasRoom : PageMove → Type 0
HasRoom move = IsAsLarge move.after.allocation.rectangle move.before.allocation.rectangle
