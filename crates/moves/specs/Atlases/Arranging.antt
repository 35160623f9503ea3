-- What becomes of the rectangles of an atlas that get places in a new one.
use Rattle.std.specs.Prelude.{◌≤ℤ◌, List, [], ◌∷◌, ◌++◌, map}
use Rattle.etagere_base.specs.Frames.{atlas_frame}
use Rattle.etagere_base.specs.declared.geometry.Rectangle.{Rectangle}
use Rattle.etagere_base.specs.declared.geometry.Size.{Size}
use Rattle.etagere_base.specs.declared.ids.Allocation.{Allocation}
use Rattle.shelf_model.specs.Atlas.{Allocates}
use Rattle.shelf_model.specs.Callers.{AreTied}
use Rattle.shelf_model.specs.Choice.{IsRefused}
use Rattle.shelf_model.specs.Fresh.{fresh}
use Rattle.shelf_model.specs.Places.{allocations}
use Rattle.shelf_model.specs.State.{AtlasState}
use Rattle.shelf_model.specs.Valid.{IsValid}
use Rattle.moves.specs.Atlases.Options.{options_of}
use Rattle.moves.specs.Atlases.Order.{AreTallestFirst, size_of}
use Rattle.moves.specs.declared.atlases.rearrangement.Move.{Move}

-- rectangles of an old atlas asked a new one for places, each by its own sides and one after another: those that moved,
-- those that were refused, and the state of the new atlas then
pub data Arranges (start : AtlasState)
    : List Allocation → List Move → List Allocation → AtlasState → Type 0 where
  nothing : Arranges start [] [] [] start
  moved : {asked : List Allocation} {moves : List Move} {unplaced : List Allocation}
      {state next : AtlasState} {after : Allocation} (before : Allocation)
      → Arranges start asked moves unplaced state
      → Allocates state (size_of before.rectangle) after next → IsValid next
      → Arranges start (asked ++ before ∷ [])
      (moves ++ record { before = before; after = after } ∷ []) unplaced next
  refused : {asked : List Allocation} {moves : List Move} {unplaced : List Allocation}
      {state : AtlasState} (before : Allocation)
      → Arranges start asked moves unplaced state
      → IsRefused state (size_of before.rectangle)
      → Arranges start (asked ++ before ∷ []) moves (unplaced ++ before ∷ []) state

-- all that an old atlas has allocated asked a new and empty one of a size and the old options for places, the tallest
-- first
pub record IsRearranged (old : AtlasState) (size : Size) (moves : List Move)
    (unplaced : List Allocation) (new : AtlasState) : Type 0 where
  pub asked : List Allocation
  pub each : AreTied asked (allocations old)
  pub ordered : AreTallestFirst old.frame.vertical asked
  pub arranged : Arranges (fresh (atlas_frame size (options_of old.frame))) asked moves unplaced new

-- what was moved, as it lay before
abbrev pub moved_from : List Move → List Allocation
moved_from moves = map (λ (move : Move). move.before) moves

-- what was moved, as it lies now
abbrev pub moved_to : List Move → List Allocation
moved_to moves = map (λ (move : Move). move.after) moves

-- a rectangle is at least as wide and as tall as another, so that all of the other can be copied into it
pub record IsAsLarge (one other : Rectangle) : Type 0 where
  pub width : (size_of other).width ≤ℤ (size_of one).width
  pub height : (size_of other).height ≤ℤ (size_of one).height

-- nothing was cut by a move
abbrev pub HasRoom : Move → Type 0
HasRoom move = IsAsLarge move.after.rectangle move.before.rectangle
