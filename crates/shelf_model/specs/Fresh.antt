-- A new atlas, and what of a state a clear gives back.
use Rattle.std.specs.Prelude.{ℕ, zero, suc, List, [], ◌∷◌}
use Rattle.etagere_base.specs.declared.frames.Frame.{Frame}
use Rattle.etagere_base.specs.Frames.{across_side}
use Rattle.shelf_model.specs.State.{Shelf, AtlasState, empty_shelf}

-- so many columns from this one on, each with one empty shelf
abbrev pub empty_columns : Frame → ℕ → ℕ → List Shelf
empty_columns frame column zero = []
empty_columns frame column (suc n) =
    empty_shelf frame column (across_side frame) ∷ empty_columns frame (suc column) n

-- a new atlas
abbrev pub fresh : Frame → AtlasState
fresh frame =
    record { frame = frame; shelves = empty_columns frame 0 frame.columns; peak_items = frame.columns }

-- a state but for its peak of items
abbrev pub without_peak_items : AtlasState → AtlasState
without_peak_items state = record { frame = state.frame; shelves = state.shelves; peak_items = 0 }
