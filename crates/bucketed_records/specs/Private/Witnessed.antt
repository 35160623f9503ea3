-- An atlas whose records spell a valid state: the form in which the calls are proved.
use Rattle.std.specs.Prelude.{◌≡◌, ℕ, pos, List, map}
use Rattle.etagere_base.specs.declared.frames.Frame.{Frame}
use Rattle.bucketed_model.specs.Space.{allocated_space}
use Rattle.bucketed_model.specs.State.{BucketedState, available_height, buckets_in_use, current_column}
use Rattle.bucketed_model.specs.Valid.{IsValid}
use Rattle.bucketed_records.specs.BucketRecords.{BucketRecords}
use Rattle.bucketed_records.specs.Private.Store.{Spells, Stored, shelf_record}
use Rattle.bucketed_records.specs.StandsFor.{StandsFor}

-- the totals of an atlas are those of a state
pub record HasTotals (current available used area : ℕ) (state : BucketedState) : Type 0 where
  pub column : current ≡ current_column state.shelves
  pub height : available ≡ available_height state.frame state.shelves
  pub in_use : used ≡ buckets_in_use state.shelves
  pub space : area ≡ allocated_space state

-- records with these unused spell a valid state
pub record Witnessed (stored : Stored) (unused : List ℕ) (state : BucketedState) : Type 0 where
  pub spells : Spells state.frame stored unused state.shelves
  pub valid : IsValid state

-- the records of an atlas, with the totals that it says
abbrev pub records_of : Frame → Stored → ℕ → ℕ → ℕ → BucketRecords
records_of frame stored column height space =
    record {
      frame = frame;
      shelves = map shelf_record stored.shelves;
      buckets = stored.buckets;
      unused = stored.unused;
      current_column = column;
      available_height = height;
      allocated_space = pos space;
    }

-- records that spell a valid state, with its totals, keep each rule of a snapshot
abbrev pub WitnessedStands : Type 0
WitnessedStands =
    (state : BucketedState) (stored : Stored) (unused : List ℕ) (column height in_use space : ℕ)
    → Witnessed stored unused state
    → HasTotals column height in_use space state
    → StandsFor (records_of state.frame stored column height space) state
