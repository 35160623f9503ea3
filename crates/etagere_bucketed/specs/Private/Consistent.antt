-- What the fields of a bucketed atlas keep, and the state that they stand for.
use Rattle.std.specs.Prelude.{ℕ, List}
use Rattle.bucketed_model.specs.State.{BucketedState}
use Rattle.bucketed_records.specs.Private.Store.{stored_state}
use Rattle.bucketed_records.specs.Private.Witnessed.{HasTotals, Witnessed}
use Rattle.etagere_bucketed.specs.declared.atlas.BucketedAtlasAllocator.TheInside.{Inside}

-- what the fields of an atlas stand for
abbrev pub state_in : Inside → BucketedState
state_in atlas = stored_state atlas.frame atlas.store

-- what they keep: records that spell a valid state, and its totals
pub record IsConsistent (atlas : Inside) : Type 0 where
  pub unused : List ℕ
  pub witnessed : Witnessed atlas.store unused (state_in atlas)
  pub totals : HasTotals atlas.current_column atlas.available_height atlas.buckets_in_use
      atlas.allocated_space (state_in atlas)
