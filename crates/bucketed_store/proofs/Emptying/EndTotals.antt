-- What the last shelf's record tells: the current column and the height that is available in it.
use Rattle.std.proofs.Common.{◌≡◌, ℕ, ◌≤◌, List, [], length, ap, arith, subst, sym, ◌∙◌}
use Rattle.etagere_base.specs.declared.frames.Frame.{Frame}
use Rattle.etagere_base.specs.declared.sides.Sides.{Sides}
use Rattle.bucketed_model.specs.State.{BucketedState, available_height, current_column, most_buckets}
use Rattle.bucketed_model.proofs.Shelving.Shelves.{few-shelves}
use Rattle.bucketed_records.specs.Private.Store.{Spells, Stored, stored_state}
use Rattle.bucketed_records.specs.Private.Witnessed.{Witnessed}
use Rattle.bucketed_records.proofs.Spelling.KeptShelves.{length-kept}
use Rattle.bucketed_records.proofs.Spelling.ReadBack.{state-read}
use Rattle.bucketed_store.specs.Private.StoreEdits.{IsShort, end_of}
use Rattle.bucketed_store.proofs.Spelling.Ends.{end-kept, short-kept}

-- what the end of records tells of the state that they spell
pub record TellsEnd (frame : Frame) (stored : Stored) (state : BucketedState) : Type 0 where
  pub short : IsShort frame stored.shelves
  pub column : (end_of frame stored.shelves).along ≡ current_column state.shelves
  pub height : (end_of frame stored.shelves).across ≡ available_height state.frame state.shelves
  pub few : length stored.shelves ≤ most_buckets
  pub read : stored_state frame stored ≡ state

-- records that spell a valid state
pub tells-end : (stored : Stored) (unused : List ℕ) (state : BucketedState) → Witnessed stored unused state → TellsEnd state.frame stored state
tells-end stored unused state witnessed =
    let frame = state.frame in
    let spells : Spells frame stored unused state.shelves = witnessed.spells in
    let valid = witnessed.valid in
    let ends = ap (end_of frame) spells.shelves ∙ end-kept frame state.shelves valid.frame.column_width in
    record {
      short = subst (IsShort frame) (sym spells.shelves) (short-kept frame state.shelves valid.shelves);
      column = ap (λ (sides : Sides). sides.along) ends;
      height = ap (λ (sides : Sides). sides.across) ends;
      few = omega (
        arith,
        ap length spells.shelves,
        length-kept frame [] state.shelves,
        few-shelves frame state.shelves valid.frame.column_width valid.shelves.each,
        valid.shelves.few,
      );
      read = state-read frame stored unused state.shelves valid.frame.column_width valid.shelves spells;
    }
