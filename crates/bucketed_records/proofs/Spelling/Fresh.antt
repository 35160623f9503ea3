-- No records spell a new atlas, and what the fields of an atlas keep follows from records that spell its state.
use Rattle.std.proofs.Common.{◌≡◌, ℕ, ◌<◌, None, List, [], refl, arith, sym, subst}
use Rattle.std.specs.Prelude.{◌^◌}
use Rattle.etagere_base.specs.declared.frames.Frame.{Frame}
use Rattle.etagere_base.specs.Frames.{across_side}
use Rattle.bucketed_model.specs.Frames.{IsBucketedFrame}
use Rattle.bucketed_model.specs.Space.{allocated_space}
use Rattle.bucketed_model.specs.State.{BucketShelf, BucketedState}
use Rattle.bucketed_model.specs.Valid.{IsValid}
use Rattle.bucketed_model.proofs.Spacing.SpacesBounded.{space-area}
use Rattle.bucketed_model.proofs.Validity.TakenValid.{fresh-valid}
use Rattle.bucketed_records.specs.Private.Store.{Spells, Stored, stored_state}
use Rattle.bucketed_records.specs.Private.Witnessed.{HasTotals, Witnessed}
use Rattle.bucketed_records.proofs.Spelling.ReadBack.{state-read}

-- no records
abbrev pub no_records : Stored
no_records = record { shelves = []; buckets = []; unused = None }

-- no records spell a new atlas
pub fresh-witnessed : (frame : Frame) → IsBucketedFrame frame → Witnessed no_records [] (stored_state frame no_records)
fresh-witnessed frame is_frame = record {
  spells = record {
    shelves = refl;
    buckets = tt;
    has_unused = record { list = refl; once = λ k. grind arith; count = refl; few = omega arith; idle = tt };
  };
  valid = fresh-valid frame is_frame;
}

-- the totals of a new atlas
pub fresh-totals : (frame : Frame) → HasTotals 0 (across_side frame) 0 0 (stored_state frame no_records)
fresh-totals frame = record { column = refl; height = omega arith; in_use = refl; space = refl }

-- records that spell a valid state are read back as it
pub witnessed-read : (frame : Frame) (stored : Stored) (unused : List ℕ) (ss : List BucketShelf) → IsValid (record { frame = frame; shelves = ss }) → Spells frame stored unused ss
    → Witnessed stored unused (stored_state frame stored) × (stored_state frame stored ≡ record { frame = frame; shelves = ss })
witnessed-read frame stored unused ss valid spells =
    let read : stored_state frame stored ≡ record { frame = frame; shelves = ss } = state-read frame stored unused ss valid.frame.column_width valid.shelves spells in
    (subst (Witnessed stored unused) (sym read) (record { spells = spells; valid = valid }), read)

-- the space of a valid state is small
pub space-small : (state : BucketedState) → IsValid state → allocated_space state < 2 ^ 31
space-small state valid = omega (arith, space-area state valid, valid.frame.area)
