-- What a grow of an atlas comes to: what it counts and keeps goes on.
use Rattle.std.proofs.Common.{◌≡◌, ℕ, ◌+◌, ◌<◌, ◌≤◌, None, Some, ap, ◌∙◌, sym, arith, subst}
use Rattle.std.proofs.lemmas.Bool.{cond-false, le-ltb}
use Rattle.std.specs.Prelude.{nat_lt}
use Rattle.etagere_base.specs.declared.frames.Frame.{Frame}
use Rattle.etagere_base.specs.declared.geometry.Size.{Size}
use Rattle.etagere_base.specs.Frames.{IsFrame}
use Rattle.etagere_base.proofs.FrameSides.{columns-le}
use Rattle.shelf_records.specs.RecordLists.{Records}
use Rattle.shelf_model.specs.declared.faults.AtlasGrowFault.TheVariants as faults
use Rattle.shelf_store.specs.declared.growing.Needed.{Needed}
use Rattle.shelf_model.specs.Growing.{atlas_grown, grow_fault, grown_frame, or_records_fault, records_needed, size_fault}
use Rattle.shelf_model.specs.Places.{allocations}
use Rattle.shelf_records.specs.Private.Kept.{AreKept, state_of}
use Rattle.shelf_store.specs.Private.RecordsGrown.{CanGrow, needed_of, records_grown}
use Rattle.shelf_model.specs.Space.{allocated_space}
use Rattle.shelf_model.specs.State.{AtlasState, items_in_use}
use Rattle.shelf_store.proofs.Grown.CountedRecords.{needed-counted}
use Rattle.shelf_model.proofs.Grown.GrownFrames.{Fits, GrowsFrame, frame-grows, grow-fits, size-fits}
use Rattle.shelf_model.proofs.Grown.GrownValid.{grown-allocated, grown-space, items-grown}
use Rattle.shelf_store.proofs.Grown.HalfGrown.{GrowsKept, GrowsRecords}
use Rattle.shelf_records.proofs.Spelled.StandsKept.{witnesses}

-- no fault where the size has none and there are few items enough
no-fault : (state : AtlasState) (size : Size) → size_fault state.frame size ≡ None → items_in_use state.shelves + records_needed state size ≤ 65535
    → grow_fault state size ≡ None
no-fault state size none few =
    let items : ℕ = items_in_use state.shelves + records_needed state size in
    ap (or_records_fault items) none ∙ cond-false (nat_lt 65535 items) (Some faults.Records) None (le-ltb 65535 items few)

-- a fault where the size has none and there are too many
pub many-fault : (state : AtlasState) (size : Size) → 65535 < items_in_use state.shelves + records_needed state size → grow_fault state size ≡ None → ⊥
many-fault state size many none = let fits = grow-fits state size none in absurd (omega (arith, fits.records, many))

-- what a grow that has no fault comes to, whether there is memory for it or not
pub record GrowsAtlas (frame : Frame) (size : Size) (records : Records) (grown : Frame) (needed : Needed) : Type 0 where
  pub none : grow_fault (state_of frame records) size ≡ None
  pub is_frame : IsFrame 65535 grown
  pub needed_items : needed.items ≡ records_needed (state_of frame records) size
  pub can : CanGrow frame grown needed records
  pub kept : AreKept grown (records_grown frame grown needed records).records
  pub state : state_of grown (records_grown frame grown needed records).records ≡ atlas_grown (state_of frame records) size
  pub counted : items_in_use (state_of grown (records_grown frame grown needed records).records).shelves ≡ items_in_use (state_of frame records).shelves + needed.items
  pub space : allocated_space (state_of grown (records_grown frame grown needed records).records) ≡ allocated_space (state_of frame records)
  pub allocated : allocations (state_of grown (records_grown frame grown needed records).records) ≡ allocations (state_of frame records)

-- a grown frame has no fewer columns, and not too many
pub columns-grow : (frame : Frame) (size : Size) (grown : Frame) → IsFrame 65535 frame → size_fault frame size ≡ None → grown ≡ grown_frame frame size
    → (frame.columns ≤ grown.columns) × (grown.columns ≤ 65535)
columns-grow frame size grown is_frame none is =
    let grows : GrowsFrame frame size = frame-grows frame size is_frame (size-fits frame size none) in
    let columns = ap (λ (f : Frame). f.columns) is in
    (omega (arith, columns, grows.columns), omega (arith, columns, columns-le (grown_frame frame size) grows.is_frame))

-- a grow of kept records
pub grows-atlas : GrowsKept → (frame : Frame) (size : Size) (records : Records) (grown : Frame) (needed : Needed)
    → AreKept frame records → size_fault frame size ≡ None → grown ≡ grown_frame frame size
    → needed ≡ needed_of frame grown records → items_in_use (state_of frame records).shelves + needed.items ≤ 65535
    → GrowsAtlas frame size records grown needed
grows-atlas grows-kept frame size records grown needed kept no_fault is_grown is_needed few =
    subst (λ (g : Frame). GrowsAtlas frame size records g needed) (sym is_grown)
    (subst (λ (n : Needed). GrowsAtlas frame size records (grown_frame frame size) n) (sym now) whole)
  where
    state : AtlasState
    state = state_of frame records

    frame_after : Frame
    frame_after = grown_frame frame size

    needed_now : Needed
    needed_now = needed_of frame frame_after records

    now : needed ≡ needed_now
    now = is_needed ∙ ap (λ (g : Frame). needed_of frame g records) is_grown

    none : grow_fault state size ≡ None
    none = no-fault state size no_fault (omega (arith, few, ap (λ (n : Needed). n.items) now, needed-counted frame size records kept))

    fits : Fits state size
    fits = grow-fits state size none

    grows : GrowsRecords frame size records
    grows = grows-kept frame size records kept none

    whole : GrowsAtlas frame size records frame_after needed_now
    whole =
        record {
          none = none;
          is_frame = (frame-grows frame size (witnesses kept).valid.frame fits.sizes).is_frame;
          needed_items = needed-counted frame size records kept;
          can = grows.can;
          kept = grows.kept;
          state = grows.state;
          counted = omega (
            arith,
            ap (λ (s : AtlasState). items_in_use s.shelves) grows.state,
            items-grown state size (witnesses kept).valid fits,
            needed-counted frame size records kept,
          );
          space = ap allocated_space grows.state ∙ grown-space state size (witnesses kept).valid fits;
          allocated = ap allocations grows.state ∙ grown-allocated state size (witnesses kept).valid fits;
        }
