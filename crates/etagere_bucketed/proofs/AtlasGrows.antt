-- An atlas after a grow: what its fields stand for, and that they keep it.
use Rattle.std.proofs.Common.{◌≡◌, ℕ, ◌+◌, ◌-◌, ◌<◌, max, None, List, length, ap, arith, subst, sym, ◌∙◌}
use Rattle.etagere_base.specs.declared.frames.Frame.{Frame}
use Rattle.etagere_base.specs.declared.geometry.Size.{Size}
use Rattle.bucketed_model.specs.Atlas.{Grows, NeedsBuckets}
use Rattle.bucketed_model.specs.Frames.{IsBucketedFrame}
use Rattle.bucketed_model.specs.Growing.{grow_fault, grown_frame}
use Rattle.bucketed_model.specs.Space.{allocated_space}
use Rattle.bucketed_model.specs.State.{BucketedState, buckets_in_use, buckets_left}
use Rattle.bucketed_records.specs.Private.Store.{Stored}
use Rattle.bucketed_records.specs.Private.Witnessed.{Witnessed}
use Rattle.bucketed_store.specs.Private.Grows.{UsesUnused, left_after, shelves_widened}
use Rattle.bucketed_store.proofs.Emptying.EndTotals.{TellsEnd, tells-end}
use Rattle.bucketed_store.proofs.Widening.Grown.{IsGrownAtlas, grown-is, stored_grown}
use Rattle.etagere_bucketed.specs.declared.atlas.BucketedAtlasAllocator.TheInside.{Inside}
use Rattle.etagere_bucketed.specs.Private.Consistent.{IsConsistent, state_in}

-- a grow of an atlas that has no fault
pub atlas-grown : (inside : Inside) (size : Size) → IsConsistent inside → grow_fault inside.frame size ≡ None → IsGrownAtlas inside.store (state_in inside) size
atlas-grown inside size consistent fits = grown-is inside.store consistent.unused (state_in inside) size consistent.witnessed fits

-- how many buckets are left
left-is : (inside : Inside) → IsConsistent inside → 4095 - inside.buckets_in_use ≡ buckets_left (state_in inside).shelves
left-is inside consistent = ap (λ (n : ℕ). 4095 - n) consistent.totals.in_use

-- what holds of the records that a grow leaves, in their frame
pub record AfterGrow (inside : Inside) (size : Size) (frame : Frame) (new : Stored) (made : ℕ) : Type 0 where
  pub state : BucketedState
  pub grows : Grows (state_in inside) size state
  pub unused : List ℕ
  pub witnessed : Witnessed new unused state
  pub is_frame : IsBucketedFrame frame
  pub tells : TellsEnd frame new state
  pub in_use : inside.buckets_in_use + made ≡ buckets_in_use state.shelves
  pub space : inside.allocated_space ≡ allocated_space state

pub after-grow : (inside : Inside) (size : Size) (frame : Frame) (new : Stored) (made : ℕ) → IsConsistent inside → grow_fault inside.frame size ≡ None
    → frame ≡ grown_frame inside.frame size
    → new ≡ shelves_widened (length inside.store.shelves) 0 inside.frame.column_width (frame.column_width - inside.frame.column_width) (4095 - inside.buckets_in_use) inside.store
    → made ≡ 4095 - inside.buckets_in_use - left_after (frame.column_width - inside.frame.column_width) (4095 - inside.buckets_in_use) inside.store.shelves
    → AfterGrow inside size frame new made
after-grow inside size frame new made consistent fits resized widened count =
    let g = atlas-grown inside size consistent fits in
    let place = inside.frame.column_width in
    let left = left-is inside consistent in
    let stored : new ≡ stored_grown inside.frame size (buckets_left (state_in inside).shelves) inside.store =
    widened
    ∙ ap (λ (f : Frame). shelves_widened (length inside.store.shelves) 0 place (f.column_width - place) (4095 - inside.buckets_in_use) inside.store) resized
    ∙ ap (λ (n : ℕ). stored_grown inside.frame size n inside.store) left in
    let witnessed : Witnessed new g.unused g.new = subst (λ (s : Stored). Witnessed s g.unused g.new) (sym stored) g.witnessed in
    let same : g.new.frame ≡ frame = g.frame ∙ sym resized in
    let rest : left_after (frame.column_width - place) (4095 - inside.buckets_in_use) inside.store.shelves
    ≡ left_after ((grown_frame inside.frame size).column_width - place) (buckets_left (state_in inside).shelves) inside.store.shelves =
    ap (λ (f : Frame). left_after (f.column_width - place) (4095 - inside.buckets_in_use) inside.store.shelves) resized
    ∙ ap (λ (n : ℕ). left_after ((grown_frame inside.frame size).column_width - place) n inside.store.shelves) left in
    record {
      state = g.new;
      grows = g.grows;
      unused = g.unused;
      witnessed = witnessed;
      is_frame = subst IsBucketedFrame same witnessed.valid.frame;
      tells = subst (λ (f : Frame). TellsEnd f new g.new) same (tells-end new g.unused g.new witnessed);
      in_use = omega (arith, count, left, rest, g.made, g.in_use, consistent.totals.in_use);
      space = consistent.totals.space ∙ sym g.space;
    }

-- a grow uses records that were unused before it makes new ones
pub grow-uses : (inside : Inside) (size : Size) (frame : Frame) → IsConsistent inside → grow_fault inside.frame size ≡ None → frame ≡ grown_frame inside.frame size
    → UsesUnused inside.frame.column_width (frame.column_width - inside.frame.column_width) (4095 - inside.buckets_in_use) inside.store
grow-uses inside size frame consistent fits resized =
    let g = atlas-grown inside size consistent fits in
    let place = inside.frame.column_width in
    let left = left-is inside consistent in
    let stored : shelves_widened (length inside.store.shelves) 0 place (frame.column_width - place) (4095 - inside.buckets_in_use) inside.store
    ≡ stored_grown inside.frame size (buckets_left (state_in inside).shelves) inside.store =
    ap (λ (f : Frame). shelves_widened (length inside.store.shelves) 0 place (f.column_width - place) (4095 - inside.buckets_in_use) inside.store) resized
    ∙ ap (λ (n : ℕ). stored_grown inside.frame size n inside.store) left in
    let rest : left_after (frame.column_width - place) (4095 - inside.buckets_in_use) inside.store.shelves
    ≡ left_after ((grown_frame inside.frame size).column_width - place) (buckets_left (state_in inside).shelves) inside.store.shelves =
    ap (λ (f : Frame). left_after (f.column_width - place) (4095 - inside.buckets_in_use) inside.store.shelves) resized
    ∙ ap (λ (n : ℕ). left_after ((grown_frame inside.frame size).column_width - place) n inside.store.shelves) left in
    ap (λ (s : Stored). length s.buckets) stored ∙ g.records
    ∙ ap (λ (n : ℕ). max (length inside.store.buckets) n) (omega (arith, rest, left, g.made, consistent.totals.in_use, consistent.witnessed.valid.shelves.few))

-- where buckets are made, a grow needs some
pub grow-needs : (inside : Inside) (size : Size) (frame : Frame) → IsConsistent inside → grow_fault inside.frame size ≡ None
    → frame ≡ grown_frame inside.frame size
    → 0 < 4095 - inside.buckets_in_use - left_after (frame.column_width - inside.frame.column_width) (4095 - inside.buckets_in_use) inside.store.shelves
    → NeedsBuckets (state_in inside) size
grow-needs inside size frame consistent fits resized some =
    let g = atlas-grown inside size consistent fits in
    let place = inside.frame.column_width in
    let left = left-is inside consistent in
    let rest : left_after (frame.column_width - place) (4095 - inside.buckets_in_use) inside.store.shelves
    ≡ left_after ((grown_frame inside.frame size).column_width - place) (buckets_left (state_in inside).shelves) inside.store.shelves =
    ap (λ (f : Frame). left_after (f.column_width - place) (4095 - inside.buckets_in_use) inside.store.shelves) resized
    ∙ ap (λ (n : ℕ). left_after ((grown_frame inside.frame size).column_width - place) n inside.store.shelves) left in
    record { fits = fits; some = omega (arith, some, left, rest, g.made) }
