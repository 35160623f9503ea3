-- What a grow leaves: records that spell the grown state, and its totals.
use Rattle.std.proofs.Common.{◌≡◌, ℕ, ◌+◌, ◌-◌, ◌*◌, ◌≤◌, max, Bool, true, false, None, List, [], ◌∷◌, ◌++◌, length, drop, refl, ap, arith, sym, ◌∙◌, ◌==◌}
use Rattle.std.proofs.Math.Nat.{zero-mul}
use Rattle.std.proofs.lemmas.Bool.{eqb-true}
use Rattle.std.specs.List.{AllByRecursion}
use Rattle.etagere_base.specs.declared.frames.Frame.{Frame}
use Rattle.etagere_base.specs.declared.geometry.Size.{Size}
use Rattle.etagere_base.proofs.GrownFrames.{frame-grows}
use Rattle.bucketed_model.specs.Adding.{AreNewTags}
use Rattle.bucketed_model.specs.Atlas.{Grows}
use Rattle.bucketed_model.specs.Frames.{IsBucketedFrame}
use Rattle.bucketed_model.specs.Growing.{grow_fault, grown, grown_counts, grown_frame, grow_counts, total, widened}
use Rattle.bucketed_model.specs.Space.{allocated_space}
use Rattle.bucketed_model.specs.State.{BucketShelf, BucketedState, Tag, buckets_in_use, buckets_left, column_place}
use Rattle.bucketed_model.specs.Valid.{IsShelf}
use Rattle.bucketed_model.proofs.Shelving.GrownFrames.{grow-fits}
use Rattle.bucketed_model.proofs.Spacing.Spaces.{space-grown}
use Rattle.bucketed_model.proofs.Shelving.Shelves.{in-use-length}
use Rattle.bucketed_model.proofs.Validity.GrownValid.{grown-valid}
use Rattle.bucketed_records.specs.declared.records.KeptShelf.{KeptShelf}
use Rattle.bucketed_records.specs.Private.Store.{Stored, kept_shelves}
use Rattle.bucketed_records.specs.Private.Witnessed.{Witnessed}
use Rattle.bucketed_records.proofs.Spelling.KeptShelves.{length-kept}
use Rattle.bucketed_store.specs.Private.Grows.{left_after, share, shelves_widened}
use Rattle.bucketed_store.proofs.Widening.WidenedShelves.{widens-shelves, WidensShelves}

-- columns begin in a frame where they do in another
abbrev pub SamePlaces : Frame → Frame → List BucketShelf → Type 0
SamePlaces one other xs = AllByRecursion (λ (x : BucketShelf). column_place one x.column ≡ column_place other x.column) xs

-- the same is kept of shelves where columns begin
kept-places : (one other : Frame) (before xs : List BucketShelf) → SamePlaces one other xs → kept_shelves one before xs ≡ kept_shelves other before xs
kept-places one other before [] same = refl
kept-places one other before (x ∷ xs) same = rw (same.0, kept-places one other (before ++ x ∷ []) xs same.1) refl

-- wider shelves stand in the columns that they did
places-widened : (one other : Frame) (place : ℕ) (counts : List ℕ) (tags : List Tag) (xs : List BucketShelf) → SamePlaces one other xs → SamePlaces one other (widened place counts tags xs)
places-widened one other place [] tags xs same = same
places-widened one other place (count ∷ counts) tags [] same = tt
places-widened one other place (count ∷ counts) tags (x ∷ xs) same = (same.0, places-widened one other place counts (drop count tags) xs same.1)

-- in one column shelves begin at 0 in each frame
places-one : (one other : Frame) (xs : List BucketShelf) → one.columns ≡ 1 → AllByRecursion (IsShelf one) xs → SamePlaces one other xs
places-one one other [] e each = tt
places-one one other (x ∷ xs) e each =
    let first : x.column ≡ 0 = omega (arith, e, each.0.column) in
    (rw first (zero-mul one.column_width ∙ sym (zero-mul other.column_width)), places-one one other xs e each.1)

-- columns of the same width begin at the same places
places-width : (one other : Frame) (xs : List BucketShelf) → one.column_width ≡ other.column_width → SamePlaces one other xs
places-width one other [] e = tt
places-width one other (x ∷ xs) e = (ap (λ (w : ℕ). x.column * w) e, places-width one other xs e)

-- a grow moves no column that has a shelf
places-grown : (frame : Frame) (size : Size) (xs : List BucketShelf) → AllByRecursion (IsShelf frame) xs → SamePlaces frame (grown_frame frame size) xs
places-grown frame size xs each = by_test (frame.columns == 1) refl
  where
    by_test : (t : Bool) → (frame.columns == 1) ≡ t → SamePlaces frame (grown_frame frame size) xs
    by_test true e = places-one frame (grown_frame frame size) xs (eqb-true frame.columns 1 e) each
    by_test false e = places-width frame (grown_frame frame size) xs (sym (rw e refl))

-- what all shelves get and what is left are what was left
pub total-left : (frame : Frame) (added left : ℕ) (before xs : List BucketShelf) → total (grown_counts added left xs) + left_after added left (kept_shelves frame before xs) ≡ left
total-left frame added left before [] = omega arith
total-left frame added left before (x ∷ xs) =
    omega (arith, total-left frame added (left - share added x.bucket_width left) (before ++ x ∷ []) xs)

-- the records after a grow
abbrev pub stored_grown : Frame → Size → ℕ → Stored → Stored
stored_grown frame size left stored =
    shelves_widened (length stored.shelves) 0 frame.column_width ((grown_frame frame size).column_width - frame.column_width) left stored

-- what holds before and after a grow that has no fault
pub record IsGrownAtlas (stored : Stored) (state : BucketedState) (size : Size) : Type 0 where
  pub new : BucketedState
  pub grows : Grows state size new
  pub frame : new.frame ≡ grown_frame state.frame size
  pub unused : List ℕ
  pub witnessed : Witnessed (stored_grown state.frame size (buckets_left state.shelves) stored) unused new
  pub made : total (grow_counts state.frame size state.shelves)
      + left_after ((grown_frame state.frame size).column_width - state.frame.column_width) (buckets_left state.shelves) stored.shelves
      ≡ buckets_left state.shelves
  pub space : allocated_space new ≡ allocated_space state
  pub records : length (stored_grown state.frame size (buckets_left state.shelves) stored).buckets
      ≡ max (length stored.buckets) (buckets_in_use state.shelves + total (grow_counts state.frame size state.shelves))
  pub used : buckets_in_use state.shelves ≤ length stored.buckets
  pub in_use : buckets_in_use new.shelves ≡ total (grow_counts state.frame size state.shelves) + buckets_in_use state.shelves

-- a grow that has no fault
pub grown-is : (stored : Stored) (unused : List ℕ) (state : BucketedState) (size : Size) → Witnessed stored unused state → grow_fault state.frame size ≡ None
    → IsGrownAtlas stored state size
grown-is stored unused state size witnessed fits =
    let frame = state.frame in
    let xs = state.shelves in
    let spells = witnessed.spells in
    let valid = witnessed.valid in
    let place = frame.column_width in
    let added = (grown_frame frame size).column_width - frame.column_width in
    let left = buckets_left xs in
    let wide : WidensShelves frame stored (shelves_widened (length xs) 0 place added left stored) [] xs place added left =
    widens-shelves frame stored unused [] xs place added left valid.shelves.numbers spells (omega (arith, valid.shelves.few)) in
    let long : length stored.shelves ≡ length xs = ap length spells.shelves ∙ length-kept frame [] xs in
    let after : stored_grown frame size left stored ≡ shelves_widened (length xs) 0 place added left stored = ap (λ (n : ℕ). shelves_widened n 0 place added left stored) long in
    let tags : AreNewTags xs (total (grow_counts frame size xs)) wide.tags = record { count = wide.count_is; each = wide.each; numbers = wide.numbers } in
    let places = places-widened frame (grown_frame frame size) place (grow_counts frame size xs) wide.tags xs (places-grown frame size xs valid.shelves.each) in
    let made = wide.spells in
    record {
      new = grown state size wide.tags;
      grows = record { tags = wide.tags; fits = fits; new_tags = tags; after = refl };
      frame = refl;
      unused = wide.unused;
      witnessed = record {
        spells = rw after (record {
          shelves = made.shelves ∙ kept-places frame (grown_frame frame size) [] (grown state size wide.tags).shelves places;
          buckets = made.buckets;
          has_unused = made.has_unused;
        });
        valid = grown-valid state size wide.tags valid fits tags;
      };
      made = ap (λ (ks : List KeptShelf). total (grow_counts frame size xs) + left_after added left ks) spells.shelves ∙ total-left frame added left [] xs;
      space = space-grown state size wide.tags valid fits tags;
      records = ap (λ (s : Stored). length s.buckets) after ∙ wide.grows;
      used = omega (arith, spells.has_unused.count, in-use-length xs);
      in_use = wide.in_use;
    }

-- a grow makes no column narrower
pub width-grows : (frame : Frame) (size : Size) → IsBucketedFrame frame → grow_fault frame size ≡ None → frame.column_width ≤ (grown_frame frame size).column_width
width-grows frame size is_frame none = (frame-grows 65534 frame size is_frame (grow-fits frame size none)).width.more
