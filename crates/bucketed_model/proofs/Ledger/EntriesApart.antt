-- What a ledger that is tied to a state has lies within the atlas, apart, under ids that differ and are known.
use Rattle.std.proofs.Common.{◌≡◌, ℕ, suc, ◌+◌, ◌*◌, ◌<◌, ◌≤◌, Bool, true, false, List, [], ◌∷◌, refl, ap, arith, sym, ◌∙◌, subst, inl, inr, ⊎_elim, ◌⊎◌, pos, ℤ}
use Rattle.std.proofs.Math.Nat.{mul-le-mul_right, suc-mul}
use Rattle.std.proofs.lemmas.Int.{ints}
use Rattle.std.specs.Prelude.{◌≤ℤ◌}
use Rattle.std.specs.List.{AllByRecursion}
use Rattle.etagere_base.proofs.Boxes.{LiesIn, LiesIn-widen, SharesNone-swap, apart-across, apart-along, inside-from_lies}
use Rattle.etagere_base.proofs.EachLemmas.{Each-both, Each-weaken}
use Rattle.etagere_base.specs.declared.frames.Frame.{Frame}
use Rattle.etagere_base.specs.declared.geometry.Rectangle.{Rectangle}
use Rattle.etagere_base.specs.declared.ids.Allocation.{Allocation}
use Rattle.etagere_base.specs.Frames.{across_side, along_side}
use Rattle.etagere_base.specs.Rectangles.{AreApart, IsInside, SharesNone, place_along}
use Rattle.bucketed_model.specs.Frames.{IsBucketedFrame}
use Rattle.bucketed_model.specs.Returning.{is_same_tag, tag_of}
use Rattle.bucketed_model.specs.State.{BucketShelf, BucketedState, Tag}
use Rattle.bucketed_model.specs.Tied.{AreInOrder, AreTied, BusyBucket, IsInABucket, LiesInBucket, Precedes, StandsIn, busy_buckets}
use Rattle.bucketed_model.specs.Valid.{AreShelves}
use Rattle.bucketed_model.proofs.Ledger.BusyApart.{AreClear, InColumn, IsClear, after-clear, after-in_column}
use Rattle.bucketed_model.proofs.Ledger.Entries.{same-tag, tags-equal}
use Rattle.bucketed_model.proofs.Ledger.EntriesTaken.{begins-along, ends-along}

-- a fact of each is one of each that stands there
pub each-stands : {X : Type 0} (P : X → Type 0) (x : X) (xs : List X) → StandsIn x xs → AllByRecursion P xs → P x
each-stands P x [] h each = absurd h
each-stands P x (y ∷ ys) h each = ⊎_elim (λ (e : y ≡ x). subst P e each.0) (λ (later : StandsIn x ys). each-stands P x ys later each.1) h

-- of two that stand in a list and differ, one lies clear of the other
clear-two : (one other : BusyBucket) (xs : List BusyBucket) → AreClear xs → StandsIn one xs → StandsIn other xs → (one ≡ other → ⊥) → IsClear one other ⊎ IsClear other one
clear-two one other [] clear h k differ = absurd h
clear-two one other (x ∷ xs) clear h k differ =
    ⊎_elim
    (λ (e : x ≡ one). ⊎_elim
    (λ (f : x ≡ other). absurd {A = IsClear one other ⊎ IsClear other one} (differ (sym e ∙ f)))
    (λ (later : StandsIn other xs). inl (subst (λ (y : BusyBucket). IsClear y other) e (each-stands (IsClear x) other xs later clear.0))) k)
    (λ (earlier : StandsIn one xs). ⊎_elim
    (λ (f : x ≡ other). inr (subst (λ (y : BusyBucket). IsClear y one) f (each-stands (IsClear x) one xs earlier clear.0)))
    (λ (later : StandsIn other xs). clear-two one other xs clear.1 earlier later differ) k) h

-- where an entry lies
entry-lies : (frame : Frame) (busy : BusyBucket) (e : Allocation) → 1 ≤ busy.height → LiesInBucket frame busy e
    → LiesIn frame busy.bucket.place (busy.bucket.place + busy.bucket.used) busy.across (busy.across + busy.height) e.rectangle
entry-lies frame busy e tall lies = record {
  along = lies.along;
  across = busy.across;
  width = lies.width;
  height = busy.height;
  is = lies.rectangle;
  wide = lies.wide;
  tall = tall;
  from_left = lies.begins;
  to_right = lies.ends;
  from_top = omega arith;
  to_bottom = omega arith;
}

-- entries of buckets that lie clear share no unit square
clear-apart : (frame : Frame) (one other : BusyBucket) (e a : Allocation) → IsClear one other → 1 ≤ one.height → 1 ≤ other.height
    → LiesInBucket frame one e → LiesInBucket frame other a → SharesNone e.rectangle a.rectangle
clear-apart frame one other e a clear tall tall' lies lies' =
    let first = entry-lies frame one e tall lies in
    let second = entry-lies frame other a tall' lies' in
    ⊎_elim
    (λ (h : one.bucket.place + one.bucket.used ≤ other.bucket.place). apart-along frame _ _ _ _ _ _ _ _ e.rectangle a.rectangle h first second)
    (⊎_elim
    (λ (h : other.bucket.place + other.bucket.used ≤ one.bucket.place). SharesNone-swap a.rectangle e.rectangle (apart-along frame _ _ _ _ _ _ _ _ a.rectangle e.rectangle h second first))
    (λ (h : one.across + one.height ≤ other.across). apart-across frame _ _ _ _ _ _ _ _ e.rectangle a.rectangle h first second)) clear

-- an entry shares no unit square with one of its bucket that it precedes
precedes-apart : (frame : Frame) (one other : BusyBucket) (e a : Allocation) → Precedes frame e a → 1 ≤ one.height → 1 ≤ other.height
    → LiesInBucket frame one e → LiesInBucket frame other a → SharesNone e.rectangle a.rectangle
precedes-apart frame one other e a precedes tall tall' lies lies' =
    let from = ap (λ (r : Rectangle). place_along frame.vertical r.max) lies.rectangle ∙ ends-along frame lies.along one.across lies.width one.height in
    let to = ap (λ (r : Rectangle). place_along frame.vertical r.min) lies'.rectangle ∙ begins-along frame lies'.along other.across lies'.width other.height in
    let order : pos (lies.along + lies.width) ≤ℤ pos lies'.along = subst (λ (z : ℤ). pos (lies.along + lies.width) ≤ℤ z) to (subst (λ (z : ℤ). z ≤ℤ place_along frame.vertical a.rectangle.min) from precedes.place) in
    let first : LiesIn frame lies.along (lies.along + lies.width) one.across (one.across + one.height) e.rectangle = record {
      along = lies.along;
      across = one.across;
      width = lies.width;
      height = one.height;
      is = lies.rectangle;
      wide = lies.wide;
      tall = tall;
      from_left = omega arith;
      to_right = omega arith;
      from_top = omega arith;
      to_bottom = omega arith;
    } in
    let second : LiesIn frame lies'.along (lies'.along + lies'.width) other.across (other.across + other.height) a.rectangle = record {
      along = lies'.along;
      across = other.across;
      width = lies'.width;
      height = other.height;
      is = lies'.rectangle;
      wide = lies'.wide;
      tall = tall';
      from_left = omega arith;
      to_right = omega arith;
      from_top = omega arith;
      to_bottom = omega arith;
    } in
    apart-along frame _ _ _ _ _ _ _ _ e.rectangle a.rectangle (omega (arith, ints, order)) first second

-- two entries of a ledger share no unit square
two-apart : (frame : Frame) (busy : List BusyBucket) (e a : Allocation) → AreClear busy → AllByRecursion (λ (one : BusyBucket). 1 ≤ one.height) busy
    → IsInABucket frame busy e → IsInABucket frame busy a → (tag_of e.id ≡ tag_of a.id → Precedes frame e a) → SharesNone e.rectangle a.rectangle
two-apart frame busy e a clear tall in_buckets in_buckets' order = by_tag (is_same_tag (tag_of e.id) (tag_of a.id)) refl
  where
    tall_one : 1 ≤ in_buckets.bucket.height
    tall_one = each-stands (λ (one : BusyBucket). 1 ≤ one.height) in_buckets.bucket busy in_buckets.stands tall

    tall_other : 1 ≤ in_buckets'.bucket.height
    tall_other = each-stands (λ (one : BusyBucket). 1 ≤ one.height) in_buckets'.bucket busy in_buckets'.stands tall

    by_tag : (t : Bool) → is_same_tag (tag_of e.id) (tag_of a.id) ≡ t → SharesNone e.rectangle a.rectangle
    by_tag true t = precedes-apart frame in_buckets.bucket in_buckets'.bucket e a (order (tags-equal (tag_of e.id) (tag_of a.id) t)) tall_one tall_other in_buckets.lies in_buckets'.lies
    by_tag false t =
        let differ = λ (same : in_buckets.bucket ≡ in_buckets'.bucket).
        let tags : tag_of e.id ≡ tag_of a.id = in_buckets.lies.tag ∙ ap (λ (b : BusyBucket). b.bucket.tag) same ∙ sym in_buckets'.lies.tag in
        let yes : is_same_tag (tag_of e.id) (tag_of a.id) ≡ true = subst (λ (tag : Tag). is_same_tag (tag_of e.id) tag ≡ true) tags (same-tag (tag_of e.id)) in
        let no : ⊥ = cc in no in
        ⊎_elim
        (λ (h : IsClear in_buckets.bucket in_buckets'.bucket). clear-apart frame in_buckets.bucket in_buckets'.bucket e a h tall_one tall_other in_buckets.lies in_buckets'.lies)
        (λ (h : IsClear in_buckets'.bucket in_buckets.bucket). SharesNone-swap a.rectangle e.rectangle (clear-apart frame in_buckets'.bucket in_buckets.bucket a e h tall_other tall_one in_buckets'.lies in_buckets.lies))
        (clear-two in_buckets.bucket in_buckets'.bucket busy clear in_buckets.stands in_buckets'.stands differ)

-- the entries of a ledger share no unit square
entries-apart : (frame : Frame) (busy : List BusyBucket) (entries : List Allocation) → AreClear busy → AllByRecursion (λ (one : BusyBucket). 1 ≤ one.height) busy
    → AllByRecursion (IsInABucket frame busy) entries → AreInOrder frame entries → AreApart entries
entries-apart frame busy [] clear tall placed order = tt
entries-apart frame busy (e ∷ es) clear tall placed order = (
  Each-weaken (λ (a : Allocation). IsInABucket frame busy a × (tag_of e.id ≡ tag_of a.id → Precedes frame e a)) (λ (a : Allocation). SharesNone e.rectangle a.rectangle) es
      (λ (a : Allocation) (h : IsInABucket frame busy a × (tag_of e.id ≡ tag_of a.id → Precedes frame e a)). two-apart frame busy e a clear tall placed.0 h.0 h.1)
      (Each-both (IsInABucket frame busy) (λ (a : Allocation). tag_of e.id ≡ tag_of a.id → Precedes frame e a) es placed.1 order.0),
  entries-apart frame busy es clear tall placed.1 order.1,
)

-- each busy bucket has a height
tall-busy : (frame : Frame) (xs : List BucketShelf) → AreShelves frame xs → AllByRecursion (λ (one : BusyBucket). 1 ≤ one.height) (busy_buckets xs)
tall-busy frame xs valid =
    Each-weaken (InColumn frame [] xs) (λ (one : BusyBucket). 1 ≤ one.height) (busy_buckets xs)
    (λ (one : BusyBucket) (inside : InColumn frame [] xs one). inside.tall) (after-in_column frame [] xs valid.each)

-- what is live shares no unit square
pub tied-apart : (entries : List Allocation) (state : BucketedState) → AreTied entries state → AreApart entries
tied-apart entries state tied =
    entries-apart state.frame (busy_buckets state.shelves) entries (after-clear state.frame [] state.shelves tied.valid.shelves.each)
    (tall-busy state.frame state.shelves tied.valid.shelves) tied.in_buckets.placed tied.in_buckets.ordered

-- a column of a bucketed frame ends within the atlas
pub column-within : (frame : Frame) (column : ℕ) → IsBucketedFrame frame → column < frame.columns → column * frame.column_width + frame.column_width ≤ along_side frame
column-within frame column is_frame below =
    omega (arith, is_frame.columns.1, mul-le-mul_right {m = suc column} {n = frame.columns} frame.column_width below, suc-mul column frame.column_width)

-- what is live lies within the atlas
pub tied-inside : (entries : List Allocation) (state : BucketedState) → AreTied entries state → AllByRecursion (λ (e : Allocation). IsInside state.frame e.rectangle) entries
tied-inside entries state tied =
    let frame = state.frame in
    let busy = busy_buckets state.shelves in
    Each-weaken (IsInABucket frame busy) (λ (e : Allocation). IsInside frame e.rectangle) entries
    (λ (e : Allocation) (in_buckets : IsInABucket frame busy e).
    let inside = each-stands (InColumn frame [] state.shelves) in_buckets.bucket busy in_buckets.stands (after-in_column frame [] state.shelves tied.valid.shelves.each) in
    inside-from_lies frame e.rectangle
    (LiesIn-widen frame _ _ _ _ 0 (along_side frame) 0 (across_side frame) e.rectangle (omega arith)
    (omega (arith, inside.right, column-within frame inside.column tied.valid.frame inside.below)) (omega arith)
    (omega (arith, inside.bottom, tied.valid.shelves.heights inside.column))
    (entry-lies frame in_buckets.bucket e inside.tall in_buckets.lies))) tied.in_buckets.placed
