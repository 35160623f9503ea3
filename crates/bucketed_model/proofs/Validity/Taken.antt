-- Shelves with an item taken from a bucket that has room are as shelves must be.
use Rattle.std.proofs.Common.{◌≡◌, ℕ, zero, suc, ◌+◌, ◌*◌, ◌/◌, ◌%◌, ◌<◌, ◌≤◌, Bool, true, false, cond, List, [], ◌∷◌, ◌++◌, map, refl, ap, arith, ◌∙◌, subst, ◌==◌}
use Rattle.std.proofs.lemmas.Bool.{and_parts, eq-eqb}
use Rattle.std.proofs.Math.Nat.{suc-mul}
use Rattle.std.proofs.lemmas.Nat.{div-add-mod'}
use Rattle.std.proofs.lemmas.List.{map-append}
use Rattle.std.specs.List.{AllByRecursion, list_all}
use Rattle.std.specs.Prelude.{◌&&◌}
use Rattle.etagere_base.specs.declared.frames.Frame.{Frame}
use Rattle.etagere_base.specs.Frames.{alignment_along}
use Rattle.etagere_base.proofs.EachLemmas.{Each-middle}
use Rattle.bucketed_model.specs.Picking.{Spot}
use Rattle.bucketed_model.specs.State.{Bucket, BucketShelf, changed_at, changed_bucket, changed_in, is_idle, is_idle_bucket, most_given}
use Rattle.bucketed_model.specs.Taking.{taken_bucket}
use Rattle.bucketed_model.specs.Valid.{AreShelves, IsBucket, IsShelf, ends_idle}
use Rattle.bucketed_model.proofs.Validity.Changed.{Keeps, shelves-changed}
use Rattle.bucketed_model.proofs.Shelving.Shares.{aligned-sum}
use Rattle.bucketed_model.proofs.Validity.Spots.{IsSpot, each-numbered}

-- taking keeps where a bucket stands, and its number
pub take-keeps : (width : ℕ) → Keeps (taken_bucket width)
take-keeps width = record { place = λ b. refl; number = λ b. refl }

-- a width that is taken, aligned
pub record IsWidth (al width : ℕ) : Type 0 where
  pub some : 1 ≤ width
  pub aligned : width % al ≡ 0

-- an aligned width is at least the alignment
width-le : (al width : ℕ) → IsWidth al width → al ≤ width
width-le al width is_width = at_least (width / al) (omega (arith, div-add-mod' width al, is_width.aligned))
  where
    at_least : (n : ℕ) → n * al ≡ width → al ≤ width
    at_least zero h = absurd (omega (arith, h, is_width.some))
    at_least (suc n) h = omega (arith, h, suc-mul n al)

-- what a bucket has used is at least its items' least widths
used-least : (al width height : ℕ) (b : Bucket) → IsBucket al width height b → b.given * al ≤ b.used
used-least al width height b is_bucket = by_live b.live refl
  where
    by_live : (n : ℕ) → b.live ≡ n → b.given * al ≤ b.used
    by_live zero e = let none : b.given ≡ 0 = (is_bucket.idle e).0 in rw none (omega arith)
    by_live (suc n) e = (is_bucket.busy (omega arith)).0

-- a bucket with room is as a bucket must be after it gave an item
pub bucket-taken : (al width height item : ℕ) (b : Bucket) → IsWidth al item → b.used + item ≤ width → b.given < most_given → 1 ≤ height
    → IsBucket al width height b → IsBucket al width height (taken_bucket item b)
bucket-taken al width height item b is_width room few tall is_bucket = record {
  tag = is_bucket.tag;
  used = room;
  aligned = aligned-sum b.used item al is_bucket.aligned is_width.aligned;
  live = omega (arith, is_bucket.live);
  given = omega (arith, few);
  idle = λ h. absurd (omega (arith, h));
  busy = λ _. (omega (arith, suc-mul b.given al, used-least al width height b is_bucket, width-le al item is_width), tall);
}

-- what an item needs of a spot
pub record CanTake (frame : Frame) (shelves : List BucketShelf) (item : ℕ) (spot : Spot) : Type 0 where
  pub at : IsSpot shelves spot
  pub width : IsWidth (alignment_along frame) item
  pub room : spot.bucket.used + item ≤ spot.shelf.bucket_width
  pub few : spot.bucket.given < most_given
  pub tall : 1 ≤ spot.shelf.height

-- the shelf of a spot, and its bucket, are as they must be
pub spot-valid : (frame : Frame) (shelves : List BucketShelf) (spot : Spot) → IsSpot shelves spot → AreShelves frame shelves
    → IsShelf frame spot.shelf × IsBucket (alignment_along frame) spot.shelf.bucket_width spot.shelf.height spot.bucket
spot-valid frame shelves spot at valid =
    let shelf = Each-middle (IsShelf frame) at.front spot.shelf at.back (subst (AllByRecursion (IsShelf frame)) at.whole valid.each) in (
      shelf,
      Each-middle (IsBucket (alignment_along frame) spot.shelf.bucket_width spot.shelf.height) at.left spot.bucket at.right
          (subst (AllByRecursion (IsBucket (alignment_along frame) spot.shelf.bucket_width spot.shelf.height)) at.buckets shelf.buckets),
    )

-- the shelves after an item was taken
pub shelves-taken : (frame : Frame) (shelves : List BucketShelf) (item : ℕ) (spot : Spot) → AreShelves frame shelves → CanTake frame shelves item spot
    → AreShelves frame (changed_bucket spot.bucket.tag.number (taken_bucket item) shelves)
shelves-taken frame shelves item spot valid can =
    shelves-changed frame spot.bucket.tag.number (taken_bucket item) (take-keeps item) shelves valid
    (each-numbered (λ (shelf : BucketShelf) (bucket : Bucket). IsBucket (alignment_along frame) shelf.bucket_width shelf.height (taken_bucket item bucket))
    shelves spot can.at valid.numbers
    (bucket-taken (alignment_along frame) spot.shelf.bucket_width spot.shelf.height item spot.bucket can.width can.room can.few can.tall (spot-valid frame shelves spot can.at valid).1))

-- buckets that hold nothing after an item was taken in_buckets nothing before
idle-before : (n item : ℕ) (bs : List Bucket) → list_all is_idle_bucket (map (changed_at n (taken_bucket item)) bs) ≡ true → list_all is_idle_bucket bs ≡ true
idle-before n item [] h = refl
idle-before n item (b ∷ bs) h =
    let parts = and_parts (is_idle_bucket (changed_at n (taken_bucket item) b)) (list_all is_idle_bucket (map (changed_at n (taken_bucket item)) bs)) h in
    rw (first (b.tag.number == n) parts.0, idle-before n item bs parts.1) refl
  where
    first : (t : Bool) → is_idle_bucket (cond t (taken_bucket item b) b) ≡ true → is_idle_bucket b ≡ true
    first true h = absurd (never b.live h)
      where
        never : (n : ℕ) → (n + 1 == 0) ≡ true → ⊥
        never n h = grind arith
    first false h = h

-- shelves whose last one holds something live still do
pub ends-taken : (n item : ℕ) (xs : List BucketShelf) → ends_idle xs ≡ false → ends_idle (changed_bucket n (taken_bucket item) xs) ≡ false
ends-taken n item [] h = refl
ends-taken n item (x ∷ []) h = by_test (is_idle (changed_in n (taken_bucket item) x)) refl
  where
    by_test : (b : Bool) → is_idle (changed_in n (taken_bucket item) x) ≡ b → b ≡ false
    by_test true e = let idle : is_idle x ≡ true = idle-before n item x.buckets e in absurd (cc)
    by_test false e = refl
ends-taken n item (x ∷ y ∷ ys) h = ends-taken n item (y ∷ ys) h

-- a shelf that gave an item holds something live
busy-taken : (item : ℕ) (left : List Bucket) (b : Bucket) (right : List Bucket)
    → list_all is_idle_bucket (map (changed_at b.tag.number (taken_bucket item)) (left ++ b ∷ right)) ≡ false
busy-taken item [] b right =
    first (b.tag.number == b.tag.number) (eq-eqb b.tag.number b.tag.number refl) (list_all is_idle_bucket (map (changed_at b.tag.number (taken_bucket item)) right))
  where
    never : (n : ℕ) (rest : Bool) → ((n + 1 == 0) && rest) ≡ false
    never n rest = grind arith

    first : (t : Bool) → t ≡ true → (rest : Bool) → (is_idle_bucket (cond t (taken_bucket item b) b) && rest) ≡ false
    first true e rest = never b.live rest
    first false e rest = absurd (cc)
busy-taken item (y ∷ left) b right =
    later (is_idle_bucket (changed_at b.tag.number (taken_bucket item) y)) _ (busy-taken item left b right)
  where
    later : (one rest : Bool) → rest ≡ false → (one && rest) ≡ false
    later true rest h = h
    later false rest h = refl

-- shelves end as their last one does
ends-last : (front : List BucketShelf) (x : BucketShelf) → ends_idle (front ++ x ∷ []) ≡ is_idle x
ends-last [] x = refl
ends-last (y ∷ []) x = refl
ends-last (y ∷ z ∷ front) x = ends-last (z ∷ front) x

-- shelves whose last one gave an item end with it
pub ends-given : (front : List BucketShelf) (x : BucketShelf) (left : List Bucket) (b : Bucket) (right : List Bucket) (item : ℕ) → x.buckets ≡ left ++ b ∷ right
    → ends_idle (changed_bucket b.tag.number (taken_bucket item) (front ++ x ∷ [])) ≡ false
ends-given front x left b right item h =
    ap ends_idle (map-append (changed_in b.tag.number (taken_bucket item)) front (x ∷ []))
    ∙ ends-last (map (changed_in b.tag.number (taken_bucket item)) front) (changed_in b.tag.number (taken_bucket item) x)
    ∙ ap (λ (bs : List Bucket). list_all is_idle_bucket (map (changed_at b.tag.number (taken_bucket item)) bs)) h
    ∙ busy-taken item left b right
