-- Which ids the busy buckets know: after an allocation the one that was given and all that were known, after a grow the
-- same, and after a return the same of other buckets.
use Rattle.std.proofs.Common.{◌≡◌, ◌≢◌, ℕ, ◌+◌, ◌<◌, Bool, true, false, List, [], ◌∷◌, ◌++◌, refl, ap, arith, sym, ◌∙◌, subst, ◌||◌, ◌&&◌, cond, inl, inr, length}
use Rattle.std.proofs.lemmas.Bool.{and_parts}
use Rattle.std.proofs.lemmas.List.Folds.{list_any-append}
use Rattle.std.specs.List.{list_any}
use Rattle.std.specs.Prelude.{nat_le, nat_lt}
use Rattle.etagere_base.specs.declared.geometry.Size.{Size}
use Rattle.etagere_base.specs.declared.ids.Allocation.{Allocation}
use Rattle.bucketed_model.specs.Atlas.{Allocates, Grows}
use Rattle.bucketed_model.specs.Growing.{grown, grow_counts}
use Rattle.bucketed_model.specs.Picking.{Spot}
use Rattle.bucketed_model.specs.Returning.{bucket_returned, emptied_bucket, given_of, is_giver, is_known, is_same_tag, lessened_bucket, returned_bucket, tag_of}
use Rattle.bucketed_model.specs.State.{Bucket, BucketShelf, BucketedState, Tag, changed_bucket, column_height, is_idle_bucket}
use Rattle.bucketed_model.specs.Taking.{bucket_taken, id_of, prepared, taken_bucket}
use Rattle.bucketed_model.specs.Tied.{BusyBucket, StandsIn, busy_after, busy_along, busy_buckets}
use Rattle.bucketed_model.specs.Valid.{IsValid}
use Rattle.bucketed_model.proofs.Allocating.{allocates-is, allocates-placed}
use Rattle.bucketed_model.proofs.Ledger.Busy.{busy-dropped}
use Rattle.bucketed_model.proofs.Ledger.Entries.{same-tag, tags-equal}
use Rattle.bucketed_model.proofs.Ledger.EntriesSeen.{spot-view}
use Rattle.bucketed_model.proofs.Ledger.EntriesTaken.{id-parts}
use Rattle.bucketed_model.proofs.Ledger.TiedReturned.{has-spot, spot-of}
use Rattle.bucketed_model.proofs.Shelving.GrownShelves.{busy-widened}
use Rattle.bucketed_model.proofs.Validity.Taken.{spot-valid}
use Rattle.bucketed_model.proofs.Validity.TakenValid.{taken-shelves}

-- a busy bucket gave the item of an id
abbrev knows : ℕ → List BusyBucket → Bool
knows id busy = list_any (λ (b : BusyBucket). is_giver id b.bucket) busy

-- a bucket that holds nothing knows no id
idle-knows : (id : ℕ) (b : Bucket) → is_idle_bucket b ≡ true → is_giver id b ≡ false
idle-knows id b idle = none (is_same_tag (tag_of id) b.tag) b.live (nat_lt 0 (given_of id) && nat_le (given_of id) b.given) (grind (arith, idle))
  where
    none : (t : Bool) (live : ℕ) (rest : Bool) → live ≡ 0 → (t && (nat_lt 0 live && rest)) ≡ false
    none true live rest zero = rw zero refl
    none false live rest zero = refl

-- buckets know what the busy ones of them know
along-knows : (id across height : ℕ) (bs : List Bucket) → list_any (is_giver id) bs ≡ knows id (busy_along across height bs)
along-knows id across height [] = refl
along-knows id across height (b ∷ bs) = by_test (is_idle_bucket b) refl (along-knows id across height bs)
  where
    by_test : (i : Bool) → is_idle_bucket b ≡ i → list_any (is_giver id) bs ≡ knows id (busy_along across height bs)
        → (is_giver id b || list_any (is_giver id) bs) ≡ knows id (cond i (busy_along across height bs) (record { bucket = b; across = across; height = height } ∷ busy_along across height bs))
    by_test true e rest = rw (idle-knows id b e) rest
    by_test false e rest = ap (λ (t : Bool). is_giver id b || t) rest

after-knows : (id : ℕ) (before xs : List BucketShelf) → list_any (λ (shelf : BucketShelf). list_any (is_giver id) shelf.buckets) xs ≡ knows id (busy_after before xs)
after-knows id before [] = refl
after-knows id before (x ∷ xs) =
    rw (along-knows id (column_height x.column before) x.height x.buckets, after-knows id (before ++ x ∷ []) xs)
    (sym (list_any-append (λ (b : BusyBucket). is_giver id b.bucket) (busy_along (column_height x.column before) x.height x.buckets) (busy_after (before ++ x ∷ []) xs)))

-- a state knows what its busy buckets know
pub known-busy : (state : BucketedState) (id : ℕ) → is_known state id ≡ knows id (busy_buckets state.shelves)
known-busy state id = after-knows id [] state.shelves

-- what lists around a bucket and that bucket know
around-knows : (id across height : ℕ) (front back : List BusyBucket) (b : Bucket)
    → knows id (front ++ (busy_along across height (b ∷ []) ++ back)) ≡ (knows id front || ((is_giver id b || false) || knows id back))
around-knows id across height front back b =
    list_any-append (λ (x : BusyBucket). is_giver id x.bucket) front (busy_along across height (b ∷ []) ++ back)
    ∙ ap (λ (t : Bool). knows id front || t)
    (list_any-append (λ (x : BusyBucket). is_giver id x.bucket) (busy_along across height (b ∷ [])) back
    ∙ ap (λ (t : Bool). t || knows id back) (sym (along-knows id across height (b ∷ []))))

-- where a bucket comes to know more, so do all
more : (f b after k : Bool) → (b ≡ true → after ≡ true) → (f || ((b || false) || k)) ≡ true → (f || ((after || false) || k)) ≡ true
more true b after k grows h = refl
more false true after k grows h = rw (grows refl) refl
more false false true k grows h = refl
more false false false k grows h = h

-- what one of them knows, all know
one : (f b k : Bool) → b ≡ true → (f || ((b || false) || k)) ≡ true
one true b k h = refl
one false true k h = refl
one false false k h = absurd (cc)

-- a bucket that gave one item more knows what it knew
giver-taken : (id width : ℕ) (b : Bucket) → is_giver id b ≡ true → is_giver id (taken_bucket width b) ≡ true
giver-taken id width b = still (is_same_tag (tag_of id) b.tag) b.live (given_of id) b.given
  where
    still : (t : Bool) (live n given : ℕ) → (t && (nat_lt 0 live && (nat_lt 0 n && nat_le n given))) ≡ true → (t && (nat_lt 0 (live + 1) && (nat_lt 0 n && nat_le n (given + 1)))) ≡ true
    still true live n given h = grind (arith, h)
    still false live n given h = absurd (cc)

-- and the item that it gave
giver-new : (width : ℕ) (b : Bucket) → b.tag.number < 4095 → b.given < 4095 → is_giver (id_of b.tag (b.given + 1)) (taken_bucket width b) ≡ true
giver-new width b least few =
    let id : ℕ = id_of b.tag (b.given + 1) in
    let parts = id-parts b.tag (b.given + 1) least (omega (arith, few)) in
    passes (is_same_tag (tag_of id) b.tag) (subst (λ (tag : Tag). is_same_tag tag b.tag ≡ true) (sym parts.0) (same-tag b.tag)) b.live (given_of id) b.given parts.1
  where
    passes : (t : Bool) → t ≡ true → (live n given : ℕ) → n ≡ given + 1 → (t && (nat_lt 0 (live + 1) && (nat_lt 0 n && nat_le n (given + 1)))) ≡ true
    passes true e live n given same = rw same (grind arith)
    passes false e live n given same = absurd (cc)

-- an allocation makes its id known, and what was known still is
pub allocates-known : (old : BucketedState) (size : Size) (allocation : Allocation) (new : BucketedState) → IsValid old → Allocates old size allocation new
    → (is_known new allocation.id ≡ true) × ((id : ℕ) → is_known old id ≡ true → is_known new id ≡ true)
allocates-known old size allocation new valid h =
    let placed = allocates-placed old size allocation new valid h in
    let shelves = prepared old.frame old.shelves h.tags h.placement.destination in
    let spot = placed.ready.spot in
    let bucket = spot.bucket in
    let item = placed.sides.along in
    let taken = taken_bucket item bucket in
    let view = spot-view shelves spot (taken_bucket item) placed.ready.can.at placed.ready.valid.numbers in
    let is_bucket = (spot-valid old.frame shelves spot placed.ready.can.at placed.ready.valid).1 in
    let before : (id : ℕ) → is_known old id ≡ (knows id view.front || ((is_giver id bucket || false) || knows id view.back)) =
    λ id. known-busy old id ∙ ap (knows id) (sym placed.ready.busy ∙ view.old) ∙ around-knows id view.across spot.shelf.height view.front view.back bucket in
    let after : (id : ℕ) → is_known new id ≡ (knows id view.front || ((is_giver id taken || false) || knows id view.back)) =
    λ id. ap (λ (s : BucketedState). is_known s id) h.after
    ∙ known-busy (bucket_taken old h.placement h.tags) id ∙ ap (knows id) (ap busy_buckets (taken-shelves old size h.placement h.tags placed) ∙ view.after)
    ∙ around-knows id view.across spot.shelf.height view.front view.back taken in
    let own : is_giver allocation.id taken ≡ true =
    subst (λ (a : Allocation). is_giver a.id taken ≡ true) (allocates-is old size allocation new h placed) (giver-new item bucket is_bucket.tag.number placed.ready.can.few) in (
      after allocation.id ∙ one (knows allocation.id view.front) (is_giver allocation.id taken) (knows allocation.id view.back) own,
      λ id was. after id ∙ more (knows id view.front) (is_giver id bucket) (is_giver id taken) (knows id view.back) (giver-taken id item bucket) (sym (before id) ∙ was),
    )

-- a grow changes nothing of what is known
pub grows-known : (old : BucketedState) (size : Size) (new : BucketedState) → Grows old size new → (id : ℕ) → is_known new id ≡ is_known old id
grows-known old size new h id =
    ap (λ (s : BucketedState). is_known s id) h.after ∙ known-busy (grown old size h.tags) id
    ∙ ap (knows id) (busy-widened old.frame.column_width (grow_counts old.frame size old.shelves) h.tags [] old.shelves) ∙ sym (known-busy old id)

-- a bucket that knows an id is one of those that do
record IsGiver (id : ℕ) (busy : List BusyBucket) : Type 0 where
  pub bucket : BusyBucket
  pub stands : StandsIn bucket busy
  pub gives : is_giver id bucket.bucket ≡ true

giver-of : (id : ℕ) (busy : List BusyBucket) → knows id busy ≡ true → IsGiver id busy
giver-of id [] h = absurd (cc)
giver-of id (b ∷ bs) h = by_test (is_giver id b.bucket) refl h (giver-of id bs)
  where
    by_test : (t : Bool) → is_giver id b.bucket ≡ t → (t || knows id bs) ≡ true → (knows id bs ≡ true → IsGiver id bs) → IsGiver id (b ∷ bs)
    by_test true e h later = record { bucket = b; stands = inl refl; gives = e }
    by_test false e h later = let found = later h in record { bucket = found.bucket; stands = inr found.stands; gives = found.gives }

-- a bucket doesn't know an id of another tag
other-knows : (id : ℕ) (b : Bucket) → tag_of id ≢ b.tag → is_giver id b ≡ false
other-knows id b other = by_test (is_same_tag (tag_of id) b.tag) refl
  where
    by_test : (t : Bool) → is_same_tag (tag_of id) b.tag ≡ t → (t && (nat_lt 0 b.live && (nat_lt 0 (given_of id) && nat_le (given_of id) b.given))) ≡ false
    by_test true e = absurd (other (tags-equal (tag_of id) b.tag e))
    by_test false e = refl

-- nor does it once an item was returned
returned-knows : (id : ℕ) (b : Bucket) → tag_of id ≢ b.tag → is_giver id (returned_bucket b) ≡ false
returned-knows id b other = by_test (nat_le b.live 1)
  where
    by_test : (t : Bool) → is_giver id (cond t (emptied_bucket b) (lessened_bucket b)) ≡ false
    by_test true = idle-knows id (emptied_bucket b) refl
    by_test false = other-knows id (lessened_bucket b) other

-- a return changes nothing of what is known of other buckets
pub returned-known : (state : BucketedState) (id : ℕ) → IsValid state → is_known state id ≡ true → (other : ℕ) → tag_of other ≢ tag_of id
    → is_known (bucket_returned state id) other ≡ is_known state other
returned-known state id valid known other differs =
    let giver = giver-of id (busy_buckets state.shelves) (sym (known-busy state id) ∙ known) in
    let at = has-spot [] state.shelves giver.bucket giver.stands in
    let b = giver.bucket.bucket in
    let spot : Spot = record { number = length at.front; shelf = at.shelf; bucket = b } in
    let tag : tag_of id ≡ b.tag = tags-equal (tag_of id) b.tag (and_parts _ _ giver.gives).0 in
    let number : (tag_of id).number ≡ b.tag.number = ap (λ (t : Tag). t.number) tag in
    let view = spot-view state.shelves spot returned_bucket (spot-of state.shelves giver.bucket at) valid.shelves.numbers in
    let apart : tag_of other ≢ b.tag = λ same. differs (same ∙ sym tag) in
    let busy : busy_buckets (bucket_returned state id).shelves ≡ view.front ++ (busy_along view.across at.shelf.height (returned_bucket b ∷ []) ++ view.back) =
    busy-dropped (changed_bucket (tag_of id).number returned_bucket state.shelves)
    ∙ ap (λ (n : ℕ). busy_buckets (changed_bucket n returned_bucket state.shelves)) number ∙ view.after in
    let before : is_known state other ≡ (knows other view.front || ((is_giver other b || false) || knows other view.back)) =
    known-busy state other ∙ ap (knows other) view.old ∙ around-knows other view.across at.shelf.height view.front view.back b in
    let after : is_known (bucket_returned state id) other ≡ (knows other view.front || ((is_giver other (returned_bucket b) || false) || knows other view.back)) =
    known-busy (bucket_returned state id) other ∙ ap (knows other) busy ∙ around-knows other view.across at.shelf.height view.front view.back (returned_bucket b) in
    after ∙ ap (λ (t : Bool). knows other view.front || ((t || false) || knows other view.back)) (returned-knows other b apart ∙ sym (other-knows other b apart)) ∙ sym before
