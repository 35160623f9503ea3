-- Busy buckets in view: which stand before one and behind it, and what is live of each tag.
use Rattle.std.proofs.Common.{◌≡◌, ℕ, ◌+◌, Bool, true, false, cond, List, [], ◌∷◌, ◌++◌, refl, ap, arith, sym, ◌∙◌, inl, inr, ⊎_elim, ◌⊎◌, ◌==◌}
use Rattle.std.proofs.lemmas.Bool.{and_parts, eq-eqb, eqb-true}
use Rattle.std.specs.List.{AllByRecursion}
use Rattle.etagere_base.specs.declared.ids.Allocation.{Allocation}
use Rattle.bucketed_model.specs.Returning.{is_same_tag}
use Rattle.bucketed_model.specs.State.{Bucket, BucketShelf, Tag, column_height, is_idle_bucket}
use Rattle.bucketed_model.specs.Tied.{BusyBucket, StandsIn, busy_after, busy_along, entries_of, live_of}
use Rattle.bucketed_model.proofs.Validity.Spots.{IsOther}

-- what stands in a front stands in the whole
pub stands-front : {X : Type 0} (x : X) (xs ys : List X) → StandsIn x xs → StandsIn x (xs ++ ys)
stands-front x [] ys h = absurd h
stands-front x (y ∷ xs) ys h = ⊎_elim (λ (e : y ≡ x). inl e) (λ (later : StandsIn x xs). inr (stands-front x xs ys later)) h

-- what stands in a back stands in the whole
pub stands-back : {X : Type 0} (x : X) (xs ys : List X) → StandsIn x ys → StandsIn x (xs ++ ys)
stands-back x [] ys h = h
stands-back x (y ∷ xs) ys h = inr (stands-back x xs ys h)

-- what stands in the whole stands in the front or in the back
pub stands-parts : {X : Type 0} (x : X) (xs ys : List X) → StandsIn x (xs ++ ys) → StandsIn x xs ⊎ StandsIn x ys
stands-parts x [] ys h = inr h
stands-parts x (y ∷ xs) ys h =
    ⊎_elim (λ (e : y ≡ x). inl (inl e))
    (λ (later : StandsIn x (xs ++ ys)). ⊎_elim (λ (front : StandsIn x xs). inl (inr front)) (λ (back : StandsIn x ys). inr back) (stands-parts x xs ys later)) h

-- the items that are live of a tag in busy buckets end to end
pub live_of-append : (tag : Tag) (xs ys : List BusyBucket) → live_of tag (xs ++ ys) ≡ live_of tag xs + live_of tag ys
live_of-append tag [] ys = omega arith
live_of-append tag (x ∷ xs) ys = omega (arith, live_of-append tag xs ys)

-- the entries of a tag, end to end
pub entries_of-append : (tag : Tag) (xs ys : List Allocation) → entries_of tag (xs ++ ys) ≡ entries_of tag xs + entries_of tag ys
entries_of-append tag [] ys = omega arith
entries_of-append tag (x ∷ xs) ys = omega (arith, entries_of-append tag xs ys)

-- a tag is the same as itself
pub same-tag : (tag : Tag) → is_same_tag tag tag ≡ true
same-tag tag = rw (eq-eqb tag.number tag.number refl, eq-eqb tag.generation tag.generation refl) refl

-- tags that are the same are equal
pub tags-equal : (one other : Tag) → is_same_tag one other ≡ true → one ≡ other
tags-equal one other h =
    let parts = and_parts (one.number == other.number) (one.generation == other.generation) h in
    let number = eqb-true one.number other.number parts.0 in
    let generation = eqb-true one.generation other.generation parts.1 in
    ap (λ (n : ℕ). let tag : Tag = record { number = n; generation = one.generation } in tag) number
    ∙ ap (λ (n : ℕ). let tag : Tag = record { number = other.number; generation = n } in tag) generation

-- of other buckets none is live under a tag
pub live-others_along : (tag : Tag) (across height : ℕ) (bs : List Bucket) → AllByRecursion (IsOther tag.number) bs → live_of tag (busy_along across height bs) ≡ 0
live-others_along tag across height [] others = refl
live-others_along tag across height (b ∷ bs) others = by_test (is_idle_bucket b) (is_same_tag tag b.tag) refl (live-others_along tag across height bs others.1)
  where
    by_test : (i t : Bool) → is_same_tag tag b.tag ≡ t → live_of tag (busy_along across height bs) ≡ 0
        → live_of tag (cond i (busy_along across height bs) (record { bucket = b; across = across; height = height } ∷ busy_along across height bs)) ≡ 0
    by_test true t e h = h
    by_test false true e h = absurd (others.0 (ap (λ (t : Tag). t.number) (sym (tags-equal tag b.tag e))))
    by_test false false e h = rw e (omega (arith, h))

-- nor in other shelves
pub live-others : (tag : Tag) (before xs : List BucketShelf) → AllByRecursion (λ (x : BucketShelf). AllByRecursion (IsOther tag.number) x.buckets) xs → live_of tag (busy_after before xs) ≡ 0
live-others tag before [] others = refl
live-others tag before (x ∷ xs) others =
    omega (
      arith,
      live_of-append tag (busy_along (column_height x.column before) x.height x.buckets) (busy_after (before ++ x ∷ []) xs),
      live-others_along tag (column_height x.column before) x.height x.buckets others.0,
      live-others tag (before ++ x ∷ []) xs others.1,
    )
