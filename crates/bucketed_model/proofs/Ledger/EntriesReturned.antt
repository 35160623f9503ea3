-- A ledger and busy buckets stay together when an item is returned.
use Rattle.std.proofs.Common.{◌≡◌, ℕ, ◌+◌, ◌-◌, ◌≤◌, Bool, true, false, cond, List, [], ◌∷◌, ◌++◌, refl, ap, arith, sym, ◌∙◌, subst, inl, inr, ⊎_elim, ◌==◌}
use Rattle.std.proofs.lemmas.Bool.{cond_both, leb-true}
use Rattle.std.specs.Prelude.{nat_le}
use Rattle.std.specs.List.{AllByRecursion}
use Rattle.etagere_base.proofs.EachLemmas.{Each-both, Each-remove_number, Each-weaken}
use Rattle.etagere_base.specs.declared.frames.Frame.{Frame}
use Rattle.etagere_base.specs.declared.ids.Allocation.{Allocation}
use Rattle.bucketed_model.specs.Returning.{emptied_bucket, is_same_tag, lessened_bucket, returned_bucket, tag_of}
use Rattle.bucketed_model.specs.State.{Bucket, Tag, is_idle_bucket}
use Rattle.bucketed_model.specs.Tied.{AreInBuckets, AreInOrder, BusyBucket, IsInABucket, LiesInBucket, Precedes, StandsIn, busy_along, entries_of, live_of}
use Rattle.bucketed_model.proofs.Ledger.Entries.{entries_of-append, live_of-append, same-tag, stands-back, stands-front, stands-parts}
use Rattle.bucketed_model.proofs.Ledger.EntriesTaken.{live-one, stands-one}

-- an order of entries without one of them
order-without : (frame : Frame) (one : List Allocation) (e : Allocation) (other : List Allocation) → AreInOrder frame (one ++ e ∷ other) → AreInOrder frame (one ++ other)
order-without frame [] e other order = order.1
order-without frame (x ∷ one) e other order =
    (Each-remove_number (λ (later : Allocation). tag_of x.id ≡ tag_of later.id → Precedes frame x later) one e other order.0, order-without frame one e other order.1)

-- where no entry has a tag, each has another
others-entries : (tag : Tag) (entries : List Allocation) → entries_of tag entries ≡ 0 → AllByRecursion (λ (e : Allocation). tag_of e.id ≡ tag → ⊥) entries
others-entries tag [] h = tt
others-entries tag (e ∷ es) h = (
  λ (same : tag_of e.id ≡ tag). absurd (counts (is_same_tag tag (tag_of e.id)) (ap (is_same_tag tag) same ∙ same-tag tag) h),
  others-entries tag es (omega (arith, h)),
)
  where
    counts : (t : Bool) → t ≡ true → cond t 1 0 + entries_of tag es ≡ 0 → ⊥
    counts true e h = omega (arith, h)
    counts false e h = cc

-- an entry that is in_buckets still is when another one of its bucket goes, but not the last
stays-lessened : (frame : Frame) (front back : List BusyBucket) (across height : ℕ) (b : Bucket) (e : Allocation)
    → IsInABucket frame (front ++ (busy_along across height (b ∷ []) ++ back)) e → IsInABucket frame (front ++ record { bucket = lessened_bucket b; across = across; height = height } ∷ back) e
stays-lessened frame front back across height b e in_buckets =
    let less : BusyBucket = record { bucket = lessened_bucket b; across = across; height = height } in
    let middle = busy_along across height (b ∷ []) in
    ⊎_elim
    (λ (h : StandsIn in_buckets.bucket front). let stays : IsInABucket frame (front ++ less ∷ back) e = record { bucket = in_buckets.bucket; stands = stands-front in_buckets.bucket front (less ∷ back) h; lies = in_buckets.lies } in stays)
    (λ (later : StandsIn in_buckets.bucket (middle ++ back)). ⊎_elim
    (λ (h : StandsIn in_buckets.bucket middle).
    let lies = subst (λ (busy : BusyBucket). LiesInBucket frame busy e) (sym (stands-one across height b in_buckets.bucket h)) in_buckets.lies in
    let stays : IsInABucket frame (front ++ less ∷ back) e = record {
      bucket = less;
      stands = stands-back less front (less ∷ back) (inl refl);
      lies = record { along = lies.along; width = lies.width; tag = lies.tag; given = lies.given; rectangle = lies.rectangle; wide = lies.wide; begins = lies.begins; ends = lies.ends };
    } in stays)
    (λ (h : StandsIn in_buckets.bucket back). let stays : IsInABucket frame (front ++ less ∷ back) e = record { bucket = in_buckets.bucket; stands = stands-back in_buckets.bucket front (less ∷ back) (inr h); lies = in_buckets.lies } in stays)
    (stands-parts in_buckets.bucket middle back later))
    (stands-parts in_buckets.bucket front (middle ++ back) in_buckets.stands)

-- an entry of another bucket is in_buckets when a bucket is emptied
stays-emptied : (frame : Frame) (front back : List BusyBucket) (across height : ℕ) (b : Bucket) (e : Allocation)
    → IsInABucket frame (front ++ (busy_along across height (b ∷ []) ++ back)) e → (tag_of e.id ≡ b.tag → ⊥) → IsInABucket frame (front ++ back) e
stays-emptied frame front back across height b e in_buckets other =
    let middle = busy_along across height (b ∷ []) in
    ⊎_elim
    (λ (h : StandsIn in_buckets.bucket front). let stays : IsInABucket frame (front ++ back) e = record { bucket = in_buckets.bucket; stands = stands-front in_buckets.bucket front back h; lies = in_buckets.lies } in stays)
    (λ (later : StandsIn in_buckets.bucket (middle ++ back)). ⊎_elim
    (λ (h : StandsIn in_buckets.bucket middle).
    let lies = subst (λ (busy : BusyBucket). LiesInBucket frame busy e) (sym (stands-one across height b in_buckets.bucket h)) in_buckets.lies in
    absurd {A = IsInABucket frame (front ++ back) e} (other lies.tag))
    (λ (h : StandsIn in_buckets.bucket back). let stays : IsInABucket frame (front ++ back) e = record { bucket = in_buckets.bucket; stands = stands-back in_buckets.bucket front back h; lies = in_buckets.lies } in stays)
    (stands-parts in_buckets.bucket middle back later))
    (stands-parts in_buckets.bucket front (middle ++ back) in_buckets.stands)

-- 1 where two tags are the same
abbrev hit_of : Tag → Tag → ℕ
hit_of tag other = cond (is_same_tag tag other) 1 0

-- a ledger without one entry of a bucket counts one less than the busy buckets
abbrev Counts : (front back : List BusyBucket) (across height : ℕ) (b : Bucket) (one other : List Allocation) → Tag → Type 0
Counts front back across height b one other tag =
    entries_of tag (one ++ other) + cond (is_same_tag tag b.tag) 1 0 ≡ live_of tag front + cond (is_same_tag tag b.tag) b.live 0 + live_of tag back

-- a ledger without one entry, counted
counts-without : (front back : List BusyBucket) (across height : ℕ) (b : Bucket) (one : List Allocation) (e : Allocation) (other : List Allocation) (tag : Tag) → tag_of e.id ≡ b.tag
    → entries_of tag (one ++ e ∷ other) ≡ live_of tag (front ++ (busy_along across height (b ∷ []) ++ back)) → Counts front back across height b one other tag
counts-without front back across height b one e other tag same h =
    let middle = busy_along across height (b ∷ []) in
    let hits = ap (hit_of tag) same in
    omega (arith, h, hits, entries_of-append tag one (e ∷ other), entries_of-append tag one other, live_of-append tag front (middle ++ back), live_of-append tag middle back, live-one tag across height b)

-- what is counted of the bucket's own tag
counts-own : (front back : List BusyBucket) (across height : ℕ) (b : Bucket) (one other : List Allocation)
    → live_of b.tag front ≡ 0 → live_of b.tag back ≡ 0 → Counts front back across height b one other b.tag → entries_of b.tag (one ++ other) + 1 ≡ b.live
counts-own front back across height b one other h k counts = own (is_same_tag b.tag b.tag) (same-tag b.tag) counts
  where
    own : (t : Bool) → t ≡ true → entries_of b.tag (one ++ other) + cond t 1 0 ≡ live_of b.tag front + cond t b.live 0 + live_of b.tag back → entries_of b.tag (one ++ other) + 1 ≡ b.live
    own true e c = omega (arith, h, k, c)
    own false e c = absurd (cc)

-- a ledger stays with busy buckets of which one was emptied by the return of its last entry
in_buckets-emptied : (frame : Frame) (front back : List BusyBucket) (across height : ℕ) (b : Bucket) (one : List Allocation) (e : Allocation) (other : List Allocation)
    → ((tag : Tag) → tag.number ≡ b.tag.number → live_of tag front ≡ 0) → ((tag : Tag) → tag.number ≡ b.tag.number → live_of tag back ≡ 0)
    → tag_of e.id ≡ b.tag → b.live ≤ 1
    → AreInBuckets frame (front ++ (busy_along across height (b ∷ []) ++ back)) (one ++ e ∷ other) → AreInBuckets frame (front ++ back) (one ++ other)
in_buckets-emptied frame front back across height b one e other none_front none_back same few in_buckets =
    let middle = busy_along across height (b ∷ []) in
    let counted = λ (tag : Tag). counts-without front back across height b one e other tag same (in_buckets.counted tag) in
    let own = counts-own front back across height b one other (none_front b.tag refl) (none_back b.tag refl) (counted b.tag) in
    let live : b.live ≡ 1 = omega arith in
    let others = Each-both (IsInABucket frame (front ++ (middle ++ back))) (λ (a : Allocation). tag_of a.id ≡ b.tag → ⊥) (one ++ other)
    (Each-remove_number (IsInABucket frame (front ++ (middle ++ back))) one e other in_buckets.placed) (others-entries b.tag (one ++ other) (omega (arith, own, live))) in
    record {
      counted = λ tag. omega (arith, live_of-append tag front back, counts tag (is_same_tag tag b.tag) live (counted tag));
      placed = Each-weaken (λ (a : Allocation). IsInABucket frame (front ++ (middle ++ back)) a × (tag_of a.id ≡ b.tag → ⊥)) (IsInABucket frame (front ++ back)) (one ++ other)
          (λ (a : Allocation) (h : IsInABucket frame (front ++ (middle ++ back)) a × (tag_of a.id ≡ b.tag → ⊥)). stays-emptied frame front back across height b a h.0 h.1) others;
      ordered = order-without frame one e other in_buckets.ordered;
    }
  where
    counts : (tag : Tag) (t : Bool) → b.live ≡ 1 → entries_of tag (one ++ other) + cond t 1 0 ≡ live_of tag front + cond t b.live 0 + live_of tag back
        → entries_of tag (one ++ other) ≡ live_of tag front + live_of tag back
    counts tag true l c = omega (arith, l, c)
    counts tag false l c = omega (arith, c)

-- a bucket with one item less, busy
abbrev less_bucket : ℕ → ℕ → Bucket → BusyBucket
less_bucket across height b = record { bucket = lessened_bucket b; across = across; height = height }

-- a bucket with items left is busy
busy-lessened : (across height : ℕ) (b : Bucket) → 2 ≤ b.live → busy_along across height (lessened_bucket b ∷ []) ≡ less_bucket across height b ∷ []
busy-lessened across height b many = by_test (is_idle_bucket (lessened_bucket b)) (never b.live many)
  where
    never : (n : ℕ) → 2 ≤ n → (n - 1 == 0) ≡ false
    never n h = grind arith

    by_test : (i : Bool) → i ≡ false → cond i [] (less_bucket across height b ∷ []) ≡ less_bucket across height b ∷ []
    by_test true e = absurd (cc)
    by_test false e = refl

-- a ledger stays with busy buckets of which one got back an item, but not the last
in_buckets-lessened : (frame : Frame) (front back : List BusyBucket) (across height : ℕ) (b : Bucket) (one : List Allocation) (e : Allocation) (other : List Allocation)
    → tag_of e.id ≡ b.tag → 2 ≤ b.live
    → AreInBuckets frame (front ++ (busy_along across height (b ∷ []) ++ back)) (one ++ e ∷ other)
    → AreInBuckets frame (front ++ (busy_along across height (lessened_bucket b ∷ []) ++ back)) (one ++ other)
in_buckets-lessened frame front back across height b one e other same many in_buckets =
    let middle = busy_along across height (b ∷ []) in
    let less : BusyBucket = record { bucket = lessened_bucket b; across = across; height = height } in
    let now : AreInBuckets frame (front ++ less ∷ back) (one ++ other) = record {
      counted = λ tag. omega (
        arith,
        live_of-append tag front (less ∷ back),
        counts tag (is_same_tag tag b.tag) (counts-without front back across height b one e other tag same (in_buckets.counted tag)),
      );
      placed = Each-weaken (IsInABucket frame (front ++ (middle ++ back))) (IsInABucket frame (front ++ less ∷ back)) (one ++ other)
          (λ (a : Allocation) (h : IsInABucket frame (front ++ (middle ++ back)) a). stays-lessened frame front back across height b a h)
          (Each-remove_number (IsInABucket frame (front ++ (middle ++ back))) one e other in_buckets.placed);
      ordered = order-without frame one e other in_buckets.ordered;
    } in
    subst (λ (bs : List BusyBucket). AreInBuckets frame (front ++ (bs ++ back)) (one ++ other)) (sym (busy-lessened across height b many)) now
  where
    counts : (tag : Tag) (t : Bool) → entries_of tag (one ++ other) + cond t 1 0 ≡ live_of tag front + cond t b.live 0 + live_of tag back
        → entries_of tag (one ++ other) ≡ live_of tag front + (cond t (b.live - 1) 0 + live_of tag back)
    counts tag true c = omega (arith, c, many)
    counts tag false c = omega (arith, c)

-- a ledger stays with busy buckets of which one got back an item that was taken out of it
pub in_buckets-returned : (frame : Frame) (front back : List BusyBucket) (across height : ℕ) (b : Bucket) (one : List Allocation) (e : Allocation) (other : List Allocation)
    → ((tag : Tag) → tag.number ≡ b.tag.number → live_of tag front ≡ 0) → ((tag : Tag) → tag.number ≡ b.tag.number → live_of tag back ≡ 0)
    → tag_of e.id ≡ b.tag
    → AreInBuckets frame (front ++ (busy_along across height (b ∷ []) ++ back)) (one ++ e ∷ other)
    → AreInBuckets frame (front ++ (busy_along across height (returned_bucket b ∷ []) ++ back)) (one ++ other)
in_buckets-returned frame front back across height b one e other none_front none_back same in_buckets =
    cond_both (nat_le b.live 1) (emptied_bucket b) (lessened_bucket b) (λ (c : Bucket). AreInBuckets frame (front ++ (busy_along across height (c ∷ []) ++ back)) (one ++ other))
    (λ (t : nat_le b.live 1 ≡ true). in_buckets-emptied frame front back across height b one e other none_front none_back same (leb-true b.live 1 t) in_buckets)
    (λ (t : nat_le b.live 1 ≡ false). in_buckets-lessened frame front back across height b one e other same (grind arith) in_buckets)
