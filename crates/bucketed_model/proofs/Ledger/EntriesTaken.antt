-- A ledger and busy buckets stay together when an item is taken.
use Rattle.std.proofs.Common.{◌≡◌, ℕ, ◌+◌, ◌*◌, ◌/◌, ◌%◌, ◌<◌, ◌≤◌, Bool, true, false, cond, List, [], ◌∷◌, ◌++◌, refl, ap, arith, sym, ◌∙◌, subst, inl, inr, ⊎_elim, ◌==◌, pos}
use Rattle.std.proofs.lemmas.Bool.{eqb-true}
use Rattle.std.proofs.lemmas.Int.{ints}
use Rattle.std.specs.Prelude.{◌≤ℤ◌, ℤ}
use Rattle.std.specs.List.{AllByRecursion}
use Rattle.etagere_base.proofs.EachLemmas.{Each-append, Each-weaken}
use Rattle.etagere_base.specs.declared.frames.Frame.{Frame}
use Rattle.etagere_base.specs.declared.geometry.Rectangle.{Rectangle}
use Rattle.etagere_base.specs.declared.ids.Allocation.{Allocation}
use Rattle.etagere_base.specs.Places.{rectangle_at}
use Rattle.etagere_base.specs.Rectangles.{place_along}
use Rattle.bucketed_model.specs.Returning.{given_of, is_same_tag, tag_of}
use Rattle.bucketed_model.specs.State.{Bucket, Tag, is_idle_bucket}
use Rattle.bucketed_model.specs.Taking.{id_of, taken_bucket}
use Rattle.bucketed_model.specs.Tied.{AreInBuckets, AreInOrder, BusyBucket, IsInABucket, LiesInBucket, Precedes, StandsIn, busy_along, live_of}
use Rattle.bucketed_model.proofs.Ledger.Entries.{entries_of-append, live_of-append, same-tag, stands-back, stands-front, stands-parts}
use Rattle.bucketed_model.proofs.Ledger.EntriesSeen.{IsBusy}

-- what is live of a tag in one bucket
pub live-one : (tag : Tag) (across height : ℕ) (b : Bucket) → live_of tag (busy_along across height (b ∷ [])) ≡ cond (is_same_tag tag b.tag) b.live 0
live-one tag across height b = by_tests (is_idle_bucket b) (is_same_tag tag b.tag) refl refl
  where
    by_tests : (i t : Bool) → is_idle_bucket b ≡ i → is_same_tag tag b.tag ≡ t
        → live_of tag (cond i [] (record { bucket = b; across = across; height = height } ∷ [])) ≡ cond t b.live 0
    by_tests true true e k = sym (eqb-true b.live 0 e)
    by_tests true false e k = refl
    by_tests false true e k = rw k (omega arith)
    by_tests false false e k = rw k (omega arith)

-- a bucket that is the only one of buckets is it
pub stands-one : (across height : ℕ) (b : Bucket) (busy : BusyBucket) → StandsIn busy (busy_along across height (b ∷ []))
    → record { bucket = b; across = across; height = height } ≡ busy
stands-one across height b busy h = by_test (is_idle_bucket b) h
  where
    by_test : (i : Bool) → StandsIn busy (cond i [] (record { bucket = b; across = across; height = height } ∷ [])) → record { bucket = b; across = across; height = height } ≡ busy
    by_test true h = absurd h
    by_test false h = ⊎_elim (λ (e : record { bucket = b; across = across; height = height } ≡ busy). e) (λ (none : ⊥). absurd none) h

-- a busy bucket of a tag has something live of it
pub stands-live : (tag : Tag) (busy : BusyBucket) (xs : List BusyBucket) → busy.bucket.tag ≡ tag → AllByRecursion IsBusy xs → StandsIn busy xs → 1 ≤ live_of tag xs
stands-live tag busy [] e each h = absurd h
stands-live tag busy (x ∷ xs) e each h =
    ⊎_elim
    (λ (here : x ≡ busy).
    let same : is_same_tag tag x.bucket.tag ≡ true = subst (λ (t : Tag). is_same_tag tag t ≡ true) (sym (ap (λ (b : BusyBucket). b.bucket.tag) here ∙ e)) (same-tag tag) in
    counts (is_same_tag tag x.bucket.tag) same)
    (λ (later : StandsIn busy xs). omega (arith, stands-live tag busy xs e each.1 later)) h
  where
    counts : (t : Bool) → t ≡ true → 1 ≤ cond t x.bucket.live 0 + live_of tag xs
    counts true e = omega (arith, each.0)
    counts false e = absurd (cc)

-- an order of entries goes on with one behind
pub order-append : (frame : Frame) (entries : List Allocation) (a : Allocation) → AreInOrder frame entries
    → AllByRecursion (λ (e : Allocation). tag_of e.id ≡ tag_of a.id → Precedes frame e a) entries → AreInOrder frame (entries ++ a ∷ [])
order-append frame [] a order each = (tt, tt)
order-append frame (e ∷ es) a order each = (
  Each-append (λ (later : Allocation). tag_of e.id ≡ tag_of later.id → Precedes frame e later) es (a ∷ []) order.0 (each.0, tt),
  order-append frame es a order.1 each.1,
)

-- where a rectangle begins along the shelves
pub begins-along : (frame : Frame) (along across width height : ℕ) → place_along frame.vertical (rectangle_at frame along across width height).min ≡ pos along
begins-along frame along across width height = by_turn frame.vertical refl
  where
    by_turn : (b : Bool) → frame.vertical ≡ b → place_along frame.vertical (rectangle_at frame along across width height).min ≡ pos along
    by_turn true e = rw e refl
    by_turn false e = rw e refl

-- where it ends
pub ends-along : (frame : Frame) (along across width height : ℕ) → place_along frame.vertical (rectangle_at frame along across width height).max ≡ pos (along + width)
ends-along frame along across width height = by_turn frame.vertical refl
  where
    by_turn : (b : Bool) → frame.vertical ≡ b → place_along frame.vertical (rectangle_at frame along across width height).max ≡ pos (along + width)
    by_turn true e = rw e refl
    by_turn false e = rw e refl

-- a number below 4096 behind more of them
least-part : (n rest : ℕ) → n < 4096 → (n + 4096 * rest) % 4096 ≡ n
least-part n rest h = omega arith

-- the rest behind it
high-part : (n rest : ℕ) → n < 4096 → (n + 4096 * rest) / 4096 ≡ rest
high-part n rest h = omega arith

-- the number behind two of them
third-part : (n g rest : ℕ) → n < 4096 → g < 4096 → (n + 4096 * g + 16777216 * rest) / 16777216 ≡ rest
third-part n g rest h k = omega arith

-- the parts of an id
pub id-parts : (tag : Tag) (given : ℕ) → tag.number < 4095 → given < 4096 → (tag_of (id_of tag given) ≡ tag) × (given_of (id_of tag given) ≡ given)
id-parts tag given least few =
    let whole : id_of tag given ≡ tag.number + 4096 * (given + 4096 * tag.generation) = omega arith in
    let number : id_of tag given % 4096 ≡ tag.number = ap (λ (n : ℕ). n % 4096) whole ∙ least-part tag.number (given + 4096 * tag.generation) (omega arith) in
    let generation : id_of tag given / 16777216 ≡ tag.generation = third-part tag.number given tag.generation (omega arith) few in
    let rest : id_of tag given / 4096 ≡ given + 4096 * tag.generation = ap (λ (n : ℕ). n / 4096) whole ∙ high-part tag.number (given + 4096 * tag.generation) (omega arith) in (
      ap (λ (n : ℕ). let tag' : Tag = record { number = n; generation = id_of tag given / 16777216 } in tag') number
          ∙ ap (λ (n : ℕ). let tag' : Tag = record { number = tag.number; generation = n } in tag') generation,
      ap (λ (n : ℕ). n % 4096) rest ∙ least-part given tag.generation few,
    )

-- what an item that is taken is given
pub record IsNext (frame : Frame) (across height item : ℕ) (b : Bucket) (a : Allocation) : Type 0 where
  pub id : a.id ≡ id_of b.tag (b.given + 1)
  pub rectangle : a.rectangle ≡ rectangle_at frame (b.place + b.used) across item height
  pub wide : 1 ≤ item
  pub least : b.tag.number < 4095
  pub few : b.given < 4095

-- a bucket after it gave an item, busy
abbrev given_bucket : ℕ → ℕ → ℕ → Bucket → BusyBucket
given_bucket across height item b = record { bucket = taken_bucket item b; across = across; height = height }

-- a bucket that gave an item is busy
busy-given : (across height item : ℕ) (b : Bucket) → busy_along across height (taken_bucket item b ∷ []) ≡ given_bucket across height item b ∷ []
busy-given across height item b = by_test (is_idle_bucket (taken_bucket item b)) (never b.live)
  where
    never : (n : ℕ) → (n + 1 == 0) ≡ false
    never n = grind arith

    by_test : (i : Bool) → i ≡ false → cond i [] (given_bucket across height item b ∷ []) ≡ given_bucket across height item b ∷ []
    by_test true e = absurd (cc)
    by_test false e = refl

-- an entry that lies in a bucket still does when that gave an item
lies-given : (frame : Frame) (across height item : ℕ) (b : Bucket) (e : Allocation) → LiesInBucket frame (record { bucket = b; across = across; height = height }) e
    → LiesInBucket frame (given_bucket across height item b) e
lies-given frame across height item b e lies = record {
  along = lies.along;
  width = lies.width;
  tag = lies.tag;
  given = (lies.given.0, omega (arith, lies.given.1));
  rectangle = lies.rectangle;
  wide = lies.wide;
  begins = lies.begins;
  ends = omega (arith, lies.ends);
}

-- a new entry lies in the bucket that gave it
lies-new : (frame : Frame) (across height item : ℕ) (b : Bucket) (a : Allocation) → IsNext frame across height item b a → LiesInBucket frame (given_bucket across height item b) a
lies-new frame across height item b a next =
    let parts = id-parts b.tag (b.given + 1) next.least (omega (arith, next.few)) in
    let number = ap given_of next.id ∙ parts.1 in
    record {
      along = b.place + b.used;
      width = item;
      tag = ap tag_of next.id ∙ parts.0;
      given = (omega (arith, number), omega (arith, number));
      rectangle = next.rectangle;
      wide = next.wide;
      begins = omega arith;
      ends = omega arith;
    }

-- an entry of the same bucket precedes a new one
precedes-new : (frame : Frame) (across height item : ℕ) (b : Bucket) (e a : Allocation) → LiesInBucket frame (record { bucket = b; across = across; height = height }) e
    → IsNext frame across height item b a → Precedes frame e a
precedes-new frame across height item b e a lies next =
    let parts = id-parts b.tag (b.given + 1) next.least (omega (arith, next.few)) in
    let number = ap given_of next.id ∙ parts.1 in
    let from = ap (λ (r : Rectangle). place_along frame.vertical r.max) lies.rectangle ∙ ends-along frame lies.along across lies.width height in
    let to = ap (λ (r : Rectangle). place_along frame.vertical r.min) next.rectangle ∙ begins-along frame (b.place + b.used) across item height in
    record {
      given = omega (arith, lies.given.1, number);
      place = subst (λ (z : ℤ). z ≤ℤ place_along frame.vertical a.rectangle.min) (sym from)
          (subst (λ (z : ℤ). pos (lies.along + lies.width) ≤ℤ z) (sym to) (omega (arith, ints, lies.ends)));
    }

-- an entry that is in_buckets still is when a bucket gave an item
stays-given : (frame : Frame) (front back : List BusyBucket) (across height item : ℕ) (b : Bucket) (e : Allocation)
    → IsInABucket frame (front ++ (busy_along across height (b ∷ []) ++ back)) e → IsInABucket frame (front ++ given_bucket across height item b ∷ back) e
stays-given frame front back across height item b e in_buckets =
    let given = given_bucket across height item b in
    let middle = busy_along across height (b ∷ []) in
    ⊎_elim
    (λ (h : StandsIn in_buckets.bucket front). let stays : IsInABucket frame (front ++ given ∷ back) e = record { bucket = in_buckets.bucket; stands = stands-front in_buckets.bucket front (given ∷ back) h; lies = in_buckets.lies } in stays)
    (λ (later : StandsIn in_buckets.bucket (middle ++ back)). ⊎_elim
    (λ (h : StandsIn in_buckets.bucket middle).
    let same = stands-one across height b in_buckets.bucket h in
    let stays : IsInABucket frame (front ++ given ∷ back) e = record {
      bucket = given;
      stands = stands-back given front (given ∷ back) (inl refl);
      lies = lies-given frame across height item b e (subst (λ (busy : BusyBucket). LiesInBucket frame busy e) (sym same) in_buckets.lies);
    } in stays)
    (λ (h : StandsIn in_buckets.bucket back). let stays : IsInABucket frame (front ++ given ∷ back) e = record { bucket = in_buckets.bucket; stands = stands-back in_buckets.bucket front (given ∷ back) (inr h); lies = in_buckets.lies } in stays)
    (stands-parts in_buckets.bucket middle back later))
    (stands-parts in_buckets.bucket front (middle ++ back) in_buckets.stands)

-- an entry of the bucket that gave an item precedes the new one
precedes-given : (frame : Frame) (front back : List BusyBucket) (across height item : ℕ) (b : Bucket) (e a : Allocation)
    → ((tag : Tag) → tag.number ≡ b.tag.number → live_of tag front ≡ 0) → ((tag : Tag) → tag.number ≡ b.tag.number → live_of tag back ≡ 0)
    → AllByRecursion IsBusy front → AllByRecursion IsBusy back → IsNext frame across height item b a
    → IsInABucket frame (front ++ (busy_along across height (b ∷ []) ++ back)) e → tag_of e.id ≡ tag_of a.id → Precedes frame e a
precedes-given frame front back across height item b e a none_front none_back live_front live_back next in_buckets same =
    let middle = busy_along across height (b ∷ []) in
    let tag : in_buckets.bucket.bucket.tag ≡ b.tag = sym in_buckets.lies.tag ∙ same ∙ (lies-new frame across height item b a next).tag in
    ⊎_elim
    (λ (h : StandsIn in_buckets.bucket front). absurd {A = Precedes frame e a} (omega (arith, none_front b.tag refl, stands-live b.tag in_buckets.bucket front tag live_front h)))
    (λ (later : StandsIn in_buckets.bucket (middle ++ back)). ⊎_elim
    (λ (h : StandsIn in_buckets.bucket middle).
    precedes-new frame across height item b e a (subst (λ (busy : BusyBucket). LiesInBucket frame busy e) (sym (stands-one across height b in_buckets.bucket h)) in_buckets.lies) next)
    (λ (h : StandsIn in_buckets.bucket back). absurd {A = Precedes frame e a} (omega (arith, none_back b.tag refl, stands-live b.tag in_buckets.bucket back tag live_back h)))
    (stands-parts in_buckets.bucket middle back later))
    (stands-parts in_buckets.bucket front (middle ++ back) in_buckets.stands)

-- a ledger stays with busy buckets of which one gave an item that was added to it
pub in_buckets-given : (frame : Frame) (front back : List BusyBucket) (across height item : ℕ) (b : Bucket) (entries : List Allocation) (a : Allocation)
    → ((tag : Tag) → tag.number ≡ b.tag.number → live_of tag front ≡ 0) → ((tag : Tag) → tag.number ≡ b.tag.number → live_of tag back ≡ 0)
    → AllByRecursion IsBusy front → AllByRecursion IsBusy back → IsNext frame across height item b a
    → AreInBuckets frame (front ++ (busy_along across height (b ∷ []) ++ back)) entries
    → AreInBuckets frame (front ++ (busy_along across height (taken_bucket item b ∷ []) ++ back)) (entries ++ a ∷ [])
in_buckets-given frame front back across height item b entries a none_front none_back live_front live_back next in_buckets =
    let given = given_bucket across height item b in
    let lies = lies-new frame across height item b a next in
    let middle = busy_along across height (b ∷ []) in
    let now : AreInBuckets frame (front ++ given ∷ back) (entries ++ a ∷ []) = record {
      counted = λ tag. omega (
        arith,
        in_buckets.counted tag,
        entries_of-append tag entries (a ∷ []),
        live_of-append tag front (middle ++ back),
        live_of-append tag middle back,
        live_of-append tag front (given ∷ back),
        live-one tag across height b,
        counts tag (is_same_tag tag b.tag) (is_same_tag tag (tag_of a.id)) (ap (is_same_tag tag) lies.tag),
      );
      placed = Each-append (IsInABucket frame (front ++ given ∷ back)) entries (a ∷ [])
          (Each-weaken (IsInABucket frame (front ++ (middle ++ back))) (IsInABucket frame (front ++ given ∷ back)) entries (λ (e : Allocation) (h : IsInABucket frame (front ++ (middle ++ back)) e). stays-given frame front back across height item b e h) in_buckets.placed)
          (record { bucket = given; stands = stands-back given front (given ∷ back) (inl refl); lies = lies }, tt);
      ordered = order-append frame entries a in_buckets.ordered
          (Each-weaken (IsInABucket frame (front ++ (middle ++ back))) (λ (e : Allocation). tag_of e.id ≡ tag_of a.id → Precedes frame e a) entries
          (λ (e : Allocation) (h : IsInABucket frame (front ++ (middle ++ back)) e). precedes-given frame front back across height item b e a none_front none_back live_front live_back next h) in_buckets.placed);
    } in
    subst (λ (bs : List BusyBucket). AreInBuckets frame (front ++ (bs ++ back)) (entries ++ a ∷ [])) (sym (busy-given across height item b)) now
  where
    counts : (tag : Tag) (t s : Bool) → s ≡ t → cond t (b.live + 1) 0 ≡ cond t b.live 0 + cond s 1 0
    counts tag true true e = refl
    counts tag true false e = absurd (cc)
    counts tag false true e = absurd (cc)
    counts tag false false e = refl
