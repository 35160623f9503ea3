-- Of a ledger that is tied to a state: its ids differ and are known, each bucket holds as many as are live, and with no
-- entry the state is that of a new atlas.
use Rattle.std.proofs.Common.{◌≡◌, ℕ, ◌+◌, ◌≤◌, Bool, true, false, cond, List, [], ◌∷◌, ◌++◌, map, refl, ap, arith, sym, ◌∙◌, subst, ◌==◌, ◌||◌, ◌&&◌, append_assoc, take, length}
use Rattle.std.proofs.Math.Seq.{take-append_seam}
use Rattle.std.proofs.lemmas.Bool.{eqb-true}
use Rattle.std.specs.List.{AllByRecursion, list_all, list_any}
use Rattle.std.specs.Prelude.{nat_le, nat_lt}
use Rattle.etagere_base.proofs.EachLemmas.{Each-weaken}
use Rattle.etagere_base.specs.declared.frames.Frame.{Frame}
use Rattle.etagere_base.specs.declared.ids.Allocation.{Allocation}
use Rattle.etagere_base.specs.Lists.{times}
use Rattle.bucketed_model.specs.Picking.{Spot}
use Rattle.bucketed_model.specs.Returning.{given_of, is_giver, is_known, is_same_tag, tag_of}
use Rattle.bucketed_model.specs.State.{Bucket, BucketShelf, BucketedState, Tag, column_height, fresh, is_idle, is_idle_bucket}
use Rattle.bucketed_model.specs.Tied.{AreInOrder, AreTied, BusyBucket, IsInABucket, LiesInBucket, Precedes, busy_after, busy_along, busy_buckets, entries_of, live_of}
use Rattle.bucketed_model.proofs.Shelving.Ends.{idle-fresh}
use Rattle.bucketed_model.proofs.Ledger.EntriesApart.{each-stands}
use Rattle.bucketed_model.proofs.Ledger.Entries.{live_of-append, same-tag}
use Rattle.bucketed_model.proofs.Ledger.EntriesTaken.{live-one}
use Rattle.bucketed_model.proofs.Ledger.EntriesSeen.{IsBusy, live-after, spot-view}
use Rattle.bucketed_model.proofs.Validity.Spots.{IsSpot}
use Rattle.bucketed_model.proofs.Ledger.TiedReturned.{has-spot}

-- the ids of entries
abbrev pub ids_of : List Allocation → List ℕ
ids_of entries = map (λ (e : Allocation). e.id) entries

-- an id that no entry has doesn't stand among theirs
times-none : (id : ℕ) (entries : List Allocation) → AllByRecursion (λ (e : Allocation). e.id ≡ id → ⊥) entries → times id (ids_of entries) ≡ 0
times-none id [] others = refl
times-none id (e ∷ es) others = none (e.id == id) refl (times-none id es others.1)
  where
    none : (b : Bool) → (e.id == id) ≡ b → times id (ids_of es) ≡ 0 → cond b 1 0 + times id (ids_of es) ≡ 0
    none true t h = absurd (others.0 (eqb-true e.id id t))
    none false t h = omega (arith, h)

-- ids in order differ
order-ids : (frame : Frame) (entries : List Allocation) → AreInOrder frame entries → (id : ℕ) → times id (ids_of entries) ≤ 1
order-ids frame [] order id = omega arith
order-ids frame (e ∷ es) order id = by_test (e.id == id) refl (order-ids frame es order.1 id)
  where
    others : e.id ≡ id → AllByRecursion (λ (a : Allocation). a.id ≡ id → ⊥) es
    others same =
        Each-weaken (λ (a : Allocation). tag_of e.id ≡ tag_of a.id → Precedes frame e a) (λ (a : Allocation). a.id ≡ id → ⊥) es
        (λ (a : Allocation) (h : tag_of e.id ≡ tag_of a.id → Precedes frame e a) (k : a.id ≡ id).
        let equal : e.id ≡ a.id = same ∙ sym k in
        let order = (h (ap tag_of equal)).given in
        let given : given_of e.id ≡ given_of a.id = ap given_of equal in
        absurd {A = ⊥} (omega (arith, order, given))) order.0

    by_test : (b : Bool) → (e.id == id) ≡ b → times id (ids_of es) ≤ 1 → cond b 1 0 + times id (ids_of es) ≤ 1
    by_test true t h = omega (arith, times-none id es (others (eqb-true e.id id t)))
    by_test false t h = omega (arith, h)

-- the ids of what is live differ
pub tied-ids : (entries : List Allocation) (state : BucketedState) → AreTied entries state → (id : ℕ) → times id (ids_of entries) ≤ 1
tied-ids entries state tied id = order-ids state.frame entries tied.in_buckets.ordered id

-- a test that one of a list passes
any-middle : {X : Type 0} (test : X → Bool) (xs : List X) (y : X) (ys : List X) → test y ≡ true → list_any test (xs ++ y ∷ ys) ≡ true
any-middle test [] y ys h = rw h refl
any-middle test (x ∷ xs) y ys h = or_later (test x) (any-middle test xs y ys h)
  where
    or_later : (b : Bool) → list_any test (xs ++ y ∷ ys) ≡ true → (b || list_any test (xs ++ y ∷ ys)) ≡ true
    or_later true k = refl
    or_later false k = k

-- the bucket of an entry gave it
gives : (frame : Frame) (busy : BusyBucket) (e : Allocation) → 1 ≤ busy.bucket.live → LiesInBucket frame busy e → is_giver e.id busy.bucket ≡ true
gives frame busy e live lies =
    passes (is_same_tag (tag_of e.id) busy.bucket.tag)
    (subst (λ (tag : Tag). is_same_tag (tag_of e.id) tag ≡ true) lies.tag (same-tag (tag_of e.id)))
    busy.bucket.live (given_of e.id) busy.bucket.given live lies.given.0 lies.given.1
  where
    passes : (t : Bool) → t ≡ true → (live n given : ℕ) → 1 ≤ live → 1 ≤ n → n ≤ given → (t && (nat_lt 0 live && (nat_lt 0 n && nat_le n given))) ≡ true
    passes true e live n given a b c = grind arith
    passes false e live n given a b c = absurd (cc)

-- what is live is known
pub tied-known : (entries : List Allocation) (state : BucketedState) → AreTied entries state → AllByRecursion (λ (e : Allocation). is_known state e.id ≡ true) entries
tied-known entries state tied =
    let busy = busy_buckets state.shelves in
    Each-weaken (IsInABucket state.frame busy) (λ (e : Allocation). is_known state e.id ≡ true) entries
    (λ (e : Allocation) (in_buckets : IsInABucket state.frame busy e).
    let at = has-spot [] state.shelves in_buckets.bucket in_buckets.stands in
    let live = each-stands IsBusy in_buckets.bucket busy in_buckets.stands (live-after [] state.shelves) in
    let gave = gives state.frame in_buckets.bucket e live in_buckets.lies in
    let test = λ (shelf : BucketShelf). list_any (is_giver e.id) shelf.buckets in
    let inside : test at.shelf ≡ true = ap (list_any (is_giver e.id)) at.one.whole ∙ any-middle (is_giver e.id) at.one.left in_buckets.bucket.bucket at.one.right gave in
    ap (list_any test) at.whole ∙ any-middle test at.front at.shelf at.back inside) tied.in_buckets.placed

-- a bucket that is left as it is
keep : Bucket → Bucket
keep bucket = bucket

-- a bucket's live count is the number of entries with its tag
tied-counts : (entries : List Allocation) (state : BucketedState) (spot : Spot) → AreTied entries state → IsSpot state.shelves spot → entries_of spot.bucket.tag entries ≡ spot.bucket.live
tied-counts entries state spot tied at =
    let view = spot-view state.shelves spot keep at tied.valid.shelves.numbers in
    let tag = spot.bucket.tag in
    let middle = busy_along view.across spot.shelf.height (spot.bucket ∷ []) in
    let total : live_of tag (busy_buckets state.shelves) ≡ live_of tag (view.front ++ (middle ++ view.back)) = ap (live_of tag) view.old in
    omega (
      arith,
      tied.in_buckets.counted tag,
      total,
      live_of-append tag view.front (middle ++ view.back),
      live_of-append tag middle view.back,
      own (is_same_tag tag tag) (same-tag tag) (live-one tag view.across spot.shelf.height spot.bucket),
      view.before_none tag refl,
      view.behind_none tag refl,
    )
  where
    own : (t : Bool) → t ≡ true → {n : ℕ} → n ≡ cond t spot.bucket.live 0 → n ≡ spot.bucket.live
    own true e h = h
    own false e h = absurd (cc)

-- buckets of which none is busy are idle
idle-along : (across height : ℕ) (bs : List Bucket) → busy_along across height bs ≡ [] → list_all is_idle_bucket bs ≡ true
idle-along across height [] h = refl
idle-along across height (b ∷ bs) h = by_test (is_idle_bucket b) refl h (idle-along across height bs)
  where
    by_test : (i : Bool) → is_idle_bucket b ≡ i → cond i (busy_along across height bs) (record { bucket = b; across = across; height = height } ∷ busy_along across height bs) ≡ []
        → (busy_along across height bs ≡ [] → list_all is_idle_bucket bs ≡ true) → (is_idle_bucket b && list_all is_idle_bucket bs) ≡ true
    by_test true e k rest = rw (e, rest k) refl
    by_test false e k rest = absurd (cc)

-- two lists that are empty end to end
nil-parts : (xs ys : List BusyBucket) → xs ++ ys ≡ [] → (xs ≡ []) × (ys ≡ [])
nil-parts [] ys h = (refl, h)
nil-parts (x ∷ xs) ys h = absurd (cc)

-- shelves of which no bucket is busy are idle
pub idle-after : (before xs : List BucketShelf) → busy_after before xs ≡ [] → list_all is_idle xs ≡ true
idle-after before [] h = refl
idle-after before (x ∷ xs) h =
    let parts = nil-parts (busy_along (column_height x.column before) x.height x.buckets) (busy_after (before ++ x ∷ []) xs) h in
    rw (idle-along (column_height x.column before) x.height x.buckets parts.0, idle-after (before ++ x ∷ []) xs parts.1) refl

-- busy buckets of which nothing is live are none
none-live : (busy : List BusyBucket) → AllByRecursion IsBusy busy → ((tag : Tag) → 0 ≡ live_of tag busy) → busy ≡ []
none-live [] each none = refl
none-live (x ∷ xs) each none = absurd (counts (is_same_tag x.bucket.tag x.bucket.tag) (same-tag x.bucket.tag) (none x.bucket.tag))
  where
    counts : (t : Bool) → t ≡ true → 0 ≡ cond t x.bucket.live 0 + live_of x.bucket.tag xs → ⊥
    counts true e h = omega (arith, h, each.0)
    counts false e h = cc

-- with nothing live the state is that of a new atlas of the present frame
pub tied-empty : (state : BucketedState) → AreTied [] state → state ≡ fresh state.frame
tied-empty state tied =
    idle-fresh state tied.valid
    (idle-after [] state.shelves (none-live (busy_buckets state.shelves) (live-after [] state.shelves) tied.in_buckets.counted))

-- a fact of the bucket of each spot is one of each bucket
each-spot : (P : Bucket → Type 0) (shelves front : List BucketShelf) (xs : List BucketShelf) → shelves ≡ front ++ xs
    → ((spot : Spot) → IsSpot shelves spot → P spot.bucket) → AllByRecursion (λ (x : BucketShelf). AllByRecursion P x.buckets) xs
each-spot P shelves front [] whole all = tt
each-spot P shelves front (x ∷ xs) whole all =
    (each-bucket [] x.buckets refl, each-spot P shelves (front ++ x ∷ []) xs (whole ∙ sym (append_assoc front (x ∷ []) xs)) all)
  where
    each-bucket : (left bs : List Bucket) → x.buckets ≡ left ++ bs → AllByRecursion P bs
    each-bucket left [] e = tt
    each-bucket left (b ∷ bs) e = (
      all (record { number = length front; shelf = x; bucket = b })
          (record { front = front; back = xs; left = left; right = bs; before = ap (take (length front)) whole ∙ take-append_seam front (x ∷ xs); whole = whole; buckets = e }),
      each-bucket (left ++ b ∷ []) bs (e ∙ sym (append_assoc left (b ∷ []) bs)),
    )

-- each bucket's live count is the number of entries with its tag
pub tied-each : (entries : List Allocation) (state : BucketedState) → AreTied entries state
    → AllByRecursion (λ (shelf : BucketShelf). AllByRecursion (λ (bucket : Bucket). entries_of bucket.tag entries ≡ bucket.live) shelf.buckets) state.shelves
tied-each entries state tied =
    each-spot (λ (bucket : Bucket). entries_of bucket.tag entries ≡ bucket.live) state.shelves [] state.shelves refl
    (λ (spot : Spot) (at : IsSpot state.shelves spot). tied-counts entries state spot tied at)
