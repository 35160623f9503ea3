-- What the rest of a row of buckets can give: how the widest room follows that of each bucket.
use Rattle.std.proofs.Common.{◌≡◌, ℕ, zero, suc, ◌≤◌, ◌<◌, Bool, true, false, cond, Option, None, Some, List, [], ◌∷◌, max, refl, ap, sym, ◌∙◌, arith, ◌==◌}
use Rattle.std.proofs.lemmas.Bool.{eqb-true}
use Rattle.std.specs.Option.{option_map_or}
use Rattle.std.specs.Prelude.{nat_lt, option_map, slice_get, ⊤}
use Rattle.etagere_links.specs.Edits.{changed_by}
use Rattle.etagere_links.proofs.RecordChanges.{get-changed_by, get-changed_by-other}
use Rattle.bucketed_model.specs.State.{most_buckets}
use Rattle.bucketed_records.specs.declared.records.LinkedBucket.{LinkedBucket}
use Rattle.bucketed_records.specs.Private.Store.{record_room}
use Rattle.bucket_index.specs.declared.rest.Rest.{Rest}
use Rattle.bucket_index.specs.Private.Rest.{IsAtMost, IsBounded, IsRest, IsRowIfAny, emptied, few_of, full_record, links_of, room_behind, widest_of_rest}
use Rattle.bucket_index.specs.Private.Searching.{widest_from}
use Rattle.bucket_index.specs.Private.Spans.{room_at}
use Rattle.bucket_index.proofs.KnownSpans.{room-at}
use Rattle.bucket_index.proofs.StandingBuckets.{row-changed}

-- a record has no more room than another, and leads where that does
pub record IsLess (one other : LinkedBucket) : Type 0 where
  pub room : record_room one ≤ record_room other
  pub next : one.next ≡ other.next

-- the same of records that may be there
abbrev pub IsLessAt : Option LinkedBucket → Option LinkedBucket → Type 0
IsLessAt None other = other ≡ None
IsLessAt (Some one) None = ⊥
IsLessAt (Some one) (Some other) = IsLess one other

-- the widest from a link on is no more where no record has more room
pub widest-less : (steps : ℕ) (bs cs : List LinkedBucket) (at : Option ℕ) → ((k : ℕ) → IsLessAt (slice_get bs k) (slice_get cs k)) → widest_from steps bs at ≤ widest_from steps cs at
widest-less zero bs cs at less = omega arith
widest-less (suc steps) bs cs None less = omega arith
widest-less (suc steps) bs cs (Some k) less = by_found (λ next. widest-less steps bs cs next less) (slice_get bs k) (slice_get cs k) (less k)
  where
    wide : List LinkedBucket → Option LinkedBucket → ℕ
    wide buckets found = option_map_or (λ (bucket : LinkedBucket). max (record_room bucket) (widest_from steps buckets bucket.next)) found 0

    by_found : ((next : Option ℕ) → widest_from steps bs next ≤ widest_from steps cs next) → (x y : Option LinkedBucket) → IsLessAt x y → wide bs x ≤ wide cs y
    by_found later None y same = omega arith
    by_found later (Some x) None never = absurd never
    by_found later (Some x) (Some y) is =
        let rest : widest_from steps bs x.next ≤ widest_from steps cs y.next = rw is.next (later y.next) in
        omega (arith, is.room, rest)

-- a record is no more than itself
same-at : (o : Option LinkedBucket) → IsLessAt o o
same-at None = refl
same-at (Some x) = record { room = omega arith; next = refl }

-- one number is not another
apart : (k n : ℕ) → k ≡ n → (k == n) ≡ false → ⊥
apart k n same h = grind arith

-- what is read where an element was changed
own : (n : ℕ) (f : LinkedBucket → LinkedBucket) (bs : List LinkedBucket) → slice_get (changed_by (Some n) f bs) n ≡ option_map f (slice_get bs n)
own n f bs = get-changed_by f bs (Some n) n refl

-- what is read elsewhere
elsewhere : (n k : ℕ) (f : LinkedBucket → LinkedBucket) (bs : List LinkedBucket) → (k == n) ≡ false → slice_get (changed_by (Some n) f bs) k ≡ slice_get bs k
elsewhere n k f bs e = get-changed_by-other f bs (Some n) k (λ (is : Some n ≡ Some k). let same : k ≡ n = cc in absurd (apart k n same e))

-- no record has more room where that of a number has not, and the others are the same
less-where : (n : ℕ) (bs cs : List LinkedBucket) → IsLessAt (slice_get bs n) (slice_get cs n) → ((k : ℕ) → (k == n) ≡ false → IsLessAt (slice_get bs k) (slice_get cs k)) → (k : ℕ)
    → IsLessAt (slice_get bs k) (slice_get cs k)
less-where n bs cs here there k = by_number (k == n) refl
  where
    by_number : (t : Bool) → (k == n) ≡ t → IsLessAt (slice_get bs k) (slice_get cs k)
    by_number true e = rw (eqb-true k n e) here
    by_number false e = there k e

-- a full record has no room
full-room : (x : LinkedBucket) → record_room (full_record x) ≡ 0
full-room x = by_test 0 refl (nat_lt x.item_count 4095)
  where
    by_test : (n : ℕ) → n ≡ 0 → (t : Bool) → cond t n n ≡ 0
    by_test n none true = none
    by_test n none false = none

-- a full record leads where it did, and has no more room
full-less : (o : Option LinkedBucket) → IsLessAt (option_map full_record o) o
full-less None = refl
full-less (Some x) = record { room = omega (arith, full-room x); next = refl }

-- the rest of a row can give no more than the row
pub rest-less : (n : ℕ) (first : Option ℕ) (bs : List LinkedBucket) → widest_from most_buckets (changed_by (Some n) full_record bs) first ≤ widest_from most_buckets bs first
rest-less n first bs =
    widest-less most_buckets (changed_by (Some n) full_record bs) bs first
    (less-where n (changed_by (Some n) full_record bs) bs (rw (own n full_record bs) (full-less (slice_get bs n))) (λ k e. rw (elsewhere n k full_record bs e) (same-at (slice_get bs k))))

-- a width that was, and the one after a bucket of this room was lowered: it is no more, and it is the same unless the
-- bucket was the widest
pub record IsLowered (room new old : ℕ) : Type 0 where
  pub less : new ≤ old
  pub rest : old ≤ max new room

-- the widest after a bucket was lowered that keeps its link
pub widest-lowered : (f : LinkedBucket → LinkedBucket) → ((x : LinkedBucket) → (f x).next ≡ x.next) → ((x : LinkedBucket) → record_room (f x) ≤ record_room x) → (steps n : ℕ) (bs : List LinkedBucket) (b : LinkedBucket) (at : Option ℕ) → slice_get bs n ≡ Some b
    → IsLowered (record_room b) (widest_from steps (changed_by (Some n) f bs) at) (widest_from steps bs at)
widest-lowered f links lowers zero n bs b at here = record { less = omega arith; rest = omega arith }
widest-lowered f links lowers (suc steps) n bs b None here = record { less = omega arith; rest = omega arith }
widest-lowered f links lowers (suc steps) n bs b (Some k) here = by_number (λ next. widest-lowered f links lowers steps n bs b next here) (k == n) refl
  where
    after : List LinkedBucket
    after = changed_by (Some n) f bs

    wide : List LinkedBucket → Option LinkedBucket → ℕ
    wide buckets found = option_map_or (λ (bucket : LinkedBucket). max (record_room bucket) (widest_from steps buckets bucket.next)) found 0

    other : (found : Option LinkedBucket) → ((next : Option ℕ) → IsLowered (record_room b) (widest_from steps after next) (widest_from steps bs next)) → IsLowered (record_room b) (wide after found) (wide bs found)
    other None later = record { less = omega arith; rest = omega arith }
    other (Some c) later = record { less = omega (arith, (later c.next).less); rest = omega (arith, (later c.next).rest) }

    by_number : ((next : Option ℕ) → IsLowered (record_room b) (widest_from steps after next) (widest_from steps bs next)) → (t : Bool) → (k == n) ≡ t
        → IsLowered (record_room b) (wide after (slice_get after k)) (wide bs (slice_get bs k))
    by_number later true e =
        let old : slice_get bs k ≡ Some b = ap (slice_get bs) (eqb-true k n e) ∙ here in
        let new : slice_get after k ≡ Some (f b) = ap (slice_get after) (eqb-true k n e) ∙ own n f bs ∙ ap (option_map f) here in
        let lead : widest_from steps after (f b).next ≡ widest_from steps after b.next = ap (widest_from steps after) (links b) in
        rw (old, new) (record { less = omega (arith, (later b.next).less, lowers b, lead); rest = omega (arith, (later b.next).rest, lowers b, lead) })
    by_number later false e = rw (elsewhere n k f bs e) (other (slice_get bs k) later)

-- what is read of a changed record
own-at : (n k : ℕ) (f : LinkedBucket → LinkedBucket) (bs : List LinkedBucket) → (k == n) ≡ true → slice_get (changed_by (Some n) f bs) k ≡ option_map f (slice_get bs k)
own-at n k f bs e =
    let here : k ≡ n = eqb-true k n e in
    ap (slice_get (changed_by (Some n) f bs)) here ∙ own n f bs ∙ ap (λ (i : ℕ). option_map f (slice_get bs i)) (sym here)

-- a full record has no more room than another one that had as much
full-below : (x y : Option LinkedBucket) → IsLessAt x y → IsLessAt (option_map full_record x) y
full-below None y less = less
full-below (Some x) None less = absurd less
full-below (Some x) (Some y) less = record { room = omega (arith, full-room x); next = less.next }

-- emptied records have no more room than they had
emptied-less : (links : List (Option ℕ)) (bs : List LinkedBucket) (k : ℕ) → IsLessAt (slice_get (emptied links bs) k) (slice_get bs k)
emptied-less [] bs k = same-at (slice_get bs k)
emptied-less (None ∷ links) bs k = emptied-less links bs k
emptied-less (Some n ∷ links) bs k = by_number (emptied-less links bs k) (k == n) refl
  where
    by_number : IsLessAt (slice_get (emptied links bs) k) (slice_get bs k) → (t : Bool) → (k == n) ≡ t → IsLessAt (slice_get (changed_by (Some n) full_record (emptied links bs)) k) (slice_get bs k)
    by_number less true e = rw (own-at n k full_record (emptied links bs) e) (full-below (slice_get (emptied links bs) k) (slice_get bs k) less)
    by_number less false e = rw (elsewhere n k full_record (emptied links bs) e) less

-- a row can give no more where some of its buckets are emptied
emptied-widest : (links : List (Option ℕ)) (first : Option ℕ) (bs : List LinkedBucket) → widest_from most_buckets (emptied links bs) first ≤ widest_from most_buckets bs first
emptied-widest links first bs = widest-less most_buckets (emptied links bs) bs first (emptied-less links bs)

-- a row can give no more than its rest or the bucket beside that
pub rest-beside : (n : ℕ) (first : Option ℕ) (bs : List LinkedBucket) (b : LinkedBucket) → slice_get bs n ≡ Some b
    → widest_from most_buckets bs first ≤ max (widest_from most_buckets (changed_by (Some n) full_record bs) first) (record_room b)
rest-beside n first bs b here = (widest-lowered full_record (λ x. refl) (λ x. omega (arith, full-room x)) most_buckets n bs b first here).rest

-- what a row can give, where the bucket beside what is known of its rest has this room
pub record IsWidestBy (rest : Rest) (room widest : ℕ) : Type 0 where
  pub own : rest.most ≤ room → room ≡ widest
  pub others : rest.room < rest.most → room < rest.most → rest.most ≡ widest

-- what the rest beside a bucket can give, by the widest of all
pub record IsBeside (rest : Rest) (bs : List LinkedBucket) : Type 0 where
  pub most : IsAtMost rest bs
  pub exact : rest.room < rest.most → widest_of_rest rest bs ≡ rest.most

-- it is that, where the bucket has the room that was left out
pub beside-learned : (rest : Rest) (bs : List LinkedBucket) (b : LinkedBucket) → slice_get bs rest.bucket ≡ Some b → widest_from most_buckets bs rest.first ≡ rest.most → rest.room ≡ record_room b → IsBeside rest bs
beside-learned rest bs b here widest room =
    let less = rest-less rest.bucket rest.first bs in
    let beside = rest-beside rest.bucket rest.first bs b here in
    record {
      most = omega (arith, less, widest);
      exact = λ more. omega (arith, less, widest, beside, room, more);
    }

-- what is known of a row by the widest of all
pub rest-learned : (rest : Rest) (bs : List LinkedBucket) → widest_from most_buckets bs rest.first ≡ rest.most → rest.most ≤ rest.bound → IsBeside rest bs → IsRowIfAny rest bs → IsRest rest bs
rest-learned rest bs widest bound beside row =
    record {
      most = beside.most;
      exact = beside.exact;
      bound = omega (arith, emptied-widest (few_of rest) rest.first bs, widest, bound);
      row = row;
    }

-- records that lead to the same
abbrev Alike : Option LinkedBucket → Option LinkedBucket → Type 0
Alike None o = o ≡ None
Alike (Some x) None = ⊥
Alike (Some x) (Some y) = x.next ≡ y.next

-- a changed record leads where it did, where the change keeps links
alike-changed : (f : LinkedBucket → LinkedBucket) → ((x : LinkedBucket) → (f x).next ≡ x.next) → (o : Option LinkedBucket) → Alike (option_map f o) o
alike-changed f links None = refl
alike-changed f links (Some x) = links x

-- the other way round
alike-back : (x y : Option LinkedBucket) → Alike x y → Alike y x
alike-back None y same = rw same refl
alike-back (Some x) None never = absurd never
alike-back (Some x) (Some y) same = sym same

-- full records have the same room
left-out : (x y : Option LinkedBucket) → Alike x y → IsLessAt (option_map full_record x) (option_map full_record y)
left-out None y same = rw same refl
left-out (Some x) None never = absurd never
left-out (Some x) (Some y) same = record { room = omega (arith, full-room x, full-room y); next = same }

-- the rest of a row can give no more where none of its buckets can, which all keep their links
beside-less : (n : ℕ) (first : Option ℕ) (bs cs : List LinkedBucket) → Alike (slice_get bs n) (slice_get cs n) → ((k : ℕ) → (k == n) ≡ false → IsLessAt (slice_get bs k) (slice_get cs k))
    → widest_from most_buckets (changed_by (Some n) full_record bs) first ≤ widest_from most_buckets (changed_by (Some n) full_record cs) first
beside-less n first bs cs here there =
    widest-less most_buckets (changed_by (Some n) full_record bs) (changed_by (Some n) full_record cs) first
    (less-where n (changed_by (Some n) full_record bs) (changed_by (Some n) full_record cs)
    (rw (own n full_record bs, own n full_record cs) (left-out (slice_get bs n) (slice_get cs n) here))
    (λ k e. rw (elsewhere n k full_record bs e, elsewhere n k full_record cs e) (there k e)))

-- the rest can give as much where the bucket beside it changed, which keeps its link
pub rest-same : (n : ℕ) (f : LinkedBucket → LinkedBucket) (first : Option ℕ) (bs : List LinkedBucket) → ((x : LinkedBucket) → (f x).next ≡ x.next)
    → widest_from most_buckets (changed_by (Some n) full_record (changed_by (Some n) f bs)) first ≡ widest_from most_buckets (changed_by (Some n) full_record bs) first
rest-same n f first bs links =
    let here : Alike (slice_get (changed_by (Some n) f bs) n) (slice_get bs n) = rw (own n f bs) (alike-changed f links (slice_get bs n)) in
    omega (
      arith,
      beside-less n first (changed_by (Some n) f bs) bs here (λ k e. rw (elsewhere n k f bs e) (same-at (slice_get bs k))),
      beside-less n first bs (changed_by (Some n) f bs) (alike-back _ _ here) (λ k e. rw (elsewhere n k f bs e) (same-at (slice_get bs k))),
    )

-- a record that has no more room leads where the other one does
linked : (x y : Option LinkedBucket) → IsLessAt x y → Alike x y
linked None y less = less
linked (Some x) None less = less
linked (Some x) (Some y) less = less.next

-- the rest can give no more where a bucket has no more room, and keeps its link
pub rest-lowered : (m n : ℕ) (f : LinkedBucket → LinkedBucket) (first : Option ℕ) (bs : List LinkedBucket) → ((x : LinkedBucket) → (f x).next ≡ x.next) → ((x : LinkedBucket) → record_room (f x) ≤ record_room x)
    → widest_from most_buckets (changed_by (Some n) full_record (changed_by (Some m) f bs)) first ≤ widest_from most_buckets (changed_by (Some n) full_record bs) first
rest-lowered m n f first bs links lowers =
    beside-less n first (changed_by (Some m) f bs) bs (linked (slice_get (changed_by (Some m) f bs) n) (slice_get bs n) (lowered n)) (λ k e. lowered k)
  where
    one : (o : Option LinkedBucket) → IsLessAt (option_map f o) o
    one None = refl
    one (Some x) = record { room = lowers x; next = links x }

    lowered : (k : ℕ) → IsLessAt (slice_get (changed_by (Some m) f bs) k) (slice_get bs k)
    lowered k = by_number (k == m) refl
      where
        by_number : (t : Bool) → (k == m) ≡ t → IsLessAt (slice_get (changed_by (Some m) f bs) k) (slice_get bs k)
        by_number true e = rw (eqb-true k m e, own m f bs) (one (slice_get bs m))
        by_number false e = rw (elsewhere m k f bs e) (same-at (slice_get bs k))

-- records that have no more room have no more where the same ones are emptied
emptied-at : (links : List (Option ℕ)) (bs cs : List LinkedBucket) (k : ℕ) → IsLessAt (slice_get bs k) (slice_get cs k) → IsLessAt (slice_get (emptied links bs) k) (slice_get (emptied links cs) k)
emptied-at [] bs cs k less = less
emptied-at (None ∷ links) bs cs k less = emptied-at links bs cs k less
emptied-at (Some n ∷ links) bs cs k less = by_number (emptied-at links bs cs k less) (k == n) refl
  where
    xs : List LinkedBucket
    xs = emptied links bs

    ys : List LinkedBucket
    ys = emptied links cs

    by_number : IsLessAt (slice_get xs k) (slice_get ys k) → (t : Bool) → (k == n) ≡ t → IsLessAt (slice_get (changed_by (Some n) full_record xs) k) (slice_get (changed_by (Some n) full_record ys) k)
    by_number later true e = rw (own-at n k full_record xs e, own-at n k full_record ys e) (left-out (slice_get xs k) (slice_get ys k) (linked (slice_get xs k) (slice_get ys k) later))
    by_number later false e = rw (elsewhere n k full_record xs e, elsewhere n k full_record ys e) later

-- full records lead on alike
alike-full : (x y : Option LinkedBucket) → Alike x y → Alike (option_map full_record x) (option_map full_record y)
alike-full None y same = rw same refl
alike-full (Some x) None never = absurd never
alike-full (Some x) (Some y) same = same

-- records lead on alike where the same ones are emptied
alike-emptied : (links : List (Option ℕ)) (bs cs : List LinkedBucket) (k : ℕ) → Alike (slice_get bs k) (slice_get cs k) → Alike (slice_get (emptied links bs) k) (slice_get (emptied links cs) k)
alike-emptied [] bs cs k same = same
alike-emptied (None ∷ links) bs cs k same = alike-emptied links bs cs k same
alike-emptied (Some n ∷ links) bs cs k same = by_number (alike-emptied links bs cs k same) (k == n) refl
  where
    xs : List LinkedBucket
    xs = emptied links bs

    ys : List LinkedBucket
    ys = emptied links cs

    by_number : Alike (slice_get xs k) (slice_get ys k) → (t : Bool) → (k == n) ≡ t → Alike (slice_get (changed_by (Some n) full_record xs) k) (slice_get (changed_by (Some n) full_record ys) k)
    by_number later true e = rw (own-at n k full_record xs e, own-at n k full_record ys e) (alike-full (slice_get xs k) (slice_get ys k) later)
    by_number later false e = rw (elsewhere n k full_record xs e, elsewhere n k full_record ys e) later

-- a row can give no more than it can beside a bucket or that
beside-any : (n : ℕ) (first : Option ℕ) (bs : List LinkedBucket) → widest_from most_buckets bs first ≤ max (widest_from most_buckets (changed_by (Some n) full_record bs) first) (room_at bs n)
beside-any n first bs = by_found (slice_get bs n) refl
  where
    by_found : (o : Option LinkedBucket) → slice_get bs n ≡ o → widest_from most_buckets bs first ≤ max (widest_from most_buckets (changed_by (Some n) full_record bs) first) (room_at bs n)
    by_found None e = omega (arith, widest-less most_buckets bs (changed_by (Some n) full_record bs) first (λ k. by_number k (k == n) refl))
      where
        by_number : (k : ℕ) (t : Bool) → (k == n) ≡ t → IsLessAt (slice_get bs k) (slice_get (changed_by (Some n) full_record bs) k)
        by_number k true h =
            let none : slice_get bs k ≡ None = ap (slice_get bs) (eqb-true k n h) ∙ e in
            rw (own-at n k full_record bs h, none) refl
        by_number k false h = rw (elsewhere n k full_record bs h) (same-at (slice_get bs k))
    by_found (Some b) e = omega (arith, rest-beside n first bs b e, room-at bs n b e)

-- a record that isn't there has no room
pub no-room : (bs : List LinkedBucket) (n : ℕ) → slice_get bs n ≡ None → room_at bs n ≡ 0
no-room bs n e = ap (λ (o : Option LinkedBucket). option_map_or record_room o 0) e

-- each bucket that a link names has at most this room
abbrev pub HaveAtMost : ℕ → List LinkedBucket → List (Option ℕ) → Type 0
HaveAtMost room bs [] = ⊤
HaveAtMost room bs (link ∷ links) = (room_behind bs link ≤ room) × HaveAtMost room bs links

-- the room of what may be there
room-of-less : (x y : Option LinkedBucket) → IsLessAt x y → option_map_or record_room x 0 ≤ option_map_or record_room y 0
room-of-less None y less = omega arith
room-of-less (Some x) None less = absurd less
room-of-less (Some x) (Some y) less = less.room

-- a row can give no more than where buckets are emptied that have at most this room, or that
pub emptied-beside : (links : List (Option ℕ)) (first : Option ℕ) (room : ℕ) (bs : List LinkedBucket) → HaveAtMost room bs links
    → widest_from most_buckets bs first ≤ max (widest_from most_buckets (emptied links bs) first) room
emptied-beside [] first room bs have = omega arith
emptied-beside (None ∷ links) first room bs have = emptied-beside links first room bs have.1
emptied-beside (Some n ∷ links) first room bs have =
    let xs = emptied links bs in
    omega (arith, emptied-beside links first room bs have.1, beside-any n first xs, room-of-less (slice_get xs n) (slice_get bs n) (emptied-less links bs n), have.0)

-- what bounds a row bounds it where no bucket has more room
bounded-less : (rest : Rest) (bs cs : List LinkedBucket) → ((k : ℕ) → IsLessAt (slice_get cs k) (slice_get bs k)) → IsBounded rest bs → IsBounded rest cs
bounded-less rest bs cs less known =
    let links = Some rest.bucket ∷ links_of rest.former in
    omega (arith, widest-less most_buckets (emptied links cs) (emptied links bs) rest.first (λ k. emptied-at links cs bs k (less k)), known)

-- a bucket that has no more room has no more than it had
lowered-at : (m : ℕ) (f : LinkedBucket → LinkedBucket) (bs : List LinkedBucket) → ((x : LinkedBucket) → (f x).next ≡ x.next) → ((x : LinkedBucket) → record_room (f x) ≤ record_room x) → (k : ℕ)
    → IsLessAt (slice_get (changed_by (Some m) f bs) k) (slice_get bs k)
lowered-at m f bs links lowers k = by_number (k == m) refl
  where
    one : (o : Option LinkedBucket) → IsLessAt (option_map f o) o
    one None = refl
    one (Some x) = record { room = lowers x; next = links x }

    by_number : (t : Bool) → (k == m) ≡ t → IsLessAt (slice_get (changed_by (Some m) f bs) k) (slice_get bs k)
    by_number true e = rw (own-at m k f bs e) (one (slice_get bs k))
    by_number false e = rw (elsewhere m k f bs e) (same-at (slice_get bs k))

-- what bounds a row bounds it where a bucket has no more room, and keeps its link
pub bounded-lowered : (m : ℕ) (f : LinkedBucket → LinkedBucket) (rest : Rest) (bs : List LinkedBucket) → ((x : LinkedBucket) → (f x).next ≡ x.next) → ((x : LinkedBucket) → record_room (f x) ≤ record_room x) → IsBounded rest bs
    → IsBounded rest (changed_by (Some m) f bs)
bounded-lowered m f rest bs links lowers known = bounded-less rest bs (changed_by (Some m) f bs) (lowered-at m f bs links lowers) known

-- what bounds a row bounds it where another bucket is beside the rest
pub bounded-behind : (n : ℕ) (rest : Rest) (bs : List LinkedBucket) → IsBounded rest bs → widest_from most_buckets (emptied (Some n ∷ few_of rest) bs) rest.first ≤ rest.bound
bounded-behind n rest bs known = omega (arith, rest-less n rest.first (emptied (few_of rest) bs), known)

-- what a row can give by what is known of its rest: the bucket beside that where it can give at least as much
pub widest-known : (n : ℕ) (rest : Rest) (bs : List LinkedBucket) (b : LinkedBucket) (first : Option ℕ) → slice_get bs n ≡ Some b → n ≡ rest.bucket → first ≡ rest.first → record_room b ≤ widest_from most_buckets bs first
    → IsRest rest bs → IsWidestBy rest (record_room b) (widest_from most_buckets bs first)
widest-known n rest bs b first here same leads one known =
    let row : widest_from most_buckets bs first ≡ widest_from most_buckets bs rest.first = ap (widest_from most_buckets bs) leads in
    let less = rest-less rest.bucket rest.first bs in
    let beside = rest-beside rest.bucket rest.first bs b (ap (slice_get bs) (sym same) ∙ here) in
    record {
      own = λ more. omega (arith, row, beside, known.most, more, one);
      others = λ is more. omega (arith, row, less, beside, known.exact is, more);
    }

-- what is known stays known where the bucket beside the rest changed, which keeps its link
pub known-beside : (f : LinkedBucket → LinkedBucket) (rest : Rest) (bs : List LinkedBucket) → ((x : LinkedBucket) → (f x).next ≡ x.next) → ((x : LinkedBucket) → (f x).x ≡ x.x) → IsRest rest bs
    → IsRest rest (changed_by (Some rest.bucket) f bs)
known-beside f rest bs links places known =
    let same = rest-same rest.bucket f rest.first bs links in
    record {
      most = omega (arith, same, known.most);
      exact = λ is. omega (arith, same, known.exact is);
      bound = omega (arith, beside-less rest.bucket rest.first (emptied former after) (emptied former bs) alike (λ k e. emptied-at former after bs k (rw (elsewhere rest.bucket k f bs e) (same-at (slice_get bs k)))), known.bound);
      row = row-changed rest.bucket f rest bs links places known.row;
    }
  where
    former : List (Option ℕ)
    former = links_of rest.former

    after : List LinkedBucket
    after = changed_by (Some rest.bucket) f bs

    alike : Alike (slice_get (emptied former after) rest.bucket) (slice_get (emptied former bs) rest.bucket)
    alike = alike-emptied former after bs rest.bucket (rw (own rest.bucket f bs) (alike-changed f links (slice_get bs rest.bucket)))

-- what is known stays known where a bucket changed that keeps its room and its link
pub rest-kept : (m : ℕ) (f : LinkedBucket → LinkedBucket) (rest : Rest) (bs : List LinkedBucket) → ((x : LinkedBucket) → (f x).next ≡ x.next) → ((x : LinkedBucket) → (f x).x ≡ x.x) → ((x : LinkedBucket) → record_room (f x) ≡ record_room x) → IsRest rest bs
    → IsRest rest (changed_by (Some m) f bs)
rest-kept m f rest bs links places rooms known =
    let n = rest.bucket in
    let less = rest-lowered m n f rest.first bs links (λ x. omega (arith, rooms x)) in
    let more = beside-less n rest.first bs (changed_by (Some m) f bs) (linked (slice_get bs n) (slice_get (changed_by (Some m) f bs) n) (kept n)) (λ k e. kept k) in
    record {
      most = omega (arith, less, known.most);
      exact = λ is. omega (arith, less, more, known.exact is);
      bound = bounded-lowered m f rest bs links (λ x. omega (arith, rooms x)) known.bound;
      row = row-changed m f rest bs links places known.row;
    }
  where
    one : (o : Option LinkedBucket) → IsLessAt o (option_map f o)
    one None = refl
    one (Some x) = record { room = omega (arith, rooms x); next = sym (links x) }

    kept : (k : ℕ) → IsLessAt (slice_get bs k) (slice_get (changed_by (Some m) f bs) k)
    kept k = by_number (k == m) refl
      where
        by_number : (t : Bool) → (k == m) ≡ t → IsLessAt (slice_get bs k) (slice_get (changed_by (Some m) f bs) k)
        by_number true e = rw (eqb-true k m e, own m f bs) (one (slice_get bs m))
        by_number false e = rw (elsewhere m k f bs e) (same-at (slice_get bs k))
