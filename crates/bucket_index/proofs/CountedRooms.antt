-- Counting by slots how many records can give which width.
use Rattle.std.proofs.Common.{◌≡◌, ℕ, zero, suc, ◌+◌, ◌-◌, ◌<◌, ◌≤◌, Bool, true, false, cond, Option, None, Some, List, [], ◌∷◌, ◌++◌, ◌==◌, take, refl, ap, sym, ◌∙◌, arith}
use Rattle.std.proofs.lemmas.Bool.{and_parts, eqb-true}
use Rattle.std.proofs.lemmas.Bool.Decides.{nat_tests}
use Rattle.std.specs.Prelude.{if◌then◌else◌, nat_lt, nat_le, ◌&&◌, option_and_then, option_map, slice_get}
use Rattle.etagere_links.specs.Edits.{changed_by}
use Rattle.etagere_links.proofs.RecordChanges.{get-changed_by, get-changed_by-other}
use Rattle.bucketed_records.specs.declared.records.LinkedBucket.{LinkedBucket}
use Rattle.bucketed_records.specs.Private.Store.{record_room}
use Rattle.etagere_base.specs.declared.sides.Sides.{Sides}
use Rattle.bucketed_model.specs.Picking.{or_else}
use Rattle.bucketed_records.specs.declared.records.KeptShelf.{KeptShelf}
use Rattle.bucket_index.specs.Private.Rooms.{AreEnough, IsOneChanged, more_by, one_in, one_less, slot_of, tally}
use Rattle.bucket_index.specs.Private.Searching.{FoundBucket, exact_from, first_from, is_wanted}
use Rattle.bucket_index.specs.declared.searching.Wanted.TheVariants.{Exact}

-- one number is not another
apart : (k n : ℕ) → k ≡ n → (k == n) ≡ false → ⊥
apart k n same h = grind arith

-- what is enough is enough of no more
pub enough-less : (counts : List ℕ) (most less : ℕ → ℕ) → AreEnough counts most → ((slot : ℕ) → less slot ≤ most slot) → AreEnough counts less
enough-less counts most less enough lower = λ slot count is small. omega (arith, lower slot, enough slot count is small)

-- so many in the slot of a number
abbrev pub so_many : ℕ → ℕ → ℕ → ℕ
so_many n more slot = if n == slot then more else 0

-- what a slot is counted as once one was changed
changed-slot : (change : ℕ → ℕ) (n slot count : ℕ) (counts : List ℕ) → slice_get (changed_by (Some n) change counts) slot ≡ Some count → (n == slot) ≡ true → option_map change (slice_get counts slot) ≡ Some count
changed-slot change n slot count counts is same =
    let here : n ≡ slot = eqb-true n slot same in
    sym (get-changed_by change counts (Some n) slot (ap (λ (k : ℕ). Some k) here)) ∙ is

other-slot : (change : ℕ → ℕ) (n slot count : ℕ) (counts : List ℕ) → slice_get (changed_by (Some n) change counts) slot ≡ Some count → (n == slot) ≡ false → slice_get counts slot ≡ Some count
other-slot change n slot count counts is differs =
    sym (get-changed_by-other change counts (Some n) slot (λ (e : Some n ≡ Some slot). let same : n ≡ slot = cc in absurd (apart n slot same differs))) ∙ is

-- so many more are enough where so many more are counted
pub enough-raised : (counts : List ℕ) (most : ℕ → ℕ) (n more : ℕ) → AreEnough counts most → AreEnough (changed_by (Some n) (more_by more) counts) (λ slot. most slot + so_many n more slot)
enough-raised counts most n more enough = λ slot count is small. by_slot slot count small is (n == slot) refl
  where
    raised : (slot count : ℕ) → count < 65535 → (o : Option ℕ) → slice_get counts slot ≡ o → option_map (more_by more) o ≡ Some count → most slot + more ≤ count
    raised slot count small None at is = absurd (cc)
    raised slot count small (Some old) at is =
        let all : more_by more old ≡ count = cc in
        omega (arith, all, small, enough slot old at (omega (arith, all, small)))

    by_slot : (slot count : ℕ) → count < 65535 → slice_get (changed_by (Some n) (more_by more) counts) slot ≡ Some count → (t : Bool) → (n == slot) ≡ t → most slot + so_many n more slot ≤ count
    by_slot slot count small is true e =
        let own : so_many n more slot ≡ more = ap (λ (t : Bool). cond t more 0) e in
        omega (arith, own, raised slot count small (slice_get counts slot) refl (changed-slot (more_by more) n slot count counts is e))
    by_slot slot count small is false e =
        let none : so_many n more slot ≡ 0 = ap (λ (t : Bool). cond t more 0) e in
        omega (arith, none, enough slot count (other-slot (more_by more) n slot count counts is e) small)

-- one less is enough where one less is counted
pub enough-lowered : (counts : List ℕ) (most : ℕ → ℕ) (n : ℕ) → AreEnough counts most → AreEnough (changed_by (Some n) one_less counts) (λ slot. most slot - so_many n 1 slot)
enough-lowered counts most n enough = λ slot count is small. by_slot slot count small is (n == slot) refl
  where
    less : (old count : ℕ) → (t : Bool) → nat_lt old 65535 ≡ t → cond t (old - 1) old ≡ count → count < 65535 → (old < 65535) × (count ≡ old - 1)
    less old count true e is small = (grind (arith, nat_tests, e), sym is)
    less old count false e is small = absurd (grind (arith, nat_tests, e, is, small))

    lowered : (slot count : ℕ) → count < 65535 → (o : Option ℕ) → slice_get counts slot ≡ o → option_map one_less o ≡ Some count → most slot - 1 ≤ count
    lowered slot count small None at is = absurd (cc)
    lowered slot count small (Some old) at is =
        let all : one_less old ≡ count = cc in
        let known = less old count (nat_lt old 65535) refl all small in
        omega (arith, known.1, enough slot old at known.0)

    by_slot : (slot count : ℕ) → count < 65535 → slice_get (changed_by (Some n) one_less counts) slot ≡ Some count → (t : Bool) → (n == slot) ≡ t → most slot - so_many n 1 slot ≤ count
    by_slot slot count small is true e =
        let own : so_many n 1 slot ≡ 1 = ap (λ (t : Bool). cond t 1 0) e in
        omega (arith, own, lowered slot count small (slice_get counts slot) refl (changed-slot one_less n slot count counts is e))
    by_slot slot count small is false e =
        let none : so_many n 1 slot ≡ 0 = ap (λ (t : Bool). cond t 1 0) e in
        omega (arith, none, enough slot count (other-slot one_less n slot count counts is e) small)

-- one counted less and another more is enough for records of which one was changed
pub enough-changed : (counts : List ℕ) (before after : ℕ) (buckets others : List LinkedBucket) → AreEnough counts (λ slot. tally slot buckets) → IsOneChanged before after buckets others
    → AreEnough (changed_by (Some (slot_of after)) (more_by 1) (changed_by (Some (slot_of before)) one_less counts)) (λ slot. tally slot others)
enough-changed counts before after buckets others enough change =
    enough-less _ (λ slot. tally slot buckets - so_many (slot_of before) 1 slot + so_many (slot_of after) 1 slot) (λ slot. tally slot others)
    (enough-raised _ (λ slot. tally slot buckets - so_many (slot_of before) 1 slot) (slot_of after) 1 (enough-lowered counts (λ slot. tally slot buckets) (slot_of before) enough))
    (λ slot. omega (arith, change slot))

-- a record more is counted of those up to a number
pub tally-take : (slot n : ℕ) (buckets : List LinkedBucket) (bucket : LinkedBucket) → slice_get buckets n ≡ Some bucket → tally slot (take (suc n) buckets) ≡ tally slot (take n buckets) + one_in slot (record_room bucket)
tally-take slot zero [] bucket is = absurd (cc)
tally-take slot zero (x ∷ xs) bucket is =
    let same : x ≡ bucket = cc in
    omega (arith, ap (λ (b : LinkedBucket). one_in slot (record_room b)) same)
tally-take slot (suc n) [] bucket is = absurd (cc)
tally-take slot (suc n) (x ∷ xs) bucket is = omega (arith, tally-take slot n xs bucket is)

-- where no record is counted in a slot none has it
pub tally-none : (slot : ℕ) (buckets : List LinkedBucket) (k : ℕ) (bucket : LinkedBucket) → tally slot buckets ≡ 0 → slice_get buckets k ≡ Some bucket → one_in slot (record_room bucket) ≡ 0
tally-none slot [] k bucket none is = absurd (cc)
tally-none slot (x ∷ xs) zero bucket none is =
    let same : x ≡ bucket = cc in
    omega (arith, none, ap (λ (b : LinkedBucket). one_in slot (record_room b)) same)
tally-none slot (x ∷ xs) (suc k) bucket none is = tally-none slot xs k bucket (omega (arith, none)) is

-- a record changed
pub tally-changed : (slot k : ℕ) (change : LinkedBucket → LinkedBucket) (buckets : List LinkedBucket) (bucket : LinkedBucket) → slice_get buckets k ≡ Some bucket
    → tally slot (changed_by (Some k) change buckets) + one_in slot (record_room bucket) ≡ tally slot buckets + one_in slot (record_room (change bucket))
tally-changed slot k change [] bucket is = absurd (cc)
tally-changed slot zero change (x ∷ xs) bucket is =
    let same : x ≡ bucket = cc in
    omega (arith, ap (λ (b : LinkedBucket). one_in slot (record_room b)) same, ap (λ (b : LinkedBucket). one_in slot (record_room (change b))) same)
tally-changed slot (suc k) change (x ∷ xs) bucket is = omega (arith, tally-changed slot k change xs bucket is)

-- a change that leaves what records can give
pub tally-kept : (slot k : ℕ) (change : LinkedBucket → LinkedBucket) (buckets : List LinkedBucket) → ((b : LinkedBucket) → record_room (change b) ≡ record_room b) → tally slot (changed_by (Some k) change buckets) ≡ tally slot buckets
tally-kept slot k change [] keeps = refl
tally-kept slot zero change (x ∷ xs) keeps = omega (arith, ap (one_in slot) (keeps x))
tally-kept slot (suc k) change (x ∷ xs) keeps = omega (arith, tally-kept slot k change xs keeps)

-- a record more
pub tally-more : (slot : ℕ) (buckets : List LinkedBucket) (bucket : LinkedBucket) → tally slot (buckets ++ bucket ∷ []) ≡ tally slot buckets + one_in slot (record_room bucket)
tally-more slot [] bucket = omega arith
tally-more slot (x ∷ xs) bucket = omega (arith, tally-more slot xs bucket)

-- an exact record gives just its width
exact-room : (width : ℕ) (bucket : LinkedBucket) → is_wanted (Exact width) bucket ≡ true → record_room bucket ≡ width
exact-room width bucket is =
    let parts = and_parts (nat_le width bucket.free_space && nat_lt bucket.item_count 4095) (bucket.free_space == width) is in
    let gives = (and_parts (nat_le width bucket.free_space) (nat_lt bucket.item_count 4095) parts.0).1 in
    ap (λ (t : Bool). cond t bucket.free_space 0) gives ∙ eqb-true bucket.free_space width parts.1

-- where no record is counted in its slot none gives just a width
none-exact : (width : ℕ) (buckets : List LinkedBucket) (k : ℕ) (bucket : LinkedBucket) → tally (slot_of width) buckets ≡ 0 → slice_get buckets k ≡ Some bucket → is_wanted (Exact width) bucket ≡ false
none-exact width buckets k bucket none is = by_test (is_wanted (Exact width) bucket) refl
  where
    own : (n : ℕ) → one_in (slot_of n) n ≡ 1
    own n = grind arith

    by_test : (t : Bool) → is_wanted (Exact width) bucket ≡ t → t ≡ false
    by_test false e = refl
    by_test true e =
        let room : one_in (slot_of width) (record_room bucket) ≡ one_in (slot_of width) width = ap (one_in (slot_of width)) (exact-room width bucket e) in
        absurd (omega (arith, room, own width, tally-none (slot_of width) buckets k bucket none is))

-- then no links lead to one
first-none : (steps width : ℕ) (buckets : List LinkedBucket) (at : Option ℕ) → tally (slot_of width) buckets ≡ 0 → first_from steps (Exact width) buckets at ≡ None
first-none zero width buckets at none = refl
first-none (suc steps) width buckets None none = refl
first-none (suc steps) width buckets (Some k) none = by_found (λ next. first-none steps width buckets next none) (slice_get buckets k) refl
  where
    by_found : ((next : Option ℕ) → first_from steps (Exact width) buckets next ≡ None) → (o : Option LinkedBucket) → slice_get buckets k ≡ o
        → option_and_then (λ (bucket : LinkedBucket). if is_wanted (Exact width) bucket then Some k else first_from steps (Exact width) buckets bucket.next) o ≡ None
    by_found later None is = refl
    by_found later (Some b) is =
        ap (λ (t : Bool). cond t (Some k) (first_from steps (Exact width) buckets b.next)) (none-exact width buckets k b none is) ∙ later b.next

-- and no shelf has one
pub exact-none : (sides : Sides) (buckets : List LinkedBucket) (number : ℕ) (shelves : List KeptShelf) → tally (slot_of sides.along) buckets ≡ 0 → exact_from sides buckets number shelves ≡ None
exact-none sides buckets number [] none = refl
exact-none sides buckets number (kept ∷ shelves) none =
    ap (λ (o : Option FoundBucket). or_else o (exact_from sides buckets (suc number) shelves)) (here (kept.shelf.height == sides.across && nat_le sides.along kept.widest_room))
    ∙ exact-none sides buckets (suc number) shelves none
  where
    found : ℕ → FoundBucket
    found bucket = record { shelf = number; bucket = bucket }

    here : (t : Bool) → cond t (option_map found (first_from 4095 (Exact sides.along) buckets kept.shelf.first_bucket)) None ≡ None
    here false = refl
    here true = ap (option_map found) (first-none 4095 sides.along buckets kept.shelf.first_bucket none)
