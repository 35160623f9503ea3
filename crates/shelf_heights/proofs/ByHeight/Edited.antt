-- What the list of shelves by height keeps when a shelf is taken out of it, put in or gets another bound.
use Rattle.std.proofs.Common.{◌≡◌, ◌≢◌, ℕ, zero, suc, ◌+◌, ◌<◌, ◌≤◌, Bool, true, false, cond, List, [], ◌∷◌, ◌++◌, length, map, refl, ap, arith, sym, subst}
use Rattle.std.specs.Prelude.{not, nat_lt, ◌==◌}
use Rattle.etagere_base.proofs.EachLemmas.{Each-filter}
use Rattle.etagere_base.proofs.TimesLemmas.{times-append}
use Rattle.std.specs.List.{AllByRecursion}
use Rattle.etagere_base.specs.Lists.{remove_number, times}
use Rattle.etagere_links.proofs.ListEnds.{times-here, times-other}
use Rattle.shelf_model.specs.Listing.{RiseFrom}
use Rattle.shelf_records.proofs.Recorded.Members.{Each-member, Each-times}
use Rattle.shelf_records.proofs.Spelled.RecordValues.{map-agrees}
use Rattle.etagere_base.specs.declared.frames.Frame.{Frame}
use Rattle.shelf_records.specs.declared.records.LinkedShelf.{LinkedShelf}
use Rattle.shelf_records.specs.RecordLists.{Records, shelf_numbers, walked_lists}
use Rattle.shelf_heights.specs.Private.ByHeight.{AreInOrder, AreByHeight, order_of, put_in, raised, rebounded, numbers_by_height, taken_out}
use Rattle.shelf_records.specs.Private.Kept.{AreKept}
use Rattle.shelf_heights.specs.declared.by_height.BoundedShelf.{BoundedShelf}
use Rattle.shelf_records.proofs.Spelled.StandsKept.{witnesses}

-- the shelf of a number, with this bound
abbrev pub bounded_as : ℕ → ℕ → BoundedShelf
bounded_as shelf widest = record { widest = widest; shelf = shelf }

-- the numbers once a shelf was taken out
pub numbers-taken_out : (shelf : ℕ) (by_height : List BoundedShelf)
    → numbers_by_height (taken_out shelf by_height) ≡ remove_number shelf (numbers_by_height by_height)
numbers-taken_out shelf [] = refl
numbers-taken_out shelf (one ∷ others) = by_test (one.shelf == shelf) (numbers-taken_out shelf others)
  where
    by_test : (b : Bool) → numbers_by_height (taken_out shelf others) ≡ remove_number shelf (numbers_by_height others)
        → numbers_by_height (cond (not b) (one ∷ taken_out shelf others) (taken_out shelf others))
        ≡ cond (not b) (one.shelf ∷ remove_number shelf (numbers_by_height others)) (remove_number shelf (numbers_by_height others))
    by_test true rest = rest
    by_test false rest = ap (λ (ns : List ℕ). one.shelf ∷ ns) rest

-- how often a number stands there once a shelf was put in
pub times-put_in : (k : ℕ) (shelves : List LinkedShelf) (one : BoundedShelf) (by_height : List BoundedShelf)
    → times k (numbers_by_height (put_in shelves one by_height)) ≡ times k (one.shelf ∷ numbers_by_height by_height)
times-put_in k shelves one [] = refl
times-put_in k shelves one (other ∷ others) = by_test (nat_lt (order_of shelves other.shelf) (order_of shelves one.shelf)) (times-put_in k shelves one others)
  where
    by_test : (b : Bool) → times k (numbers_by_height (put_in shelves one others)) ≡ times k (one.shelf ∷ numbers_by_height others)
        → times k (numbers_by_height (cond b (other ∷ put_in shelves one others) (one ∷ other ∷ others))) ≡ times k (one.shelf ∷ other.shelf ∷ numbers_by_height others)
    by_test true rest = omega (arith, rest)
    by_test false rest = refl

-- the numbers stay when a bound is raised
pub numbers-raised : (shelf width : ℕ) (by_height : List BoundedShelf)
    → numbers_by_height (raised shelf width by_height) ≡ numbers_by_height by_height
numbers-raised shelf width [] = refl
numbers-raised shelf width (one ∷ others) = by_tests (one.shelf == shelf) (nat_lt one.widest width) (numbers-raised shelf width others)
  where
    by_tests : (b c : Bool) → numbers_by_height (raised shelf width others) ≡ numbers_by_height others
        → numbers_by_height (cond b (cond c (record one { widest = width }) one) one ∷ raised shelf width others) ≡ one.shelf ∷ numbers_by_height others
    by_tests true true rest = ap (λ (ns : List ℕ). one.shelf ∷ ns) rest
    by_tests true false rest = ap (λ (ns : List ℕ). one.shelf ∷ ns) rest
    by_tests false c rest = ap (λ (ns : List ℕ). one.shelf ∷ ns) rest

-- nor do they when a shelf gets another bound
pub numbers-rebounded : (shelf width : ℕ) (by_height : List BoundedShelf)
    → numbers_by_height (rebounded shelf width by_height) ≡ numbers_by_height by_height
numbers-rebounded shelf width [] = refl
numbers-rebounded shelf width (one ∷ others) = by_test (one.shelf == shelf) (numbers-rebounded shelf width others)
  where
    by_test : (b : Bool) → numbers_by_height (rebounded shelf width others) ≡ numbers_by_height others
        → numbers_by_height (cond b (record one { widest = width }) one ∷ rebounded shelf width others) ≡ one.shelf ∷ numbers_by_height others
    by_test true rest = ap (λ (ns : List ℕ). one.shelf ∷ ns) rest
    by_test false rest = ap (λ (ns : List ℕ). one.shelf ∷ ns) rest

-- what holds of each shelf holds of the others, with another number, once it was taken out
pub Each-taken_out : (P Q : BoundedShelf → Type 0) (shelf : ℕ) (by_height : List BoundedShelf)
    → ((one : BoundedShelf) → one.shelf ≢ shelf → P one → Q one)
    → AllByRecursion P by_height → AllByRecursion Q (taken_out shelf by_height)
Each-taken_out P Q shelf [] weaken each = tt
Each-taken_out P Q shelf (one ∷ others) weaken each = by_test (one.shelf == shelf) refl (Each-taken_out P Q shelf others weaken each.1)
  where
    by_test : (b : Bool) → (one.shelf == shelf) ≡ b → AllByRecursion Q (taken_out shelf others) → AllByRecursion Q (cond (not b) (one ∷ taken_out shelf others) (taken_out shelf others))
    by_test true e rest = rest
    by_test false e rest = let other : one.shelf ≢ shelf = grind arith in (weaken one other each.0, rest)

-- what holds of each shelf and of the one that is put in
pub Each-put_in : (P : BoundedShelf → Type 0) (shelves : List LinkedShelf) (one : BoundedShelf) (by_height : List BoundedShelf)
    → P one → AllByRecursion P by_height → AllByRecursion P (put_in shelves one by_height)
Each-put_in P shelves one [] own each = (own, tt)
Each-put_in P shelves one (other ∷ others) own each = by_test (nat_lt (order_of shelves other.shelf) (order_of shelves one.shelf)) (Each-put_in P shelves one others own each.1)
  where
    by_test : (b : Bool) → AllByRecursion P (put_in shelves one others) → AllByRecursion P (cond b (other ∷ put_in shelves one others) (one ∷ other ∷ others))
    by_test true rest = (each.0, rest)
    by_test false rest = (own, each)

-- what holds of each shelf once the bound of one was raised
pub Each-raised : (P Q : BoundedShelf → Type 0) (shelf width : ℕ) (by_height : List BoundedShelf)
    → ((one : BoundedShelf) → one.shelf ≢ shelf → P one → Q one)
    → ((one : BoundedShelf) → one.shelf ≡ shelf → P one → (widest : ℕ) → one.widest ≤ widest → width ≤ widest → Q (bounded_as one.shelf widest))
    → AllByRecursion P by_height → AllByRecursion Q (raised shelf width by_height)
Each-raised P Q shelf width [] others own each = tt
Each-raised P Q shelf width (one ∷ more) others own each =
    by_tests (one.shelf == shelf) (nat_lt one.widest width) refl refl (Each-raised P Q shelf width more others own each.1)
  where
    by_tests : (b c : Bool) → (one.shelf == shelf) ≡ b → nat_lt one.widest width ≡ c → AllByRecursion Q (raised shelf width more)
        → AllByRecursion Q (cond b (cond c (record one { widest = width }) one) one ∷ raised shelf width more)
    by_tests true true e less rest =
        let same : one.shelf ≡ shelf = grind arith in
        (own one same each.0 width (grind arith) (omega arith), rest)
    by_tests true false e less rest =
        let same : one.shelf ≡ shelf = grind arith in
        (own one same each.0 one.widest (omega arith) (grind arith), rest)
    by_tests false c e less rest = let other : one.shelf ≢ shelf = grind arith in (others one other each.0, rest)

-- what holds of each shelf once one got another bound
pub Each-rebounded : (P Q : BoundedShelf → Type 0) (shelf width : ℕ) (by_height : List BoundedShelf)
    → ((one : BoundedShelf) → one.shelf ≢ shelf → P one → Q one)
    → ((one : BoundedShelf) → one.shelf ≡ shelf → P one → Q (bounded_as one.shelf width))
    → AllByRecursion P by_height → AllByRecursion Q (rebounded shelf width by_height)
Each-rebounded P Q shelf width [] others own each = tt
Each-rebounded P Q shelf width (one ∷ more) others own each = by_test (one.shelf == shelf) refl (Each-rebounded P Q shelf width more others own each.1)
  where
    by_test : (b : Bool) → (one.shelf == shelf) ≡ b → AllByRecursion Q (rebounded shelf width more)
        → AllByRecursion Q (cond b (record one { widest = width }) one ∷ rebounded shelf width more)
    by_test true e rest = let same : one.shelf ≡ shelf = grind arith in (own one same each.0, rest)
    by_test false e rest = let other : one.shelf ≢ shelf = grind arith in (others one other each.0, rest)

-- numbers that rise from a number on rise from one below it
pub rise-lower : (low from : ℕ) (numbers : List ℕ) → low ≤ from → RiseFrom from numbers → RiseFrom low numbers
rise-lower low from [] less rise = tt
rise-lower low from (n ∷ ns) less rise = (omega (arith, less, rise.0), rise.1)

-- none of those whose values rise from a number on is below it
pub rise-above : (value : ℕ → ℕ) (k from : ℕ) (ns : List ℕ) → RiseFrom from (map value ns) → 1 ≤ times k ns → from ≤ value k
rise-above value k from [] rise stands = absurd (omega (arith, stands))
rise-above value k from (n ∷ ns) rise stands = by_test (n == k) refl (rise-above value k (value n + 1) ns rise.1)
  where
    by_test : (b : Bool) → (n == k) ≡ b → (1 ≤ times k ns → value n + 1 ≤ value k) → from ≤ value k
    by_test true e later = let same : n ≡ k = grind arith in subst (λ (m : ℕ). from ≤ value m) same rise.0
    by_test false e later =
        let other : n ≢ k = grind arith in
        omega (arith, rise.0, later (omega (arith, stands, times-other k n ns other)))

-- each of those whose values rise stands there once at most
rise-once : (value : ℕ → ℕ) (k from : ℕ) (ns : List ℕ) → RiseFrom from (map value ns) → times k ns ≤ 1
rise-once value k from [] rise = omega arith
rise-once value k from (n ∷ ns) rise = by_test (n == k) refl (rise-once value k (value n + 1) ns rise.1)
  where
    at_most : (m : ℕ) → times k ns ≡ m → n ≡ k → times k ns ≡ 0
    at_most zero e same = e
    at_most (suc m) e same =
        let above : value n + 1 ≤ value k = rise-above value k (value n + 1) ns rise.1 (omega (arith, e)) in
        absurd (omega (arith, above, ap value same))

    by_test : (b : Bool) → (n == k) ≡ b → times k ns ≤ 1 → times k (n ∷ ns) ≤ 1
    by_test true e rest =
        let same : n ≡ k = grind arith in
        let here : times k (n ∷ ns) ≡ 1 + times k ns = rw same (times-here k ns) in
        omega (arith, here, at_most (times k ns) refl same)
    by_test false e rest =
        let other : n ≢ k = grind arith in
        omega (arith, rest, times-other k n ns other)

-- the others rise once a shelf was taken out
rise-taken_out : (shelves : List LinkedShelf) (shelf from : ℕ) (by_height : List BoundedShelf) → RiseFrom from (map (order_of shelves) (numbers_by_height by_height))
    → RiseFrom from (map (order_of shelves) (numbers_by_height (taken_out shelf by_height)))
rise-taken_out shelves shelf from [] rise = tt
rise-taken_out shelves shelf from (one ∷ others) rise = by_test (one.shelf == shelf) (rise-taken_out shelves shelf (order_of shelves one.shelf + 1) others rise.1)
  where
    by_test : (b : Bool) → RiseFrom (order_of shelves one.shelf + 1) (map (order_of shelves) (numbers_by_height (taken_out shelf others)))
        → RiseFrom from (map (order_of shelves) (numbers_by_height (cond (not b) (one ∷ taken_out shelf others) (taken_out shelf others))))
    by_test true rest = rise-lower from (order_of shelves one.shelf + 1) (map (order_of shelves) (numbers_by_height (taken_out shelf others))) (omega (arith, rise.0)) rest
    by_test false rest = (rise.0, rest)

-- all rise once one was put in that none of the others shares an order with
rise-put_in : (shelves : List LinkedShelf) (one : BoundedShelf) (from : ℕ) (by_height : List BoundedShelf) → from ≤ order_of shelves one.shelf
    → ((k : ℕ) → 1 ≤ times k (numbers_by_height by_height) → order_of shelves k ≢ order_of shelves one.shelf)
    → RiseFrom from (map (order_of shelves) (numbers_by_height by_height)) → RiseFrom from (map (order_of shelves) (numbers_by_height (put_in shelves one by_height)))
rise-put_in shelves one from [] low apart rise = (low, tt)
rise-put_in shelves one from (other ∷ others) low apart rise =
    by_test (nat_lt (order_of shelves other.shelf) (order_of shelves one.shelf)) refl
    (λ above. rise-put_in shelves one (order_of shelves other.shelf + 1) others above (λ k stands. apart k (omega (arith, stands))) rise.1)
  where
    later_than : (a b : ℕ) → nat_lt a b ≡ false → a ≢ b → b + 1 ≤ a
    later_than a b e differ = let over : b ≤ a = grind arith in omega (arith, over, differ)

    by_test : (b : Bool) → nat_lt (order_of shelves other.shelf) (order_of shelves one.shelf) ≡ b
        → (order_of shelves other.shelf + 1 ≤ order_of shelves one.shelf → RiseFrom (order_of shelves other.shelf + 1) (map (order_of shelves) (numbers_by_height (put_in shelves one others))))
        → RiseFrom from (map (order_of shelves) (numbers_by_height (cond b (other ∷ put_in shelves one others) (one ∷ other ∷ others))))
    by_test true e later = (rise.0, later (grind arith))
    by_test false e later =
        let differ : order_of shelves other.shelf ≢ order_of shelves one.shelf = apart other.shelf (omega (arith, times-here other.shelf (numbers_by_height others))) in
        let above : order_of shelves one.shelf + 1 ≤ order_of shelves other.shelf = later_than (order_of shelves other.shelf) (order_of shelves one.shelf) e differ in
        (low, (above, rise.1))

-- what stands once among numbers below a count, each of which stands once, is below it
once_below : (k count : ℕ) → 1 ≤ cond (nat_lt k count) 1 0 → k < count
once_below k count stands = by_test (nat_lt k count) refl stands
  where
    by_test : (b : Bool) → nat_lt k count ≡ b → 1 ≤ cond b 1 0 → k < count
    by_test true e some = grind arith
    by_test false e some = absurd (omega (arith, some))

-- shelves by height of kept records stand in their order
pub by_height-in_order : (frame : Frame) (records : Records) (by_height : List BoundedShelf)
    → AreKept frame records → AreByHeight frame records by_height → AreInOrder records.shelves by_height
by_height-in_order frame records by_height kept are =
    record {
      within = Each-times (λ k. k < length records.shelves) (numbers_by_height by_height) (λ k stands. once_below k (length records.shelves) (omega (arith, stands, are.once k, (witnesses kept).linked.shelves_once k, times-append k (shelf_numbers (walked_lists records).entries ++ (walked_lists records).unused_shelves) [], times-append k (shelf_numbers (walked_lists records).entries) (walked_lists records).unused_shelves)));
      rising = are.rising;
    }

-- in their order each number stands once at most
pub in_order-once : (shelves : List LinkedShelf) (by_height : List BoundedShelf) (k : ℕ)
    → AreInOrder shelves by_height → times k (numbers_by_height by_height) ≤ 1
in_order-once shelves by_height k order = rise-once (order_of shelves) k 0 (numbers_by_height by_height) order.rising

-- and by records of which those of each of them alone are known
pub in_order-among : (shelves new : List LinkedShelf) (by_height : List BoundedShelf)
    → ((k : ℕ) → 1 ≤ times k (numbers_by_height by_height) → k < length new)
    → ((k : ℕ) → 1 ≤ times k (numbers_by_height by_height) → order_of new k ≡ order_of shelves k)
    → AreInOrder shelves by_height → AreInOrder new by_height
in_order-among shelves new by_height within same order =
    record {
      within = Each-times (λ k. k < length new) (numbers_by_height by_height) within;
      rising = subst (RiseFrom 0) (sym (map-agrees (order_of new) (order_of shelves) (numbers_by_height by_height) same)) order.rising;
    }

-- the others stand in their order once a shelf was taken out
pub in_order-taken_out : (shelves : List LinkedShelf) (shelf : ℕ) (by_height : List BoundedShelf)
    → AreInOrder shelves by_height → AreInOrder shelves (taken_out shelf by_height)
in_order-taken_out shelves shelf by_height order =
    record {
      within = subst (AllByRecursion (λ k. k < length shelves)) (sym (numbers-taken_out shelf by_height)) (Each-filter (λ k. k < length shelves) (λ m. not (m == shelf)) (numbers_by_height by_height) order.within);
      rising = rise-taken_out shelves shelf 0 by_height order.rising;
    }

-- all stand in their order once one was put in that none of the others shares an order with
pub in_order-put_in : (shelves : List LinkedShelf) (one : BoundedShelf) (by_height : List BoundedShelf)
    → one.shelf < length shelves
    → ((k : ℕ) → 1 ≤ times k (numbers_by_height by_height) → order_of shelves k ≢ order_of shelves one.shelf)
    → AreInOrder shelves by_height → AreInOrder shelves (put_in shelves one by_height)
in_order-put_in shelves one by_height within apart order =
    record {
      within = Each-times (λ k. k < length shelves) (numbers_by_height (put_in shelves one by_height))
          (λ k stands. put_below k (omega (arith, stands, times-put_in k shelves one by_height)));
      rising = rise-put_in shelves one 0 by_height (omega arith) apart order.rising;
    }
  where
    put_below : (k : ℕ) → 1 ≤ times k (one.shelf ∷ numbers_by_height by_height) → k < length shelves
    put_below k stands = Each-member (λ n. n < length shelves) (one.shelf ∷ numbers_by_height by_height) k (within, order.within) stands

-- they stand in their order once the bound of one was raised
pub in_order-raised : (shelves : List LinkedShelf) (shelf width : ℕ) (by_height : List BoundedShelf)
    → AreInOrder shelves by_height → AreInOrder shelves (raised shelf width by_height)
in_order-raised shelves shelf width by_height order =
    record {
      within = subst (AllByRecursion (λ k. k < length shelves)) (sym (numbers-raised shelf width by_height)) order.within;
      rising = subst (λ (ns : List ℕ). RiseFrom 0 (map (order_of shelves) ns)) (sym (numbers-raised shelf width by_height)) order.rising;
    }

-- and once it got another one
pub in_order-rebounded : (shelves : List LinkedShelf) (shelf width : ℕ) (by_height : List BoundedShelf)
    → AreInOrder shelves by_height → AreInOrder shelves (rebounded shelf width by_height)
in_order-rebounded shelves shelf width by_height order =
    record {
      within = subst (AllByRecursion (λ k. k < length shelves)) (sym (numbers-rebounded shelf width by_height)) order.within;
      rising = subst (λ (ns : List ℕ). RiseFrom 0 (map (order_of shelves) ns)) (sym (numbers-rebounded shelf width by_height)) order.rising;
    }
