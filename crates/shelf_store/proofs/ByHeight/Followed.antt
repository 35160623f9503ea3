-- The notes of a list that follows records, as its shelves are put to use one after another.
use Rattle.std.proofs.Common.{◌≡◌, ◌≢◌, ℕ, zero, suc, ◌+◌, ◌<◌, ◌≤◌, Bool, true, false, List, [], ◌∷◌, length, min, replicate, take, add-one, refl, ap, arith, subst, sym, ◌∙◌}
use Rattle.std.proofs.lemmas.List.{length-map, length-replicate}
use Rattle.std.specs.List.{AllByRecursion}
use Rattle.std.specs.Prelude.{◌==◌, nat_lt}
use Rattle.etagere_base.proofs.TimesLemmas.{hit}
use Rattle.etagere_base.specs.Lists.{times}
use Rattle.shelf_heights.specs.Private.ByHeight.{AreInOrder, bounded_at, numbers_by_height}
use Rattle.shelf_notes.specs.Private.Pending.{Notes, is_in_use, is_listed, is_noted, once_where, put_to_use, standing_at, is_parked, unknown}
use Rattle.shelf_heights.specs.declared.by_height.BoundedShelf.{BoundedShelf}
use Rattle.shelf_notes.specs.declared.pending.Standing.{Standing}
use Rattle.etagere_links.proofs.Tallies.{length-once}
use Rattle.shelf_records.specs.declared.records.LinkedShelf.{LinkedShelf}
use Rattle.shelf_records.proofs.Recorded.Members.{Each-member}
use Rattle.shelf_heights.proofs.ByHeight.Edited.{in_order-once}
use Rattle.shelf_notes.proofs.Noted.{standing-other, standing-own, standing-past, standing-replicated}
use Rattle.shelf_store.specs.Private.Settling.{Follows}

-- how often a number stands among one more of the first shelves
times-more : (k n : ℕ) (by_height : List BoundedShelf) → n < length by_height → times k (take (suc n) (numbers_by_height by_height)) ≡ times k (take n (numbers_by_height by_height)) + hit (bounded_at by_height n).shelf k
times-more k n [] below = absurd (omega (arith, below))
times-more k zero (one ∷ others) below = omega arith
times-more k (suc n) (one ∷ others) below = omega (arith, times-more k n others (omega (arith, below)))

-- what is known of the shelves so far
pub record AreUsed (n : ℕ) (by_height : List BoundedShelf) (notes : Notes) : Type 0 where
  pub unchanged : (k : ℕ) → is_noted notes k ≡ false
  pub unparked : (k : ℕ) → is_parked notes k ≡ false
  pub listed : (k : ℕ) → once_where (is_listed notes k) ≡ min 1 (times k (take n (numbers_by_height by_height)))
  pub in_use : (k : ℕ) → is_in_use notes k ≡ is_listed notes k

pub one-used : (n : ℕ) (by_height : List BoundedShelf) (notes : Notes) (shelf : ℕ) → n < length by_height → shelf ≡ (bounded_at by_height n).shelf → shelf < length notes.standing → AreUsed n by_height notes → AreUsed (n + 1) by_height (put_to_use shelf notes)
one-used n by_height notes shelf below read within used =
    record {
      unchanged = λ k. not_noted k (k == shelf) refl;
      unparked = λ k. not_parked k (k == shelf) refl;
      listed = λ k. is_there k (k == shelf) refl;
      in_use = λ k. is_both k (k == shelf) refl;
    }
  where
    one : Standing
    one = record { listed = true; in_use = true; noted = false; parked = false }

    upto : (k : ℕ) → times k (take (n + 1) (numbers_by_height by_height)) ≡ times k (take n (numbers_by_height by_height)) + hit (bounded_at by_height n).shelf k
    upto k = ap (λ (m : ℕ). times k (take m (numbers_by_height by_height))) (add-one n) ∙ times-more k n by_height below

    own : (k : ℕ) → (k == shelf) ≡ true → standing_at (put_to_use shelf notes).standing k ≡ one
    own k e = let same : k ≡ shelf = grind arith in rw same (standing-own notes.standing shelf one within)

    other : (k : ℕ) → (k == shelf) ≡ false → standing_at (put_to_use shelf notes).standing k ≡ standing_at notes.standing k
    other k e = let differ : k ≢ shelf = grind arith in standing-other notes.standing shelf k one differ

    not_noted : (k : ℕ) (b : Bool) → (k == shelf) ≡ b → is_noted (put_to_use shelf notes) k ≡ false
    not_noted k true e = ap (λ (s : Standing). s.noted) (own k e)
    not_noted k false e = ap (λ (s : Standing). s.noted) (other k e) ∙ used.unchanged k

    not_parked : (k : ℕ) (b : Bool) → (k == shelf) ≡ b → is_parked (put_to_use shelf notes) k ≡ false
    not_parked k true e = ap (λ (s : Standing). s.parked) (own k e)
    not_parked k false e = ap (λ (s : Standing). s.parked) (other k e) ∙ used.unparked k

    is_there : (k : ℕ) (b : Bool) → (k == shelf) ≡ b → once_where (is_listed (put_to_use shelf notes) k) ≡ min 1 (times k (take (n + 1) (numbers_by_height by_height)))
    is_there k true e =
        let same : k ≡ (bounded_at by_height n).shelf = grind (arith, read) in
        let here : hit (bounded_at by_height n).shelf k ≡ 1 = grind (arith, same) in
        omega (arith, ap (λ (s : Standing). once_where s.listed) (own k e), here, upto k)
    is_there k false e =
        let differ : (bounded_at by_height n).shelf ≢ k = grind (arith, read) in
        let here : hit (bounded_at by_height n).shelf k ≡ 0 = grind (arith, differ) in
        omega (arith, ap (λ (s : Standing). once_where s.listed) (other k e), here, upto k, used.listed k)

    is_both : (k : ℕ) (b : Bool) → (k == shelf) ≡ b → is_in_use (put_to_use shelf notes) k ≡ is_listed (put_to_use shelf notes) k
    is_both k true e = ap (λ (s : Standing). s.in_use) (own k e) ∙ sym (ap (λ (s : Standing). s.listed) (own k e))
    is_both k false e = ap (λ (s : Standing). s.in_use) (other k e) ∙ used.in_use k ∙ sym (ap (λ (s : Standing). s.listed) (other k e))

-- each number below a bound stands among as many that are below it and stand there once
all-stand : (n : ℕ) (ns : List ℕ) → ((k : ℕ) → times k ns ≤ 1) → AllByRecursion (λ k. k < n) ns → length ns ≡ n → (k : ℕ) → k < n → times k ns ≡ 1
all-stand n ns once within long k below = by_count (times k ns) refl
  where
    more : times k ns ≡ 0 → (j : ℕ) → times j (k ∷ ns) ≤ 1
    more none j = by_test (k == j) refl
      where
        by_test : (b : Bool) → (k == j) ≡ b → times j (k ∷ ns) ≤ 1
        by_test true e =
            let same : k ≡ j = grind arith in
            let here : hit k j ≡ 1 = grind (arith, same) in
            omega (arith, here, none, ap (λ m. times m ns) same)
        by_test false e =
            let differ : k ≢ j = grind arith in
            let here : hit k j ≡ 0 = grind (arith, differ) in
            omega (arith, here, once j)

    by_count : (c : ℕ) → times k ns ≡ c → times k ns ≡ 1
    by_count zero none =
        let fits : length (k ∷ ns) ≤ n = length-once n (k ∷ ns) (more none) (λ j stands. Each-member (λ m. m < n) (k ∷ ns) j (below, within) stands) in
        absurd (omega (arith, fits, long))
    by_count (suc c) some = omega (arith, some, once k)

-- a list as long as the records that it follows has them all, each as it is
pub follows-all : (shelves : List LinkedShelf) (by_height : List BoundedShelf) (notes : Notes) → AreInOrder shelves by_height → length by_height ≡ length shelves → notes ≡ record { kept = shelves; standing = replicate (length shelves) (record { listed = true; in_use = true; noted = false; parked = false }); noted = []; parked_below = 0; narrow_below = 0 } → Follows shelves by_height notes
follows-all shelves by_height notes order long all =
    subst (Follows shelves by_height) (sym all)
    (record {
      kept = refl;
      known = length-replicate count one;
      noted = refl;
      unchanged = λ k. not_noted k (nat_lt k count) refl;
      listed = λ k. is_listed_once k (nat_lt k count) refl;
      in_use = λ k. is_both k (nat_lt k count) refl;
      unparked = λ k. not_parked k (nat_lt k count) refl;
      parked_below = refl;
    })
  where
    count : ℕ
    count = length shelves

    one : Standing
    one = record { listed = true; in_use = true; noted = false; parked = false }

    numbers : List ℕ
    numbers = numbers_by_height by_height

    is_listed_once : (k : ℕ) (b : Bool) → nat_lt k count ≡ b → times k numbers ≡ once_where (standing_at (replicate count one) k).listed
    is_listed_once k true e =
        let below : k < count = grind arith in
        all-stand count numbers (λ j. in_order-once shelves by_height j order) order.within (length-map by_height (λ (b : BoundedShelf). b.shelf) ∙ long) k below
        ∙ sym (ap (λ (s : Standing). once_where s.listed) (standing-replicated count k one below))
    is_listed_once k false e =
        let past : count ≤ k = grind arith in
        none_past k past (times k numbers) refl ∙ sym (ap (λ (s : Standing). once_where s.listed) (standing-past (replicate count one) k (omega (arith, past, length-replicate count one))))
      where
        none_past : (k : ℕ) → count ≤ k → (c : ℕ) → times k numbers ≡ c → times k numbers ≡ 0
        none_past k past zero e = e
        none_past k past (suc c) e = absurd (omega (arith, past, Each-member (λ m. m < count) numbers k order.within (omega (arith, e))))

    is_both : (k : ℕ) (b : Bool) → nat_lt k count ≡ b → (standing_at (replicate count one) k).in_use ≡ (standing_at (replicate count one) k).listed
    is_both k true e =
        let below : k < count = grind arith in
        ap (λ (s : Standing). s.in_use) (standing-replicated count k one below) ∙ sym (ap (λ (s : Standing). s.listed) (standing-replicated count k one below))
    is_both k false e =
        let past : count ≤ k = grind arith in
        let gone = standing-past (replicate count one) k (omega (arith, past, length-replicate count one)) in
        ap (λ (s : Standing). s.in_use) gone ∙ sym (ap (λ (s : Standing). s.listed) gone)

    of_each : (field : Standing → Bool) → field one ≡ false → field unknown ≡ false → (k : ℕ) (b : Bool) → nat_lt k count ≡ b → field (standing_at (replicate count one) k) ≡ false
    of_each field here past k true e = let below : k < count = grind arith in ap field (standing-replicated count k one below) ∙ here
    of_each field here past k false e =
        let behind : count ≤ k = grind arith in
        ap field (standing-past (replicate count one) k (omega (arith, behind, length-replicate count one))) ∙ past

    not_noted : (k : ℕ) (b : Bool) → nat_lt k count ≡ b → (standing_at (replicate count one) k).noted ≡ false
    not_noted = of_each (λ (s : Standing). s.noted) refl refl

    not_parked : (k : ℕ) (b : Bool) → nat_lt k count ≡ b → (standing_at (replicate count one) k).parked ≡ false
    not_parked = of_each (λ (s : Standing). s.parked) refl refl
