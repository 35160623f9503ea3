-- Numbers that stand in lists: a fact of each is one of theirs, and where they stand.
use Rattle.std.proofs.Common.{◌≡◌, ◌≢◌, ℕ, zero, suc, ◌≤◌, Bool, true, false, List, [], ◌∷◌, ◌++◌, refl, ap, arith, subst}
use Rattle.std.specs.Prelude.{◌==◌}
use Rattle.std.specs.List.{AllByRecursion}
use Rattle.etagere_base.specs.Lists.{times}
use Rattle.etagere_base.proofs.TimesLemmas.{times-append}
use Rattle.etagere_links.proofs.ListEnds.{times-here, times-other}
use Rattle.shelf_records.specs.RecordLists.{Entry, item_numbers}

-- a fact of each number is one of a number that stands in the list
pub Each-member : (P : ℕ → Type 0) (xs : List ℕ) (k : ℕ) → AllByRecursion P xs → 1 ≤ times k xs → P k
Each-member P [] k each stands = absurd (omega (arith, stands))
Each-member P (x ∷ xs) k each stands = by_test (x == k) refl (Each-member P xs k each.1)
  where
    by_test : (b : Bool) → (x == k) ≡ b → (1 ≤ times k xs → P k) → P k
    by_test true e later = let same : x ≡ k = grind arith in subst P same each.0
    by_test false e later = let other : x ≢ k = grind arith in later (omega (arith, stands, times-other k x xs other))

-- and what holds of each number that stands in the list holds of each
pub Each-times : (P : ℕ → Type 0) (xs : List ℕ) → ((k : ℕ) → 1 ≤ times k xs → P k) → AllByRecursion P xs
Each-times P [] holds = tt
Each-times P (x ∷ xs) holds = (holds x (omega (arith, times-here x xs)), Each-times P xs (λ k stands. holds k (omega (arith, stands))))

-- where a number stands in a list
pub record IsAmong (number : ℕ) (xs : List ℕ) : Type 0 where
  pub front : List ℕ
  pub back : List ℕ
  pub whole : xs ≡ front ++ number ∷ back

-- a number that stands in a list stands somewhere in it
pub among : (number : ℕ) (xs : List ℕ) → 1 ≤ times number xs → IsAmong number xs
among number [] stands = absurd (omega (arith, stands))
among number (x ∷ xs) stands = by_test (x == number) refl (among number xs)
  where
    by_test : (b : Bool) → (x == number) ≡ b → (1 ≤ times number xs → IsAmong number xs) → IsAmong number (x ∷ xs)
    by_test true e later =
        let same : x ≡ number = grind arith in
        record { front = []; back = xs; whole = ap (λ y. y ∷ xs) same }
    by_test false e later =
        let other : x ≢ number = grind arith in
        let rest : IsAmong number xs = later (omega (arith, stands, times-other number x xs other)) in
        record { front = x ∷ rest.front; back = rest.back; whole = cc (rest.whole) }

-- where an item stands: in which shelf, and where in it
pub record StandsIn (number : ℕ) (entries : List Entry) : Type 0 where
  pub before : List Entry
  pub entry : Entry
  pub after : List Entry
  pub whole : entries ≡ before ++ entry ∷ after
  pub items : IsAmong number entry.items

-- an item of some shelf stands somewhere in it
pub stands_in : (number : ℕ) (entries : List Entry) → 1 ≤ times number (item_numbers entries) → StandsIn number entries
stands_in number [] stands = absurd (omega (arith, stands))
stands_in number (entry ∷ entries) stands = by_count (times number entry.items) refl (stands_in number entries)
  where
    by_count : (n : ℕ) → times number entry.items ≡ n → (1 ≤ times number (item_numbers entries) → StandsIn number entries) → StandsIn number (entry ∷ entries)
    by_count zero e later =
        let rest : StandsIn number entries = later (omega (arith, e, stands, times-append number entry.items (item_numbers entries))) in
        record {
          before = entry ∷ rest.before;
          entry = rest.entry;
          after = rest.after;
          whole = ap (λ es. entry ∷ es) rest.whole;
          items = rest.items;
        }
    by_count (suc n) e later =
        record { before = []; entry = entry; after = entries; whole = refl; items = among number entry.items (omega (arith, e)) }
