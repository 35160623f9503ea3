-- Where each record stands in one list, once, the lists are no longer than there are records.
use Rattle.std.proofs.Common.{◌≡◌, ℕ, ◌<◌, ◌≤◌, Bool, true, false, List, [], ◌∷◌, ◌++◌, length, refl, arith}
use Rattle.std.specs.Prelude.{nat_lt, if◌then◌else◌}
use Rattle.etagere_base.proofs.TimesLemmas.{times-append}
use Rattle.std.specs.List.{AllByRecursion}
use Rattle.etagere_base.specs.Lists.{times}
use Rattle.etagere_links.proofs.Tallies.{length-once}
use Rattle.shelf_records.specs.RecordLists.{Entry, item_numbers, shelf_numbers}
use Rattle.etagere_links.specs.Lists.{HasEachOnce}

-- each number of a list is below a count, and stands there once at most
abbrev AreBelow : ℕ → List ℕ → Type 0
AreBelow count xs = (k : ℕ) → times k xs ≤ (if nat_lt k count then 1 else 0)

-- one number
one : (b : Bool) → (if b then 1 else 0) ≤ 1
one true = omega arith
one false = omega arith

-- such a list is short
below-length : (count : ℕ) (xs : List ℕ) → AreBelow count xs → length xs ≤ count
below-length count xs below =
    length-once count xs (λ k. omega (arith, below k, one (nat_lt k count))) (λ k stands. within k stands (nat_lt k count) refl)
  where
    within : (k : ℕ) → 1 ≤ times k xs → (b : Bool) → nat_lt k count ≡ b → k < count
    within k stands true e = grind arith
    within k stands false e =
        let none : times k xs ≤ 0 = rw e at (below k) in
        absurd (omega (arith, none, stands))

-- the front of a list where each stands once
below-front : (count : ℕ) (xs ys : List ℕ) → HasEachOnce count (xs ++ ys) → AreBelow count xs
below-front count xs ys once k = omega (arith, once k, times-append k xs ys)

-- the items of each shelf are short
below-items : (count : ℕ) (entries : List Entry) → AreBelow count (item_numbers entries) → AllByRecursion (λ (entry : Entry). length entry.items ≤ count) entries
below-items count [] below = tt
below-items count (entry ∷ entries) below = (
  below-length count entry.items (λ k. omega (arith, below k, times-append k entry.items (item_numbers entries))),
  below-items count entries (λ k. omega (arith, below k, times-append k entry.items (item_numbers entries))),
)

-- a shelf has no more items than there are records
pub short-items : (count : ℕ) (entries : List Entry) (unused : List ℕ) → HasEachOnce count (item_numbers entries ++ unused)
    → AllByRecursion (λ (entry : Entry). length entry.items ≤ count) entries
short-items count entries unused once = below-items count entries (below-front count (item_numbers entries) unused once)

-- as many numbers as shelves
length-numbers : (entries : List Entry) → length (shelf_numbers entries) ≡ length entries
length-numbers [] = refl
length-numbers (entry ∷ entries) = omega (arith, length-numbers entries)

-- there are no more shelves than records
pub few-shelves : (count : ℕ) (entries : List Entry) (unused : List ℕ) → HasEachOnce count (shelf_numbers entries ++ unused) → length entries ≤ count
few-shelves count entries unused once =
    omega (arith, length-numbers entries, below-length count (shelf_numbers entries) (below-front count (shelf_numbers entries) unused once))

-- each shelf stands once
pub once-shelves : (count : ℕ) (entries : List Entry) (unused : List ℕ) → HasEachOnce count (shelf_numbers entries ++ unused)
    → (k : ℕ) → times k (shelf_numbers entries) ≤ 1
once-shelves count entries unused once k =
    omega (arith, below-front count (shelf_numbers entries) unused once k, one (nat_lt k count))
