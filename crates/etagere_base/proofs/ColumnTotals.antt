-- A measure added up over one column, and over the columns before one.
use Rattle.std.proofs.Common.{◌≡◌, ℕ, zero, suc, ◌+◌, ◌*◌, ◌<◌, ◌≤◌, cond, ◌==◌, Some, List, [], ◌∷◌, length, take, ◌≢◌, refl, arith}
use Rattle.std.specs.Prelude.{nat_lt, slice_get}
use Rattle.std.specs.List.{AllByRecursion}
use Rattle.etagere_base.specs.Lists.{column_total, total}
use Rattle.etagere_base.proofs.EachLemmas.{Each-all, Each-weaken}
use Rattle.etagere_base.proofs.Totals.{total-le, total-none, total-ones, total-sum, total-two, total-upto}

module _ {X : Type 0} (column_of measure : X → ℕ) where
  -- what an element adds to a column
  abbrev pub part : ℕ → X → ℕ
  part column x = cond (column_of x == column) (measure x) 0

  -- an element counts in its own column
  pub part-own : (column : ℕ) (x : X) → column_of x ≡ column → part column x ≡ measure x
  part-own column x h = grind arith

  -- and in no other
  pub part-other : (column : ℕ) (x : X) → column_of x ≢ column → part column x ≡ 0
  part-other column x h = grind arith

  -- elements of other columns add nothing
  pub column_total-none : (column : ℕ) (xs : List X) → AllByRecursion (λ (x : X). column_of x ≢ column) xs → column_total column_of measure column xs ≡ 0
  column_total-none column xs others = total-none (part column) xs (Each-weaken _ _ xs (part-other column) others)

  -- an element and those before it in its column come to no more than the column
  pub column_total-upto : (n : ℕ) (xs : List X) (x : X) → slice_get xs n ≡ Some x
      → column_total column_of measure (column_of x) (take n xs) + measure x ≤ column_total column_of measure (column_of x) xs
  column_total-upto n xs x h = omega (arith, total-upto (part (column_of x)) n xs x h, part-own (column_of x) x refl)

  -- two neighbours in one column come to no more than it
  pub column_total-two : (n : ℕ) (xs : List X) (x y : X) → slice_get xs n ≡ Some x → slice_get xs (suc n) ≡ Some y → column_of y ≡ column_of x
      → measure x + measure y ≤ column_total column_of measure (column_of x) xs
  column_total-two n xs x y h k same =
      omega (arith, total-two (part (column_of x)) n xs x y h k, part-own (column_of x) x refl, part-own (column_of x) y same)

  -- what an element adds to the columns before one
  abbrev part_before : ℕ → X → ℕ
  part_before column x = cond (nat_lt (column_of x) column) (measure x) 0

  -- the measure added up over the columns before one
  abbrev pub total_before : ℕ → List X → ℕ
  total_before column xs = total (part_before column) xs

  -- one column further its own total comes in
  total_before-suc : (column : ℕ) (xs : List X) → total_before (suc column) xs ≡ total_before column xs + column_total column_of measure column xs
  total_before-suc column xs = total-sum (part_before (suc column)) (part_before column) (part column) (λ x. step (column_of x) (measure x)) xs
    where
      step : (c m : ℕ) → cond (nat_lt c (suc column)) m 0 ≡ cond (nat_lt c column) m 0 + cond (c == column) m 0
      step c m = grind arith

  -- columns of one total come together to as many times that
  pub total_before-columns : (height n : ℕ) (xs : List X) → ((column : ℕ) → column < n → column_total column_of measure column xs ≡ height)
      → total_before n xs ≡ n * height
  total_before-columns height zero xs h = omega (arith, total-none (part_before 0) xs (Each-all _ (λ x. step (column_of x) (measure x)) xs))
    where
      step : (c m : ℕ) → cond (nat_lt c 0) m 0 ≡ 0
      step c m = grind arith
  total_before-columns height (suc n) xs h =
      omega (arith, total_before-columns height n xs (λ column below. h column (omega arith)), total_before-suc n xs, h n (omega arith))

-- a column with a total has an element
column_count : {X : Type 0} (column_of measure : X → ℕ) (column : ℕ) (xs : List X) → 1 ≤ column_total column_of measure column xs
    → 1 ≤ column_total column_of (λ x. 1) column xs
column_count column_of measure column [] h = absurd (omega arith)
column_count column_of measure column (x ∷ xs) h = step (column_of x) (measure x) _ _ h (column_count column_of measure column xs)
  where
    step : (c m rest count : ℕ) → 1 ≤ cond (c == column) m 0 + rest → (1 ≤ rest → 1 ≤ count) → 1 ≤ cond (c == column) 1 0 + count
    step c m rest count h later = grind arith

-- where each column before one has a total, there are at least as many elements
pub columns-le-length : {X : Type 0} (column_of measure : X → ℕ) (n : ℕ) (xs : List X) → ((column : ℕ) → column < n → 1 ≤ column_total column_of measure column xs)
    → n ≤ length xs
columns-le-length column_of measure n xs h =
    omega (
      arith,
      columns-counted n (λ column below. column_count column_of measure column xs (h column below)),
      total-ones xs,
      total-le (part_before column_of (λ x. 1) n) (λ x. 1) xs (Each-all _ (λ x. step (column_of x)) xs),
    )
  where
    step : (c : ℕ) → cond (nat_lt c n) 1 0 ≤ 1
    step c = grind arith

    columns-counted : (k : ℕ) → ((column : ℕ) → column < k → 1 ≤ column_total column_of (λ x. 1) column xs) → k ≤ total_before column_of (λ x. 1) k xs
    columns-counted zero h = omega arith
    columns-counted (suc k) h =
        omega (arith, columns-counted k (λ column below. h column (omega arith)), total_before-suc column_of (λ x. 1) k xs, h k (omega arith))
