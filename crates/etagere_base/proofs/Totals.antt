-- A measure of the elements of a list, added up: of a front and a back, with elements replaced, merged, and beside another measure.
use Rattle.std.proofs.Common.{◌≡◌, ℕ, zero, suc, ◌+◌, ◌*◌, ◌≤◌, Bool, true, Some, List, [], ◌∷◌, ◌++◌, length, take, set, refl, map, arith}
use Rattle.std.specs.List.{AllByRecursion, flat_map}
use Rattle.std.specs.Prelude.{slice_get}
use Rattle.etagere_base.specs.Lists.{at_first, replaced_at, total}
use Rattle.etagere_base.specs.Merging.{merged_by, merged_onto}
use Rattle.etagere_base.specs.MergingAt.{merged_at}
use Rattle.std.proofs.lemmas.Bool.{cond_both}
use Rattle.etagere_base.proofs.MergedKeeps.{measure-merged}

module _ {X : Type 0} (measure : X → ℕ) where
  -- the total of a front and a back
  pub total-append : (front back : List X) → total measure (front ++ back) ≡ total measure front + total measure back
  total-append [] back = omega arith
  total-append (x ∷ front) back = omega (arith, total-append front back)

  -- replacing an element by its pieces changes the total by theirs
  pub total-replaced_at : (pieces : X → List X) (n : ℕ) (xs : List X) (x : X) → slice_get xs n ≡ Some x
      → total measure (replaced_at n pieces xs) + measure x ≡ total measure xs + total measure (pieces x)
  total-replaced_at pieces n [] x h = absurd (cc)
  total-replaced_at pieces zero (y ∷ ys) x h =
      let same : y ≡ x = cc in rw same (omega (arith, total-append (pieces x) ys))
  total-replaced_at pieces (suc n) (y ∷ ys) x h = omega (arith, total-replaced_at pieces n ys x h)

  -- writing an element over another changes the total by theirs
  pub total-set : (n : ℕ) (xs : List X) (x new : X) → slice_get xs n ≡ Some x
      → total measure (set xs n new) + measure x ≡ total measure xs + measure new
  total-set n [] x new h = absurd (cc)
  total-set zero (y ∷ ys) x new h = let same : y ≡ x = cc in rw same (omega arith)
  total-set (suc n) (y ∷ ys) x new h = omega (arith, total-set n ys x new h)

  -- an element and those before it come to no more than all
  pub total-upto : (n : ℕ) (xs : List X) (x : X) → slice_get xs n ≡ Some x → total measure (take n xs) + measure x ≤ total measure xs
  total-upto n [] x h = absurd (cc)
  total-upto zero (y ∷ ys) x h = let same : y ≡ x = cc in rw same (omega arith)
  total-upto (suc n) (y ∷ ys) x h = omega (arith, total-upto n ys x h)

  -- two neighbours come to no more than all
  pub total-two : (n : ℕ) (xs : List X) (x y : X) → slice_get xs n ≡ Some x → slice_get xs (suc n) ≡ Some y → measure x + measure y ≤ total measure xs
  total-two n [] x y h k = absurd (cc)
  total-two zero (z ∷ []) x y h k = absurd (cc)
  total-two zero (z ∷ w ∷ ws) x y h k =
      let first : z ≡ x = cc in
      let second : w ≡ y = cc in
      rw (first, second) (omega arith)
  total-two (suc n) (z ∷ zs) x y h k = omega (arith, total-two n zs x y h k)

  -- elements of which each comes to nothing do so together
  pub total-none : (xs : List X) → AllByRecursion (λ (x : X). measure x ≡ 0) xs → total measure xs ≡ 0
  total-none [] none = refl
  total-none (x ∷ xs) none = omega (arith, none.0, total-none xs none.1)

  -- where all come to nothing, each does
  pub none-total : (xs : List X) → total measure xs ≡ 0 → AllByRecursion (λ (x : X). measure x ≡ 0) xs
  none-total [] none = tt
  none-total (x ∷ xs) none = (omega arith, none-total xs (omega arith))

  -- changing the first element that passes a test keeps the total where it keeps the measure
  pub total-at_first : (test : X → Bool) (change : X → X) → ((x : X) → measure (change x) ≡ measure x)
      → (xs : List X) → total measure (at_first test change xs) ≡ total measure xs
  total-at_first test change same [] = refl
  total-at_first test change same (x ∷ xs) =
      cond_both (test x) (change x ∷ xs) (x ∷ at_first test change xs) (λ (l : List X). total measure l ≡ total measure (x ∷ xs))
      (λ _. omega (arith, same x)) (λ _. omega (arith, total-at_first test change same xs))

  -- and makes it no larger where it makes the measure no larger
  pub total-at_first-le : (test : X → Bool) (change : X → X) → ((x : X) → test x ≡ true → measure (change x) ≤ measure x)
      → (xs : List X) → total measure (at_first test change xs) ≤ total measure xs
  total-at_first-le test change smaller [] = omega arith
  total-at_first-le test change smaller (x ∷ xs) =
      cond_both (test x) (change x ∷ xs) (x ∷ at_first test change xs) (λ (l : List X). total measure l ≤ total measure (x ∷ xs))
      (λ t. omega (arith, smaller x t)) (λ _. omega (arith, total-at_first-le test change smaller xs))

  module _ (touch : X → X → Bool) (combine : X → X → X) where
    -- merging keeps the total where two that become one keep their sum
    pub total-merged : ((x y : X) → touch x y ≡ true → measure (combine x y) ≡ measure x + measure y)
        → (xs : List X) → total measure (merged_by touch combine xs) ≡ total measure xs
    total-merged sum xs =
        measure-merged touch combine (total measure) (λ x ys zs h. omega (arith, h)) (λ x y ys t. omega (arith, sum x y t)) xs

    -- and makes it no larger where they come to no more than their sum
    pub total-merged-le : ((x y : X) → measure (combine x y) ≤ measure x + measure y)
        → (xs : List X) → total measure (merged_by touch combine xs) ≤ total measure xs
    total-merged-le less [] = omega arith
    total-merged-le less (x ∷ xs) = omega (arith, onto x (merged_by touch combine xs), total-merged-le less xs)
      where
        onto : (x : X) (xs : List X) → total measure (merged_onto touch combine x xs) ≤ total measure (x ∷ xs)
        onto x [] = omega arith
        onto x (y ∷ ys) =
            cond_both (touch x y) (combine x y ∷ ys) (x ∷ y ∷ ys) (λ (l : List X). total measure l ≤ total measure (x ∷ y ∷ ys))
            (λ _. omega (arith, less x y)) (λ _. omega arith)

    -- merging at one place keeps the total too
    pub total-merged_at : ((x y : X) → touch x y ≡ true → measure (combine x y) ≡ measure x + measure y)
        → (n : ℕ) (xs : List X) → total measure (merged_at touch combine n xs) ≡ total measure xs
    total-merged_at sum n [] = refl
    total-merged_at sum zero (x ∷ []) = refl
    total-merged_at sum zero (x ∷ y ∷ ys) =
        cond_both (touch x y) (combine x y ∷ ys) (x ∷ y ∷ ys) (λ (l : List X). total measure l ≡ total measure (x ∷ y ∷ ys))
        (λ t. omega (arith, sum x y t)) (λ _. refl)
    total-merged_at sum (suc n) (x ∷ xs) = omega (arith, total-merged_at sum n xs)

-- where one measure is nowhere above another, nor is its total
pub total-le : {X : Type 0} (one other : X → ℕ) (xs : List X) → AllByRecursion (λ (x : X). one x ≤ other x) xs → total one xs ≤ total other xs
total-le one other [] le = omega arith
total-le one other (x ∷ xs) le = omega (arith, le.0, total-le one other xs le.1)

-- where a measure is the sum of two, its total is the sum of theirs
pub total-sum : {X : Type 0} (sum one other : X → ℕ) → ((x : X) → sum x ≡ one x + other x)
    → (xs : List X) → total sum xs ≡ total one xs + total other xs
total-sum sum one other is [] = refl
total-sum sum one other is (x ∷ xs) = omega (arith, is x, total-sum sum one other is xs)

-- the total of a multiple is that multiple of the total
pub total-times : {X : Type 0} (factor : ℕ) (measure : X → ℕ) (xs : List X) → total (λ x. factor * measure x) xs ≡ factor * total measure xs
total-times factor measure [] = omega arith
total-times factor measure (x ∷ xs) = omega (arith, total-times factor measure xs)

-- each element counted once makes the length
pub total-ones : {X : Type 0} (xs : List X) → total (λ x. 1) xs ≡ length xs
total-ones [] = refl
total-ones (x ∷ xs) = omega (arith, total-ones xs)

-- what maps to nothing is nothing
pub map-nothing : {X Y : Type 0} (f : X → Y) (xs : List X) → map f xs ≡ [] → xs ≡ []
map-nothing f [] h = refl
map-nothing f (x ∷ xs) h = absurd (cc)

-- lists end to end are nothing where each is
append-nothing : {X : Type 0} (xs ys : List X) → xs ++ ys ≡ [] → (xs ≡ []) × (ys ≡ [])
append-nothing [] ys h = (refl, h)
append-nothing (x ∷ xs) ys h = absurd (cc)

-- lists that are nothing end to end are so each
pub nothing-flat_map : {X Y : Type 0} (part : X → List Y) (xs : List X) → flat_map part xs ≡ [] → AllByRecursion (λ (x : X). part x ≡ []) xs
nothing-flat_map part [] h = tt
nothing-flat_map part (x ∷ xs) h =
    let parts = append-nothing (part x) (flat_map part xs) h in
    (parts.0, nothing-flat_map part xs parts.1)

-- lists that are each nothing are so end to end
pub flat_map-nothing : {X Y : Type 0} (part : X → List Y) (xs : List X) → AllByRecursion (λ (x : X). part x ≡ []) xs → flat_map part xs ≡ []
flat_map-nothing part [] none = refl
flat_map-nothing part (x ∷ xs) none = rw (none.0, flat_map-nothing part xs none.1) refl
