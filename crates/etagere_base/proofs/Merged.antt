-- Merging neighbours that touch: a list with none stays, what is merged has none, and the pieces of one merge to it again.
use Rattle.std.proofs.Common.{◌≡◌, ℕ, zero, suc, Bool, true, false, List, [], ◌∷◌, take, drop, refl, ap, ◌∙◌, cond, ◌++◌, map, ◌<◌, ◌≤◌, arith, subst, sym}
use Rattle.std.proofs.lemmas.Bool.{cond_both, cond-false}
use Rattle.std.proofs.lemmas.List.{take-set-le, drop-set-lt}
use Rattle.std.specs.Prelude.{slice_set}
use Rattle.etagere_base.specs.Merging.{merged_onto, merged_by}
use Rattle.etagere_base.specs.Lists.{NoNeighbours}
use Rattle.etagere_base.specs.MergingAt.{merged_at, merged_before}
use Rattle.etagere_base.proofs.NoNeighboursLemmas.{NoNeighbours-back, NoNeighbours-drop, NoNeighbours-first, NoNeighbours-tail, NoNeighbours-take}

-- what is merged touches its neighbours as its parts did
pub record Merges {X : Type 0} (touch : X → X → Bool) (combine : X → X → X) : Type 0 where
  pub next : (x y z : X) → touch x y ≡ true → touch (combine x y) z ≡ touch y z
  pub before : (w x y : X) → touch x y ≡ true → touch w (combine x y) ≡ touch w x

module _ {X : Type 0} (touch : X → X → Bool) (combine : X → X → X) where
  -- an element that touches nothing stands in front as it is
  merged_onto-apart : (x : X) (xs : List X) → NoNeighbours touch (x ∷ xs) → merged_onto touch combine x xs ≡ x ∷ xs
  merged_onto-apart x [] apart = refl
  merged_onto-apart x (y ∷ ys) apart = cond-false _ _ _ apart.0

  -- merging a list without touching neighbours changes nothing
  pub merged-apart : (xs : List X) → NoNeighbours touch xs → merged_by touch combine xs ≡ xs
  merged-apart [] apart = refl
  merged-apart (x ∷ xs) apart =
      ap (merged_onto touch combine x) (merged-apart xs (NoNeighbours-tail touch x xs apart)) ∙ merged_onto-apart x xs apart

  -- a list is merged where its end is, in front of which nothing touches
  merged-behind : (front xs ys : List X) → merged_by touch combine xs ≡ ys → NoNeighbours touch (front ++ ys)
      → merged_by touch combine (front ++ xs) ≡ front ++ ys
  merged-behind [] xs ys e apart = e
  merged-behind (x ∷ front) xs ys e apart =
      ap (merged_onto touch combine x) (merged-behind front xs ys e (NoNeighbours-tail touch x (front ++ ys) apart))
      ∙ merged_onto-apart x (front ++ ys) apart

  -- two pieces at the front of a list merge to the one that touches nothing
  merged-two : (one other whole : X) (back : List X) → touch one other ≡ true → combine one other ≡ whole
      → NoNeighbours touch (other ∷ back) → merged_by touch combine (one ∷ other ∷ back) ≡ whole ∷ back
  merged-two one other whole back touching same apart = rw (merged-apart (other ∷ back) apart, touching, same)

  -- the two pieces of one that touched nothing merge to that one again
  pub merged-pieces : (front : List X) (one other whole : X) (back : List X) → touch one other ≡ true → combine one other ≡ whole
      → ((x : X) → touch other x ≡ touch whole x) → NoNeighbours touch (front ++ whole ∷ back)
      → merged_by touch combine (front ++ one ∷ other ∷ back) ≡ front ++ whole ∷ back
  merged-pieces front one other whole back touching same like apart =
      let rest = NoNeighbours-first touch whole other back (λ y h. like y ∙ h) (NoNeighbours-back touch front (whole ∷ back) apart) in
      merged-behind front (one ∷ other ∷ back) (whole ∷ back) (merged-two one other whole back touching same rest) apart

  -- what is merged and then changed is what is changed and then merged
  pub merged-map : (change : X → X) → ((x y : X) → touch (change x) (change y) ≡ touch x y)
      → ((x y : X) → change (combine x y) ≡ combine (change x) (change y)) → (xs : List X)
      → map change (merged_by touch combine xs) ≡ merged_by touch combine (map change xs)
  merged-map change same_touch same_merged [] = refl
  merged-map change same_touch same_merged (x ∷ xs) =
      onto x (merged_by touch combine xs) ∙ ap (merged_onto touch combine (change x)) (merged-map change same_touch same_merged xs)
    where
      chosen : (b : Bool) (x y : X) (ys : List X)
          → map change (cond b (combine x y ∷ ys) (x ∷ y ∷ ys)) ≡ cond b (combine (change x) (change y) ∷ map change ys) (change x ∷ change y ∷ map change ys)
      chosen true x y ys = ap (λ (z : X). z ∷ map change ys) (same_merged x y)
      chosen false x y ys = refl

      onto : (x : X) (ys : List X) → map change (merged_onto touch combine x ys) ≡ merged_onto touch combine (change x) (map change ys)
      onto x [] = refl
      onto x (y ∷ ys) = rw (same_touch x y) (chosen (touch x y) x y ys)

  -- an element in front of a merged list is merged with the first as at number 0
  merged_onto-merged_at : (x : X) (xs : List X) → merged_onto touch combine x xs ≡ merged_at touch combine zero (x ∷ xs)
  merged_onto-merged_at x [] = refl
  merged_onto-merged_at x (y ∷ ys) = refl

  module _ (merges : Merges touch combine) where
    -- no two touch after one more element was merged on
    onto-apart : (x : X) (xs : List X) → NoNeighbours touch xs → NoNeighbours touch (merged_onto touch combine x xs)
    onto-apart x [] h = tt
    onto-apart x (y ∷ ys) h =
        cond_both (touch x y) (combine x y ∷ ys) (x ∷ y ∷ ys) (NoNeighbours touch) (λ t. NoNeighbours-first touch y (combine x y) ys (λ z f. merges.next x y z t ∙ f) h) (λ f. (f, h))

    -- what is merged has no touching neighbours
    pub apart-merged : (xs : List X) → NoNeighbours touch (merged_by touch combine xs)
    apart-merged [] = tt
    apart-merged (x ∷ xs) = onto-apart x (merged_by touch combine xs) (apart-merged xs)

    -- merging twice is merging once
    pub merged_idempotent : (xs : List X) → merged_by touch combine (merged_by touch combine xs) ≡ merged_by touch combine xs
    merged_idempotent xs = merged-apart (merged_by touch combine xs) (apart-merged xs)

    -- an element that doesn't touch the next one stays apart from whatever the next one is merged to
    onto-onto : (x y : X) (ys : List X) → touch x y ≡ false → merged_onto touch combine x (merged_onto touch combine y ys) ≡ x ∷ merged_onto touch combine y ys
    onto-onto x y [] f = cond-false _ _ _ f
    onto-onto x y (z ∷ zs) f =
        cond_both (touch y z) (combine y z ∷ zs) (y ∷ z ∷ zs) (λ (l : List X). merged_onto touch combine x l ≡ x ∷ l)
        (λ t. cond-false _ _ _ (merges.before x y z t ∙ f)) (λ _. cond-false _ _ _ f)

    -- where the first element alone may touch its neighbour, merging is merging it with the next one
    merged-near_first : (xs : List X) → NoNeighbours touch (drop 1 xs) → merged_by touch combine xs ≡ merged_at touch combine zero xs
    merged-near_first [] h = refl
    merged-near_first (x ∷ xs) h = ap (merged_onto touch combine x) (merged-apart xs h) ∙ merged_onto-merged_at x xs

    -- merging where one element alone may touch its neighbours is merging it with the next one and then with the one before
    merged-near : (n : ℕ) (xs : List X) → NoNeighbours touch (take n xs) → NoNeighbours touch (drop (suc n) xs)
        → merged_by touch combine xs ≡ merged_before touch combine n (merged_at touch combine n xs)
    merged-near zero xs front back = merged-near_first xs back
    merged-near (suc zero) [] front back = refl
    merged-near (suc zero) (x ∷ xs) front back =
        ap (merged_onto touch combine x) (merged-near_first xs back) ∙ merged_onto-merged_at x (merged_at touch combine zero xs)
    merged-near (suc (suc n)) [] front back = refl
    merged-near (suc (suc n)) (x ∷ []) front back = refl
    merged-near (suc (suc n)) (x ∷ y ∷ ys) front back =
        onto-onto x y (merged_by touch combine ys) front.0 ∙ ap (λ (l : List X). x ∷ l) (merged-near (suc n) (y ∷ ys) front.1 back)

    -- merging after one element was written merges it with the next one and then with the one before
    pub merged-near_set : (n : ℕ) (xs : List X) (x : X) → NoNeighbours touch xs
        → merged_by touch combine (slice_set xs n x) ≡ merged_before touch combine n (merged_at touch combine n (slice_set xs n x))
    merged-near_set n xs x apart =
        let before : n ≤ n = omega arith in
        let after : n < suc n = omega arith in
        merged-near n (slice_set xs n x)
        (subst (NoNeighbours touch) (sym (take-set-le n xs n x before)) (NoNeighbours-take touch n xs apart))
        (subst (NoNeighbours touch) (sym (drop-set-lt (suc n) xs n x after)) (NoNeighbours-drop touch (suc n) xs apart))
