-- Lists of elements that see what stands before them, end to end: of a front and a back, merged, mapped, and facts of each.
use Rattle.std.proofs.Common.{◌≡◌, ℕ, ◌+◌, Bool, true, List, [], ◌∷◌, ◌++◌, map, refl, ap, ◌∙◌, sym, append_assoc, arith}
use Rattle.std.proofs.lemmas.List.{append-nil, map-append}
use Rattle.std.specs.List.{AllByRecursion, flat_map}
use Rattle.etagere_base.specs.Lists.{gathered, total}
use Rattle.etagere_base.specs.Merging.{merged_by}
use Rattle.etagere_base.proofs.EachLemmas.{Each-append}
use Rattle.etagere_base.proofs.MergedKeeps.{measure-merged}

module _ {C X Y : Type 0} (next : C → X → C) (part : C → X → List Y) where
  -- what stands before the elements behind these
  abbrev passed : C → List X → C
  passed before [] = before
  passed before (x ∷ xs) = passed (next before x) xs

  -- the lists of a front and of a back
  gathered-append : (before : C) (front back : List X)
      → gathered next part before (front ++ back) ≡ gathered next part before front ++ gathered next part (passed before front) back
  gathered-append before [] back = refl
  gathered-append before (x ∷ front) back =
      ap (λ (l : List Y). part before x ++ l) (gathered-append (next before x) front back)
      ∙ sym (append_assoc (part before x) (gathered next part (next before x) front) (gathered next part (passed (next before x) front) back))

  -- merging keeps the lists where that of a merged element is those of its parts
  pub gathered-merged : (touch : X → X → Bool) (combine : X → X → X)
      → ((before : C) (x y : X) (ys : List X) → touch x y ≡ true → gathered next part before (combine x y ∷ ys) ≡ gathered next part before (x ∷ y ∷ ys))
      → (before : C) (xs : List X) → gathered next part before (merged_by touch combine xs) ≡ gathered next part before xs
  gathered-merged touch combine merge before xs =
      ap (λ (lists : C → List Y). lists before)
      (measure-merged touch combine (λ xs before. gathered next part before xs) (λ x ys zs h i before. part before x ++ h i (next before x))
      (λ x y ys t i before. merge before x y ys t i) xs)

  -- a fact of each part is one of each of them all
  pub Each-gathered : (P : Y → Type 0) (I : C → Type 0) (Q : X → Type 0)
      → ((before : C) (x : X) → I before → Q x → AllByRecursion P (part before x) × I (next before x))
      → (before : C) (xs : List X) → I before → AllByRecursion Q xs → AllByRecursion P (gathered next part before xs)
  Each-gathered P I Q each before [] i qs = tt
  Each-gathered P I Q each before (x ∷ xs) i qs =
      let here = each before x i qs.0 in
      Each-append P (part before x) (gathered next part (next before x) xs) here.0 (Each-gathered P I Q each (next before x) xs here.1 qs.1)

  -- what is mapped of them doesn't see what stands before where that of each part doesn't
  pub map-gathered : {Z : Type 0} (f : Y → Z) (other : X → List Z) → ((before : C) (x : X) → map f (part before x) ≡ other x)
      → (before : C) (xs : List X) → map f (gathered next part before xs) ≡ flat_map other xs
  map-gathered f other same before [] = refl
  map-gathered f other same before (x ∷ xs) =
      map-append f (part before x) (gathered next part (next before x) xs)
      ∙ ap (λ (l : List _). l ++ map f (gathered next part (next before x) xs)) (same before x)
      ∙ ap (λ (l : List _). other x ++ l) (map-gathered f other same (next before x) xs)

-- elements side by side: those of a back begin after the sizes of the front
pub along-append : {X Y : Type 0} (size : X → ℕ) (part : ℕ → X → List Y) (here : ℕ) (front back : List X)
    → gathered (λ here x. here + size x) part here (front ++ back)
    ≡ gathered (λ here x. here + size x) part here front ++ gathered (λ here x. here + size x) part (here + total size front) back
along-append {X} {Y} size part here front back =
    gathered-append (λ here x. here + size x) part here front back
    ∙ ap (λ (n : ℕ). gathered (λ here x. here + size x) part here front ++ gathered (λ here x. here + size x) part n back) (passed-sizes here front)
  where
    passed-sizes : (here : ℕ) (xs : List X) → passed (λ here x. here + size x) part here xs ≡ here + total size xs
    passed-sizes here [] = omega arith
    passed-sizes here (x ∷ xs) = omega (arith, passed-sizes (here + size x) xs)

-- elements that see those before them: those of a back see the front too
pub after-append : {X Y : Type 0} (part : List X → X → List Y) (before front back : List X)
    → gathered (λ before x. before ++ x ∷ []) part before (front ++ back)
    ≡ gathered (λ before x. before ++ x ∷ []) part before front ++ gathered (λ before x. before ++ x ∷ []) part (before ++ front) back
after-append {X} {Y} part before front back =
    gathered-append (λ before x. before ++ x ∷ []) part before front back
    ∙ ap (λ (l : List X). gathered (λ before x. before ++ x ∷ []) part before front ++ gathered (λ before x. before ++ x ∷ []) part l back)
    (passed-elements before front)
  where
    passed-elements : (before xs : List X) → passed (λ before x. before ++ x ∷ []) part before xs ≡ before ++ xs
    passed-elements before [] = sym (append-nil before)
    passed-elements before (x ∷ xs) = passed-elements (before ++ x ∷ []) xs ∙ append_assoc before (x ∷ []) xs
