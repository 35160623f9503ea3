-- What merging keeps of a list.
use Rattle.std.proofs.Common.{◌≡◌, Bool, true, false, List, [], ◌∷◌, refl, ◌∙◌}
use Rattle.std.proofs.lemmas.Bool.{cond_both}
use Rattle.etagere_base.specs.Merging.{merged_onto, merged_by}
use Rattle.std.specs.List.{AllByRecursion}
use Rattle.etagere_base.specs.Lists.{NoNeighbours}
use Rattle.etagere_base.proofs.NoNeighboursLemmas.{NoNeighbours-first}

module _ {X : Type 0} (touch : X → X → Bool) (combine : X → X → X) where
  -- a measure that doesn't see a merge doesn't see merging
  pub measure-merged : {A : Type 0} (measure : List X → A)
      → ((x : X) (xs ys : List X) → measure xs ≡ measure ys → measure (x ∷ xs) ≡ measure (x ∷ ys))
      → ((x y : X) (ys : List X) → touch x y ≡ true → measure (combine x y ∷ ys) ≡ measure (x ∷ y ∷ ys))
      → (xs : List X) → measure (merged_by touch combine xs) ≡ measure xs
  measure-merged measure behind merge [] = refl
  measure-merged measure behind merge (x ∷ xs) =
      onto x (merged_by touch combine xs) ∙ behind x (merged_by touch combine xs) xs (measure-merged measure behind merge xs)
    where
      onto : (x : X) (xs : List X) → measure (merged_onto touch combine x xs) ≡ measure (x ∷ xs)
      onto x [] = refl
      onto x (y ∷ ys) =
          cond_both (touch x y) (combine x y ∷ ys) (x ∷ y ∷ ys) (λ (l : List X). measure l ≡ measure (x ∷ y ∷ ys))
          (λ t. merge x y ys t) (λ _. refl)

  -- a fact of each element stays one of each merged element, where merging keeps it
  pub Each-merged : (P : X → Type 0) → ((x y : X) → touch x y ≡ true → P x → P y → P (combine x y))
      → (xs : List X) → AllByRecursion P xs → AllByRecursion P (merged_by touch combine xs)
  Each-merged P keeps [] h = tt
  Each-merged P keeps (x ∷ xs) h = onto x (merged_by touch combine xs) h.0 (Each-merged P keeps xs h.1)
    where
      onto : (x : X) (xs : List X) → P x → AllByRecursion P xs → AllByRecursion P (merged_onto touch combine x xs)
      onto x [] p h = (p, tt)
      onto x (y ∷ ys) p h =
          cond_both (touch x y) (combine x y ∷ ys) (x ∷ y ∷ ys) (AllByRecursion P) (λ t. (keeps x y t p h.0, h.1)) (λ _. (p, h))

module _ {X : Type 0} (touch : X → X → Bool) (combine : X → X → X) (other : X → X → Bool)
    (next : (x y z : X) → touch x y ≡ true → other (combine x y) z ≡ other y z)
    (before : (w x y : X) → touch x y ≡ true → other w (combine x y) ≡ other w x) where
  -- a front that is merged on meets the next one as before
  NoNeighbours-onto : (x : X) (xs : List X) → NoNeighbours other (x ∷ xs) → NoNeighbours other (merged_onto touch combine x xs)
  NoNeighbours-onto x [] h = tt
  NoNeighbours-onto x (y ∷ ys) h =
      cond_both (touch x y) (combine x y ∷ ys) (x ∷ y ∷ ys) (NoNeighbours other) (λ t. NoNeighbours-first other y (combine x y) ys (λ z f. next x y z t ∙ f) h.1) (λ _. h)

  -- what stands before meets an element that is merged on as before
  NoNeighbours-before : (w x : X) (xs : List X) → other w x ≡ false → NoNeighbours other (x ∷ xs) → NoNeighbours other (w ∷ merged_onto touch combine x xs)
  NoNeighbours-before w x [] f h = (f, tt)
  NoNeighbours-before w x (y ∷ ys) f h =
      cond_both (touch x y) (combine x y ∷ ys) (x ∷ y ∷ ys) (λ (l : List X). NoNeighbours other (w ∷ l))
      (λ t. (before w x y t ∙ f, NoNeighbours-first other y (combine x y) ys (λ z f. next x y z t ∙ f) h.1)) (λ _. (f, h))

  -- an element meets the merged ones behind it as before
  NoNeighbours-behind : (x : X) (xs : List X) → NoNeighbours other (x ∷ xs) → NoNeighbours other (x ∷ merged_by touch combine xs)
  NoNeighbours-behind x [] h = tt
  NoNeighbours-behind x (y ∷ ys) h = NoNeighbours-before x y (merged_by touch combine ys) h.0 (NoNeighbours-behind y ys h.1)

  -- what no two neighbours do, no two merged ones do
  pub NoNeighbours-merged : (xs : List X) → NoNeighbours other xs → NoNeighbours other (merged_by touch combine xs)
  NoNeighbours-merged [] h = tt
  NoNeighbours-merged (x ∷ xs) h = NoNeighbours-onto x (merged_by touch combine xs) (NoNeighbours-behind x xs h)
