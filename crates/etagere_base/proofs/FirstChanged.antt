-- What changing the first element that passes a test keeps of a list.
use Rattle.std.proofs.Common.{◌≡◌, Bool, true, List, [], ◌∷◌, ◌∙◌}
use Rattle.std.proofs.lemmas.Bool.{cond_both}
use Rattle.std.specs.List.{AllByRecursion}
use Rattle.etagere_base.specs.Lists.{at_first, NoNeighbours}
use Rattle.etagere_base.proofs.NoNeighboursLemmas.{NoNeighbours-first}

module _ {X : Type 0} (test : X → Bool) (change : X → X) where
  -- a fact of each element that the change keeps
  pub Each-at_first : (P : X → Type 0) → ((x : X) → test x ≡ true → P x → P (change x))
      → (xs : List X) → AllByRecursion P xs → AllByRecursion P (at_first test change xs)
  Each-at_first P keeps [] h = tt
  Each-at_first P keeps (x ∷ xs) h =
      cond_both (test x) (change x ∷ xs) (x ∷ at_first test change xs) (AllByRecursion P)
      (λ t. (keeps x t h.0, h.1)) (λ _. (h.0, Each-at_first P keeps xs h.1))

  module _ (touch : X → X → Bool) (next : (x y : X) → touch (change x) y ≡ touch x y)
      (before : (w x : X) → touch w (change x) ≡ touch w x) where
    -- no two touch behind an element where one behind it is changed
    NoNeighbours-behind : (w : X) (xs : List X) → NoNeighbours touch (w ∷ xs) → NoNeighbours touch (w ∷ at_first test change xs)
    NoNeighbours-behind w [] h = tt
    NoNeighbours-behind w (x ∷ xs) h =
        cond_both (test x) (change x ∷ xs) (x ∷ at_first test change xs) (λ (l : List X). NoNeighbours touch (w ∷ l))
        (λ _. (before w x ∙ h.0, NoNeighbours-first touch x (change x) xs (λ y f. next x y ∙ f) h.1)) (λ _. (h.0, NoNeighbours-behind x xs h.1))

    -- what no two neighbours do, where the change keeps what touches
    pub NoNeighbours-at_first : (xs : List X) → NoNeighbours touch xs → NoNeighbours touch (at_first test change xs)
    NoNeighbours-at_first [] h = tt
    NoNeighbours-at_first (x ∷ xs) h =
        cond_both (test x) (change x ∷ xs) (x ∷ at_first test change xs) (NoNeighbours touch)
        (λ _. NoNeighbours-first touch x (change x) xs (λ y f. next x y ∙ f) h) (λ _. NoNeighbours-behind x xs h)
