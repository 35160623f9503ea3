-- Plain lists: totals, edits of one element, and facts of neighbours and pairs.
use Rattle.std.specs.Prelude.{◌≡◌, ℕ, zero, suc, ◌+◌, Bool, false, not, List, [], ◌∷◌, ◌++◌, filter, map, ◌==◌, if◌then◌else◌}

-- a measure of the elements, added up
abbrev pub total : {X : Type 0} → (X → ℕ) → List X → ℕ
total measure [] = 0
total measure (x ∷ xs) = measure x + total measure xs

-- a measure of the elements of one column, added up
abbrev pub column_total : {X : Type 0} → (X → ℕ) → (X → ℕ) → ℕ → List X → ℕ
column_total column_of measure column xs =
    total (λ x. if column_of x == column then measure x else 0) xs

-- the lists of the elements end to end, where each element sees what stands before it
abbrev pub gathered : {C X Y : Type 0} → (C → X → C) → (C → X → List Y) → C → List X → List Y
gathered next part before [] = []
gathered next part before (x ∷ xs) = part before x ++ gathered next part (next before x) xs

-- how often a number stands in a list
abbrev pub times : ℕ → List ℕ → ℕ
times n ms = total (λ m. if m == n then 1 else 0) ms

-- the list with the element of this number replaced by its pieces
abbrev pub replaced_at : {X : Type 0} → ℕ → (X → List X) → List X → List X
replaced_at n pieces [] = []
replaced_at zero pieces (x ∷ xs) = pieces x ++ xs
replaced_at (suc n) pieces (x ∷ xs) = x ∷ replaced_at n pieces xs

-- the list with its first element that passes the test changed
abbrev pub at_first : {X : Type 0} → (X → Bool) → (X → X) → List X → List X
at_first test change [] = []
at_first test change (x ∷ xs) = if test x then change x ∷ xs else x ∷ at_first test change xs

-- no two neighbours touch
abbrev pub NoNeighbours : {X : Type 0} → (X → X → Bool) → List X → Type 0
NoNeighbours touch [] = Unit {0}
NoNeighbours touch (x ∷ []) = Unit {0}
NoNeighbours touch (x ∷ y ∷ ys) = (touch x y ≡ false) × NoNeighbours touch (y ∷ ys)

-- the list without a number
abbrev pub remove_number : ℕ → List ℕ → List ℕ
remove_number n ns = filter (λ m. not (m == n)) ns

-- the list with a number replaced by another
abbrev pub replace_number : ℕ → ℕ → List ℕ → List ℕ
replace_number n new ns = map (λ m. if m == n then new else m) ns
