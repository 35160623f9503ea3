-- What holds of each shelf in use and its number, said over the numbers and over what the shelves are spelled as.
use Rattle.std.proofs.Common.{◌≡◌, ℕ, List, [], ◌∷◌, ◌++◌, length, map, arith}
use Rattle.std.specs.List.{AllByRecursion}
use Rattle.shelf_records.specs.RecordLists.{Entry, shelf_numbers}
use Rattle.shelf_records.specs.AtlasRecords.{AtlasRecords, spelled_shelf}
use Rattle.shelf_heights.specs.Private.ByHeight.{IsBound}
use Rattle.shelf_model.specs.State.{Shelf}
use Rattle.shelf_heights.specs.declared.by_height.BoundedShelf.{BoundedShelf}

-- a fact of each of these shelves and its number
abbrev pub HoldIn : (ℕ → Shelf → Type 0) → List ℕ → List Shelf → Type 0
HoldIn P [] shelves = Unit {0}
HoldIn P (n ∷ ns) [] = Unit {0}
HoldIn P (n ∷ ns) (shelf ∷ shelves) = P n shelf × HoldIn P ns shelves

-- the shelf of this number has no wider free item
abbrev pub BoundsAs : BoundedShelf → ℕ → Shelf → Type 0
BoundsAs one n shelf = n ≡ one.shelf → IsBound one.widest shelf

-- a bound over the shelves of records
abbrev pub IsBoundOf : AtlasRecords → List Entry → BoundedShelf → Type 0
IsBoundOf atlas entries one = AllByRecursion (λ (entry : Entry). BoundsAs one entry.number (spelled_shelf atlas entry)) entries

module _ (P : ℕ → Shelf → Type 0) where
  -- what holds over records holds over their numbers
  pub hold-numbered : (atlas : AtlasRecords) (entries : List Entry) → AllByRecursion (λ (entry : Entry). P entry.number (spelled_shelf atlas entry)) entries → HoldIn P (shelf_numbers entries) (map (spelled_shelf atlas) entries)
  hold-numbered atlas [] hold = tt
  hold-numbered atlas (entry ∷ entries) hold = (hold.0, hold-numbered atlas entries hold.1)

  -- and back
  pub numbered-hold : (atlas : AtlasRecords) (entries : List Entry) → HoldIn P (shelf_numbers entries) (map (spelled_shelf atlas) entries) → AllByRecursion (λ (entry : Entry). P entry.number (spelled_shelf atlas entry)) entries
  numbered-hold atlas [] hold = tt
  numbered-hold atlas (entry ∷ entries) hold = (hold.0, numbered-hold atlas entries hold.1)

  -- over the front
  hold-front : (front back : List ℕ) (fronts backs : List Shelf) → length front ≡ length fronts → HoldIn P (front ++ back) (fronts ++ backs) → HoldIn P front fronts
  hold-front [] back fronts backs long hold = tt
  hold-front (n ∷ front) back [] backs long hold = tt
  hold-front (n ∷ front) back (shelf ∷ fronts) backs long hold = (hold.0, hold-front front back fronts backs (omega (arith, long)) hold.1)

  -- over the back
  pub hold-back : (front back : List ℕ) (fronts backs : List Shelf) → length front ≡ length fronts → HoldIn P (front ++ back) (fronts ++ backs) → HoldIn P back backs
  hold-back [] back [] backs long hold = hold
  hold-back [] back (shelf ∷ fronts) backs long hold = absurd (omega (arith, long))
  hold-back (n ∷ front) back [] backs long hold = absurd (omega (arith, long))
  hold-back (n ∷ front) back (shelf ∷ fronts) backs long hold = hold-back front back fronts backs (omega (arith, long)) hold.1

  -- over both
  pub hold-append : (front back : List ℕ) (fronts backs : List Shelf) → length front ≡ length fronts → HoldIn P front fronts → HoldIn P back backs → HoldIn P (front ++ back) (fronts ++ backs)
  hold-append [] back [] backs long begins ends = ends
  hold-append [] back (shelf ∷ fronts) backs long begins ends = absurd (omega (arith, long))
  hold-append (n ∷ front) back [] backs long begins ends = absurd (omega (arith, long))
  hold-append (n ∷ front) back (shelf ∷ fronts) backs long begins ends = (begins.0, hold-append front back fronts backs (omega (arith, long)) begins.1 ends)

  -- where one shelf becomes another
  pub hold-changed : (number : ℕ) (front back : List ℕ) (fronts backs : List Shelf) (whole taken : Shelf) → length front ≡ length fronts
      → (P number whole → P number taken)
      → HoldIn P (front ++ number ∷ back) (fronts ++ whole ∷ backs) → HoldIn P (front ++ number ∷ back) (fronts ++ taken ∷ backs)
  hold-changed number front back fronts backs whole taken long change hold =
      let tail : HoldIn P (number ∷ back) (whole ∷ backs) = hold-back front (number ∷ back) fronts (whole ∷ backs) long hold in
      hold-append front (number ∷ back) fronts (taken ∷ backs) long
      (hold-front front (number ∷ back) fronts (whole ∷ backs) long hold)
      (change tail.0, tail.1)

  -- and where another stands after that one
  pub hold-split : (number rest : ℕ) (front back : List ℕ) (fronts backs : List Shelf) (whole taken added : Shelf) → length front ≡ length fronts
      → (P number whole → P number taken) → P rest added
      → HoldIn P (front ++ number ∷ back) (fronts ++ whole ∷ backs) → HoldIn P (front ++ number ∷ rest ∷ back) (fronts ++ taken ∷ added ∷ backs)
  hold-split number rest front back fronts backs whole taken added long change new hold =
      let tail : HoldIn P (number ∷ back) (whole ∷ backs) = hold-back front (number ∷ back) fronts (whole ∷ backs) long hold in
      hold-append front (number ∷ rest ∷ back) fronts (taken ∷ added ∷ backs) long
      (hold-front front (number ∷ back) fronts (whole ∷ backs) long hold)
      (change tail.0, (new, tail.1))
