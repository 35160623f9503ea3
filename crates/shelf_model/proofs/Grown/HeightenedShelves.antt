-- Shelves that get a height at the end of each column, one after the other: what is left fits, and what is counted for it.
use Rattle.std.proofs.Common.{◌≡◌, ◌≢◌, ℕ, suc, ◌+◌, ◌≤◌, Bool, true, false, cond, List, [], ◌∷◌, ◌++◌, refl, ap, ◌∙◌, arith}
use Rattle.std.proofs.lemmas.Bool.{cond-false, cond-true}
use Rattle.etagere_base.specs.declared.frames.Frame.{Frame}
use Rattle.std.specs.List.{AllByRecursion}
use Rattle.etagere_base.specs.Lists.{NoNeighbours}
use Rattle.etagere_base.proofs.EachLemmas.{Each-both, Each-weaken}
use Rattle.shelf_model.specs.Growing.{ends_column, filled_ends}
use Rattle.shelf_model.specs.Merging.{combined_shelves}
use Rattle.shelf_model.specs.Places.{column_height}
use Rattle.shelf_model.specs.State.{Shelf, is_empty}
use Rattle.shelf_model.specs.Valid.{is_out_of_order}
use Rattle.shelf_model.proofs.Grown.GrownShelves.{columns-after, end_shelf, taller_end}
use Rattle.shelf_model.proofs.Places.Heights.{column_height-append, column_height-none}

-- each of these shelves stands in a column that can get the height, with others before them
abbrev pub AreLow : ℕ → List Shelf → List Shelf → Type 0
AreLow height front back = AllByRecursion (λ (shelf : Shelf). column_height shelf.column (front ++ back) + height ≤ 65535) back

module _ (frame : Frame) (height : ℕ) (shelf : Shelf) (shelves : List Shelf) where
  -- a shelf that isn't the last of its column stays
  pub taller-inside : ends_column shelf shelves ≡ false → taller_end frame height shelf shelves ≡ shelf ∷ []
  taller-inside e = cond-false _ _ _ e

  -- the last one of a column becomes taller where it is empty
  pub taller-empty : ends_column shelf shelves ≡ true → is_empty shelf ≡ true
      → taller_end frame height shelf shelves ≡ combined_shelves shelf (end_shelf frame height shelf) ∷ []
  taller-empty e f = cond-true _ _ _ e ∙ cond-true _ _ _ f

  -- else an empty one comes after it
  pub taller-filled : ends_column shelf shelves ≡ true → is_empty shelf ≡ false
      → taller_end frame height shelf shelves ≡ shelf ∷ end_shelf frame height shelf ∷ []
  taller-filled e f = cond-true _ _ _ e ∙ cond-false _ _ _ f

  -- what becomes of a shelf stands in its column
  taller-others : (column : ℕ) → shelf.column ≢ column → AllByRecursion (λ (s : Shelf). s.column ≢ column) (taller_end frame height shelf shelves)
  taller-others column other = by_test (ends_column shelf shelves) (is_empty shelf)
    where
      by_test : (b c : Bool) → AllByRecursion (λ (s : Shelf). s.column ≢ column)
          (cond b (cond c (combined_shelves shelf (end_shelf frame height shelf) ∷ []) (shelf ∷ end_shelf frame height shelf ∷ [])) (shelf ∷ []))
      by_test true true = (other, tt)
      by_test true false = (other, (other, tt))
      by_test false c = (other, tt)

  -- the shelves after one that got its height can still get theirs
  pub low-next : (front : List Shelf) → NoNeighbours is_out_of_order (shelf ∷ shelves) → AreLow height front (shelf ∷ shelves)
      → AreLow height (front ++ taller_end frame height shelf shelves) shelves
  low-next front ordered low = by_test (ends_column shelf shelves) refl
    where
      stays : (Later : Shelf → Type 0) → AllByRecursion Later shelves
          → ((s : Shelf) → Later s → column_height s.column (taller_end frame height shelf shelves) ≡ column_height s.column (shelf ∷ []))
          → AreLow height (front ++ taller_end frame height shelf shelves) shelves
      stays Later each same =
          Each-weaken (λ (s : Shelf). (column_height s.column (front ++ shelf ∷ shelves) + height ≤ 65535) × Later s)
          (λ (s : Shelf). column_height s.column ((front ++ taller_end frame height shelf shelves) ++ shelves) + height ≤ 65535) shelves
          (λ (s : Shelf) (h : (column_height s.column (front ++ shelf ∷ shelves) + height ≤ 65535) × Later s). omega (
            arith,
            h.0,
            same s h.1,
            column_height-append s.column front (shelf ∷ shelves),
            column_height-append s.column (shelf ∷ []) shelves,
            column_height-append s.column (front ++ taller_end frame height shelf shelves) shelves,
            column_height-append s.column front (taller_end frame height shelf shelves),
          ))
          (Each-both (λ (s : Shelf). column_height s.column (front ++ shelf ∷ shelves) + height ≤ 65535) Later shelves low.1 each)

      by_test : (b : Bool) → ends_column shelf shelves ≡ b → AreLow height (front ++ taller_end frame height shelf shelves) shelves
      by_test true e =
          stays (λ (s : Shelf). suc shelf.column ≤ s.column) (columns-after shelf shelves e ordered)
          (λ s later.
          let other : shelf.column ≢ s.column = λ same. omega (arith, later, same) in
          omega (
            arith,
            column_height-none s.column (taller_end frame height shelf shelves) (taller-others s.column other),
            column_height-none s.column (shelf ∷ []) (other, tt),
          ))
      by_test false e =
          stays (λ (s : Shelf). column_height s.column (front ++ shelf ∷ shelves) + height ≤ 65535) low.1
          (λ s h. ap (column_height s.column) (taller-inside e))

  -- one that isn't the last of its column isn't counted
  pub filled-inside : ends_column shelf shelves ≡ false → filled_ends (shelf ∷ shelves) ≡ filled_ends shelves
  filled-inside e = rw e (omega arith)

  -- nor is an empty one
  pub filled-empty : ends_column shelf shelves ≡ true → is_empty shelf ≡ true → filled_ends (shelf ∷ shelves) ≡ filled_ends shelves
  filled-empty e f = rw (e, f) (omega arith)

  -- the last one of a column is counted where it isn't empty
  pub filled-more : ends_column shelf shelves ≡ true → is_empty shelf ≡ false → filled_ends (shelf ∷ shelves) ≡ suc (filled_ends shelves)
  filled-more e f = rw (e, f) (omega arith)
