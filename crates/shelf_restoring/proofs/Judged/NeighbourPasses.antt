-- A pass over shelves that keeps the column of the one before and whether that is empty: what it finds of neighbours.
use Rattle.std.proofs.Common.{◌≡◌, ℕ, Bool, true, false, ◌&&◌, List, [], ◌∷◌, map, refl}
use Rattle.std.specs.List.{AllByRecursion}
use Rattle.std.specs.Prelude.{◌==◌}
use Rattle.etagere_base.specs.Lists.{NoNeighbours}
use Rattle.shelf_records.specs.RecordLists.{Entry}
use Rattle.shelf_model.specs.Merging.{both_empty, both_free}
use Rattle.shelf_model.specs.State.{Shelf, is_empty}
use Rattle.shelf_records.specs.AtlasRecords.{AtlasRecords, spelled_shelf, spelled_state}
use Rattle.shelf_records.specs.StandsFor.{HasNeighbours}

module _ (atlas : AtlasRecords) where
  -- a shelf stands in this column behind an empty one, and is empty
  abbrev pub touches : ℕ → Bool → Entry → Bool
  touches column was_empty entry =
      let shelf = spelled_shelf atlas entry in column == shelf.column && (was_empty && is_empty shelf)

  -- the items of a shelf stand apart, and so does the shelf from the one before it
  abbrev pub StandsApart : ℕ → Bool → Entry → Type 0
  StandsApart column was_empty entry =
      NoNeighbours both_free (spelled_shelf atlas entry).items × (touches column was_empty entry ≡ false)

  -- so do all of these
  abbrev pub StandApart : ℕ → Bool → List Entry → Type 0
  StandApart column was_empty [] = Unit {0}
  StandApart column was_empty (entry ∷ entries) =
      StandsApart column was_empty entry × StandApart (spelled_shelf atlas entry).column (is_empty (spelled_shelf atlas entry)) entries

  -- the items of each stand apart
  apart-items : (column : ℕ) (was_empty : Bool) (entries : List Entry) → StandApart column was_empty entries
      → AllByRecursion (λ (shelf : Shelf). NoNeighbours both_free shelf.items) (map (spelled_shelf atlas) entries)
  apart-items column was_empty [] apart = tt
  apart-items column was_empty (entry ∷ entries) apart =
      (apart.0.0, apart-items (spelled_shelf atlas entry).column (is_empty (spelled_shelf atlas entry)) entries apart.1)

  -- shelves that stand apart behind one that does
  apart-behind : (entry : Entry) (entries : List Entry) → StandApart (spelled_shelf atlas entry).column (is_empty (spelled_shelf atlas entry)) entries
      → NoNeighbours both_empty (map (spelled_shelf atlas) (entry ∷ entries))
  apart-behind entry [] apart = tt
  apart-behind entry (next ∷ entries) apart = (apart.0.1, apart-behind next entries apart.1)

  -- and the other way round
  behind-apart : (entry : Entry) (entries : List Entry) → AllByRecursion (λ (shelf : Shelf). NoNeighbours both_free shelf.items) (map (spelled_shelf atlas) entries)
      → NoNeighbours both_empty (map (spelled_shelf atlas) (entry ∷ entries))
      → StandApart (spelled_shelf atlas entry).column (is_empty (spelled_shelf atlas entry)) entries
  behind-apart entry [] items shelves = tt
  behind-apart entry (next ∷ entries) items shelves = ((items.0, shelves.0), behind-apart next entries items.1 shelves.1)

  -- the first shelf touches none
  first-apart : (b : Bool) → (b && (false && true)) ≡ false
  first-apart true = refl
  first-apart false = refl

  -- shelves that stand apart have neighbours that do
  pub apart-neighbours : (entries : List Entry) → StandApart 0 false entries → HasNeighbours (spelled_state atlas entries)
  apart-neighbours entries apart = record { items = apart-items 0 false entries apart; shelves = all entries apart }
    where
      all : (entries : List Entry) → StandApart 0 false entries → NoNeighbours both_empty (map (spelled_shelf atlas) entries)
      all [] apart = tt
      all (entry ∷ entries) apart = apart-behind entry entries apart.1

  -- and the other way round
  pub neighbours-apart : (entries : List Entry) → HasNeighbours (spelled_state atlas entries) → StandApart 0 false entries
  neighbours-apart entries has = all entries has.items has.shelves
    where
      all : (entries : List Entry) → AllByRecursion (λ (shelf : Shelf). NoNeighbours both_free shelf.items) (map (spelled_shelf atlas) entries)
          → NoNeighbours both_empty (map (spelled_shelf atlas) entries) → StandApart 0 false entries
      all [] items shelves = tt
      all (entry ∷ entries) items shelves =
          ((items.0, first-apart (0 == (spelled_shelf atlas entry).column)), behind-apart entry entries items.1 shelves)
