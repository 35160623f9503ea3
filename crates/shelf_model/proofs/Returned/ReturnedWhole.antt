-- After a return in a valid state, merging the whole state merges only where the item stood.
use Rattle.std.proofs.Common.{◌≡◌, ℕ, ◌≤◌, ◌<◌, true, false, Option, None, Some, List, [], ◌∷◌, map, refl, ap, ◌∙◌, ⊎_elim, arith}
use Rattle.std.proofs.lemmas.Bool.{cond_both, cases_lt}
use Rattle.std.specs.Prelude.{is_some}
use Rattle.etagere_base.specs.declared.frames.Frame.{Frame}
use Rattle.shelf_model.specs.Merging.{both_free, combined_items, merged_shelf, merged_shelves}
use Rattle.std.specs.List.{AllByRecursion}
use Rattle.etagere_base.specs.Lists.{NoNeighbours, at_first, times}
use Rattle.shelf_model.specs.Returning.{number_of, freed_in, returned}
use Rattle.shelf_model.specs.State.{Item, Shelf, AtlasState}
use Rattle.shelf_model.proofs.Allocations.InShelves.{is_allocated_in, returned_shelf, returned_near}
use Rattle.shelf_model.specs.Valid.{IsShelf, IsValid}
use Rattle.shelf_model.proofs.Allocations.IdLists.{item_ids, ids}
use Rattle.etagere_base.proofs.EachLemmas.{Each-weaken}
use Rattle.etagere_base.proofs.Merged.{merged-apart}
use Rattle.etagere_base.proofs.TimesLemmas.{times-append}
use Rattle.shelf_model.proofs.Allocations.AllocatedIds.{is_allocated_in-none}
use Rattle.shelf_model.proofs.Allocations.RecordNumbers.{item_ids-once}

-- no two free items of a shelf are neighbours
abbrev pub IsApart : Shelf → Type 0
IsApart shelf = NoNeighbours both_free shelf.items

-- a shelf without free neighbours is merged already
pub merged_shelf-apart : (shelf : Shelf) → IsApart shelf → merged_shelf shelf ≡ shelf
merged_shelf-apart shelf apart =
    ap (λ (items : List Item). record { column = shelf.column; height = shelf.height; items = items; free_list = shelf.free_list })
    (merged-apart both_free combined_items shelf.items apart)

-- an id that holds no item of a shelf has no number there
number_of-none : (id : ℕ) (shelf : Shelf) → is_allocated_in id shelf ≡ false → number_of id shelf.items ≡ None
number_of-none id shelf h = by_number (number_of id shelf.items) h
  where
    by_number : (o : Option ℕ) → is_some o ≡ false → o ≡ None
    by_number None h = refl
    by_number (Some n) h = absurd (cc)

-- returning an id to a shelf that it holds no item of changes nothing
returned_shelf-none : (frame : Frame) (id : ℕ) (shelf : Shelf) → is_allocated_in id shelf ≡ false → returned_shelf frame id shelf ≡ shelf
returned_shelf-none frame id shelf h = rw (number_of-none id shelf h) refl

-- a shelf that is freed and then merged is the returned one
merged-freed_in : (frame : Frame) (id : ℕ) (shelf : Shelf) → IsApart shelf → merged_shelf (freed_in frame id shelf) ≡ returned_shelf frame id shelf
merged-freed_in frame id shelf apart = by_number (number_of id shelf.items) refl
  where
    by_number : (o : Option ℕ) → number_of id shelf.items ≡ o → merged_shelf (freed_in frame id shelf) ≡ returned_shelf frame id shelf
    by_number None e = rw e (merged_shelf-apart shelf apart)
    by_number (Some n) e = rw e refl

module _ (frame : Frame) (id : ℕ) where
  -- shelves that an id holds nothing of stay as they are
  merged-freed_none : (shelves : List Shelf) → AllByRecursion IsApart shelves → times id (ids shelves) ≡ 0
      → map merged_shelf (map (freed_in frame id) shelves) ≡ shelves
  merged-freed_none [] apart none = refl
  merged-freed_none (shelf ∷ shelves) apart none =
      let split = times-append id (item_ids shelf.items) (ids shelves) in
      ap (λ (s : Shelf). s ∷ map merged_shelf (map (freed_in frame id) shelves))
      (merged-freed_in frame id shelf apart.0 ∙ returned_shelf-none frame id shelf (is_allocated_in-none id shelf (omega arith)))
      ∙ ap (λ (l : List Shelf). shelf ∷ l) (merged-freed_none shelves apart.1 (omega arith))

  -- where an id holds one item, only the first shelf that has it changes
  merged-freed : (shelves : List Shelf) → AllByRecursion IsApart shelves → times id (ids shelves) ≤ 1
      → map merged_shelf (map (freed_in frame id) shelves) ≡ at_first (is_allocated_in id) (returned_shelf frame id) shelves
  merged-freed [] apart once = refl
  merged-freed (shelf ∷ shelves) apart once =
      let split = times-append id (item_ids shelf.items) (ids shelves) in
      let rest = map merged_shelf (map (freed_in frame id) shelves) in
      cond_both (is_allocated_in id shelf) (returned_shelf frame id shelf ∷ shelves) (shelf ∷ at_first (is_allocated_in id) (returned_shelf frame id) shelves)
      (λ (l : List Shelf). merged_shelf (freed_in frame id shelf) ∷ rest ≡ l)
      (λ t. ap (λ (s : Shelf). s ∷ rest) (merged-freed_in frame id shelf apart.0)
      ∙ ap (λ (l : List Shelf). returned_shelf frame id shelf ∷ l) (merged-freed_none shelves apart.1 (others t)))
      (λ f. ap (λ (s : Shelf). s ∷ rest) (merged-freed_in frame id shelf apart.0 ∙ returned_shelf-none frame id shelf f)
      ∙ ap (λ (l : List Shelf). shelf ∷ l) (merged-freed shelves apart.1 (omega arith)))
    where
      others : is_allocated_in id shelf ≡ true → times id (ids shelves) ≡ 0
      others t =
          let split = times-append id (item_ids shelf.items) (ids shelves) in
          ⊎_elim
          (λ (here : 0 < times id (item_ids shelf.items)). omega arith)
          (λ (none : times id (item_ids shelf.items) ≤ 0).
          let nowhere = is_allocated_in-none id shelf (omega arith) in absurd (cc))
          (cases_lt 0 (times id (item_ids shelf.items)))

-- a state after a return is merged where the item stood, where the id holds one item and no free neighbours were
pub once-near : (state : AtlasState) (id : ℕ) → AllByRecursion (IsShelf state.frame) state.shelves → times id (ids state.shelves) ≤ 1
    → returned state id ≡ returned_near state id
once-near state id shelves once =
    ap (λ (shelves : List Shelf). record { frame = state.frame; shelves = merged_shelves shelves; peak_items = state.peak_items })
    (merged-freed state.frame id state.shelves
    (Each-weaken (IsShelf state.frame) IsApart state.shelves (λ (shelf : Shelf) (h : IsShelf state.frame shelf). h.apart) shelves) once)

-- a valid state after a return is merged where the item stood
pub returned-near : (state : AtlasState) (id : ℕ) → IsValid state → returned state id ≡ returned_near state id
returned-near state id valid = once-near state id valid.shelves (item_ids-once state valid id)
