-- A bound on the free items of a shelf after one of its items became free: the old one, or as wide as that item is with
-- its free neighbours.
use Rattle.std.proofs.Common.{◌≡◌, ℕ, ◌+◌, ◌≤◌, Bool, true, false, Option, None, Some, List, [], ◌∷◌, ◌++◌, length, map, refl, ap, subst, arith, ◌∙◌}
use Rattle.std.proofs.lemmas.List.{map-append}
use Rattle.etagere_base.proofs.EachLemmas.{Each-append, Each-back, Each-front, Each-middle, Each-weaken}
use Rattle.std.specs.List.{AllByRecursion}
use Rattle.etagere_base.specs.Lists.{NoNeighbours}
use Rattle.etagere_base.specs.MergingAt.{merged_at, merged_before}
use Rattle.shelf_records.proofs.AllLists.LinkedItems.{entry_of}
use Rattle.shelf_records.specs.declared.records.LinkedItem.{LinkedItem}
use Rattle.etagere_links.specs.Edits.{link_at}
use Rattle.shelf_records.specs.ListEnds.{first_or, last_or}
use Rattle.shelf_records.specs.RecordLists.{IsEntry, first_item_of}
use Rattle.shelf_records.specs.Records.{item_chain}
use Rattle.shelf_records.proofs.Chains.{next-is, previous-is}
use Rattle.shelf_records.proofs.ListEnds.{last-append}
use Rattle.shelf_records.specs.AtlasRecords.{AtlasRecords, is_allocated_at, item_at, width_of}
use Rattle.shelf_model.specs.Merging.{both_free, combined_items, merged_items}
use Rattle.shelf_store.specs.Private.ItemReturned.{free_named}
use Rattle.shelf_store.specs.Private.ReturnedNotes.{freed_width, named_width}
use Rattle.shelf_model.specs.Returning.{freed}
use Rattle.shelf_model.specs.State.{Item, is_free}
use Rattle.shelf_model.proofs.Returned.MergedNear.{merged_items-freed}
use Rattle.shelf_store.proofs.Spelled.ItemsAround.{by_end, free-item, freed-here, next-merged, next-stays, previous-merged, previous-stays}
use Rattle.shelf_store.proofs.Spelled.MergedAround.{free_item}

-- a free item is no wider
abbrev pub IsWithin : ℕ → Item → Type 0
IsWithin widest item = is_free item ≡ true → item.width ≤ widest

-- the free items are no wider than a greater width
pub within-more : (one other : ℕ) (items : List Item) → one ≤ other → AllByRecursion (IsWithin one) items → AllByRecursion (IsWithin other) items
within-more one other items less each =
    Each-weaken (IsWithin one) (IsWithin other) items (λ (item : Item) within free. omega (arith, within free, less)) each

-- a free item that merged with the free one after it, if any, and what stands after it then
record IsNextMerged (items : List LinkedItem) (front back : List ℕ) (width widest : ℕ) : Type 0 where
  rest : List Item
  merged :
      merged_at both_free combined_items (length front) (map (item_at items) front ++ free_item width ∷ map (item_at items) back)
      ≡ map (item_at items) front ++ free_item (width + named_width items (free_named items (first_or None back))) ∷ rest
  within : AllByRecursion (IsWithin widest) rest

next-is-merged : (items : List LinkedItem) (front back : List ℕ) (width widest : ℕ) → AllByRecursion (IsWithin widest) (map (item_at items) back) → IsNextMerged items front back width widest
next-is-merged items front [] width widest within =
    let same : width + 0 ≡ width = omega arith in
    record { rest = []; merged = rw same (next-stays (item_at items) front width [] refl); within = tt }
next-is-merged items front (next ∷ back) width widest within = by_mark (is_allocated_at items next) refl
  where
    by_mark : (b : Bool) → is_allocated_at items next ≡ b → IsNextMerged items front (next ∷ back) width widest
    by_mark true e =
        let none : free_named items (Some next) ≡ None = simp e refl in
        let same : width + 0 ≡ width = omega arith in
        record {
          rest = map (item_at items) (next ∷ back);
          merged = rw (none, same) (next-stays (item_at items) front width (map (item_at items) (next ∷ back)) (free-item items next true e));
          within = within;
        }
    by_mark false e =
        let some : free_named items (Some next) ≡ Some next = simp e refl in
        record {
          rest = map (item_at items) back;
          merged = rw some (next-merged (item_at items) front width (item_at items next) (map (item_at items) back) (free-item items next false e));
          within = within.1;
        }

-- a free item that merged with the free one before it, if any
previous-within : (items : List LinkedItem) (width widest : ℕ) (rest : List Item) (front : List ℕ) → AllByRecursion (IsWithin widest) (map (item_at items) front) → AllByRecursion (IsWithin widest) rest → width + named_width items (free_named items (last_or None front)) ≤ widest → AllByRecursion (IsWithin widest) (merged_before both_free combined_items (length front) (map (item_at items) front ++ free_item width ∷ rest))
previous-within items width widest rest =
    by_end (λ (xs : List ℕ). AllByRecursion (IsWithin widest) (map (item_at items) xs) → AllByRecursion (IsWithin widest) rest → width + named_width items (free_named items (last_or None xs)) ≤ widest → AllByRecursion (IsWithin widest) (merged_before both_free combined_items (length xs) (map (item_at items) xs ++ free_item width ∷ rest)))
    (λ _ after low. ((λ _. omega (arith, low)), after))
    some
  where
    some : (xs : List ℕ) (last : ℕ) → AllByRecursion (IsWithin widest) (map (item_at items) (xs ++ last ∷ [])) → AllByRecursion (IsWithin widest) rest → width + named_width items (free_named items (last_or None (xs ++ last ∷ []))) ≤ widest → AllByRecursion (IsWithin widest) (merged_before both_free combined_items (length (xs ++ last ∷ [])) (map (item_at items) (xs ++ last ∷ []) ++ free_item width ∷ rest))
    some xs last before after low_ = by_mark (is_allocated_at items last) refl
      where
        low : width + named_width items (free_named items (Some last)) ≤ widest
        low = subst (λ (o : Option ℕ). width + named_width items (free_named items o) ≤ widest) (last-append xs last None) low_

        parts : AllByRecursion (IsWithin widest) (map (item_at items) xs ++ item_at items last ∷ [])
        parts = subst (λ (is : List Item). AllByRecursion (IsWithin widest) is) (map-append (item_at items) xs (last ∷ [])) before

        front : AllByRecursion (IsWithin widest) (map (item_at items) xs)
        front = Each-front (IsWithin widest) (map (item_at items) xs) (item_at items last ∷ []) parts

        by_mark : (b : Bool) → is_allocated_at items last ≡ b → AllByRecursion (IsWithin widest) (merged_before both_free combined_items (length (xs ++ last ∷ [])) (map (item_at items) (xs ++ last ∷ []) ++ free_item width ∷ rest))
        by_mark true e =
            let own = Each-middle (IsWithin widest) (map (item_at items) xs) (item_at items last) [] parts in
            let wide : width ≤ widest = omega (arith, low) in
            rw (previous-stays (item_at items) xs last width rest (free-item items last true e))
            (Each-append (IsWithin widest) (map (item_at items) xs) (item_at items last ∷ free_item width ∷ rest) front (own, ((λ _. wide), after)))
        by_mark false e =
            let some : free_named items (Some last) ≡ Some last = simp e refl in
            let sum : width + width_of items last ≤ widest = subst (λ (o : Option ℕ). width + named_width items o ≤ widest) some low in
            let wide : width_of items last + width ≤ widest = omega (arith, sum) in
            rw (previous-merged (item_at items) xs last width rest (free-item items last false e))
            (Each-append (IsWithin widest) (map (item_at items) xs) (free_item (width_of items last + width) ∷ rest) front ((λ _. wide), after))

-- how wide an item of a shelf is with its free neighbours, by where it stands
pub freed_width-is : (atlas : AtlasRecords) (shelf number : ℕ) (front back free : List ℕ) → IsEntry atlas.records (entry_of shelf (front ++ number ∷ back) free) → freed_width atlas.records.items number ≡ width_of atlas.records.items number + named_width atlas.records.items (free_named atlas.records.items (first_or None back)) + named_width atlas.records.items (free_named atlas.records.items (last_or None front))
freed_width-is atlas shelf number front back free is =
    let items : List LinkedItem = atlas.records.items in
    let next : link_at item_chain.next items number ≡ first_or None back = next-is (link_at item_chain.next items) front back number (first_item_of atlas.records.shelves shelf) None is.items.forward in
    let previous : link_at item_chain.previous items number ≡ last_or None front = previous-is (link_at item_chain.previous items) front back number None is.items.backward in
    ap (λ (o : Option ℕ). width_of items number + named_width items (free_named items o) + named_width items (free_named items (link_at item_chain.previous items number))) next
    ∙ ap (λ (o : Option ℕ). width_of items number + named_width items (free_named items (first_or None back)) + named_width items (free_named items o)) previous

-- the free items of a shelf after one of its items became free
pub freed-within : (atlas : AtlasRecords) (shelf number : ℕ) (front back free : List ℕ) (widest : ℕ) → IsEntry atlas.records (entry_of shelf (front ++ number ∷ back) free) → NoNeighbours both_free (map (item_at atlas.records.items) (front ++ number ∷ back)) → AllByRecursion (IsWithin widest) (map (item_at atlas.records.items) (front ++ number ∷ back)) → freed_width atlas.records.items number ≤ widest → AllByRecursion (IsWithin widest) (merged_items (freed (length front) (map (item_at atlas.records.items) (front ++ number ∷ back))))
freed-within atlas shelf number front back free widest is apart within low =
    let items : List LinkedItem = atlas.records.items in
    let whole : map (item_at items) (front ++ number ∷ back) ≡ map (item_at items) front ++ item_at items number ∷ map (item_at items) back = map-append (item_at items) front (number ∷ back) in
    let parts : AllByRecursion (IsWithin widest) (map (item_at items) front ++ item_at items number ∷ map (item_at items) back) = subst (λ (is : List Item). AllByRecursion (IsWithin widest) is) whole within in
    let next : IsNextMerged items front back (width_of items number) widest =
    next-is-merged items front back (width_of items number) widest (Each-back (IsWithin widest) (map (item_at items) front) (item_at items number ∷ map (item_at items) back) parts).1 in
    let here : freed (length front) (map (item_at items) (front ++ number ∷ back)) ≡ map (item_at items) front ++ free_item (width_of items number) ∷ map (item_at items) back =
    ap (freed (length front)) whole ∙ freed-here (item_at items) front (item_at items number) (map (item_at items) back) in
    let wide : width_of items number + named_width items (free_named items (first_or None back)) + named_width items (free_named items (last_or None front)) ≤ widest =
    omega (arith, low, freed_width-is atlas shelf number front back free is) in
    let merged : merged_items (freed (length front) (map (item_at items) (front ++ number ∷ back))) ≡ merged_before both_free combined_items (length front) (map (item_at items) front ++ free_item (width_of items number + named_width items (free_named items (first_or None back))) ∷ next.rest) =
    merged_items-freed (length front) (map (item_at items) (front ++ number ∷ back)) apart
    ∙ ap (λ (is : List Item). merged_before both_free combined_items (length front) (merged_at both_free combined_items (length front) is)) here
    ∙ ap (merged_before both_free combined_items (length front)) next.merged in
    rw merged
    (previous-within items (width_of items number + named_width items (free_named items (first_or None back))) widest next.rest front
    (Each-front (IsWithin widest) (map (item_at items) front) (item_at items number ∷ map (item_at items) back) parts) next.within wide)
