-- Records that spell lists, after an allocated item became free, and the previous one absorbed it where that is free:
-- what they spell of its shelf.
use Rattle.std.proofs.Common.{◌≡◌, ◌≢◌, ℕ, ◌+◌, ◌≤◌, Bool, true, false, ◌==◌, Option, None, Some, List, [], ◌∷◌, ◌++◌, length, map, refl, ap, subst, arith, sym, ◌∙◌, append_assoc}
use Rattle.std.specs.Prelude.{if◌then◌else◌}
use Rattle.std.proofs.lemmas.List.{map-append}
use Rattle.etagere_base.proofs.EachLemmas.{Each-middle}
use Rattle.etagere_base.proofs.TimesLemmas.{times-append, times-here}
use Rattle.etagere_base.specs.Lists.{times}
use Rattle.etagere_base.specs.MergingAt.{merged_before}
use Rattle.shelf_records.proofs.AllLists.LinkedItems.{entry_of}
use Rattle.shelf_records.proofs.AllLists.LinkedEdits.{linked-apart, Around, with_entry}
use Rattle.shelf_records.specs.declared.records.LinkedItem.{LinkedItem}
use Rattle.etagere_links.specs.Edits.{link_at}
use Rattle.shelf_records.specs.ListEnds.{last_or}
use Rattle.shelf_records.specs.RecordLists.{Records, Entry, IsEntry}
use Rattle.shelf_records.specs.Records.{item_chain}
use Rattle.shelf_records.proofs.Chains.{previous-is}
use Rattle.shelf_records.proofs.ListEnds.{last-append}
use Rattle.shelf_records.specs.AtlasRecords.{AtlasRecords, is_allocated_at, item_place_of, item_at, spelled_shelf, width_of}
use Rattle.shelf_model.specs.Merging.{both_free, combined_items}
use Rattle.shelf_store.specs.Private.ItemReturned.{Step, free_named, free_previous, freed_after, remaining_item}
use Rattle.shelf_records.proofs.Spelled.Witnessed.{IsPlaced}
use Rattle.shelf_store.specs.Private.ReturnedNotes.{named_width}
use Rattle.shelf_model.specs.Returning.{is_free_before}
use Rattle.shelf_model.specs.State.{Item}
use Rattle.shelf_store.proofs.Spelled.AbsorbedItems.{Absorbs, IsRest, rest-of, absorbed-items, allocated-absorbs}
use Rattle.shelf_records.proofs.Spelled.EntryValues.{IsFreed, free_count-none}
use Rattle.shelf_store.proofs.Spelled.ItemsAround.{by_end, free-before, free-item, free-none, map-parts, previous-merged, previous-stays}
use Rattle.shelf_store.proofs.Spelled.MergedAround.{free_item}
use Rattle.shelf_records.proofs.Spelled.RecordValues.{SameShelf, map-agrees}
use Rattle.shelf_store.proofs.Spelled.SpelledLists.{with_records, IsSpelled, EditsItems, items-edited}
use Rattle.shelf_store.proofs.Spelled.SpelledMerges.{allocated_absorbed-spelled, item_freed-spelled, freed-values}

-- what a step that frees an item, and merges it with the previous one, makes of its shelf's lists, and what these spell;
-- and where the item that remains stands there, free, and how wide it is
pub record FreesItem (atlas : AtlasRecords) (step : Step) (around : Around) (shelf number : ℕ) (front back free : List ℕ) : Type 0 where
  pub numbers : List ℕ
  pub free_list : List ℕ
  pub left_unused : List ℕ
  pub spelled : IsSpelled (with_records atlas step.records) (with_entry (record around { unused_items = left_unused }) (entry_of shelf numbers free_list))
  pub before_same : map (spelled_shelf (with_records atlas step.records)) around.before ≡ map (spelled_shelf atlas) around.before
  pub after_same : map (spelled_shelf (with_records atlas step.records)) around.after ≡ map (spelled_shelf atlas) around.after
  pub same : (k : ℕ) → SameShelf atlas.records.shelves step.records.shelves k
  pub items :
      map (item_at step.records.items) numbers
      ≡ merged_before both_free combined_items (length front)
      (map (item_at atlas.records.items) front ++ free_item (width_of atlas.records.items number) ∷ map (item_at atlas.records.items) back)
  pub places :
      (others : List Item)
      → map (item_place_of step.records.items) free_list
      ≡ (if is_free_before (length front) (map (item_at atlas.records.items) front ++ others)
      then map (item_place_of atlas.records.items) free
      else item_place_of atlas.records.items number ∷ map (item_place_of atlas.records.items) free)
  pub counted : length left_unused ≡ step.made_unused + length around.unused_items
  pub remaining_front : List ℕ
  pub stands : numbers ≡ remaining_front ++ remaining_item number (free_previous atlas.records.items number) ∷ back
  pub is_free : is_allocated_at step.records.items (remaining_item number (free_previous atlas.records.items number)) ≡ false
  pub width :
      width_of step.records.items (remaining_item number (free_previous atlas.records.items number))
      ≡ width_of atlas.records.items number + named_width atlas.records.items (free_previous atlas.records.items number)

-- the members of a list around one of them differ from it
around-other : (front back : List ℕ) (number : ℕ) → ((k : ℕ) → times k (front ++ number ∷ back) ≤ 1) → (k : ℕ) → 1 ≤ times k front + times k back → number ≢ k
around-other front back number once k stands e =
    let here : times k (number ∷ back) ≡ 1 + times k back = rw e (times-here k back) in
    omega (arith, once k, stands, times-append k front (number ∷ back), here)

-- the previous item is not free: the item becomes free
item-freed : {atlas : AtlasRecords} (around : Around) (shelf number : ℕ) (front back free : List ℕ) → is_allocated_at atlas.records.items number ≡ true → (merged_before both_free combined_items (length front) (map (item_at atlas.records.items) front ++ free_item (width_of atlas.records.items number) ∷ map (item_at atlas.records.items) back) ≡ map (item_at atlas.records.items) front ++ free_item (width_of atlas.records.items number) ∷ map (item_at atlas.records.items) back) → ((others : List Item) → is_free_before (length front) (map (item_at atlas.records.items) front ++ others) ≡ false) → free_previous atlas.records.items number ≡ None → IsSpelled atlas (with_entry around (entry_of shelf (front ++ number ∷ back) free)) → FreesItem atlas (freed_after shelf number None atlas.records) around shelf number front back free
item-freed {atlas} around shelf number front back free allocated stays none unnamed spelled =
    let items : List LinkedItem = atlas.records.items in
    let numbers : List ℕ = front ++ number ∷ back in
    let entry : Entry = entry_of shelf numbers free in
    let edited_entry : Entry = entry_of shelf numbers (number ∷ free) in
    let new : Records = (freed_after shelf number None atlas.records).records in
    let edits : EditsItems atlas new around around.unused_items entry edited_entry =
    item_freed-spelled around shelf number front back free allocated spelled in
    let edited = items-edited new around around.unused_items entry edited_entry spelled edits in
    let others = map-parts (spelled_shelf (with_records atlas new)) (spelled_shelf atlas) around.before edited_entry (spelled_shelf (with_records atlas new) edited_entry) around.after edited.1 in
    let apart = linked-apart around entry spelled.linked in
    let placed : IsPlaced atlas entry = Each-middle (IsPlaced atlas) around.before entry around.after spelled.placed in
    let freed : IsFreed items new.items number = freed-values atlas.records shelf number (apart.within number (omega (arith, times-append number front (number ∷ back), times-here number back))) in
    let absent : times number free ≡ 0 = placed.free_list number ∙ free_count-none items number numbers allocated in
    let front_same : map (item_at new.items) front ≡ map (item_at items) front =
    map-agrees (item_at new.items) (item_at items) front (λ k stands. (freed.others k (around-other front back number apart.once k (omega (arith, stands)))).item) in
    let back_same : map (item_at new.items) back ≡ map (item_at items) back =
    map-agrees (item_at new.items) (item_at items) back (λ k stands. (freed.others k (around-other front back number apart.once k (omega (arith, stands)))).item) in
    let kept : map (item_place_of new.items) free ≡ map (item_place_of items) free =
    map-agrees (item_place_of new.items) (item_place_of items) free (λ k stands. (freed.others k (λ e. let again : 1 ≤ times number free = rw e stands in omega (arith, again, absent))).place) in
    record {
      numbers = numbers;
      free_list = number ∷ free;
      left_unused = around.unused_items;
      spelled = edited.0;
      before_same = others.0;
      after_same = others.1;
      same = edits.shelf;
      items = map-append (item_at new.items) front (number ∷ back)
          ∙ ap (λ (is : List Item). is ++ item_at new.items number ∷ map (item_at new.items) back) front_same
          ∙ ap (λ (i : Item). map (item_at items) front ++ i ∷ map (item_at new.items) back) freed.item
          ∙ ap (λ (is : List Item). map (item_at items) front ++ free_item (width_of items number) ∷ is) back_same
          ∙ sym stays;
      places = λ before_items. rw (none before_items) (ap (λ p. p ∷ map (item_place_of new.items) free) freed.place ∙ ap (λ ps. item_place_of items number ∷ ps) kept);
      counted = omega arith;
      remaining_front = front;
      stands = rw unnamed refl;
      is_free = rw unnamed freed.allocated;
      width = rw unnamed (omega (arith, ap (λ (i : Item). i.width) freed.item));
    }

-- the previous item is free: it absorbs the item
item-taken : {atlas : AtlasRecords} (around : Around) (shelf number previous : ℕ) (front back free : List ℕ) → is_allocated_at atlas.records.items number ≡ true → is_allocated_at atlas.records.items previous ≡ false → free_previous atlas.records.items number ≡ Some previous → IsSpelled atlas (with_entry around (entry_of shelf (front ++ previous ∷ number ∷ back) free)) → FreesItem atlas (freed_after shelf number (Some previous) atlas.records) around shelf number (front ++ previous ∷ []) back free
item-taken {atlas} around shelf number previous front back free allocated is_free named spelled =
    let items : List LinkedItem = atlas.records.items in
    let numbers : List ℕ = front ++ previous ∷ number ∷ back in
    let entry : Entry = entry_of shelf numbers free in
    let edited_entry : Entry = entry_of shelf (front ++ previous ∷ back) free in
    let new : Records = (freed_after shelf number (Some previous) atlas.records).records in
    let edits : EditsItems atlas new around (number ∷ around.unused_items) entry edited_entry =
    allocated_absorbed-spelled around shelf previous number front back free allocated spelled in
    let edited = items-edited new around (number ∷ around.unused_items) entry edited_entry spelled edits in
    let others = map-parts (spelled_shelf (with_records atlas new)) (spelled_shelf atlas) around.before edited_entry (spelled_shelf (with_records atlas new) edited_entry) around.after edited.1 in
    let apart = linked-apart around entry spelled.linked in
    let placed : IsPlaced atlas entry = Each-middle (IsPlaced atlas) around.before entry around.after spelled.placed in
    let rest : IsRest front back previous number = rest-of front back previous number apart.once in
    let count : times previous numbers ≡ times previous front + times previous (previous ∷ number ∷ back) = times-append previous front (previous ∷ number ∷ back) in
    let differ : previous ≢ number = λ e. let contrary : is_allocated_at items previous ≡ true = rw e allocated in cc in
    let absorbs : Absorbs items new.items previous number =
    allocated-absorbs atlas.records shelf previous number differ (apart.within previous (omega (arith, count, times-here previous (number ∷ back)))) in
    let absent : times number free ≡ 0 = placed.free_list number ∙ free_count-none items number numbers allocated in
    let last_free = free-item items previous false is_free in
    let places_same : (k : ℕ) → 1 ≤ times k free → item_place_of new.items k ≡ item_place_of items k = λ k stands.
    absorbed-place items new.items previous number k absorbs (λ e. let again : 1 ≤ times number free = rw e stands in omega (arith, again, absent)) in
    record {
      numbers = front ++ previous ∷ back;
      free_list = free;
      left_unused = number ∷ around.unused_items;
      spelled = edited.0;
      before_same = others.0;
      after_same = others.1;
      same = edits.shelf;
      items = absorbed-items items new.items front back previous number rest absorbs
          ∙ ap (λ (o : Option ℕ). map (item_at items) front ++ record { width = width_of items previous + width_of items number; id = o } ∷ map (item_at items) back) (ap (λ (i : Item). i.id) (free-none (item_at items previous) last_free))
          ∙ sym (previous-merged (item_at items) front previous (width_of items number) (map (item_at items) back) last_free);
      places = λ before_items. rw (free-before (item_at items) front previous before_items ∙ last_free) (map-agrees (item_place_of new.items) (item_place_of items) free places_same);
      counted = omega arith;
      remaining_front = front;
      stands = rw named refl;
      is_free = rw named (absorbs.allocated ∙ is_free);
      width = rw named (omega (arith, ap (λ (i : Item). i.width) absorbs.item));
    }
  where
    absorbed-place : (old new : List LinkedItem) (one next k : ℕ) → Absorbs old new one next → next ≢ k → item_place_of new k ≡ item_place_of old k
    absorbed-place old new one next k absorbs other = by_test (one == k) refl
      where
        by_test : (b : Bool) → (one == k) ≡ b → item_place_of new k ≡ item_place_of old k
        by_test true e = let own : one ≡ k = grind arith in subst (λ (n : ℕ). item_place_of new n ≡ item_place_of old n) own absorbs.place
        by_test false e = (absorbs.others k (grind arith) other).place

-- an allocated item became free, and was merged with the previous one where that is free
pub frees-item : {atlas : AtlasRecords} (around : Around) (shelf number : ℕ) (front back free : List ℕ) → is_allocated_at atlas.records.items number ≡ true → IsSpelled atlas (with_entry around (entry_of shelf (front ++ number ∷ back) free)) → FreesItem atlas (freed_after shelf number (free_previous atlas.records.items number) atlas.records) around shelf number front back free
frees-item {atlas} around shelf number front back free allocated =
    by_end (λ (xs : List ℕ). IsSpelled atlas (with_entry around (entry_of shelf (xs ++ number ∷ back) free)) → FreesItem atlas (freed_after shelf number (free_previous atlas.records.items number) atlas.records) around shelf number xs back free)
    first some front
  where
    items : List LinkedItem
    items = atlas.records.items

    link : (xs : List ℕ) → IsSpelled atlas (with_entry around (entry_of shelf (xs ++ number ∷ back) free)) → free_previous items number ≡ free_named items (last_or None xs)
    link xs spelled =
        let is : IsEntry atlas.records (entry_of shelf (xs ++ number ∷ back) free) = Each-middle (IsEntry atlas.records) around.before (entry_of shelf (xs ++ number ∷ back) free) around.after spelled.linked.entries in
        ap (free_named items) (previous-is (link_at item_chain.previous items) xs back number None is.items.backward)

    first : IsSpelled atlas (with_entry around (entry_of shelf (number ∷ back) free)) → FreesItem atlas (freed_after shelf number (free_previous items number) atlas.records) around shelf number [] back free
    first spelled =
        subst (λ (o : Option ℕ). FreesItem atlas (freed_after shelf number o atlas.records) around shelf number [] back free) (sym (link [] spelled))
        (item-freed around shelf number [] back free allocated refl (λ others. refl) (link [] spelled) spelled)

    some : (xs : List ℕ) (previous : ℕ) → IsSpelled atlas (with_entry around (entry_of shelf ((xs ++ previous ∷ []) ++ number ∷ back) free)) → FreesItem atlas (freed_after shelf number (free_previous items number) atlas.records) around shelf number (xs ++ previous ∷ []) back free
    some xs previous spelled = by_mark (is_allocated_at items previous) refl
      where
        named : free_previous items number ≡ free_named items (Some previous)
        named = link (xs ++ previous ∷ []) spelled ∙ ap (free_named items) (last-append xs previous None)

        parts : (xs : List ℕ) → map (item_at items) (xs ++ previous ∷ []) ++ free_item (width_of items number) ∷ map (item_at items) back ≡ map (item_at items) xs ++ item_at items previous ∷ free_item (width_of items number) ∷ map (item_at items) back
        parts [] = refl
        parts (x ∷ ys) = ap (λ (is : List Item). item_at items x ∷ is) (parts ys)

        by_mark : (b : Bool) → is_allocated_at items previous ≡ b → FreesItem atlas (freed_after shelf number (free_previous items number) atlas.records) around shelf number (xs ++ previous ∷ []) back free
        by_mark true e =
            let none : free_named items (Some previous) ≡ None = simp e refl in
            let marked = free-item items previous true e in
            subst (λ (o : Option ℕ). FreesItem atlas (freed_after shelf number o atlas.records) around shelf number (xs ++ previous ∷ []) back free) (sym (named ∙ none))
            (item-freed around shelf number (xs ++ previous ∷ []) back free allocated
            (previous-stays (item_at items) xs previous (width_of items number) (map (item_at items) back) marked ∙ sym (parts xs))
            (λ others. free-before (item_at items) xs previous others ∙ marked) (named ∙ none) spelled)
        by_mark false e =
            let one : free_named items (Some previous) ≡ Some previous = simp e refl in
            subst (λ (o : Option ℕ). FreesItem atlas (freed_after shelf number o atlas.records) around shelf number (xs ++ previous ∷ []) back free) (sym (named ∙ one))
            (item-taken around shelf number previous xs back free allocated e (named ∙ one)
            (subst (λ (ns : List ℕ). IsSpelled atlas (with_entry around (entry_of shelf ns free))) (append_assoc xs (previous ∷ []) (number ∷ back)) spelled))
