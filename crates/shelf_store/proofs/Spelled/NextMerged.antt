-- Records that spell lists, after an allocated item absorbed the next one where that is free: what they spell of its
-- shelf.
use Rattle.std.proofs.Common.{◌≡◌, ◌≢◌, ℕ, ◌+◌, ◌≤◌, Bool, true, false, ◌==◌, Option, None, Some, List, [], ◌∷◌, ◌++◌, length, map, refl, ap, subst, arith, sym, ◌∙◌, append_assoc}
use Rattle.std.specs.Prelude.{if◌then◌else◌}
use Rattle.etagere_base.proofs.EachLemmas.{Each-middle}
use Rattle.etagere_base.proofs.TimesLemmas.{times-append, times-here}
use Rattle.etagere_base.specs.Lists.{times, remove_number}
use Rattle.etagere_base.specs.MergingAt.{merged_at}
use Rattle.shelf_records.proofs.AllLists.LinkedItems.{entry_of}
use Rattle.shelf_records.proofs.AllLists.LinkedEdits.{linked-apart, Around, with_entry}
use Rattle.shelf_records.specs.declared.records.LinkedItem.{LinkedItem}
use Rattle.etagere_links.specs.Edits.{link_at}
use Rattle.shelf_records.specs.RecordLists.{Records, Entry, IsEntry, first_item_of}
use Rattle.shelf_records.specs.Records.{item_chain}
use Rattle.shelf_records.proofs.Chains.{next-is}
use Rattle.shelf_records.specs.AtlasRecords.{AtlasRecords, is_allocated_at, item_place_of, along_of, item_at, spelled_shelf, width_of}
use Rattle.shelf_model.specs.Merging.{both_free, combined_items}
use Rattle.shelf_store.specs.Private.ItemReturned.{Step, free_named, free_next, next_absorbed}
use Rattle.shelf_records.proofs.Spelled.Witnessed.{IsPlaced}
use Rattle.shelf_store.specs.Private.ReturnedNotes.{named_width}
use Rattle.shelf_model.specs.State.{Item}
use Rattle.shelf_store.proofs.Spelled.AbsorbedItems.{Absorbs, IsRest, rest-of, free-widens, widened-absorbs}
use Rattle.shelf_records.proofs.Spelled.EntryValues.{IsWidened, LieFrom-back, free_count, free_count-append, free_count-free, widths}
use Rattle.shelf_store.proofs.Spelled.ItemsAround.{free-item, map-parts, next-merged, next-stays, place-apart, widths-append}
use Rattle.shelf_store.proofs.Spelled.MergedAround.{free_item, is_first_free, remove-mapped}
use Rattle.shelf_records.proofs.Spelled.RecordValues.{SameItem, SameShelf, items-same, map-agrees, shelves-same}
use Rattle.shelf_store.proofs.Spelled.SpelledLists.{with_records, IsSpelled, EditsItems, items-edited}
use Rattle.shelf_store.proofs.Spelled.SpelledMerges.{free_absorbed-spelled}
use Rattle.shelf_records.proofs.Recorded.Members.{IsAmong, among}

-- what a step that merges an allocated item with the next one makes of its shelf's lists, and what these spell
pub record MergesNext (atlas : AtlasRecords) (step : Step) (around : Around) (shelf number : ℕ) (front back free : List ℕ) : Type 0 where
  pub rest : List ℕ
  pub free_list : List ℕ
  pub left_unused : List ℕ
  pub spelled : IsSpelled (with_records atlas step.records) (with_entry (record around { unused_items = left_unused }) (entry_of shelf (front ++ number ∷ rest) free_list))
  pub before_same : map (spelled_shelf (with_records atlas step.records)) around.before ≡ map (spelled_shelf atlas) around.before
  pub after_same : map (spelled_shelf (with_records atlas step.records)) around.after ≡ map (spelled_shelf atlas) around.after
  pub same : (k : ℕ) → SameShelf atlas.records.shelves step.records.shelves k
  pub allocated : is_allocated_at step.records.items number ≡ true
  pub place : item_place_of step.records.items number ≡ item_place_of atlas.records.items number
  pub front_same : map (item_at step.records.items) front ≡ map (item_at atlas.records.items) front
  pub kept : (k : ℕ) → 1 ≤ times k front → SameItem atlas.records.items step.records.items k
  pub items :
      merged_at both_free combined_items (length front) (map (item_at atlas.records.items) front ++ free_item (width_of atlas.records.items number) ∷ map (item_at atlas.records.items) back)
      ≡ map (item_at step.records.items) front ++ free_item (width_of step.records.items number) ∷ map (item_at step.records.items) rest
  pub places :
      map (item_place_of step.records.items) free_list
      ≡ (if is_first_free (map (item_at atlas.records.items) back)
      then remove_number (along_of atlas.records.shelves shelf + (widths atlas.records.items front + width_of atlas.records.items number)) (map (item_place_of atlas.records.items) free)
      else map (item_place_of atlas.records.items) free)
  pub width : width_of step.records.items number ≡ width_of atlas.records.items number + named_width atlas.records.items (free_next atlas.records.items number)
  pub wide : width_of step.records.items number ≤ width_of atlas.records.items number + widths atlas.records.items back
  pub counted : length left_unused ≡ step.made_unused + length around.unused_items

-- the next item is not free: nothing changes
next-kept : {atlas : AtlasRecords} (around : Around) (shelf number : ℕ) (front back free : List ℕ) → is_allocated_at atlas.records.items number ≡ true → is_first_free (map (item_at atlas.records.items) back) ≡ false → free_next atlas.records.items number ≡ None → IsSpelled atlas (with_entry around (entry_of shelf (front ++ number ∷ back) free)) → MergesNext atlas (record { records = atlas.records; made_unused = 0 }) around shelf number front back free
next-kept {atlas} around shelf number front back free allocated none unnamed spelled =
    record {
      rest = back;
      free_list = free;
      left_unused = around.unused_items;
      spelled = spelled;
      before_same = refl;
      after_same = refl;
      same = λ k. shelves-same atlas.records.shelves atlas.records.shelves k refl;
      allocated = allocated;
      place = refl;
      front_same = refl;
      kept = λ k stands. items-same atlas.records.items atlas.records.items k refl;
      items = next-stays (item_at atlas.records.items) front (width_of atlas.records.items number) (map (item_at atlas.records.items) back) none;
      places = rw none refl;
      width = rw unnamed (omega arith);
      wide = omega arith;
      counted = omega arith;
    }

-- an item that becomes wider begins where it began, and so do the others
widened-places : (items new : List LinkedItem) (number width k : ℕ) → IsWidened items new number width → item_place_of new k ≡ item_place_of items k
widened-places items new number width k widened = by_test (number == k) refl
  where
    by_test : (b : Bool) → (number == k) ≡ b → item_place_of new k ≡ item_place_of items k
    by_test true e = let own : number ≡ k = grind arith in subst (λ (n : ℕ). item_place_of new n ≡ item_place_of items n) own widened.place
    by_test false e = (widened.others k (grind arith)).place

-- the next item is free: it is absorbed
next-taken : {atlas : AtlasRecords} (around : Around) (shelf number next : ℕ) (front back free_front free_back : List ℕ) → ((n : ℕ) → 1 ≤ times n (front ++ number ∷ next ∷ back) → 1 ≤ width_of atlas.records.items n) → is_allocated_at atlas.records.items number ≡ true → is_allocated_at atlas.records.items next ≡ false → free_next atlas.records.items number ≡ Some next → IsSpelled atlas (with_entry around (entry_of shelf (front ++ number ∷ next ∷ back) (free_front ++ next ∷ free_back))) → MergesNext atlas (next_absorbed shelf number (Some next) atlas.records) around shelf number front (next ∷ back) (free_front ++ next ∷ free_back)
next-taken {atlas} around shelf number next front back free_front free_back wide allocated is_free named spelled =
    let items : List LinkedItem = atlas.records.items in
    let numbers : List ℕ = front ++ number ∷ next ∷ back in
    let free : List ℕ = free_front ++ next ∷ free_back in
    let entry : Entry = entry_of shelf numbers free in
    let new : Records = (next_absorbed shelf number (Some next) atlas.records).records in
    let edits : EditsItems atlas new around (next ∷ around.unused_items) entry (entry_of shelf (front ++ number ∷ back) (free_front ++ free_back)) =
    free_absorbed-spelled around shelf number next front back free_front free_back is_free spelled in
    let edited = items-edited new around (next ∷ around.unused_items) entry (entry_of shelf (front ++ number ∷ back) (free_front ++ free_back)) spelled edits in
    let others = map-parts (spelled_shelf (with_records atlas new)) (spelled_shelf atlas) around.before (entry_of shelf (front ++ number ∷ back) (free_front ++ free_back))
    (spelled_shelf (with_records atlas new) (entry_of shelf (front ++ number ∷ back) (free_front ++ free_back))) around.after edited.1 in
    let apart = linked-apart around entry spelled.linked in
    let placed : IsPlaced atlas entry = Each-middle (IsPlaced atlas) around.before entry around.after spelled.placed in
    let is : IsEntry atlas.records entry = Each-middle (IsEntry atlas.records) around.before entry around.after spelled.linked.entries in
    let count : (k : ℕ) → times k numbers ≡ times k front + times k (number ∷ next ∷ back) = λ k. times-append k front (number ∷ next ∷ back) in
    let rest : IsRest front back number next = rest-of front back number next apart.once in
    let widened : IsWidened items new.items number (width_of items number + width_of items next) =
    free-widens atlas.records shelf number next (apart.within number (omega (arith, count number, times-here number (next ∷ back)))) in
    let absorbs : Absorbs items new.items number next = widened-absorbs items new.items number next widened in
    let differ : number ≢ next = λ e.
    let here : times next (number ∷ next ∷ back) ≡ 1 + times next (next ∷ back) = rw e (times-here next (next ∷ back)) in
    omega (arith, apart.once next, count next, here, times-here next back) in
    let front_kept : (k : ℕ) → 1 ≤ times k front → SameItem items new.items k = λ k stands. absorbs.others k (rest.before k stands).0 (rest.before k stands).1 in
    let front_same : map (item_at new.items) front ≡ map (item_at items) front = map-agrees (item_at new.items) (item_at items) front (λ k stands. (front_kept k stands).item) in
    let back_same : map (item_at new.items) back ≡ map (item_at items) back =
    map-agrees (item_at new.items) (item_at items) back (λ k stands. (absorbs.others k (rest.after k stands).0 (rest.after k stands).1).item) in
    let width : width_of new.items number ≡ width_of items number + width_of items next = ap (λ (i : Item). i.width) absorbs.item in
    let free_next : is_first_free (map (item_at items) (next ∷ back)) ≡ true = free-item items next false is_free in
    let whole : (front ++ number ∷ []) ++ next ∷ back ≡ numbers = append_assoc front (number ∷ []) (next ∷ back) in
    let begins : item_place_of items next ≡ along_of atlas.records.shelves shelf + (widths items front + width_of items number) =
    (LieFrom-back items (along_of atlas.records.shelves shelf) (front ++ number ∷ []) (next ∷ back) (rw whole placed.places)).0
    ∙ ap (λ w. along_of atlas.records.shelves shelf + w) (omega (arith, widths-append items front (number ∷ []))) in
    let others_apart : (k : ℕ) → 1 ≤ times k (free_front ++ free_back) → item_place_of items k ≢ item_place_of items next = λ k stands.
    place-apart items (along_of atlas.records.shelves shelf) (front ++ number ∷ []) back next k (rw whole wide) (rw whole placed.places)
    (rw whole (omega (arith, stands, is.members k, times-append k free_front (next ∷ free_back), times-append k free_front free_back)))
    (λ e.
    let here : times k (next ∷ free_back) ≡ 1 + times k free_back = rw e (times-here k free_back) in
    omega (arith, stands, apart.free_once k, here, times-append k free_front (next ∷ free_back), times-append k free_front free_back)) in
    let kept : map (item_place_of new.items) (free_front ++ free_back) ≡ map (item_place_of items) (free_front ++ free_back) =
    map-agrees (item_place_of new.items) (item_place_of items) (free_front ++ free_back)
    (λ k stands. widened-places items new.items number (width_of items number + width_of items next) k widened) in
    record {
      rest = back;
      free_list = free_front ++ free_back;
      left_unused = next ∷ around.unused_items;
      spelled = edited.0;
      before_same = others.0;
      after_same = others.1;
      same = edits.shelf;
      allocated = absorbs.allocated ∙ allocated;
      place = absorbs.place;
      front_same = front_same;
      kept = front_kept;
      items = next-merged (item_at items) front (width_of items number) (item_at items next) (map (item_at items) back) free_next
          ∙ ap (λ (is : List Item). is ++ free_item (width_of items number + width_of items next) ∷ map (item_at items) back) (sym front_same)
          ∙ ap (λ (is : List Item). map (item_at new.items) front ++ free_item (width_of items number + width_of items next) ∷ is) (sym back_same)
          ∙ ap (λ w. map (item_at new.items) front ++ free_item w ∷ map (item_at new.items) back) (sym width);
      places = rw free_next (kept ∙ sym (remove-mapped (item_place_of items) free_front free_back next others_apart) ∙ ap (λ p. remove_number p (map (item_place_of items) free)) begins);
      width = rw named width;
      wide = omega (arith, width);
      counted = omega arith;
    }

-- an allocated item was merged with the next one where that is free
pub merges-next : {atlas : AtlasRecords} (around : Around) (shelf number : ℕ) (front back free : List ℕ) → ((n : ℕ) → 1 ≤ times n (front ++ number ∷ back) → 1 ≤ width_of atlas.records.items n) → is_allocated_at atlas.records.items number ≡ true → IsSpelled atlas (with_entry around (entry_of shelf (front ++ number ∷ back) free)) → MergesNext atlas (next_absorbed shelf number (free_next atlas.records.items number) atlas.records) around shelf number front back free
merges-next {atlas} around shelf number front [] free wide allocated spelled =
    let items : List LinkedItem = atlas.records.items in
    let is : IsEntry atlas.records (entry_of shelf (front ++ number ∷ []) free) = Each-middle (IsEntry atlas.records) around.before (entry_of shelf (front ++ number ∷ []) free) around.after spelled.linked.entries in
    let link : link_at item_chain.next items number ≡ None = next-is (link_at item_chain.next items) front [] number (first_item_of atlas.records.shelves shelf) None is.items.forward in
    let none : free_next items number ≡ None = ap (free_named items) link in
    subst (λ (o : Option ℕ). MergesNext atlas (next_absorbed shelf number o atlas.records) around shelf number front [] free) (sym none)
    (next-kept around shelf number front [] free allocated refl none spelled)
merges-next {atlas} around shelf number front (next ∷ back) free wide allocated spelled =
    by_mark (is_allocated_at atlas.records.items next) refl
  where
    entry : Entry
    entry = entry_of shelf (front ++ number ∷ next ∷ back) free

    is : IsEntry atlas.records entry
    is = Each-middle (IsEntry atlas.records) around.before entry around.after spelled.linked.entries

    link : free_next atlas.records.items number ≡ free_named atlas.records.items (Some next)
    link = ap (free_named atlas.records.items) (next-is (link_at item_chain.next atlas.records.items) front (next ∷ back) number (first_item_of atlas.records.shelves shelf) None is.items.forward)

    absorbed : is_allocated_at atlas.records.items next ≡ false → free_next atlas.records.items number ≡ Some next → IsAmong next free → MergesNext atlas (next_absorbed shelf number (Some next) atlas.records) around shelf number front (next ∷ back) free
    absorbed is_free named member =
        subst (λ (ns : List ℕ). MergesNext atlas (next_absorbed shelf number (Some next) atlas.records) around shelf number front (next ∷ back) ns) (sym member.whole)
        (next-taken around shelf number next front back member.front member.back wide allocated is_free named
        (subst (λ (ns : List ℕ). IsSpelled atlas (with_entry around (entry_of shelf (front ++ number ∷ next ∷ back) ns))) member.whole spelled))

    by_mark : (b : Bool) → is_allocated_at atlas.records.items next ≡ b → MergesNext atlas (next_absorbed shelf number (free_next atlas.records.items number) atlas.records) around shelf number front (next ∷ back) free
    by_mark true e =
        let none : free_named atlas.records.items (Some next) ≡ None = simp e refl in
        subst (λ (o : Option ℕ). MergesNext atlas (next_absorbed shelf number o atlas.records) around shelf number front (next ∷ back) free) (sym (link ∙ none))
        (next-kept around shelf number front (next ∷ back) free allocated (free-item atlas.records.items next true e) (link ∙ none) spelled)
    by_mark false e =
        let some : free_named atlas.records.items (Some next) ≡ Some next = simp e refl in
        let placed : IsPlaced atlas entry = Each-middle (IsPlaced atlas) around.before entry around.after spelled.placed in
        let stands : 1 ≤ times next free =
        omega (
          arith,
          placed.free_list next,
          free_count-append atlas.records.items next (front ++ number ∷ []) (next ∷ back),
          free_count-free atlas.records.items next next back e,
          times-here next [],
          ap (λ ns. free_count atlas.records.items next ns) (append_assoc front (number ∷ []) (next ∷ back)),
        ) in
        subst (λ (o : Option ℕ). MergesNext atlas (next_absorbed shelf number o atlas.records) around shelf number front (next ∷ back) free) (sym (link ∙ some))
        (absorbed e (link ∙ some) (among next free stands))
