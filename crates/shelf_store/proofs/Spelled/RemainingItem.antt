-- The item that remains where one was freed and merged: it stands in its shelf, free, as wide as the item was with its
-- free neighbours. So far the shelf says that it is in use.
use Rattle.std.proofs.Common.{◌≡◌, ℕ, ◌≤◌, Bool, true, false, ◌&&◌, Option, None, Some, is_none, List, [], ◌∷◌, ◌++◌, map, refl, ap, subst, arith, sym, ◌∙◌}
use Rattle.std.proofs.lemmas.List.{map-append}
use Rattle.std.specs.Prelude.{not}
use Rattle.etagere_base.proofs.EachLemmas.{Each-middle}
use Rattle.etagere_base.proofs.TimesLemmas.{times-append, times-here}
use Rattle.etagere_base.specs.Lists.{times}
use Rattle.shelf_records.proofs.AllLists.LinkedItems.{entry_of}
use Rattle.shelf_records.proofs.AllLists.LinkedEdits.{linked-apart, Around, with_entry}
use Rattle.shelf_records.specs.declared.records.LinkedItem.{LinkedItem}
use Rattle.shelf_records.specs.Chains.{IsChainIn}
use Rattle.etagere_links.specs.Edits.{link_at}
use Rattle.shelf_records.specs.ListEnds.{first_or, last_or}
use Rattle.shelf_records.specs.RecordLists.{Records, Entry, IsEntry, first_item_of}
use Rattle.shelf_records.specs.Records.{item_chain}
use Rattle.shelf_records.proofs.Chains.{Leads-start, next-is, previous-is}
use Rattle.shelf_records.proofs.ListEnds.{last-stands-in}
use Rattle.shelf_records.specs.AtlasRecords.{AtlasRecords, is_allocated_at, is_empty_at, item_at, spelled_shelf, width_of}
use Rattle.shelf_store.specs.Private.ItemReturned.{IsRemaining, Step, free_named, free_next, free_previous, freed_after, is_alone, item_merged, remaining_in, names_one_free, next_absorbed}
use Rattle.shelf_records.proofs.Spelled.Witnessed.{HasFlag}
use Rattle.shelf_store.specs.Private.ReturnedNotes.{freed_width, named_width}
use Rattle.shelf_model.specs.State.{Item, is_one_free}
use Rattle.shelf_model.specs.Valid.{IsShelf}
use Rattle.shelf_store.proofs.Spelled.EmptinessSaid.{IsFlagged}
use Rattle.shelf_store.proofs.Spelled.ItemMerged.{wide-items}
use Rattle.shelf_store.proofs.Spelled.ItemsAround.{free-item}
use Rattle.shelf_store.proofs.Spelled.NextMerged.{MergesNext, merges-next}
use Rattle.shelf_store.proofs.Spelled.PreviousMerged.{FreesItem, frees-item}
use Rattle.shelf_records.proofs.Spelled.RecordValues.{SameItem}
use Rattle.shelf_store.proofs.Spelled.SpelledLists.{with_records, IsSpelled}
use Rattle.shelf_model.proofs.Taken.TakenPieces.{allocated-not_empty}

-- the last of a list with a member is some
last-some : (xs : List ℕ) (x : ℕ) → is_none (last_or (Some x) xs) ≡ false
last-some [] x = refl
last-some (y ∷ ys) x = last-some ys y

-- the first of a list with a member is some
first-some : (xs ys : List ℕ) (x : ℕ) → is_none (first_or None (xs ++ x ∷ ys)) ≡ false
first-some [] ys x = refl
first-some (y ∷ xs) ys x = refl

-- a free item of a list stands alone just where the list has this one, free item
alone-one : (items : List LinkedItem) (first : Option ℕ) (front back : List ℕ) (remaining : ℕ) → is_allocated_at items remaining ≡ false → IsChainIn item_chain items first (front ++ remaining ∷ back) → names_one_free items first ≡ is_alone items remaining
alone-one items first [] back remaining is_free chain =
    let named : first ≡ Some remaining = Leads-start (link_at item_chain.next items) (remaining ∷ back) first None chain.forward in
    let previous : link_at item_chain.previous items remaining ≡ None = previous-is (link_at item_chain.previous items) [] back remaining None chain.backward in
    rw (named, is_free, previous) refl
alone-one items first (x ∷ front) back remaining is_free chain =
    let named : first ≡ Some x = Leads-start (link_at item_chain.next items) (x ∷ front ++ remaining ∷ back) first None chain.forward in
    let previous : link_at item_chain.previous items remaining ≡ last_or (Some x) front = previous-is (link_at item_chain.previous items) (x ∷ front) back remaining None chain.backward in
    let next : link_at item_chain.next items x ≡ first_or None (front ++ remaining ∷ back) = next-is (link_at item_chain.next items) [] (front ++ remaining ∷ back) x first None chain.forward in
    let more : is_none (link_at item_chain.next items x) ≡ false = ap is_none next ∙ first-some front back remaining in
    let some : is_none (link_at item_chain.previous items remaining) ≡ false = ap is_none previous ∙ last-some front x in
    rw (named, more, some) (neither (not (is_allocated_at items x)))
  where
    neither : (b : Bool) → (b && false) ≡ false
    neither true = refl
    neither false = refl

-- the last of a list, where that is free, is as wide where each of them says the same
named-same : (items new : List LinkedItem) (xs : List ℕ) → ((k : ℕ) → 1 ≤ times k xs → SameItem items new k) → named_width new (free_named new (last_or None xs)) ≡ named_width items (free_named items (last_or None xs))
named-same items new xs same = by_link (last_or None xs) (λ n e. same n (last-stands-in xs n e))
  where
    by_mark : (n : ℕ) (b : Bool) → is_allocated_at items n ≡ b → SameItem items new n → named_width new (free_named new (Some n)) ≡ named_width items (free_named items (Some n))
    by_mark n true e own = let mark : is_allocated_at new n ≡ true = own.allocated ∙ e in rw (mark, e) refl
    by_mark n false e own = let mark : is_allocated_at new n ≡ false = own.allocated ∙ e in rw (mark, e) (ap (λ (i : Item). i.width) own.item)

    by_link : (link : Option ℕ) → ((n : ℕ) → link ≡ Some n → SameItem items new n) → named_width new (free_named new link) ≡ named_width items (free_named items link)
    by_link None own = refl
    by_link (Some n) own = by_mark n (is_allocated_at items n) refl (own n refl)

-- the item that remains is there, stands alone just where its shelf has one free item, and is as wide as the freed one
-- was with its free neighbours
pub item-remaining : {atlas : AtlasRecords} (around : Around) (shelf number : ℕ) (front back free : List ℕ) → IsShelf atlas.frame (spelled_shelf atlas (entry_of shelf (front ++ number ∷ back) free)) → is_allocated_at atlas.records.items number ≡ true → IsFlagged atlas (with_entry around (entry_of shelf (front ++ number ∷ back) free)) → IsRemaining shelf number atlas.records × (width_of (item_merged shelf number atlas.records).records.items (remaining_in shelf number atlas.records) ≡ freed_width atlas.records.items number)
item-remaining {atlas} around shelf number front back free valid allocated flagged =
    let spelled : IsSpelled atlas (with_entry around (entry_of shelf (front ++ number ∷ back) free)) = flagged.spelled in
    let items : List LinkedItem = atlas.records.items in
    let one : Step = next_absorbed shelf number (free_next items number) atlas.records in
    let next : MergesNext atlas one around shelf number front back free =
    merges-next around shelf number front back free (wide-items atlas shelf (front ++ number ∷ back) free valid) allocated spelled in
    let middle : AtlasRecords = with_records atlas one.records in
    let two : Step = freed_after shelf number (free_previous one.records.items number) one.records in
    let own : FreesItem middle two (record around { unused_items = next.left_unused }) shelf number front next.rest next.free_list =
    frees-item (record around { unused_items = next.left_unused }) shelf number front next.rest next.free_list next.allocated next.spelled in
    let new : Records = two.records in
    let remaining : ℕ = remaining_in shelf number atlas.records in
    let old_entry : Entry = entry_of shelf (front ++ number ∷ back) free in
    let entry : Entry = entry_of shelf (front ++ number ∷ next.rest) next.free_list in
    let new_entry : Entry = entry_of shelf own.numbers own.free_list in
    let was : IsEntry atlas.records old_entry = Each-middle (IsEntry atlas.records) around.before old_entry around.after spelled.linked.entries in
    let still : IsEntry one.records entry = Each-middle (IsEntry one.records) around.before entry around.after next.spelled.linked.entries in
    let is : IsEntry new new_entry = Each-middle (IsEntry new) around.before new_entry around.after own.spelled.linked.entries in
    let apart = linked-apart (record around { unused_items = own.left_unused }) new_entry own.spelled.linked in
    let stands : 1 ≤ times remaining own.numbers =
    omega (arith, ap (times remaining) own.stands, times-append remaining own.remaining_front (remaining ∷ next.rest), times-here remaining next.rest) in
    let chain : IsChainIn item_chain new.items (first_item_of new.shelves shelf) (own.remaining_front ++ remaining ∷ next.rest) =
    subst (λ (ns : List ℕ). IsChainIn item_chain new.items (first_item_of new.shelves shelf) ns) own.stands is.items in
    let flag : is_empty_at atlas.records.shelves shelf ≡ is_one_free (map (item_at items) (front ++ number ∷ back)) = Each-middle (HasFlag atlas) around.before old_entry around.after flagged.flags in
    let busy : is_one_free (map (item_at items) (front ++ number ∷ back)) ≡ false =
    ap is_one_free (map-append (item_at items) front (number ∷ back))
    ∙ allocated-not_empty (map (item_at items) front) (map (item_at items) back) (item_at items number) (free-item items number true allocated) in
    let same : named_width one.records.items (free_previous one.records.items number) ≡ named_width items (free_previous items number) =
    ap (λ (o : Option ℕ). named_width one.records.items (free_named one.records.items o)) (previous-is (link_at item_chain.previous one.records.items) front next.rest number None still.items.backward)
    ∙ named-same items one.records.items front next.kept
    ∙ ap (λ (o : Option ℕ). named_width items (free_named items o)) (sym (previous-is (link_at item_chain.previous items) front back number None was.items.backward)) in (
      record {
        there = apart.within remaining stands;
        alone = alone-one new.items (first_item_of new.shelves shelf) own.remaining_front next.rest remaining own.is_free chain;
        in_use = (own.same shelf).is_empty ∙ (next.same shelf).is_empty ∙ flag ∙ busy;
      },
      omega (arith, own.width, next.width, same),
    )
