-- What a return reads of an item and its neighbours is there, where records spell lists.
use Rattle.std.proofs.Common.{◌≡◌, ℕ, ◌+◌, ◌<◌, ◌≤◌, Bool, true, false, Option, None, Some, List, [], ◌∷◌, ◌++◌, length, refl, ap, subst, arith, sym, ◌∙◌}
use Rattle.etagere_base.proofs.EachLemmas.{Each-middle}
use Rattle.etagere_base.proofs.TimesLemmas.{times-append}
use Rattle.etagere_base.specs.Lists.{times}
use Rattle.shelf_records.proofs.AllLists.LinkedItems.{entry_of}
use Rattle.shelf_records.proofs.AllLists.LinkedEdits.{IsApart, linked-apart, Around, with_entry}
use Rattle.shelf_records.specs.declared.records.LinkedItem.{LinkedItem}
use Rattle.shelf_records.specs.Chains.{IsChainIn}
use Rattle.etagere_links.specs.Edits.{link_at}
use Rattle.shelf_records.specs.Families.{Family}
use Rattle.shelf_records.specs.ListEnds.{first_or, last_or}
use Rattle.shelf_records.specs.Neighbours.{HasNeighbours, NamesOneOf}
use Rattle.shelf_records.specs.RecordLists.{Records, Entry, IsEntry, IsLinked, IsLinkedExcept, Lists, first_free_of, first_item_of, item_numbers, shelf_numbers}
use Rattle.shelf_records.specs.Records.{free_list, item_chain, shelf_chain}
use Rattle.shelf_records.proofs.Chains.{Leads-start, next-is, previous-is}
use Rattle.etagere_links.proofs.ListEnds.{times-here}
use Rattle.shelf_records.proofs.ListEnds.{first-stands, last-stands-in}
use Rattle.etagere_links.proofs.WalkedLists.{once-part}
use Rattle.shelf_records.specs.AtlasRecords.{AtlasRecords, is_allocated_at}
use Rattle.shelf_store.specs.Private.ItemReturned.{FreeNextIsThere, AreThere, free_named, free_next}
use Rattle.shelf_records.proofs.Spelled.Witnessed.{IsPlaced}
use Rattle.shelf_records.proofs.Spelled.EntryValues.{free_count, free_count-append, free_count-free}
use Rattle.shelf_store.proofs.Spelled.SpelledLists.{IsSpelled}
use Rattle.shelf_records.proofs.Recorded.Members.{IsAmong, among}

-- a link that names a free item names this one, and this is free
pub named-is : (items : List LinkedItem) (link : Option ℕ) (n : ℕ) → free_named items link ≡ Some n → (link ≡ Some n) × (is_allocated_at items n ≡ false)
named-is items None n e = absurd (cc e)
named-is items (Some m) n e = by_mark (is_allocated_at items m) refl
  where
    by_mark : (b : Bool) → is_allocated_at items m ≡ b → (Some m ≡ Some n) × (is_allocated_at items n ≡ false)
    by_mark true t = let none : free_named items (Some m) ≡ None = simp t refl in absurd (cc (none, e))
    by_mark false t =
        let some : free_named items (Some m) ≡ Some m = simp t refl in
        let same : m ≡ n = cc in
        (sym some ∙ e, rw (← same) t)

-- a member of a list that links spell has neighbours, where all members are there
pub member-neighbours : {T : Type 0} (family : Family T) (records : List T) (first : Option ℕ) (xs : List ℕ) (number : ℕ) → ((k : ℕ) → 1 ≤ times k xs → k < length records) → IsChainIn family records first xs → 1 ≤ times number xs → HasNeighbours family records number
member-neighbours family records first xs number within chain stands =
    let member : IsAmong number xs = among number xs stands in
    let split : IsChainIn family records first (member.front ++ number ∷ member.back) = subst (λ (ns : List ℕ). IsChainIn family records first ns) member.whole chain in
    let count : (k : ℕ) → times k xs ≡ times k member.front + times k (number ∷ member.back) =
    λ k. ap (λ (ns : List ℕ). times k ns) member.whole ∙ times-append k member.front (number ∷ member.back) in
    record {
      here = within number stands;
      next = λ k link.
          let after : first_or None member.back ≡ Some k = sym (next-is (link_at family.next records) member.front member.back number first None split.forward) ∙ link in
          within k (omega (arith, count k, first-stands member.back k after));
      previous = λ k link.
          let before : last_or None member.front ≡ Some k = sym (previous-is (link_at family.previous records) member.front member.back number None split.backward) ∙ link in
          within k (omega (arith, count k, last-stands-in member.front k before));
    }

-- the lists of linked records, whose parts are there
module _ (records : Records) (lists : Lists) (loose loose_shelves : List ℕ) (linked : IsLinkedExcept records lists loose loose_shelves) where
  abbrev Numbers : List ℕ
  Numbers = shelf_numbers lists.entries

  abbrev All : List ℕ
  All = Numbers ++ lists.unused_shelves ++ loose_shelves

  all-count : (k : ℕ) → times k All ≡ times k Numbers + times k lists.unused_shelves + times k loose_shelves
  all-count k = omega (arith, times-append k (Numbers ++ lists.unused_shelves) loose_shelves, times-append k Numbers lists.unused_shelves)

  -- a shelf in use has neighbours
  pub shelf-neighbours : (number : ℕ) → 1 ≤ times number (shelf_numbers lists.entries) → HasNeighbours shelf_chain records.shelves number
  shelf-neighbours number stands =
      member-neighbours shelf_chain records.shelves records.first_shelf Numbers number
      (λ k in_use. (once-part (length records.shelves) All k (times k Numbers) linked.shelves_once (omega (arith, all-count k))).1 in_use)
      linked.shelves stands

  -- a shelf record in no list is there
  pub loose_shelf-there : (k : ℕ) → 1 ≤ times k loose_shelves → k < length records.shelves
  loose_shelf-there k stands = (once-part (length records.shelves) All k (times k loose_shelves) linked.shelves_once (omega (arith, all-count k))).1 stands

  -- the first item of a shelf in use is there
  pub first_item-there : (entry : Entry) → IsEntry records entry → ((k : ℕ) → times k entry.items ≤ times k (item_numbers lists.entries)) → NamesOneOf records.items (first_item_of records.shelves entry.number)
  first_item-there entry is less k link =
      let items : List ℕ = item_numbers lists.entries in
      (once-part (length records.items) (items ++ lists.unused_items ++ loose) k (times k entry.items) linked.items_once
      (omega (arith, less k, times-append k (items ++ lists.unused_items) loose, times-append k items lists.unused_items))).1
      (first-stands entry.items k (sym (Leads-start (link_at item_chain.next records.items) entry.items (first_item_of records.shelves entry.number) None is.items.forward) ∙ link))

-- the shelf of an item, its neighbours there and the first of the free list are there
pub are-there : (records : Records) (around : Around) (shelf number : ℕ) (front back free : List ℕ) → IsLinked records (with_entry around (entry_of shelf (front ++ number ∷ back) free)) → AreThere shelf number records
are-there records around shelf number front back free linked =
    let numbers : List ℕ = front ++ number ∷ back in
    let entry : Entry = entry_of shelf numbers free in
    let first : Option ℕ = first_free_of records.shelves shelf in
    let is : IsEntry records entry = Each-middle (IsEntry records) around.before entry around.after linked.entries in
    let apart = linked-apart around entry linked in
    record {
      in_range = apart.number;
      item = member-neighbours item_chain records.items (first_item_of records.shelves shelf) numbers number apart.within is.items
          (omega (arith, times-append number front (number ∷ back), times-here number back));
      first_free = λ k link.
          apart.free_within k (first-stands free k (sym (Leads-start (link_at free_list.next records.items) free first None is.free_list.forward) ∙ link));
    }

-- a free item after one has neighbours in its shelf and in the free list
pub free-next-there : {atlas : AtlasRecords} (around : Around) (shelf number : ℕ) (front back free : List ℕ) → IsSpelled atlas (with_entry around (entry_of shelf (front ++ number ∷ back) free)) → FreeNextIsThere number atlas.records.items
free-next-there {atlas} around shelf number front back free spelled =
    record {
      in_shelf = λ n e. member-neighbours item_chain items first numbers n apart.within is.items (stands n e);
      in_free_list = λ n e. member-neighbours free_list items (first_free_of atlas.records.shelves shelf) free n apart.free_within is.free_list (is_free n e);
    }
  where
    items : List LinkedItem
    items = atlas.records.items

    numbers : List ℕ
    numbers = front ++ number ∷ back

    entry : Entry
    entry = entry_of shelf numbers free

    first : Option ℕ
    first = first_item_of atlas.records.shelves shelf

    is : IsEntry atlas.records entry
    is = Each-middle (IsEntry atlas.records) around.before entry around.after spelled.linked.entries

    placed : IsPlaced atlas entry
    placed = Each-middle (IsPlaced atlas) around.before entry around.after spelled.placed

    apart : IsApart atlas.records around [] entry
    apart = linked-apart around entry spelled.linked

    stands : (n : ℕ) → free_next items number ≡ Some n → 1 ≤ times n numbers
    stands n e =
        let link : first_or None back ≡ Some n =
        sym (next-is (link_at item_chain.next items) front back number first None is.items.forward) ∙ (named-is items (link_at item_chain.next items number) n e).0 in
        omega (arith, times-append n front (number ∷ back), first-stands back n link)

    is_free : (n : ℕ) → free_next items number ≡ Some n → 1 ≤ times n free
    is_free n e =
        let member : IsAmong n numbers = among n numbers (stands n e) in
        omega (
          arith,
          placed.free_list n,
          ap (λ (ns : List ℕ). free_count items n ns) member.whole,
          free_count-append items n member.front (n ∷ member.back),
          free_count-free items n n member.back (named-is items (link_at item_chain.next items number) n e).1,
          times-here n [],
        )
