-- Linked records stay linked when an item is taken out of its shelf or of a free list, or put into one.
use Rattle.std.proofs.Common.{◌≡◌, ◌≢◌, ℕ, ◌+◌, ◌<◌, ◌≤◌, Bool, true, false, Option, None, Some, List, ◌∷◌, ◌++◌, length, map, refl, arith, sym, ◌∙◌}
use Rattle.std.specs.Prelude.{◌==◌, slice_get}
use Rattle.etagere_base.proofs.EachLemmas.{Each-middle}
use Rattle.etagere_base.proofs.TimesLemmas.{times-append}
use Rattle.etagere_base.specs.Lists.{times}
use Rattle.shelf_records.specs.declared.records.LinkedItem.{LinkedItem}
use Rattle.shelf_records.specs.declared.records.LinkedShelf.{LinkedShelf}
use Rattle.shelf_records.specs.Chains.{IsChainIn}
use Rattle.etagere_links.specs.Edits.{link_at}
use Rattle.shelf_records.specs.ListEdits.{unlinked, first_without, linked_between}
use Rattle.shelf_records.specs.Families.{Family, IsFamily, IsUnchanged}
use Rattle.shelf_records.specs.ListEnds.{first_or, last_or}
use Rattle.shelf_records.specs.RecordEdits.{with_first_item, with_first_free, item_unlinked, item_inserted_after, free_unlinked, free_inserted_front, free_inserted_after}
use Rattle.shelf_records.specs.RecordLists.{Records, Entry, first_item_of, first_free_of, IsEntry, IsLinkedExcept}
use Rattle.shelf_records.specs.Records.{item_chain, free_list}
use Rattle.shelf_records.proofs.Chains.{Leads-start, next-is, previous-is}
use Rattle.shelf_records.proofs.Families.{item_chain-laws, free_list-laws}
use Rattle.etagere_links.proofs.FieldChanges.{field_at-changed, field_at-kept}
use Rattle.shelf_records.proofs.FirstLinks.{to_first_item, to_first_free, SameChain, chain-kept, chain-same_all}
use Rattle.shelf_records.proofs.AllLists.LinkedEdits.{Around, with_entry, IsApart, linked-apart, entry-edited}
use Rattle.shelf_records.proofs.AllLists.LinkedFrames.{chain-same}
use Rattle.etagere_links.proofs.ListEnds.{times-here, times-other}
use Rattle.shelf_records.proofs.ListEnds.{first-stands}
use Rattle.etagere_links.proofs.RecordChanges.{link_at-same}
use Rattle.shelf_records.proofs.RecordFrames.{map-unlinked, map-linked_between, length-unlinked, length-linked_between, get-unlinked, get-linked}
use Rattle.shelf_records.proofs.RecordLists.{without-first, unlinked-spells, inserted_front-spells, inserted_after-spells}
use Rattle.etagere_links.proofs.WalkedLists.{IsPart}

-- the lists of a shelf
abbrev pub entry_of : ℕ → List ℕ → List ℕ → Entry
entry_of shelf items free_list = record { number = shelf; items = items; free_list = free_list }

-- links of items that are no part of those of another list
pub record KeepsOther (family other : Family LinkedItem) : Type 0 where
  pub laws : IsFamily family
  pub next : IsUnchanged family other.next
  pub previous : IsUnchanged family other.previous

pub items-keep : KeepsOther item_chain free_list
items-keep =
    record { laws = item_chain-laws; next = record { next = λ link x. refl; previous = λ link x. refl }; previous = record { next = λ link x. refl; previous = λ link x. refl } }

pub frees-keep : KeepsOther free_list item_chain
frees-keep =
    record { laws = free_list-laws; next = record { next = λ link x. refl; previous = λ link x. refl }; previous = record { next = λ link x. refl; previous = λ link x. refl } }

-- an edit of one list of items: what links spell now; items elsewhere stay, and so do the links of the other list
record EditsList (family other : Family LinkedItem) (items new : List LinkedItem) (first : Option ℕ) (numbers edited : List ℕ) : Type 0 where
  spelled : IsChainIn family new first edited
  count : length new ≡ length items
  outside : (k : ℕ) → times k numbers ≡ 0 → times k edited ≡ 0 → slice_get new k ≡ slice_get items k
  next : map other.next new ≡ map other.next items
  previous : map other.previous new ≡ map other.previous items

module _ (family other : Family LinkedItem) (keeps : KeepsOther family other) (items : List LinkedItem) (first : Option ℕ) where
  -- one was taken out
  taken-out : (front back : List ℕ) (number : ℕ) → IsPart (length items) (front ++ number ∷ back) → IsChainIn family items first (front ++ number ∷ back) → EditsList family other items (unlinked family number items) (first_without (link_at family.previous items number) (link_at family.next items number) first) (front ++ number ∷ back) (front ++ back)
  taken-out front back number part chain =
      let begins : first ≡ first_or None (front ++ number ∷ back) = Leads-start (link_at family.next items) (front ++ number ∷ back) first None chain.forward in
      let own_previous : link_at family.previous items number ≡ last_or None front = previous-is (link_at family.previous items) front back number None chain.backward in
      let own_next : link_at family.next items number ≡ first_or None back = next-is (link_at family.next items) front back number first None chain.forward in
      let link_is : first_without (link_at family.previous items number) (link_at family.next items number) first ≡ first_or None (front ++ back) = rw (own_previous, own_next, begins) (without-first front back number) in
      record {
        spelled = rw link_is (unlinked-spells family keeps.laws items first front back number part.once part.within chain);
        count = length-unlinked family items number;
        outside = λ k absent gone. get-unlinked family items first front back number k chain gone;
        next = map-unlinked family other.next keeps.next items number;
        previous = map-unlinked family other.previous keeps.previous items number;
      }

  -- one was put between two neighbours, or in front
  put-between : (before after : Option ℕ) (number : ℕ) (numbers edited : List ℕ) → (link : Option ℕ) → IsChainIn family (linked_between family before after number items) link edited → ((k : ℕ) → times k edited ≡ times k (number ∷ numbers)) → ((k : ℕ) → before ≡ Some k → 1 ≤ times k numbers) → ((k : ℕ) → after ≡ Some k → 1 ≤ times k numbers) → EditsList family other items (linked_between family before after number items) link numbers edited
  put-between before after number numbers edited link spelled count at_before at_after =
      record {
        spelled = spelled;
        count = length-linked_between family items before after number;
        outside = λ k absent gone. get-linked family items before after number k
            (λ e. let here : times k (number ∷ numbers) ≡ 1 + times k numbers = rw e (times-here k numbers) in omega (arith, gone, count k, here))
            (λ e. omega (arith, absent, at_before k e))
            (λ e. omega (arith, absent, at_after k e));
        next = map-linked_between family other.next keeps.next items before after number;
        previous = map-linked_between family other.previous keeps.previous items before after number;
      }

  -- one was put in front
  put-in-front : (numbers : List ℕ) (number : ℕ) → number < length items → times number numbers ≡ 0 → IsPart (length items) numbers → IsChainIn family items first numbers → EditsList family other items (linked_between family None first number items) (Some number) numbers (number ∷ numbers)
  put-in-front numbers number within absent part chain =
      put-between None first number numbers (number ∷ numbers) (Some number)
      (inserted_front-spells family keeps.laws items first numbers number within absent part.once part.within chain)
      (λ k. refl) (λ k e. cc)
      (λ k e. first-stands numbers k (sym (Leads-start (link_at family.next items) numbers first None chain.forward) ∙ e))

  -- one was put after another
  put-after : (front back : List ℕ) (previous number : ℕ) → number < length items → times number (front ++ previous ∷ back) ≡ 0 → IsPart (length items) (front ++ previous ∷ back) → IsChainIn family items first (front ++ previous ∷ back) → EditsList family other items (linked_between family (Some previous) (link_at family.next items previous) number items) first (front ++ previous ∷ back) (front ++ previous ∷ number ∷ back)
  put-after front back previous number within absent part chain =
      let count : (k : ℕ) → times k (front ++ previous ∷ back) ≡ times k front + times k (previous ∷ back) = λ k. times-append k front (previous ∷ back) in
      put-between (Some previous) (link_at family.next items previous) number (front ++ previous ∷ back) (front ++ previous ∷ number ∷ back) first
      (inserted_after-spells family keeps.laws items first front back previous number within absent part.once part.within chain)
      (λ k. omega (arith, count k, times-append k front (previous ∷ number ∷ back)))
      (λ k e. let same : previous ≡ k = cc in let here : 1 ≤ times k (previous ∷ back) = rw same (omega (arith, times-here k back)) in omega (arith, count k, here))
      (λ k e. let last : first_or None back ≡ Some k = sym (next-is (link_at family.next items) front back previous first None chain.forward) ∙ e in omega (arith, count k, first-stands back k last))

-- members of a list stay so where one went that is none of them
members-without : (free front back : List ℕ) (n k : ℕ) → times n free ≡ 0 → times k free ≤ times k (front ++ n ∷ back) → times k free ≤ times k (front ++ back)
members-without free front back n k absent less = by_test (n == k) refl
  where
    by_test : (b : Bool) → (n == k) ≡ b → times k free ≤ times k (front ++ back)
    by_test true e = let same : n ≡ k = grind arith in let none : times k free ≡ 0 = rw (← same) absent in omega (arith, none)
    by_test false e =
        let other : n ≢ k = grind arith in
        omega (arith, less, times-other k n back other, times-append k front (n ∷ back), times-append k front back)

-- members of a list stay so where one of them comes that was not there
members-with : (numbers free more : List ℕ) (n k : ℕ) → 1 ≤ times n numbers → times n free ≡ 0 → times k free ≤ times k numbers → times k more ≡ times k (n ∷ free) → times k more ≤ times k numbers
members-with numbers free more n k stands absent less e = by_test (n == k) refl
  where
    by_test : (b : Bool) → (n == k) ≡ b → times k more ≤ times k numbers
    by_test true t =
        let same : n ≡ k = grind arith in
        let none : times k free ≡ 0 = rw (← same) absent in
        let some : 1 ≤ times k numbers = rw (← same) stands in
        let one : times k (n ∷ free) ≡ 1 + times k free = rw same (times-here k free) in
        omega (arith, none, some, one, e)
    by_test false t = let other : n ≢ k = grind arith in omega (arith, less, e, times-other k n free other)

module _ {records : Records} (around : Around) (entry : Entry) {loose loose_shelves : List ℕ} (linked : IsLinkedExcept records (with_entry around entry) loose loose_shelves) where
  -- the lists of the shelf are what links spell
  is-entry : IsEntry records entry
  is-entry = Each-middle (IsEntry records) around.before entry around.after linked.entries

  apart : IsApart records around loose entry
  apart = linked-apart around entry linked

  items-part : IsPart (length records.items) entry.items
  items-part = record { once = apart.once; within = apart.within }

  frees-part : IsPart (length records.items) entry.free_list
  frees-part = record { once = apart.free_once; within = apart.free_within }

  -- the items of the shelf were edited
  items-edited : (new : List LinkedItem) (shelves : List LinkedShelf) (numbers loose' : List ℕ) → EditsList item_chain free_list records.items new (first_item_of shelves entry.number) entry.items numbers → SameChain records.shelves shelves entry.number → first_free_of shelves entry.number ≡ first_free_of records.shelves entry.number → ((k : ℕ) → times k entry.free_list ≤ times k numbers) → ((k : ℕ) → times k numbers + times k loose' ≡ times k entry.items + times k loose) → IsLinkedExcept (record records { items = new; shelves = shelves }) (with_entry around (entry_of entry.number numbers entry.free_list)) loose' loose_shelves
  items-edited new shelves numbers loose' edits chain same members counts =
      entry-edited around entry linked (record records { items = new; shelves = shelves }) (entry_of entry.number numbers entry.free_list) loose'
      (record {
        number = refl;
        items = λ k absent. edits.outside k (omega (arith, absent)) (omega (arith, absent, counts k));
        item_count = edits.count;
        shelves = chain;
        first_shelf = refl;
        unused_items = refl;
        unused_shelves = refl;
        lists = record {
          items = edits.spelled;
          free_list = rw same (chain-same free_list records.items new (first_free_of records.shelves entry.number) entry.free_list (λ k. link_at-same free_list.next records.items new k edits.next) (λ k. link_at-same free_list.previous records.items new k edits.previous) is-entry.free_list);
          members = members;
        };
        members = counts;
      })

  -- the free list of the shelf was edited
  frees-edited : (new : List LinkedItem) (shelves : List LinkedShelf) (frees : List ℕ) → EditsList free_list item_chain records.items new (first_free_of shelves entry.number) entry.free_list frees → SameChain records.shelves shelves entry.number → first_item_of shelves entry.number ≡ first_item_of records.shelves entry.number → ((k : ℕ) → times k frees ≤ times k entry.items) → IsLinkedExcept (record records { items = new; shelves = shelves }) (with_entry around (entry_of entry.number entry.items frees)) loose loose_shelves
  frees-edited new shelves frees edits chain same members =
      entry-edited around entry linked (record records { items = new; shelves = shelves }) (entry_of entry.number entry.items frees) loose
      (record {
        number = refl;
        items = λ k absent. edits.outside k (omega (arith, absent, is-entry.members k)) (omega (arith, absent, members k));
        item_count = edits.count;
        shelves = chain;
        first_shelf = refl;
        unused_items = refl;
        unused_shelves = refl;
        lists = record {
          items = rw same (chain-same item_chain records.items new (first_item_of records.shelves entry.number) entry.items (λ k. link_at-same item_chain.next records.items new k edits.next) (λ k. link_at-same item_chain.previous records.items new k edits.previous) is-entry.items);
          free_list = edits.spelled;
          members = members;
        };
        members = λ k. omega arith;
      })

module _ {records : Records} (around : Around) (shelf number : ℕ) {loose loose_shelves : List ℕ} where
  -- an item was taken out of its shelf: it stands in no list
  pub item_unlinked-linked : (front back free : List ℕ) → times number free ≡ 0 → IsLinkedExcept records (with_entry around (entry_of shelf (front ++ number ∷ back) free)) loose loose_shelves → IsLinkedExcept (item_unlinked shelf number records) (with_entry around (entry_of shelf (front ++ back) free)) (number ∷ loose) loose_shelves
  item_unlinked-linked front back free absent linked =
      let entry : Entry = entry_of shelf (front ++ number ∷ back) free in
      let items : List LinkedItem = records.items in
      let first : Option ℕ = first_item_of records.shelves shelf in
      let link : Option ℕ = first_without (link_at item_chain.previous items number) (link_at item_chain.next items number) first in
      let is : IsEntry records entry = is-entry around entry linked in
      let set : first_item_of (with_first_item shelf link records.shelves) shelf ≡ link =
      field_at-changed (λ (x : LinkedShelf). x.first_item) None (to_first_item link) records.shelves shelf link (apart around entry linked).number (λ x. refl) in
      items-edited around entry linked (unlinked item_chain number items) (with_first_item shelf link records.shelves) (front ++ back) (number ∷ loose)
      (rw set (taken-out item_chain free_list items-keep items first front back number (items-part around entry linked) is.items))
      (chain-kept (to_first_item link) records.shelves shelf (λ x. refl) (λ x. refl))
      (field_at-kept (λ (x : LinkedShelf). x.first_unallocated) None (to_first_item link) records.shelves shelf shelf (λ x. refl))
      (λ k. members-without free front back number k absent (is.members k))
      (λ k. omega (arith, times-append k front (number ∷ back), times-append k front back))

  -- an item was taken out of the free list of its shelf
  pub free_unlinked-linked : (numbers front back : List ℕ) → IsLinkedExcept records (with_entry around (entry_of shelf numbers (front ++ number ∷ back))) loose loose_shelves → IsLinkedExcept (free_unlinked shelf number records) (with_entry around (entry_of shelf numbers (front ++ back))) loose loose_shelves
  free_unlinked-linked numbers front back linked =
      let entry : Entry = entry_of shelf numbers (front ++ number ∷ back) in
      let items : List LinkedItem = records.items in
      let first : Option ℕ = first_free_of records.shelves shelf in
      let link : Option ℕ = first_without (link_at free_list.previous items number) (link_at free_list.next items number) first in
      let is : IsEntry records entry = is-entry around entry linked in
      let set : first_free_of (with_first_free shelf link records.shelves) shelf ≡ link =
      field_at-changed (λ (x : LinkedShelf). x.first_unallocated) None (to_first_free link) records.shelves shelf link (apart around entry linked).number (λ x. refl) in
      frees-edited around entry linked (unlinked free_list number items) (with_first_free shelf link records.shelves) (front ++ back)
      (rw set (taken-out free_list item_chain frees-keep items first front back number (frees-part around entry linked) is.free_list))
      (chain-kept (to_first_free link) records.shelves shelf (λ x. refl) (λ x. refl))
      (field_at-kept (λ (x : LinkedShelf). x.first_item) None (to_first_free link) records.shelves shelf shelf (λ x. refl))
      (λ k. omega (arith, is.members k, times-append k front (number ∷ back), times-append k front back))

  -- an item was put in front of the free list of its shelf
  pub free_inserted_front-linked : (numbers free : List ℕ) → 1 ≤ times number numbers → times number free ≡ 0 → IsLinkedExcept records (with_entry around (entry_of shelf numbers free)) loose loose_shelves → IsLinkedExcept (free_inserted_front shelf number records) (with_entry around (entry_of shelf numbers (number ∷ free))) loose loose_shelves
  free_inserted_front-linked numbers free stands absent linked =
      let entry : Entry = entry_of shelf numbers free in
      let first : Option ℕ = first_free_of records.shelves shelf in
      let is : IsEntry records entry = is-entry around entry linked in
      let here : IsApart records around loose entry = apart around entry linked in
      let set : first_free_of (with_first_free shelf (Some number) records.shelves) shelf ≡ Some number =
      field_at-changed (λ (x : LinkedShelf). x.first_unallocated) None (to_first_free (Some number)) records.shelves shelf (Some number) here.number (λ x. refl) in
      frees-edited around entry linked (linked_between free_list None first number records.items) (with_first_free shelf (Some number) records.shelves) (number ∷ free)
      (rw set (put-in-front free_list item_chain frees-keep records.items first free number (here.within number stands) absent (frees-part around entry linked) is.free_list))
      (chain-kept (to_first_free (Some number)) records.shelves shelf (λ x. refl) (λ x. refl))
      (field_at-kept (λ (x : LinkedShelf). x.first_item) None (to_first_free (Some number)) records.shelves shelf shelf (λ x. refl))
      (λ k. members-with numbers free (number ∷ free) number k stands absent (is.members k) refl)

  -- an item was put after another one in the free list of its shelf
  pub free_inserted_after-linked : (previous : ℕ) (numbers front back : List ℕ) → 1 ≤ times number numbers → times number (front ++ previous ∷ back) ≡ 0 → IsLinkedExcept records (with_entry around (entry_of shelf numbers (front ++ previous ∷ back))) loose loose_shelves → IsLinkedExcept (free_inserted_after previous number records) (with_entry around (entry_of shelf numbers (front ++ previous ∷ number ∷ back))) loose loose_shelves
  free_inserted_after-linked previous numbers front back stands absent linked =
      let entry : Entry = entry_of shelf numbers (front ++ previous ∷ back) in
      let is : IsEntry records entry = is-entry around entry linked in
      frees-edited around entry linked (linked_between free_list (Some previous) (link_at free_list.next records.items previous) number records.items) records.shelves (front ++ previous ∷ number ∷ back)
      (put-after free_list item_chain frees-keep records.items (first_free_of records.shelves shelf) front back previous number ((apart around entry linked).within number stands) absent (frees-part around entry linked) is.free_list)
      (chain-same_all records.shelves shelf) refl
      (λ k. members-with numbers (front ++ previous ∷ back) (front ++ previous ∷ number ∷ back) number k stands absent (is.members k) (omega (arith, times-append k front (previous ∷ back), times-append k front (previous ∷ number ∷ back))))

  -- an item that stood in no list was put after another one of a shelf
  pub item_inserted_after-linked : (previous : ℕ) (front back free : List ℕ) → IsLinkedExcept records (with_entry around (entry_of shelf (front ++ previous ∷ back) free)) (number ∷ loose) loose_shelves → IsLinkedExcept (item_inserted_after previous number records) (with_entry around (entry_of shelf (front ++ previous ∷ number ∷ back) free)) loose loose_shelves
  item_inserted_after-linked previous front back free linked =
      let entry : Entry = entry_of shelf (front ++ previous ∷ back) free in
      let is : IsEntry records entry = is-entry around entry linked in
      let here : IsApart records around (number ∷ loose) entry = apart around entry linked in
      let is_loose : 1 ≤ times number (number ∷ loose) = omega (arith, times-here number loose) in
      let count : (k : ℕ) → times k (front ++ previous ∷ number ∷ back) + times k loose ≡ times k (front ++ previous ∷ back) + times k (number ∷ loose) =
      λ k. omega (arith, times-append k front (previous ∷ back), times-append k front (previous ∷ number ∷ back)) in
      items-edited around entry linked (linked_between item_chain (Some previous) (link_at item_chain.next records.items previous) number records.items) records.shelves (front ++ previous ∷ number ∷ back) loose
      (put-after item_chain free_list items-keep records.items (first_item_of records.shelves shelf) front back previous number (here.loose_within number is_loose) (here.loose_items number is_loose) (items-part around entry linked) is.items)
      (chain-same_all records.shelves shelf) refl
      (λ k. omega (arith, is.members k, times-append k front (previous ∷ back), times-append k front (previous ∷ number ∷ back))) count
