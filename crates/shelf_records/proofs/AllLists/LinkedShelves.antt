-- Linked records stay linked when a shelf is taken out of the chain of shelves or put into it.
use Rattle.std.proofs.Common.{◌≡◌, ℕ, ◌+◌, ◌≤◌, Option, None, Some, List, [], ◌∷◌, ◌++◌, length, refl, subst, arith, sym, ◌∙◌}
use Rattle.etagere_base.proofs.EachLemmas.{Each-append, Each-front, Each-back}
use Rattle.etagere_base.proofs.TimesLemmas.{times-append}
use Rattle.std.specs.List.{AllByRecursion}
use Rattle.etagere_base.specs.Lists.{times}
use Rattle.shelf_records.specs.declared.records.LinkedShelf.{LinkedShelf}
use Rattle.shelf_records.specs.Chains.{IsChainIn}
use Rattle.etagere_links.specs.Edits.{link_at}
use Rattle.shelf_records.specs.ListEdits.{unlinked, first_without, linked_between}
use Rattle.shelf_records.specs.Families.{IsUnchanged}
use Rattle.etagere_links.specs.Lists.{HasEachOnce}
use Rattle.shelf_records.specs.ListEnds.{first_or, last_or}
use Rattle.shelf_records.specs.RecordEdits.{shelf_unlinked, shelf_inserted_after}
use Rattle.shelf_records.specs.RecordLists.{Records, Entry, shelf_numbers, item_numbers, IsEntry, IsLinkedExcept}
use Rattle.shelf_records.specs.Records.{shelf_chain}
use Rattle.shelf_records.proofs.Chains.{Leads-start, next-is, previous-is}
use Rattle.shelf_records.proofs.Families.{shelf_chain-laws}
use Rattle.etagere_links.proofs.FieldChanges.{field_at-same}
use Rattle.shelf_records.proofs.AllLists.LinkedEdits.{Around, with_entry}
use Rattle.shelf_records.proofs.AllLists.LinkedFrames.{list-frame, entries-frame, item_numbers-append, shelf_numbers-append}
use Rattle.shelf_records.proofs.AllLists.LinkedUnused.{lists_of, three-count, IsLoose, loose-of}
use Rattle.etagere_links.proofs.WalkedLists.{once-part, IsPart, part-of}
use Rattle.etagere_links.proofs.ListEnds.{times-here}
use Rattle.shelf_records.proofs.ListEnds.{first-stands}
use Rattle.shelf_records.proofs.RecordFrames.{map-unlinked, map-linked_between, length-unlinked, length-linked_between, get-unlinked, get-linked}
use Rattle.shelf_records.proofs.RecordLists.{without-first, unlinked-spells, inserted_after-spells}

-- what shelves begin with is no part of the links between shelves
shelves-keep_items : IsUnchanged shelf_chain (λ (x : LinkedShelf). x.first_item)
shelves-keep_items = record { next = λ link x. refl; previous = λ link x. refl }

shelves-keep_frees : IsUnchanged shelf_chain (λ (x : LinkedShelf). x.first_unallocated)
shelves-keep_frees = record { next = λ link x. refl; previous = λ link x. refl }

-- the shelves of three parts
numbers-of : (before after : List Entry) (entry : Entry) → shelf_numbers (before ++ entry ∷ after) ≡ shelf_numbers before ++ entry.number ∷ shelf_numbers after
numbers-of before after entry = shelf_numbers-append before (entry ∷ after)

module _ {records : Records} (around : Around) (entry : Entry) {loose loose_shelves : List ℕ} where
  -- a shelf was taken out of the chain: neither it nor its items stand in a list
  pub shelf_unlinked-linked : IsLinkedExcept records (with_entry around entry) loose loose_shelves → IsLinkedExcept (shelf_unlinked entry.number records) (lists_of (around.before ++ around.after) around.unused_items around.unused_shelves) (entry.items ++ loose) (entry.number ∷ loose_shelves)
  shelf_unlinked-linked linked =
      let shelves : List LinkedShelf = records.shelves in
      let number : ℕ = entry.number in
      let new : List LinkedShelf = unlinked shelf_chain number shelves in
      let front : List ℕ = shelf_numbers around.before in
      let back : List ℕ = shelf_numbers around.after in
      let whole : shelf_numbers (around.before ++ entry ∷ around.after) ≡ front ++ number ∷ back = numbers-of around.before around.after entry in
      let rest : shelf_numbers (around.before ++ around.after) ≡ front ++ back = shelf_numbers-append around.before around.after in
      let chain : IsChainIn shelf_chain shelves records.first_shelf (front ++ number ∷ back) = rw (← whole) linked.shelves in
      let once : HasEachOnce (length shelves) ((front ++ number ∷ back) ++ around.unused_shelves ++ loose_shelves) = rw (← whole) linked.shelves_once in
      let all : List ℕ = (front ++ number ∷ back) ++ around.unused_shelves ++ loose_shelves in
      let part : IsPart (length shelves) (front ++ number ∷ back) =
      part-of (length shelves) all (front ++ number ∷ back) once (λ k. omega (arith, three-count (front ++ number ∷ back) around.unused_shelves loose_shelves k)) in
      let begins : records.first_shelf ≡ first_or None (front ++ number ∷ back) = Leads-start (link_at shelf_chain.next shelves) (front ++ number ∷ back) records.first_shelf None chain.forward in
      let own_previous : link_at shelf_chain.previous shelves number ≡ last_or None front = previous-is (link_at shelf_chain.previous shelves) front back number None chain.backward in
      let own_next : link_at shelf_chain.next shelves number ≡ first_or None back = next-is (link_at shelf_chain.next shelves) front back number records.first_shelf None chain.forward in
      let link_is : first_without (link_at shelf_chain.previous shelves number) (link_at shelf_chain.next shelves number) records.first_shelf ≡ first_or None (front ++ back) =
      rw (own_previous, own_next, begins) (without-first front back number) in
      let spelled : IsChainIn shelf_chain new (first_or None (front ++ back)) (front ++ back) =
      unlinked-spells shelf_chain shelf_chain-laws shelves records.first_shelf front back number part.once part.within chain in
      let parts : (k : ℕ) → times k (front ++ back) + times k (number ∷ []) ≡ times k (front ++ number ∷ back) =
      λ k. omega (arith, times-append k front back, times-append k front (number ∷ back)) in
      let frame : (es : List Entry) → AllByRecursion (IsEntry records) es → AllByRecursion (IsEntry (shelf_unlinked number records)) es =
      λ es are. entries-frame records (shelf_unlinked number records) es (λ k stands. refl)
      (λ k stands. (
        field_at-same (λ (x : LinkedShelf). x.first_item) None shelves new k (map-unlinked shelf_chain (λ (x : LinkedShelf). x.first_item) shelves-keep_items shelves number),
        field_at-same (λ (x : LinkedShelf). x.first_unallocated) None shelves new k (map-unlinked shelf_chain (λ (x : LinkedShelf). x.first_unallocated) shelves-keep_frees shelves number),
      )) are in
      let fewer : (k : ℕ) → times k (item_numbers (around.before ++ around.after) ++ around.unused_items ++ (entry.items ++ loose)) ≡ times k (item_numbers (around.before ++ entry ∷ around.after) ++ around.unused_items ++ loose) =
      λ k. omega (arith, three-count (item_numbers (around.before ++ around.after)) around.unused_items (entry.items ++ loose) k, three-count (item_numbers (around.before ++ entry ∷ around.after)) around.unused_items loose k, item_numbers-append around.before around.after k, item_numbers-append around.before (entry ∷ around.after) k, times-append k entry.items (item_numbers around.after), times-append k entry.items loose) in
      let fewer_shelves : (k : ℕ) → times k ((front ++ back) ++ around.unused_shelves ++ (number ∷ loose_shelves)) ≡ times k all =
      λ k. omega (arith, three-count (front ++ back) around.unused_shelves (number ∷ loose_shelves) k, three-count (front ++ number ∷ back) around.unused_shelves loose_shelves k, parts k) in
      record {
        shelves = rw (rest, link_is) spelled;
        entries = Each-append (IsEntry (shelf_unlinked number records)) around.before around.after
            (frame around.before (Each-front (IsEntry records) around.before (entry ∷ around.after) linked.entries))
            (frame around.after (Each-back (IsEntry records) around.before (entry ∷ around.after) linked.entries).1);
        unused_items = linked.unused_items;
        unused_shelves = list-frame shelf_chain shelves new records.unused_shelves around.unused_shelves
            (λ k stands. get-unlinked shelf_chain shelves records.first_shelf front back number k chain
            (let most : times k all ≤ 1 = (once-part (length shelves) all k (times k all) once (omega arith)).0 in
            omega (arith, most, stands, parts k, three-count (front ++ number ∷ back) around.unused_shelves loose_shelves k))) linked.unused_shelves;
        shelves_once = λ k. rw (rest, length-unlinked shelf_chain shelves number) (fewer_shelves k ∙ once k);
        items_once = λ k. fewer k ∙ linked.items_once k;
      }

  -- a shelf that stood in no list, with an item that stood in none, was put after another one
  pub shelf_inserted_after-linked : (added : Entry) → IsEntry records added → IsLinkedExcept records (with_entry around entry) (added.items ++ loose) (added.number ∷ loose_shelves) → IsLinkedExcept (shelf_inserted_after entry.number added.number records) (with_entry (record around { after = added ∷ around.after }) entry) loose loose_shelves
  shelf_inserted_after-linked added is_entry linked =
      let shelves : List LinkedShelf = records.shelves in
      let number : ℕ = added.number in
      let previous : ℕ = entry.number in
      let next : Option ℕ = link_at shelf_chain.next shelves previous in
      let new : List LinkedShelf = linked_between shelf_chain (Some previous) next number shelves in
      let front : List ℕ = shelf_numbers around.before in
      let back : List ℕ = shelf_numbers around.after in
      let old : List ℕ = front ++ previous ∷ back in
      let more : List ℕ = front ++ previous ∷ number ∷ back in
      let whole : shelf_numbers (around.before ++ entry ∷ around.after) ≡ old = numbers-of around.before around.after entry in
      let rest : shelf_numbers (around.before ++ entry ∷ added ∷ around.after) ≡ more = numbers-of around.before (added ∷ around.after) entry in
      let chain : IsChainIn shelf_chain shelves records.first_shelf old = rw (← whole) linked.shelves in
      let all : List ℕ = old ++ around.unused_shelves ++ number ∷ loose_shelves in
      let once : HasEachOnce (length shelves) all = rw (← whole) linked.shelves_once in
      let part : IsPart (length shelves) old = part-of (length shelves) all old once (λ k. omega (arith, three-count old around.unused_shelves (number ∷ loose_shelves) k)) in
      let free : IsLoose (length shelves) old around.unused_shelves number = loose-of (length shelves) old around.unused_shelves loose_shelves number once in
      let own_next : next ≡ first_or None back = next-is (link_at shelf_chain.next shelves) front back previous records.first_shelf None chain.forward in
      let count : (k : ℕ) → times k old ≡ times k front + times k (previous ∷ back) = λ k. times-append k front (previous ∷ back) in
      let most : (k : ℕ) → times k old + times k around.unused_shelves + times k (number ∷ loose_shelves) ≤ 1 =
      λ k. omega (arith, three-count old around.unused_shelves (number ∷ loose_shelves) k, (once-part (length shelves) all k (times k all) once (omega arith)).0) in
      let spelled : IsChainIn shelf_chain new records.first_shelf more =
      inserted_after-spells shelf_chain shelf_chain-laws shelves records.first_shelf front back previous number free.within free.no_used part.once part.within chain in
      let frame : (es : List Entry) → AllByRecursion (IsEntry records) es → AllByRecursion (IsEntry (shelf_inserted_after previous number records)) es =
      λ es are. entries-frame records (shelf_inserted_after previous number records) es (λ k stands. refl)
      (λ k stands. (
        field_at-same (λ (x : LinkedShelf). x.first_item) None shelves new k (map-linked_between shelf_chain (λ (x : LinkedShelf). x.first_item) shelves-keep_items shelves (Some previous) next number),
        field_at-same (λ (x : LinkedShelf). x.first_unallocated) None shelves new k (map-linked_between shelf_chain (λ (x : LinkedShelf). x.first_unallocated) shelves-keep_frees shelves (Some previous) next number),
      )) are in
      let items_more : (k : ℕ) → times k (item_numbers (around.before ++ entry ∷ added ∷ around.after) ++ around.unused_items ++ loose) ≡ times k (item_numbers (around.before ++ entry ∷ around.after) ++ around.unused_items ++ (added.items ++ loose)) =
      λ k. omega (arith, three-count (item_numbers (around.before ++ entry ∷ added ∷ around.after)) around.unused_items loose k, three-count (item_numbers (around.before ++ entry ∷ around.after)) around.unused_items (added.items ++ loose) k, item_numbers-append around.before (entry ∷ added ∷ around.after) k, item_numbers-append around.before (entry ∷ around.after) k, times-append k entry.items (item_numbers (added ∷ around.after)), times-append k added.items (item_numbers around.after), times-append k entry.items (item_numbers around.after), times-append k added.items loose) in
      let shelves_more : (k : ℕ) → times k (more ++ around.unused_shelves ++ loose_shelves) ≡ times k all =
      λ k. omega (arith, three-count more around.unused_shelves loose_shelves k, three-count old around.unused_shelves (number ∷ loose_shelves) k, count k, times-append k front (previous ∷ number ∷ back)) in
      record {
        shelves = rw rest spelled;
        entries = Each-append (IsEntry (shelf_inserted_after previous number records)) around.before (entry ∷ added ∷ around.after)
            (frame around.before (Each-front (IsEntry records) around.before (entry ∷ around.after) linked.entries))
            (frame (entry ∷ added ∷ around.after) ((Each-back (IsEntry records) around.before (entry ∷ around.after) linked.entries).0, (is_entry, (Each-back (IsEntry records) around.before (entry ∷ around.after) linked.entries).1)));
        unused_items = linked.unused_items;
        unused_shelves = list-frame shelf_chain shelves new records.unused_shelves around.unused_shelves
            (λ k stands. get-linked shelf_chain shelves (Some previous) next number k
            (λ e. let here : 1 ≤ times k (number ∷ loose_shelves) = subst (λ (m : ℕ). 1 ≤ times m (number ∷ loose_shelves)) e (omega (arith, times-here number loose_shelves)) in omega (arith, most k, here, stands))
            (λ e. let same : previous ≡ k = cc in let here : 1 ≤ times k (previous ∷ back) = rw same (omega (arith, times-here k back)) in omega (arith, most k, count k, here, stands))
            (λ e. let last : first_or None back ≡ Some k = sym own_next ∙ e in omega (arith, most k, count k, first-stands back k last, stands))) linked.unused_shelves;
        shelves_once = λ k. rw (rest, length-linked_between shelf_chain shelves (Some previous) next number) (shelves_more k ∙ once k);
        items_once = λ k. items_more k ∙ linked.items_once k;
      }
