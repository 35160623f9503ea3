-- A record and its neighbours in a list are there after a step that changes no link of that list, or puts one in.
use Rattle.std.proofs.Common.{◌≡◌, ℕ, zero, suc, ◌<◌, Option, None, Some, List, [], ◌∷◌, length, sym, subst, ◌∙◌}
use Rattle.shelf_records.specs.declared.records.LinkedItem.{LinkedItem}
use Rattle.etagere_links.specs.Edits.{changed_at, changed_by, link_at}
use Rattle.shelf_records.specs.ListEdits.{linked_between, unlinked}
use Rattle.shelf_records.specs.Families.{Family, IsFamily, IsUnchanged}
use Rattle.shelf_records.specs.Neighbours.{HasNeighbours, NamesOneOf}
use Rattle.shelf_records.specs.Records.{item_chain, free_list}
use Rattle.shelf_records.proofs.AllLists.LinkedItems.{frees-keep, items-keep}
use Rattle.etagere_links.proofs.RecordChanges.{length-changed_by, link_at-same}
use Rattle.shelf_records.proofs.Families.{free_list-laws}
use Rattle.shelf_records.proofs.RecordFrames.{length-linked_between, length-unlinked, map-linked_between, map-unlinked}

-- one is taken out of another list
neighbours-unlinked : {T : Type 0} (family other : Family T) → IsUnchanged other family.next → IsUnchanged other family.previous → (records : List T) (at number : ℕ) → HasNeighbours family records number → HasNeighbours family (unlinked other at records) number
neighbours-unlinked {T} family other next previous records at number has =
    let new : List T = unlinked other at records in
    let same : length new ≡ length records = length-unlinked other records at in
    record {
      here = rw same has.here;
      next = λ k e. rw same (has.next k (sym (link_at-same family.next records new number (map-unlinked other family.next next records at)) ∙ e));
      previous = λ k e. rw same (has.previous k (sym (link_at-same family.previous records new number (map-unlinked other family.previous previous records at)) ∙ e));
    }

-- an item is taken out of the free list of its shelf
pub items-free_unlinked : (items : List LinkedItem) (at number : ℕ) → HasNeighbours item_chain items number → HasNeighbours item_chain (unlinked free_list at items) number
items-free_unlinked = neighbours-unlinked item_chain free_list frees-keep.next frees-keep.previous

-- what a change keeps of a link is kept of that of each record
at-keeps : {T : Type 0} (P : Option ℕ → Type 0) (link : T → Option ℕ) (change : T → T) → ((x : T) → P (link x) → P (link (change x))) → (records : List T) (at number : ℕ) → P (link_at link records number) → P (link_at link (changed_at at change records) number)
at-keeps P link change keeps [] at number was = was
at-keeps P link change keeps (x ∷ xs) zero zero was = keeps x was
at-keeps P link change keeps (x ∷ xs) zero (suc number) was = was
at-keeps P link change keeps (x ∷ xs) (suc at) zero was = was
at-keeps P link change keeps (x ∷ xs) (suc at) (suc number) was = at-keeps P link change keeps xs at number was

-- and so it is where a link names the record that is changed
link-keeps : {T : Type 0} (P : Option ℕ → Type 0) (link : T → Option ℕ) (change : T → T) → ((x : T) → P (link x) → P (link (change x))) → (records : List T) (named : Option ℕ) (number : ℕ) → P (link_at link records number) → P (link_at link (changed_by named change records) number)
link-keeps P link change keeps records None number was = was
link-keeps P link change keeps records (Some at) number was = at-keeps P link change keeps records at number was

-- one is changed whose links then name records that are there
pub neighbours-changed : {T : Type 0} (family : Family T) (change : T → T) (records : List T) (named : Option ℕ) (number : ℕ) → ((x : T) → NamesOneOf records (family.next x) → NamesOneOf records (family.next (change x))) → ((x : T) → NamesOneOf records (family.previous x) → NamesOneOf records (family.previous (change x))) → HasNeighbours family records number → HasNeighbours family (changed_by named change records) number
neighbours-changed {T} family change records named number next previous has =
    let new : List T = changed_by named change records in
    let same : length new ≡ length records = length-changed_by change records named in
    record {
      here = rw same has.here;
      next = λ k e. rw same (link-keeps (NamesOneOf records) family.next change next records named number has.next k e);
      previous = λ k e. rw same (link-keeps (NamesOneOf records) family.previous change previous records named number has.previous k e);
    }

-- one is put in that list between two that are there
neighbours-linked : {T : Type 0} (family : Family T) → IsFamily family → (records : List T) (before after : Option ℕ) (at number : ℕ) → NamesOneOf records before → NamesOneOf records after → at < length records → HasNeighbours family records number → HasNeighbours family (linked_between family before after at records) number
neighbours-linked {T} family laws records before after at number is_before is_after within has =
    let one : List T = changed_by (Some at) (family.with_next after) records in
    let two : List T = changed_by (Some at) (family.with_previous before) one in
    let three : List T = changed_by before (family.with_next (Some at)) two in
    let new : List T = linked_between family before after at records in
    let same : length new ≡ length records = length-linked_between family records before after at in
    let Names : Option ℕ → Type 0 = NamesOneOf records in
    let is_at : Names (Some at) = λ k e. let here : at ≡ k = cc in rw (← here) within in
    let to_next : (link : Option ℕ) → Names link → (x : T) → Names (family.next x) → Names (family.next (family.with_next link x)) = λ link is x was. subst Names (sym (laws.next link x)) is in
    let to_previous : (link : Option ℕ) → Names link → (x : T) → Names (family.previous x) → Names (family.previous (family.with_previous link x)) = λ link is x was. subst Names (sym (laws.previous link x)) is in
    let keeps_next : (link : Option ℕ) (x : T) → Names (family.next x) → Names (family.next (family.with_previous link x)) = λ link x was. subst Names (sym (laws.next_stays link x)) was in
    let keeps_previous : (link : Option ℕ) (x : T) → Names (family.previous x) → Names (family.previous (family.with_next link x)) = λ link x was. subst Names (sym (laws.previous_stays link x)) was in
    let next : Names (link_at family.next new number) =
    link-keeps Names family.next (family.with_previous (Some at)) (keeps_next (Some at)) three after number
    (link-keeps Names family.next (family.with_next (Some at)) (to_next (Some at) is_at) two before number
    (link-keeps Names family.next (family.with_previous before) (keeps_next before) one (Some at) number
    (link-keeps Names family.next (family.with_next after) (to_next after is_after) records (Some at) number has.next))) in
    let previous : Names (link_at family.previous new number) =
    link-keeps Names family.previous (family.with_previous (Some at)) (to_previous (Some at) is_at) three after number
    (link-keeps Names family.previous (family.with_next (Some at)) (keeps_previous (Some at)) two before number
    (link-keeps Names family.previous (family.with_previous before) (to_previous before is_before) one (Some at) number
    (link-keeps Names family.previous (family.with_next after) (keeps_previous after) records (Some at) number has.previous))) in
    record {
      here = rw same has.here;
      next = λ k e. rw same (next k e);
      previous = λ k e. rw same (previous k e);
    }

-- one is put in another list
neighbours-inserted : {T : Type 0} (family other : Family T) → IsUnchanged other family.next → IsUnchanged other family.previous → (records : List T) (before after : Option ℕ) (at number : ℕ) → HasNeighbours family records number → HasNeighbours family (linked_between other before after at records) number
neighbours-inserted {T} family other next previous records before after at number has =
    let new : List T = linked_between other before after at records in
    let same : length new ≡ length records = length-linked_between other records before after at in
    record {
      here = rw same has.here;
      next = λ k e. rw same (has.next k (sym (link_at-same family.next records new number (map-linked_between other family.next next records before after at)) ∙ e));
      previous = λ k e. rw same (has.previous k (sym (link_at-same family.previous records new number (map-linked_between other family.previous previous records before after at)) ∙ e));
    }

-- an item is put after another one of its shelf
pub frees-item_inserted : (items : List LinkedItem) (before after : Option ℕ) (at number : ℕ) → HasNeighbours free_list items number → HasNeighbours free_list (linked_between item_chain before after at items) number
frees-item_inserted = neighbours-inserted free_list item_chain items-keep.next items-keep.previous

-- an item is put after another one in a free list
pub frees-free_inserted : (items : List LinkedItem) (before after : Option ℕ) (at number : ℕ) → NamesOneOf items before → NamesOneOf items after → at < length items → HasNeighbours free_list items number → HasNeighbours free_list (linked_between free_list before after at items) number
frees-free_inserted = neighbours-linked free_list free_list-laws
