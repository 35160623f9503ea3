-- An item of a shelf took the place of the one after it: what the records then say, and the items that they spell.
use Rattle.std.proofs.Common.{◌≡◌, ◌≢◌, ℕ, ◌+◌, ◌<◌, ◌≤◌, Bool, true, false, Some, List, [], ◌∷◌, ◌++◌, length, map, refl, ap, subst, arith, sym, ◌∙◌}
use Rattle.std.proofs.lemmas.List.{map-append}
use Rattle.std.specs.Prelude.{◌==◌}
use Rattle.etagere_base.proofs.EachLemmas.{Each-append, Each-front, Each-back}
use Rattle.etagere_base.proofs.TimesLemmas.{times-append}
use Rattle.std.specs.List.{AllByRecursion}
use Rattle.etagere_base.specs.Lists.{times}
use Rattle.shelf_records.specs.declared.records.LinkedItem.{LinkedItem}
use Rattle.etagere_links.specs.Edits.{changed_by}
use Rattle.shelf_records.specs.ListEdits.{unlinked, made_unused}
use Rattle.shelf_records.specs.Families.{IsUnchanged}
use Rattle.shelf_records.specs.RecordLists.{Records}
use Rattle.shelf_records.specs.RecordMerges.{free_absorbed, allocated_absorbed}
use Rattle.shelf_records.specs.Records.{item_chain, free_list}
use Rattle.etagere_links.proofs.ListEnds.{times-here}
use Rattle.etagere_links.proofs.FieldChanges.{field_at-changed, field_at-kept}
use Rattle.etagere_links.proofs.RecordChanges.{get-changed_by-other, length-changed_by}
use Rattle.shelf_records.proofs.RecordFrames.{map-unlinked, map-made_unused, length-unlinked, length-made_unused}
use Rattle.shelf_records.specs.AtlasRecords.{is_allocated_at, item_place_of, shelf_of, item_at}
use Rattle.shelf_records.specs.StandsFor.{LieFrom}
use Rattle.shelf_model.specs.State.{Item}
use Rattle.shelf_records.proofs.Spelled.EntryValues.{widths, LieFrom-front, LieFrom-back, LieFrom-append, widths-same, free_count, free_count-append, free_count-same, IsWidened, widened}
use Rattle.shelf_records.proofs.Spelled.RecordValues.{item_values, SameItem, items-same, item-same, SameItem-then, map-agrees, LieFrom-same, owners-same}

-- what items say where one became as wide as it and the next together, and all others but the next say the same
pub record Absorbs (items new : List LinkedItem) (number next : ℕ) : Type 0 where
  pub item : item_at new number ≡ record { width = (item_at items number).width + (item_at items next).width; id = (item_at items number).id }
  pub place : item_place_of new number ≡ item_place_of items number
  pub shelf : shelf_of new number ≡ shelf_of items number
  pub allocated : is_allocated_at new number ≡ is_allocated_at items number
  pub others : (k : ℕ) → number ≢ k → next ≢ k → SameItem items new k

-- members of the rest of a list in which each stands once
pub record IsRest (front back : List ℕ) (number next : ℕ) : Type 0 where
  pub before : (k : ℕ) → 1 ≤ times k front → (number ≢ k) × (next ≢ k)
  pub after : (k : ℕ) → 1 ≤ times k back → (number ≢ k) × (next ≢ k)

pub rest-of : (front back : List ℕ) (number next : ℕ) → ((k : ℕ) → times k (front ++ number ∷ next ∷ back) ≤ 1) → IsRest front back number next
rest-of front back number next once =
    let count : (k : ℕ) → times k (front ++ number ∷ next ∷ back) ≡ times k front + times k (number ∷ next ∷ back) = λ k. times-append k front (number ∷ next ∷ back) in
    record {
      before = λ k stands. (
        λ e. let here : 1 ≤ times k (number ∷ next ∷ back) = rw e (omega (arith, times-here k (next ∷ back))) in omega (arith, once k, count k, stands, here),
        λ e. let here : 1 ≤ times k (next ∷ back) = rw e (omega (arith, times-here k back)) in omega (arith, once k, count k, stands, here),
      );
      after = λ k stands. (
        λ e. let here : times k (number ∷ next ∷ back) ≡ 1 + times k (next ∷ back) = rw e (times-here k (next ∷ back)) in omega (arith, once k, count k, stands, here),
        λ e. let here : times k (next ∷ back) ≡ 1 + times k back = rw e (times-here k back) in omega (arith, once k, count k, stands, here),
      );
    }

-- the items then spelled: the two are one
pub absorbed-items : (items new : List LinkedItem) (front back : List ℕ) (number next : ℕ) → IsRest front back number next → Absorbs items new number next → map (item_at new) (front ++ number ∷ back) ≡ map (item_at items) front ++ record { width = (item_at items number).width + (item_at items next).width; id = (item_at items number).id } ∷ map (item_at items) back
absorbed-items items new front back number next rest absorbs =
    let kept_front : map (item_at new) front ≡ map (item_at items) front =
    map-agrees (item_at new) (item_at items) front (λ k stands. (absorbs.others k (rest.before k stands).0 (rest.before k stands).1).item) in
    let kept_back : map (item_at new) back ≡ map (item_at items) back =
    map-agrees (item_at new) (item_at items) back (λ k stands. (absorbs.others k (rest.after k stands).0 (rest.after k stands).1).item) in
    map-append (item_at new) front (number ∷ back)
    ∙ ap (λ (is : List Item). is ++ item_at new number ∷ map (item_at new) back) kept_front
    ∙ ap (λ (is : List Item). map (item_at items) front ++ item_at new number ∷ is) kept_back
    ∙ ap (λ (i : Item). map (item_at items) front ++ i ∷ map (item_at items) back) absorbs.item

-- the items still lie side by side
pub absorbed-places : (items new : List LinkedItem) (here : ℕ) (front back : List ℕ) (number next : ℕ) → IsRest front back number next → Absorbs items new number next → LieFrom items here (front ++ number ∷ next ∷ back) → LieFrom new here (front ++ number ∷ back)
absorbed-places items new here front back number next rest absorbs lies =
    let same_front : (k : ℕ) → 1 ≤ times k front → SameItem items new k = λ k stands. absorbs.others k (rest.before k stands).0 (rest.before k stands).1 in
    let same_back : (k : ℕ) → 1 ≤ times k back → SameItem items new k = λ k stands. absorbs.others k (rest.after k stands).0 (rest.after k stands).1 in
    let middle : ℕ = here + widths items front in
    let lie_back : LieFrom items middle (number ∷ next ∷ back) = LieFrom-back items here front (number ∷ next ∷ back) lies in
    let end : middle + (item_at new number).width ≡ middle + (item_at items number).width + (item_at items next).width =
    rw absorbs.item (omega arith) in
    let moved : LieFrom items (middle + (item_at new number).width) back = rw end lie_back.1.1 in
    let same_middle : here + widths new front ≡ middle = ap (λ w. here + w) (widths-same items new front same_front) in
    let new_back : LieFrom new (here + widths new front) (number ∷ back) =
    rw same_middle (absorbs.place ∙ lie_back.0, LieFrom-same items new (middle + (item_at new number).width) back same_back moved) in
    LieFrom-append new here front (number ∷ back) (LieFrom-same items new here front same_front (LieFrom-front items here front (number ∷ next ∷ back) lies)) new_back

-- the items still name their shelf
pub absorbed-owners : (items new : List LinkedItem) (owner : ℕ) (front back : List ℕ) (number next : ℕ) → IsRest front back number next → Absorbs items new number next → AllByRecursion (λ item. shelf_of items item ≡ owner) (front ++ number ∷ next ∷ back) → AllByRecursion (λ item. shelf_of new item ≡ owner) (front ++ number ∷ back)
absorbed-owners items new owner front back number next rest absorbs each =
    let tail = Each-back (λ item. shelf_of items item ≡ owner) front (number ∷ next ∷ back) each in
    Each-append (λ item. shelf_of new item ≡ owner) front (number ∷ back)
    (owners-same items new owner front (λ k stands. absorbs.others k (rest.before k stands).0 (rest.before k stands).1)
    (Each-front (λ item. shelf_of items item ≡ owner) front (number ∷ next ∷ back) each)) (
      absorbs.shelf ∙ tail.0,
      owners-same items new owner back (λ k stands. absorbs.others k (rest.after k stands).0 (rest.after k stands).1) tail.1.1,
    )

-- the one member of a list of one
only-member : (x n : ℕ) → 1 ≤ times n (x ∷ []) → x ≡ n
only-member x n stands = by_test (x == n) refl
  where
    by_test : (b : Bool) → (x == n) ≡ b → x ≡ n
    by_test true e = grind arith
    by_test false e = grind (arith, stands)

-- how often a number is a free one: as often as before, but for the next item
pub absorbed-free : (items new : List LinkedItem) (k : ℕ) (front back : List ℕ) (number next : ℕ) → IsRest front back number next → Absorbs items new number next → free_count new k (front ++ number ∷ back) + free_count items k (next ∷ []) ≡ free_count items k (front ++ number ∷ next ∷ back)
absorbed-free items new k front back number next rest absorbs =
    let kept_front : free_count new k front ≡ free_count items k front =
    free_count-same items new k front (λ n stands. (absorbs.others n (rest.before n stands).0 (rest.before n stands).1).allocated) in
    let kept_back : free_count new k back ≡ free_count items k back =
    free_count-same items new k back (λ n stands. (absorbs.others n (rest.after n stands).0 (rest.after n stands).1).allocated) in
    let own : free_count new k (number ∷ []) ≡ free_count items k (number ∷ []) =
    free_count-same items new k (number ∷ []) (λ n stands. subst (λ (m : ℕ). is_allocated_at new m ≡ is_allocated_at items m) (only-member number n stands) absorbs.allocated) in
    omega (
      arith,
      kept_front,
      kept_back,
      own,
      free_count-append new k front (number ∷ back),
      free_count-append new k (number ∷ []) back,
      free_count-append items k front (number ∷ next ∷ back),
      free_count-append items k (number ∷ []) (next ∷ back),
      free_count-append items k (next ∷ []) back,
    )

-- the values of items are no part of the links of items
pub items-keep_values : IsUnchanged item_chain item_values
items-keep_values = record { next = λ link x. refl; previous = λ link x. refl }

-- nor of the links of free lists
pub frees-keep_values : IsUnchanged free_list item_values
frees-keep_values = record { next = λ link x. refl; previous = λ link x. refl }

-- what items say after the next of one became unused and the one became as wide as both
pub free-widens : (records : Records) (shelf number next : ℕ) → number < length records.items → IsWidened records.items (free_absorbed shelf number next ((item_at records.items number).width + (item_at records.items next).width) records).items number ((item_at records.items number).width + (item_at records.items next).width)
free-widens records shelf number next within =
    let items : List LinkedItem = records.items in
    let width : ℕ = (item_at items number).width + (item_at items next).width in
    let one : List LinkedItem = unlinked free_list next items in
    let two : List LinkedItem = unlinked item_chain next one in
    let three : List LinkedItem = made_unused item_chain records.unused_items next two in
    let new : List LinkedItem = changed_by (Some number) (λ (x : LinkedItem). record x { width = width }) three in
    let values : map item_values three ≡ map item_values items =
    map-made_unused item_chain item_values items-keep_values two records.unused_items next
    ∙ map-unlinked item_chain item_values items-keep_values one next
    ∙ map-unlinked free_list item_values frees-keep_values items next in
    let long : length three ≡ length items =
    length-made_unused item_chain two records.unused_items next ∙ length-unlinked item_chain one next ∙ length-unlinked free_list items next in
    let wide : IsWidened three new number width = widened three number width (rw long within) in
    let same : (k : ℕ) → SameItem items three k = λ k. items-same items three k values in
    record {
      item = wide.item ∙ ap (λ (i : Item). record { width = width; id = i.id }) (same number).item;
      place = wide.place ∙ (same number).place;
      shelf = wide.shelf ∙ (same number).shelf;
      allocated = wide.allocated ∙ (same number).allocated;
      others = λ k other. SameItem-then items three new k (same k) (wide.others k other);
    }

-- an item that became as wide as it and the next absorbs the next
pub widened-absorbs : (items new : List LinkedItem) (number next : ℕ) → IsWidened items new number ((item_at items number).width + (item_at items next).width) → Absorbs items new number next
widened-absorbs items new number next wide =
    record { item = wide.item; place = wide.place; shelf = wide.shelf; allocated = wide.allocated; others = λ k other next_other. wide.others k other }

-- a free item that took the place of the allocated one after it absorbs it
pub allocated-absorbs : (records : Records) (shelf number next : ℕ) → number ≢ next → number < length records.items → Absorbs records.items (allocated_absorbed shelf number next ((item_at records.items number).width + (item_at records.items next).width) records).items number next
allocated-absorbs records shelf number next apart within =
    let items : List LinkedItem = records.items in
    let width : ℕ = (item_at items number).width + (item_at items next).width in
    let unmark : LinkedItem → LinkedItem = λ x. record x { allocated = false } in
    let one : List LinkedItem = unlinked item_chain next items in
    let two : List LinkedItem = changed_by (Some next) unmark one in
    let three : List LinkedItem = made_unused item_chain records.unused_items next two in
    let new : List LinkedItem = changed_by (Some number) (λ (x : LinkedItem). record x { width = width }) three in
    let long : length three ≡ length items =
    length-made_unused item_chain two records.unused_items next ∙ length-changed_by unmark one (Some next) ∙ length-unlinked item_chain items next in
    let wide : IsWidened three new number width = widened three number width (rw long within) in
    let same : (k : ℕ) → next ≢ k → SameItem items three k = λ k other.
    SameItem-then items two three k
    (SameItem-then items one two k
    (items-same items one k (map-unlinked item_chain item_values items-keep_values items next))
    (item-same one two k (get-changed_by-other unmark one (Some next) k (λ e. let eq : next ≡ k = cc in other eq))))
    (items-same two three k (map-made_unused item_chain item_values items-keep_values two records.unused_items next)) in
    let own : SameItem items three number = same number (λ e. apart (sym e)) in
    record {
      item = wide.item ∙ ap (λ (i : Item). record { width = width; id = i.id }) own.item;
      place = wide.place ∙ own.place;
      shelf = wide.shelf ∙ own.shelf;
      allocated = wide.allocated ∙ own.allocated;
      others = λ k other next_other. SameItem-then items three new k (same k next_other) (wide.others k other);
    }

-- and the unused one is not marked allocated
pub allocated-unmarked : (records : Records) (shelf number next width : ℕ) → number ≢ next → next < length records.items → is_allocated_at (allocated_absorbed shelf number next width records).items next ≡ false
allocated-unmarked records shelf number next width apart within =
    let items : List LinkedItem = records.items in
    let unmark : LinkedItem → LinkedItem = λ x. record x { allocated = false } in
    let widen : LinkedItem → LinkedItem = λ x. record x { width = width } in
    let one : List LinkedItem = unlinked item_chain next items in
    let two : List LinkedItem = changed_by (Some next) unmark one in
    let three : List LinkedItem = made_unused item_chain records.unused_items next two in
    field_at-kept (λ (x : LinkedItem). x.allocated) false widen three number next (λ x. refl)
    ∙ (items-same two three next (map-made_unused item_chain item_values items-keep_values two records.unused_items next)).allocated
    ∙ field_at-changed (λ (x : LinkedItem). x.allocated) false unmark one next false (rw (length-unlinked item_chain items next) within) (λ x. refl)
