-- Half grown records whose shelf has a wider last item, or a free item after its last one: what that edit keeps.
use Rattle.std.proofs.Common.{◌≡◌, ◌≢◌, ℕ, suc, ◌+◌, ◌-◌, ◌/◌, ◌<◌, ◌≤◌, true, false, cond, Some, List, [], ◌∷◌, ◌++◌, length, map, refl, ap, arith, subst, sym, ◌∙◌}
use Rattle.std.proofs.lemmas.Bool.{cond-false, cond-true}
use Rattle.std.specs.Prelude.{◌%◌}
use Rattle.etagere_base.specs.declared.frames.Frame.{Frame}
use Rattle.etagere_base.specs.Lists.{times}
use Rattle.etagere_base.proofs.EachLemmas.{Each-middle}
use Rattle.etagere_base.proofs.TimesLemmas.{times-append, times-here}
use Rattle.shelf_records.proofs.AllLists.LinkedEdits.{linked-apart, around_of}
use Rattle.shelf_records.specs.declared.records.LinkedItem.{LinkedItem}
use Rattle.etagere_links.specs.Edits.{changed_by}
use Rattle.shelf_records.specs.RecordEdits.{item_changed, item_inserted_after}
use Rattle.shelf_records.specs.RecordLists.{Entry, IsEntry, IsLinkedExcept, Records, item_numbers}
use Rattle.shelf_records.specs.RecordMaking.{started}
use Rattle.shelf_records.proofs.AllLists.LinkedFields.{item_changed-linked, item_written-linked}
use Rattle.shelf_records.proofs.AllLists.LinkedFrames.{item_numbers-append}
use Rattle.shelf_records.proofs.AllLists.LinkedItems.{free_inserted_front-linked, item_inserted_after-linked, entry_of}
use Rattle.shelf_records.proofs.AllLists.LinkedUnused.{IsLoose, lists_of, loose-of}
use Rattle.shelf_records.proofs.AllLists.LinkedUses.{but_first}
use Rattle.etagere_links.proofs.FieldChanges.{field_at-kept}
use Rattle.etagere_links.proofs.RecordChanges.{length-changed_by}
use Rattle.shelf_records.specs.AtlasRecords.{AtlasRecords, along_of, height_of, is_allocated_at, item_at, item_place_of, spelled_shelf, width_of}
use Rattle.shelf_model.specs.Growing.{ends_free}
use Rattle.shelf_model.specs.Places.{column_place}
use Rattle.shelf_records.specs.Private.Kept.{bare}
use Rattle.shelf_records.proofs.Spelled.Witnessed.{IsPlaced}
use Rattle.shelf_store.specs.Private.RecordsGrown.{Growing, after_item, end_inserted, next_item}
use Rattle.shelf_model.specs.State.{Shelf}
use Rattle.shelf_store.proofs.Grown.EditedShelf.{EditsShelf}
use Rattle.shelf_model.proofs.Grown.GrownShelf.{is_one_free-wider_end, wider_end, wider_shelf}
use Rattle.shelf_store.proofs.Grown.HalfGrown.{IsGrowing}
use Rattle.shelf_store.proofs.Grown.MadeLinked.{numbers_from}
use Rattle.shelf_store.proofs.Grown.NextRecords.{item-next}
use Rattle.shelf_store.proofs.Grown.UsedRecords.{fewer-left, shelf-unused, used-length}
use Rattle.shelf_store.proofs.Grown.WidenedItems.{HasEnd, end-free, end-owners, end-places, end-spelled, end-values, ends-spelled, some-end, wide-owners, wide-places, wide-spelled}
use Rattle.shelf_records.proofs.Spelled.EntryValues.{IsWidened, free_count-same, widened, widths}
use Rattle.shelf_records.proofs.Spelled.RecordValues.{SameItem, SameShelf, map-agrees, shelves-same}
use Rattle.shelf_store.proofs.Spelled.SpelledMerges.{before-other, free-first, not-member, unmarked-same}
use Rattle.shelf_store.proofs.Spelled.SpelledSplits.{shelf-parts}
use Rattle.shelf_store.proofs.Spelled.SpelledUses.{Each-but_first, same-shelf, stranger}

-- the records with a wider last item
abbrev pub with_wider : ℕ → ℕ → Growing → Growing
with_wider last width growing = record {
  records = item_changed last (λ (item : LinkedItem). record item { width = width_of growing.records.items last + width }) growing.records;
  made = growing.made;
}

-- the records with a free item after the last one
abbrev pub with_end : ℕ → ℕ → ℕ → ℕ → Growing → Growing
with_end number last place width growing =
    record { records = end_inserted number last (next_item growing) place width (after_item growing).records; made = (after_item growing).made }

module _ (frame grown : Frame) (old : ℕ) (growing : Growing) (before after : List Entry) (number last : ℕ) (front free unused_items unused_shelves : List ℕ) (items shelves width : ℕ) where
  -- the items of the shelf
  abbrev numbers : List ℕ
  numbers = front ++ last ∷ []

  -- its lists
  abbrev entry : Entry
  entry = entry_of number numbers free

  -- what it spells
  abbrev shelf : Shelf
  shelf = spelled_shelf (bare grown growing.records) entry

  -- the records that stand in no list, while so many are still needed
  abbrev loose : Growing → ℕ → List ℕ → List ℕ
  loose now needed unused = numbers_from now.made.item (needed - length unused) ++ []

  abbrev loose_shelves : Growing → List ℕ
  loose_shelves now = numbers_from now.made.shelf (shelves - length unused_shelves) ++ []

  -- a free last item becomes wider
  pub wider-edits : IsGrowing grown old growing (before ++ entry ∷ after) unused_items unused_shelves items shelves
      → is_allocated_at growing.records.items last ≡ false
      → EditsShelf grown old growing (with_wider last width growing) before after entry entry unused_items unused_shelves items shelves (wider_shelf frame width shelf)
  wider-edits is unmarked =
      let old_items : List LinkedItem = growing.records.items in
      let wide : ℕ = width_of old_items last + width in
      let change : LinkedItem → LinkedItem = λ item. record item { width = wide } in
      let new : List LinkedItem = changed_by (Some last) change old_items in
      let atlas : AtlasRecords = bare grown growing.records in
      let apart = linked-apart (around_of before after unused_items unused_shelves) entry is.spelled.linked in
      let placed : IsPlaced atlas entry = Each-middle (IsPlaced atlas) before entry after is.spelled.placed in
      let now : IsWidened old_items new last wide =
      widened old_items last wide (apart.within last (omega (arith, times-append last front (last ∷ []), times-here last []))) in
      let own : (k : ℕ) → 1 ≤ times k front → last ≢ k = λ k stands. before-other front [] last k (apart.once k) stands in
      let others : (k : ℕ) → 1 ≤ times k (item_numbers before) + times k (item_numbers after) + times k unused_items → SameItem old_items new k = λ k stands.
      now.others k (not-member front [] last k (omega (arith, apart.others k stands))) in
      record {
        number = refl;
        linked = item_changed-linked last change
            (record { next = λ x. refl; prev = λ x. refl; next_unallocated = λ x. refl; prev_unallocated = λ x. refl }) is.spelled.linked;
        placed = record {
          owners = wide-owners old_items new number wide front last now own placed.owners;
          along = placed.along;
          places = wide-places old_items new (along_of growing.records.shelves number) wide front last now own placed.places;
          free_list = λ k. placed.free_list k
              ∙ sym (free_count-same old_items new k numbers (λ n stands. field_at-kept (λ (x : LinkedItem). x.allocated) false change old_items last n (λ x. refl)));
        };
        own = shelf-parts shelf.column shelf.column shelf.height shelf.height (map (item_at new) numbers) (wider_end width shelf.items) (map (item_place_of new) free)
            (cond (ends_free shelf.items) shelf.free_list ((column_place frame shelf + frame.column_width) ∷ shelf.free_list)) refl refl
            (wide-spelled old_items new width front last now own unmarked)
            (map-agrees (item_place_of new) (item_place_of old_items) free (λ k stands. field_at-kept (λ (x : LinkedItem). x.x) 0 change old_items last k (λ x. refl))
            ∙ sym (cond-true _ _ _ (ends-spelled old_items front last false unmarked)));
        flag = is_one_free-wider_end width shelf.items (some-end (item_at old_items) front last);
        others = λ k stands. others k (omega (arith, stands));
        same = same-shelf growing.records.shelves;
        unused = unmarked-same old_items new unused_items (λ k stands. others k (omega (arith, stands))) is.spelled.unused;
        as_many = length-changed_by change old_items (Some last);
        as_many_shelves = refl;
        used_up = is.used_up;
      }

  -- the item record that is put to use
  abbrev next : ℕ
  next = next_item growing

  -- its lists then
  abbrev longer : Entry
  longer = entry_of number (front ++ last ∷ next ∷ []) (next ∷ free)

  -- the record that is put to use stands in no list
  next-linked : IsGrowing grown old growing (before ++ entry ∷ after) unused_items unused_shelves (suc items) shelves
      → IsLinkedExcept (after_item growing).records (lists_of (before ++ entry ∷ after) (but_first unused_items) unused_shelves)
      (next ∷ loose (after_item growing) items (but_first unused_items)) (loose_shelves (after_item growing))
  next-linked is =
      let one : suc items - 1 - length (but_first unused_items) ≡ items - length (but_first unused_items) = omega arith in
      subst (λ (n : ℕ). IsLinkedExcept (after_item growing).records (lists_of (before ++ entry ∷ after) (but_first unused_items) unused_shelves)
      (next ∷ loose (after_item growing) items (but_first unused_items)) (numbers_from n (shelves - length unused_shelves) ++ [])) (sym (shelf-unused growing))
      (subst (λ (n : ℕ). IsLinkedExcept (after_item growing).records (lists_of (before ++ entry ∷ after) (but_first unused_items) unused_shelves)
      (next ∷ (numbers_from (after_item growing).made.item n ++ [])) (loose_shelves growing)) one
      (item-next growing (before ++ entry ∷ after) unused_items unused_shelves [] (loose_shelves growing) (suc items) (omega arith) is.spelled.linked))

  -- it is one of the records
  pub next-within : IsGrowing grown old growing (before ++ entry ∷ after) unused_items unused_shelves (suc items) shelves → next < length growing.records.items
  next-within is =
      let loose_next : IsLoose (length (after_item growing).records.items) (item_numbers (before ++ entry ∷ after)) (but_first unused_items) next =
      loose-of (length (after_item growing).records.items) (item_numbers (before ++ entry ∷ after)) (but_first unused_items)
      (loose (after_item growing) items (but_first unused_items)) next (next-linked is).items_once in
      rw (← used-length growing) loose_next.within

  -- an allocated last item gets a free one after it
  pub end-edits : (place : ℕ) → IsGrowing grown old growing (before ++ entry ∷ after) unused_items unused_shelves (suc items) shelves
      → is_allocated_at growing.records.items last ≡ true
      → place ≡ along_of growing.records.shelves number + widths growing.records.items numbers → place ≡ column_place frame shelf + frame.column_width
      → EditsShelf grown old growing (with_end number last place width growing) before after entry longer (but_first unused_items) unused_shelves items shelves (wider_shelf frame width shelf)
  end-edits place is marked at column =
      let old_items : List LinkedItem = growing.records.items in
      let one : Records = (after_item growing).records in
      let two : Records = item_changed next (started place width number) one in
      let three : Records = item_inserted_after last next two in
      let new : List LinkedItem = (with_end number last place width growing).records.items in
      let rest : List ℕ = but_first unused_items in
      let held : List ℕ = loose (after_item growing) items rest in
      let atlas : AtlasRecords = bare grown growing.records in
      let entries : List Entry = before ++ entry ∷ after in
      let linked : IsLinkedExcept one (lists_of entries rest unused_shelves) (next ∷ held) (loose_shelves (after_item growing)) = next-linked is in
      let loose_next : IsLoose (length one.items) (item_numbers entries) rest next = loose-of (length one.items) (item_numbers entries) rest held next linked.items_once in
      let count : (k : ℕ) → times k (item_numbers entries) ≡ times k (item_numbers before) + (times k numbers + times k (item_numbers after)) =
      λ k. omega (arith, item_numbers-append before (entry ∷ after) k, times-append k numbers (item_numbers after)) in
      let other : (k : ℕ) → 1 ≤ times k (item_numbers entries) → next ≢ k = λ k stands. stranger next k (item_numbers entries) loose_next.no_used stands in
      let own : (k : ℕ) → 1 ≤ times k numbers → next ≢ k = λ k stands. other k (omega (arith, stands, count k)) in
      let has : HasEnd old_items new number next place width = end-values growing number last place width (next-within is) in
      let entry_is : IsEntry growing.records entry = Each-middle (IsEntry growing.records) before entry after is.spelled.linked.entries in
      let placed : IsPlaced atlas entry = Each-middle (IsPlaced atlas) before entry after is.spelled.placed in
      let absent : times next free ≡ 0 = omega (arith, entry_is.members next, loose_next.no_used, count next) in
      let same : (k : ℕ) → SameShelf growing.records.shelves (with_end number last place width growing).records.shelves k = λ k.
      shelves-same growing.records.shelves (with_end number last place width growing).records.shelves k (free-first number (Some next) growing.records.shelves) in
      let places : map (item_place_of new) free ≡ map (item_place_of old_items) free =
      map-agrees (item_place_of new) (item_place_of old_items) free (λ k stands. (has.others k (own k (omega (arith, stands, entry_is.members k)))).place) in
      record {
        number = refl;
        linked = free_inserted_front-linked (around_of before after rest unused_shelves) number next (front ++ last ∷ next ∷ []) free
            (omega (arith, times-append next front (last ∷ next ∷ []), times-here next [])) absent
            (item_inserted_after-linked (around_of before after rest unused_shelves) number next last front [] free
            (item_written-linked next (started place width number) linked));
        placed = record {
          owners = end-owners front last has own placed.owners;
          along = ap (λ a. a % grown.column_width) (same number).along ∙ placed.along;
          places = rw (same number).along (end-places front last has own (along_of growing.records.shelves number) at placed.places);
          free_list = λ k. omega (arith, placed.free_list k, end-free front last has own marked k);
        };
        own = shelf-parts (along_of (with_end number last place width growing).records.shelves number / grown.column_width) shelf.column (height_of (with_end number last place width growing).records.shelves number) shelf.height
            (map (item_at new) (front ++ last ∷ next ∷ [])) (wider_end width shelf.items) (item_place_of new next ∷ map (item_place_of new) free)
            (cond (ends_free shelf.items) shelf.free_list ((column_place frame shelf + frame.column_width) ∷ shelf.free_list))
            (ap (λ a. a / grown.column_width) (same number).along) (same number).height
            (end-spelled front last has own marked)
            (ap (λ (p : ℕ). p ∷ map (item_place_of new) free) (has.place ∙ column)
            ∙ ap (λ (ps : List ℕ). (column_place frame shelf + frame.column_width) ∷ ps) places
            ∙ sym (cond-false _ _ _ (ends-spelled old_items front last true marked)));
        flag = is_one_free-wider_end width shelf.items (some-end (item_at old_items) front last);
        others = λ k stands. has.others k (other k (omega (arith, stands, count k)));
        same = same;
        unused = unmarked-same old_items new rest (λ k stands. has.others k (stranger next k rest loose_next.no_unused stands))
            (Each-but_first (λ item. is_allocated_at old_items item ≡ false) unused_items is.spelled.unused);
        as_many = has.as_many;
        as_many_shelves = length-changed_by _ growing.records.shelves (Some number);
        used_up = λ made. fewer-left unused_items items (is.used_up made);
      }
