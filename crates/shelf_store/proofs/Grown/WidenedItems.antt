-- The items of a shelf whose last one becomes wider, or gets a free one after it: what they spell, and where they lie.
use Rattle.std.proofs.Common.{◌≡◌, ◌≢◌, ℕ, ◌+◌, ◌<◌, ◌≤◌, Bool, true, false, None, Some, List, [], ◌∷◌, ◌++◌, length, map, refl, ap, arith, sym, ◌∙◌}
use Rattle.std.proofs.lemmas.Bool.{cond-false, cond-true}
use Rattle.std.proofs.lemmas.List.{map-append}
use Rattle.std.specs.Prelude.{not}
use Rattle.etagere_base.proofs.EachLemmas.{Each-append, Each-back, Each-front}
use Rattle.std.specs.List.{AllByRecursion}
use Rattle.etagere_base.specs.Lists.{times}
use Rattle.etagere_base.proofs.TimesLemmas.{times-append}
use Rattle.shelf_records.specs.declared.records.LinkedItem.{LinkedItem}
use Rattle.etagere_links.specs.Edits.{link_at}
use Rattle.shelf_records.specs.RecordEdits.{item_changed, item_inserted_after}
use Rattle.shelf_records.specs.RecordLists.{Records, first_free_of}
use Rattle.shelf_records.specs.RecordMaking.{started}
use Rattle.shelf_records.specs.Records.{free_list, item_chain}
use Rattle.etagere_links.proofs.FieldChanges.{field_at-changed}
use Rattle.etagere_links.proofs.ListEnds.{times-here}
use Rattle.etagere_links.proofs.RecordChanges.{get-changed_by-other, length-changed_by}
use Rattle.shelf_records.proofs.RecordFrames.{map-linked_between}
use Rattle.shelf_records.specs.AtlasRecords.{is_allocated_at, item_at, item_place_of, shelf_of, spelled_item}
use Rattle.shelf_model.specs.Growing.{ends_free}
use Rattle.shelf_store.specs.Private.RecordsGrown.{Growing, after_item, end_inserted, next_item}
use Rattle.shelf_records.specs.StandsFor.{LieFrom}
use Rattle.shelf_model.specs.State.{Item, is_free}
use Rattle.shelf_model.proofs.Grown.GrownShelf.{free_item, wider_end}
use Rattle.shelf_store.proofs.Grown.UsedRecords.{used-length, used-other}
use Rattle.shelf_store.proofs.Spelled.AbsorbedItems.{frees-keep_values, items-keep_values}
use Rattle.shelf_records.proofs.Spelled.EntryValues.{IsWidened, LieFrom-append, LieFrom-back, LieFrom-front, free_count, free_count-allocated, free_count-append, free_count-free, free_count-same, widths, widths-same}
use Rattle.shelf_store.proofs.Spelled.ItemsAround.{free-item, free-none, widths-append}
use Rattle.shelf_records.proofs.Spelled.RecordValues.{LieFrom-same, SameItem, SameItem-then, item-same, item_values, items-same, map-agrees, owners-same}

-- only the last of several items gets a width
wider_end-last : (width : ℕ) (item : Item) (front : List Item) → wider_end width (front ++ item ∷ []) ≡ front ++ wider_end width (item ∷ [])
wider_end-last width item [] = refl
wider_end-last width item (x ∷ []) = refl
wider_end-last width item (x ∷ y ∷ front) = ap (λ (items : List Item). x ∷ items) (wider_end-last width item (y ∷ front))

-- items end with a free one where their last one is free
ends_free-last : (item : Item) (front : List Item) → ends_free (front ++ item ∷ []) ≡ is_free item
ends_free-last item [] = refl
ends_free-last item (x ∷ []) = refl
ends_free-last item (x ∷ y ∷ front) = ends_free-last item (y ∷ front)

-- a free last item becomes wider
wider_end-free : (width : ℕ) (item : Item) (front : List Item) → is_free item ≡ true
    → wider_end width (front ++ item ∷ []) ≡ front ++ free_item (item.width + width) ∷ []
wider_end-free width item front free = wider_end-last width item front ∙ ap (λ (items : List Item). front ++ items) (cond-true _ _ _ free)

-- an allocated one gets a free one after it
wider_end-allocated : (width : ℕ) (item : Item) (front : List Item) → is_free item ≡ false
    → wider_end width (front ++ item ∷ []) ≡ front ++ item ∷ free_item width ∷ []
wider_end-allocated width item front allocated = wider_end-last width item front ∙ ap (λ (items : List Item). front ++ items) (cond-false _ _ _ allocated)

-- they are some
pub some-end : (f : ℕ → Item) (front : List ℕ) (last : ℕ) → 1 ≤ length (map f (front ++ last ∷ []))
some-end f [] last = omega arith
some-end f (x ∷ front) last = omega arith

-- items of which the last became wider lie side by side
pub wide-places : (items new : List LinkedItem) (here wide : ℕ) (front : List ℕ) (last : ℕ) → IsWidened items new last wide
    → ((k : ℕ) → 1 ≤ times k front → last ≢ k) → LieFrom items here (front ++ last ∷ []) → LieFrom new here (front ++ last ∷ [])
wide-places items new here wide front last is other lies =
    let same : (k : ℕ) → 1 ≤ times k front → SameItem items new k = λ k stands. is.others k (other k stands) in
    let begins : here + widths new front ≡ here + widths items front = ap (λ w. here + w) (widths-same items new front same) in
    LieFrom-append new here front (last ∷ [])
    (LieFrom-same items new here front same (LieFrom-front items here front (last ∷ []) lies))
    (is.place ∙ (LieFrom-back items here front (last ∷ []) lies).0 ∙ sym begins, tt)

-- they name their shelf
pub wide-owners : (items new : List LinkedItem) (shelf wide : ℕ) (front : List ℕ) (last : ℕ) → IsWidened items new last wide
    → ((k : ℕ) → 1 ≤ times k front → last ≢ k) → AllByRecursion (λ item. shelf_of items item ≡ shelf) (front ++ last ∷ [])
    → AllByRecursion (λ item. shelf_of new item ≡ shelf) (front ++ last ∷ [])
wide-owners items new shelf wide front last is other owners =
    Each-append (λ item. shelf_of new item ≡ shelf) front (last ∷ [])
    (owners-same items new shelf front (λ k stands. is.others k (other k stands)) (Each-front (λ item. shelf_of items item ≡ shelf) front (last ∷ []) owners))
    (is.shelf ∙ (Each-back (λ item. shelf_of items item ≡ shelf) front (last ∷ []) owners).0, tt)

-- what they spell is the items with a width at their end, where the last one is free
pub wide-spelled : (items new : List LinkedItem) (width : ℕ) (front : List ℕ) (last : ℕ) → IsWidened items new last ((item_at items last).width + width)
    → ((k : ℕ) → 1 ≤ times k front → last ≢ k) → is_allocated_at items last ≡ false
    → map (item_at new) (front ++ last ∷ []) ≡ wider_end width (map (item_at items) (front ++ last ∷ []))
wide-spelled items new width front last is other unmarked =
    let free = free-item items last false unmarked in
    let wide : ℕ = (item_at items last).width + width in
    let own : item_at new last ≡ free_item wide = is.item ∙ ap (λ (i : Item). record { width = wide; id = i.id }) (free-none (item_at items last) free) in
    let fronts : map (item_at new) front ≡ map (item_at items) front =
    map-agrees (item_at new) (item_at items) front (λ k stands. (is.others k (other k stands)).item) in
    map-append (item_at new) front (last ∷ [])
    ∙ ap (λ (l : List Item). l ++ item_at new last ∷ []) fronts
    ∙ ap (λ (i : Item). map (item_at items) front ++ i ∷ []) own
    ∙ sym (ap (wider_end width) (map-append (item_at items) front (last ∷ [])) ∙ wider_end-free width (item_at items last) (map (item_at items) front) free)

-- a shelf ends with a free item where its last record is free
pub ends-spelled : (items : List LinkedItem) (front : List ℕ) (last : ℕ) (allocated : Bool) → is_allocated_at items last ≡ allocated
    → ends_free (map (item_at items) (front ++ last ∷ [])) ≡ not allocated
ends-spelled items front last allocated is =
    ap ends_free (map-append (item_at items) front (last ∷ [])) ∙ ends_free-last (item_at items last) (map (item_at items) front) ∙ free-item items last allocated is

-- what items say once a free one was put after the last one of a shelf
pub record HasEnd (items new : List LinkedItem) (owner number here width : ℕ) : Type 0 where
  pub item : item_at new number ≡ free_item width
  pub place : item_place_of new number ≡ here
  pub shelf : shelf_of new number ≡ owner
  pub free : is_allocated_at new number ≡ false
  pub others : (k : ℕ) → number ≢ k → SameItem items new k
  pub as_many : length new ≡ length items

-- a free item at the end of a shelf, for which a record was put to use
pub end-values : (growing : Growing) (shelf last place width : ℕ) → next_item growing < length growing.records.items
    → HasEnd growing.records.items (end_inserted shelf last (next_item growing) place width (after_item growing).records).items shelf (next_item growing) place width
end-values growing shelf last place width within =
    let number : ℕ = next_item growing in
    let items : List LinkedItem = growing.records.items in
    let one : Records = (after_item growing).records in
    let two : Records = item_changed number (started place width shelf) one in
    let three : Records = item_inserted_after last number two in
    let new : List LinkedItem = (end_inserted shelf last number place width one).items in
    let values : (k : ℕ) → SameItem two.items new k = λ k.
    items-same two.items new k
    (map-linked_between free_list item_values frees-keep_values three.items None (first_free_of three.shelves shelf) number
    ∙ map-linked_between item_chain item_values items-keep_values two.items (Some last) (link_at item_chain.next two.items last) number) in
    let long : length one.items ≡ length items = used-length growing in
    let inside : number < length one.items = rw long within in
    record {
      item = (values number).item
          ∙ field_at-changed (spelled_item number) (record { width = 0; id = None }) (started place width shelf) one.items number (free_item width) inside (λ x. refl);
      place = (values number).place ∙ field_at-changed (λ (x : LinkedItem). x.x) 0 (started place width shelf) one.items number place inside (λ x. refl);
      shelf = (values number).shelf ∙ field_at-changed (λ (x : LinkedItem). x.shelf) 0 (started place width shelf) one.items number shelf inside (λ x. refl);
      free = (values number).allocated ∙ field_at-changed (λ (x : LinkedItem). x.allocated) false (started place width shelf) one.items number false inside (λ x. refl);
      others = λ k other.
          SameItem-then items two.items new k
          (item-same items two.items k
          (get-changed_by-other (started place width shelf) one.items (Some number) k (λ e. let same : number ≡ k = cc in other same)
          ∙ used-other growing.records.unused_items items growing.made.item k other))
          (values k);
      as_many = simp length-changed_by long;
    }

-- a free item was put after the last one of others
module _ {items new : List LinkedItem} {shelf number place width : ℕ} (front : List ℕ) (last : ℕ) (has : HasEnd items new shelf number place width)
    (other : (k : ℕ) → 1 ≤ times k (front ++ last ∷ []) → number ≢ k) where
  -- the last one says what it said
  same_last : SameItem items new last
  same_last = has.others last (other last (omega (arith, times-append last front (last ∷ []), times-here last [])))

  -- items lie side by side where a free one was put after the last one
  pub end-places : (here : ℕ) → place ≡ here + widths items (front ++ last ∷ [])
      → LieFrom items here (front ++ last ∷ []) → LieFrom new here (front ++ last ∷ number ∷ [])
  end-places here at lies =
      let same_front : (k : ℕ) → 1 ≤ times k front → SameItem items new k = λ k stands. has.others k (other k (omega (arith, stands, times-append k front (last ∷ [])))) in
      let back : LieFrom items (here + widths items front) (last ∷ []) = LieFrom-back items here front (last ∷ []) lies in
      let begins : here + widths new front ≡ here + widths items front = ap (λ w. here + w) (widths-same items new front same_front) in
      let width_last : (item_at new last).width ≡ (item_at items last).width = ap (λ (i : Item). i.width) same_last.item in
      LieFrom-append new here front (last ∷ number ∷ [])
      (LieFrom-same items new here front same_front (LieFrom-front items here front (last ∷ []) lies))
      (omega (arith, same_last.place, back.0, begins), (omega (arith, has.place, at, widths-append items front (last ∷ []), begins, width_last), tt))

  -- they name their shelf
  pub end-owners : AllByRecursion (λ item. shelf_of items item ≡ shelf) (front ++ last ∷ [])
      → AllByRecursion (λ item. shelf_of new item ≡ shelf) (front ++ last ∷ number ∷ [])
  end-owners owners =
      let all : AllByRecursion (λ item. shelf_of new item ≡ shelf) (front ++ last ∷ []) =
      owners-same items new shelf (front ++ last ∷ []) (λ k stands. has.others k (other k stands)) owners in
      Each-append (λ item. shelf_of new item ≡ shelf) front (last ∷ number ∷ [])
      (Each-front (λ item. shelf_of new item ≡ shelf) front (last ∷ []) all)
      ((Each-back (λ item. shelf_of new item ≡ shelf) front (last ∷ []) all).0, (has.shelf, tt))

  -- the free ones are those before and the new one
  pub end-free : is_allocated_at items last ≡ true → (k : ℕ)
      → free_count new k (front ++ last ∷ number ∷ []) ≡ times k (number ∷ []) + free_count items k (front ++ last ∷ [])
  end-free allocated k =
      omega (
        arith,
        free_count-append new k front (last ∷ number ∷ []),
        free_count-append items k front (last ∷ []),
        free_count-allocated new k last (number ∷ []) (same_last.allocated ∙ allocated),
        free_count-allocated items k last [] allocated,
        free_count-free new k number [] has.free,
        free_count-same items new k front (λ n stands. (has.others n (other n (omega (arith, stands, times-append n front (last ∷ []))))).allocated),
      )

  -- what they spell is the items with a width at their end
  pub end-spelled : is_allocated_at items last ≡ true
      → map (item_at new) (front ++ last ∷ number ∷ []) ≡ wider_end width (map (item_at items) (front ++ last ∷ []))
  end-spelled allocated =
      let fronts : map (item_at new) front ≡ map (item_at items) front =
      map-agrees (item_at new) (item_at items) front (λ k stands. (has.others k (other k (omega (arith, stands, times-append k front (last ∷ []))))).item) in
      map-append (item_at new) front (last ∷ number ∷ [])
      ∙ ap (λ (l : List Item). l ++ item_at new last ∷ item_at new number ∷ []) fronts
      ∙ ap (λ (i : Item). map (item_at items) front ++ i ∷ item_at new number ∷ []) same_last.item
      ∙ ap (λ (i : Item). map (item_at items) front ++ item_at items last ∷ i ∷ []) has.item
      ∙ sym (ap (wider_end width) (map-append (item_at items) front (last ∷ []))
      ∙ wider_end-allocated width (item_at items last) (map (item_at items) front) (free-item items last true allocated))
