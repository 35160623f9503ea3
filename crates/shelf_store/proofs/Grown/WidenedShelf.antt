-- One shelf of half grown records is widened: its last item becomes wider where it is free, else a record is put to use
-- for a free one after it.
use Rattle.std.proofs.Common.{◌≡◌, ℕ, suc, ◌+◌, ◌*◌, ◌/◌, ◌<◌, ◌≤◌, Bool, true, false, cond, Some, List, [], ◌∷◌, ◌++◌, length, map, refl, ap, arith, subst, sym, ◌∙◌}
use Rattle.std.specs.Prelude.{◌%◌, not}
use Rattle.etagere_base.specs.declared.frames.Frame.{Frame}
use Rattle.etagere_base.proofs.AlignedPlaces.{multiple}
use Rattle.etagere_base.proofs.EachLemmas.{Each-middle}
use Rattle.etagere_links.specs.Links.{no_link}
use Rattle.shelf_records.proofs.AllLists.LinkedItems.{entry_of}
use Rattle.shelf_records.proofs.AllLists.LinkedEdits.{linked-apart, around_of}
use Rattle.shelf_records.specs.Records.{item_chain}
use Rattle.shelf_records.specs.RecordLists.{Entry, IsEntry, Records, first_item_of}
use Rattle.etagere_links.proofs.Tallies.{length-once}
use Rattle.shelf_records.specs.AtlasRecords.{along_of, is_allocated_at, item_at, spelled_shelf, width_of}
use Rattle.shelf_model.specs.Growing.{ends_free}
use Rattle.shelf_records.specs.Private.Kept.{bare}
use Rattle.shelf_records.proofs.Spelled.Witnessed.{IsPlaced}
use Rattle.shelf_store.specs.Private.RecordsGrown.{CanWiden, Growing, last_item, next_item, shelf_widened}
use Rattle.shelf_model.specs.State.{total_width}
use Rattle.shelf_store.proofs.Grown.CountedRecords.{last-leads, last_of}
use Rattle.shelf_store.proofs.Grown.EditedShelf.{HasEdited, shelf-edited}
use Rattle.shelf_model.proofs.Grown.GrownShelf.{wider_shelf}
use Rattle.shelf_store.proofs.Grown.HalfGrown.{IsGrowing}
use Rattle.shelf_store.proofs.Grown.WidenedEnds.{end-edits, next-within, wider-edits, with_end, with_wider}
use Rattle.shelf_store.proofs.Grown.WidenedItems.{ends-spelled}
use Rattle.shelf_store.proofs.Spelled.ItemsAround.{widths-append, widths-total}

-- what widening a shelf comes to
pub record Widening (frame grown : Frame) (old : ℕ) (growing : Growing) (before after : List Entry) (entry : Entry) (unused_shelves : List ℕ) (items shelves width : ℕ) : Type 0 where
  pub can : CanWiden entry.number width growing
  pub has : HasEdited grown old growing (shelf_widened entry.number frame.column_width width growing) before after entry unused_shelves items shelves
      (wider_shelf frame width (spelled_shelf (bare grown growing.records) entry))

-- a shelf of the first column fills it, and that becomes wider
pub record IsNarrow (frame grown : Frame) (records : Records) (entry : Entry) (added : ℕ) : Type 0 where
  pub some : 1 ≤ frame.column_width
  pub wide : grown.column_width ≡ frame.column_width + added
  pub small : grown.column_width ≤ 65535
  pub column : along_of records.shelves entry.number / grown.column_width ≡ 0
  pub width : total_width (map (item_at records.items) entry.items) ≡ frame.column_width

-- a multiple of a width within the first one is none
first-place : (a width : ℕ) → a / width ≡ 0 → a % width ≡ 0 → a ≡ 0
first-place a width column even = multiple a width even ∙ ap (λ (q : ℕ). q * width) column ∙ omega arith

module _ (frame grown : Frame) (old : ℕ) (growing : Growing) (before after : List Entry) (number last : ℕ) (front free unused_items unused_shelves : List ℕ) (items shelves width : ℕ)
    (last_is : last_item growing.records number ≡ Some last) (narrow : IsNarrow frame grown growing.records (entry_of number (front ++ last ∷ []) free) width) where
  -- the lists of the shelf
  abbrev entry : Entry
  entry = entry_of number (front ++ last ∷ []) free

  -- the records, while so many items are still to be put to use
  abbrev Needing : ℕ → Type 0
  Needing needed = IsGrowing grown old growing (before ++ entry ∷ after) unused_items unused_shelves needed shelves

  -- its number is that of a link
  number-small : (needed : ℕ) → Needing needed → number < no_link
  number-small needed is =
      omega (arith, is.counts.shelves.1, (linked-apart (around_of before after unused_items unused_shelves) entry is.spelled.linked).number)

  -- the last item is no other
  last-only : (b c : Bool) (other : ℕ) → is_allocated_at growing.records.items last ≡ b → last_item growing.records number ≡ Some other
      → is_allocated_at growing.records.items other ≡ c → b ≡ c
  last-only b c other marked names is =
      let same : last ≡ other = cc in
      sym marked ∙ ap (is_allocated_at growing.records.items) same ∙ is

  -- it has room to become wider
  last-fits : (other : ℕ) → last_item growing.records number ≡ Some other → width_of growing.records.items other + width < 65536
  last-fits other names =
      let same : other ≡ last = cc in
      rw same
      (omega (
        arith,
        narrow.width,
        narrow.wide,
        narrow.small,
        widths-total growing.records.items (front ++ last ∷ []),
        widths-append growing.records.items front (last ∷ []),
      ))

  -- where the last item is free
  widening-free : Needing items → is_allocated_at growing.records.items last ≡ false
      → Widening frame grown old growing before after entry unused_shelves items shelves width
  widening-free is unmarked =
      let changed : shelf_widened number frame.column_width width growing
      ≡ with_wider last width growing = rw (last_is, unmarked) refl in
      record {
        can = record {
          small = number-small items is;
          item = λ other names marked. absurd (let contrary : false ≡ true = last-only false true other unmarked names marked in cc);
          fits = λ other names free. last-fits other names;
        };
        has = subst (λ (g : Growing). HasEdited grown old growing g before after entry unused_shelves items shelves (wider_shelf frame width (spelled_shelf (bare grown growing.records) entry)))
            (sym changed)
            (shelf-edited is
            (wider-edits frame grown old growing before after number last front free unused_items unused_shelves items shelves width is unmarked));
      }

  -- where the last item is allocated
  widening-allocated : Needing (suc items) → is_allocated_at growing.records.items last ≡ true
      → Widening frame grown old growing before after entry unused_shelves items shelves width
  widening-allocated is marked =
      let changed : shelf_widened number frame.column_width width growing
      ≡ with_end number last frame.column_width width growing =
      rw (last_is, marked) refl in
      let along : along_of growing.records.shelves number ≡ 0 =
      first-place (along_of growing.records.shelves number) grown.column_width narrow.column
      (Each-middle (IsPlaced (bare grown growing.records)) before entry after is.spelled.placed).along in
      let within : next_item growing < length growing.records.items =
      next-within frame grown old growing before after number last front free unused_items unused_shelves items shelves width is in
      record {
        can = record {
          small = number-small (suc items) is;
          item = λ other names allocated. omega (arith, within, is.counts.items.1);
          fits = λ other names unmarked. last-fits other names;
        };
        has = subst (λ (g : Growing). HasEdited grown old growing g before after entry unused_shelves items shelves (wider_shelf frame width (spelled_shelf (bare grown growing.records) entry)))
            (sym changed)
            (shelf-edited is
            (end-edits frame grown old growing before after number last front free unused_items unused_shelves items shelves width frame.column_width is marked
            (omega (arith, along, narrow.width, widths-total growing.records.items (front ++ last ∷ [])))
            (omega (arith, ap (λ (c : ℕ). c * frame.column_width) narrow.column))));
      }

  -- a shelf whose last item is known
  pub widening-last : Needing (cond (ends_free (map (item_at growing.records.items) (front ++ last ∷ []))) 0 1 + items)
      → Widening frame grown old growing before after entry unused_shelves items shelves width
  widening-last is = by_test (is_allocated_at growing.records.items last) refl
    where
      needed : (b : Bool) → is_allocated_at growing.records.items last ≡ b → Needing (cond (not b) 0 1 + items)
      needed b e =
          subst (λ (c : Bool). Needing (cond c 0 1 + items))
          (ends-spelled growing.records.items front last b e)
          is

      by_test : (b : Bool) → is_allocated_at growing.records.items last ≡ b
          → Widening frame grown old growing before after entry unused_shelves items shelves width
      by_test false e = widening-free (subst (λ (n : ℕ). Needing n) (omega arith) (needed false e)) e
      by_test true e = widening-allocated (subst (λ (n : ℕ). Needing n) (omega arith) (needed true e)) e

-- those of a list but for its last
abbrev front_of : ℕ → List ℕ → List ℕ
front_of x [] = []
front_of x (y ∷ ys) = x ∷ front_of y ys

-- a list is those and its last
front-last : (x : ℕ) (xs : List ℕ) → x ∷ xs ≡ front_of x xs ++ last_of x xs ∷ []
front-last x [] = refl
front-last x (y ∷ ys) = ap (λ (zs : List ℕ). x ∷ zs) (front-last y ys)

-- a shelf is widened, for which a record is needed where it ends with an allocated item
pub shelf-widening : (frame grown : Frame) (old : ℕ) (growing : Growing) (before after : List Entry) (number : ℕ) (numbers free unused_items unused_shelves : List ℕ) (items shelves width : ℕ)
    → IsNarrow frame grown growing.records (entry_of number numbers free) width
    → IsGrowing grown old growing (before ++ entry_of number numbers free ∷ after) unused_items unused_shelves
    (cond (ends_free (map (item_at growing.records.items) numbers)) 0 1 + items) shelves
    → Widening frame grown old growing before after (entry_of number numbers free) unused_shelves items shelves width
shelf-widening frame grown old growing before after number [] free unused_items unused_shelves items shelves width narrow is =
    absurd (omega (arith, narrow.some, narrow.width))
shelf-widening frame grown old growing before after number (x ∷ xs) free unused_items unused_shelves items shelves width narrow is =
    let entry : Entry = entry_of number (x ∷ xs) free in
    let apart = linked-apart (around_of before after unused_items unused_shelves) entry is.spelled.linked in
    let chain : IsEntry growing.records entry = Each-middle (IsEntry growing.records) before entry after is.spelled.linked.entries in
    let first : first_item_of growing.records.shelves number ≡ Some x = chain.items.forward.0 in
    let few : length (x ∷ xs) ≤ length growing.records.items = length-once (length growing.records.items) (x ∷ xs) apart.once apart.within in
    let last : last_item growing.records number ≡ Some (last_of x xs) =
    rw first (ap (λ (n : ℕ). Some n) (last-leads item_chain.next growing.records.items (length growing.records.items) x xs chain.items.forward.1 (omega (arith, few)))) in
    subst (λ (ns : List ℕ). IsNarrow frame grown growing.records (entry_of number ns free) width
    → IsGrowing grown old growing (before ++ entry_of number ns free ∷ after) unused_items unused_shelves
    (cond (ends_free (map (item_at growing.records.items) ns)) 0 1 + items) shelves
    → Widening frame grown old growing before after (entry_of number ns free) unused_shelves items shelves width)
    (sym (front-last x xs))
    (λ here now. widening-last frame grown old growing before after number (last_of x xs) (front_of x xs) free unused_items unused_shelves items shelves width last here now)
    narrow is
