-- Widening all shelves of half grown records: each shelf spells the wider one, and as many records are put to use as end
-- with an allocated item.
use Rattle.std.proofs.Common.{◌≡◌, ℕ, zero, suc, ◌+◌, ◌≤◌, cond, Option, None, Some, List, [], ◌∷◌, ◌++◌, length, map, ap, arith, subst, sym, append_assoc, ◌∙◌}
use Rattle.std.proofs.lemmas.List.{map-append}
use Rattle.etagere_base.specs.declared.frames.Frame.{Frame}
use Rattle.std.specs.List.{AllByRecursion}
use Rattle.etagere_base.specs.Lists.{total}
use Rattle.etagere_links.specs.Edits.{link_at}
use Rattle.shelf_records.specs.ListEnds.{first_or}
use Rattle.shelf_records.specs.RecordLists.{Entry, shelf_numbers}
use Rattle.shelf_records.specs.Records.{shelf_chain}
use Rattle.shelf_records.proofs.Chains.{Leads-start, next-is}
use Rattle.shelf_records.proofs.AllLists.LinkedFrames.{shelf_numbers-append}
use Rattle.shelf_records.specs.AtlasRecords.{spelled_shelf}
use Rattle.shelf_model.specs.Growing.{ends_free}
use Rattle.shelf_records.specs.Private.Kept.{bare}
use Rattle.shelf_store.specs.Private.RecordsGrown.{CanWidenAll, Growing, shelf_widened, shelves_widened}
use Rattle.shelf_model.specs.State.{Shelf, total_width}
use Rattle.shelf_store.proofs.Grown.EditedShelf.{HasEdited}
use Rattle.shelf_model.proofs.Grown.GrownShelf.{wider_shelf}
use Rattle.shelf_store.proofs.Grown.GrowSteps.{widened-none}
use Rattle.shelf_store.proofs.Grown.HalfGrown.{HasGrown, IsGrowing, Widens, shelves_spelled}
use Rattle.shelf_store.proofs.Grown.WidenedShelf.{Widening, shelf-widening}
use Rattle.shelf_store.proofs.Spelled.KeptCounts.{shelves-few}

-- how many shelves end with an allocated item
abbrev allocated_ends : List Shelf → ℕ
allocated_ends shelves = total (λ (shelf : Shelf). cond (ends_free shelf.items) 0 1) shelves

-- nothing is needed to widen no shelf
can-none : (place width steps : ℕ) (at : Option ℕ) (growing : Growing) → at ≡ None → CanWidenAll place width steps at growing
can-none place width zero at growing ends = tt
can-none place width (suc steps) at growing ends = rw ends tt

module _ (frame grown : Frame) (old width : ℕ) (some : 1 ≤ frame.column_width) (wide : grown.column_width ≡ frame.column_width + width) (small : grown.column_width ≤ 65535) where
  -- what widening these shelves comes to, where others stand before them
  record WidensRest (steps : ℕ) (at : Option ℕ) (growing : Growing) (before entries : List Entry) (items more : ℕ) : Type 0 where
    can : CanWidenAll frame.column_width width steps at growing
    has : HasGrown grown old (shelves_widened frame.column_width width steps at growing)
        (shelves_spelled grown growing.records before ++ map (wider_shelf frame width) (shelves_spelled grown growing.records entries)) items more

  -- where a shelf is the first of the rest, and the rest is widened after it
  widens-next : (steps : ℕ) (at : Option ℕ) (growing : Growing) (before entries : List Entry) (entry : Entry) (unused_shelves : List ℕ) (items needed more : ℕ) → at ≡ Some entry.number
      → (widening : Widening frame grown old growing before entries entry unused_shelves needed more width)
      → WidensRest steps (link_at shelf_chain.next (shelf_widened entry.number frame.column_width width growing).records.shelves entry.number)
      (shelf_widened entry.number frame.column_width width growing) (before ++ widening.has.edited ∷ []) entries items more
      → WidensRest (suc steps) at growing before (entry ∷ entries) items more
  widens-next steps at growing before entries entry unused_shelves items needed more is widening rest =
      let now : Growing = shelf_widened entry.number frame.column_width width growing in
      let own : Shelf = spelled_shelf (bare grown growing.records) entry in
      let all : shelves_spelled grown now.records (before ++ widening.has.edited ∷ []) ++ map (wider_shelf frame width) (shelves_spelled grown now.records entries)
      ≡ shelves_spelled grown growing.records before ++ wider_shelf frame width own ∷ map (wider_shelf frame width) (shelves_spelled grown growing.records entries) =
      ap (λ (ss : List Shelf). ss ++ map (wider_shelf frame width) (shelves_spelled grown now.records entries))
      (map-append (spelled_shelf (bare grown now.records)) before (widening.has.edited ∷ []))
      ∙ append_assoc (shelves_spelled grown now.records before) (spelled_shelf (bare grown now.records) widening.has.edited ∷ []) (map (wider_shelf frame width) (shelves_spelled grown now.records entries))
      ∙ ap (λ (ss : List Shelf). ss ++ spelled_shelf (bare grown now.records) widening.has.edited ∷ map (wider_shelf frame width) (shelves_spelled grown now.records entries)) widening.has.front
      ∙ ap (λ (s : Shelf). shelves_spelled grown growing.records before ++ s ∷ map (wider_shelf frame width) (shelves_spelled grown now.records entries)) widening.has.own
      ∙ ap (λ (ss : List Shelf). shelves_spelled grown growing.records before ++ wider_shelf frame width own ∷ map (wider_shelf frame width) ss) widening.has.back in
      record {
        can = rw is (widening.can, rest.can);
        has = rw is (subst (λ (ss : List Shelf). HasGrown grown old
            (shelves_widened frame.column_width width steps (link_at shelf_chain.next now.records.shelves entry.number) now) ss items more) all rest.has);
      }

  -- the shelves after some are widened, as links lead to them
  widens-rest : (steps : ℕ) (at : Option ℕ) (growing : Growing) (before entries : List Entry) (unused_items unused_shelves : List ℕ) (items more : ℕ)
      → length entries ≤ steps → at ≡ first_or None (shelf_numbers entries)
      → AllByRecursion (λ (shelf : Shelf). shelf.column ≡ 0) (shelves_spelled grown growing.records entries)
      → AllByRecursion (λ (shelf : Shelf). total_width shelf.items ≡ frame.column_width) (shelves_spelled grown growing.records entries)
      → IsGrowing grown old growing (before ++ entries) unused_items unused_shelves (allocated_ends (shelves_spelled grown growing.records entries) + items) more
      → WidensRest steps at growing before entries items more
  widens-rest steps at growing before [] unused_items unused_shelves items more few starts columns filled is =
      record {
        can = can-none frame.column_width width steps at growing starts;
        has = rw (widened-none frame.column_width width steps at growing starts)
            (record {
              entries = before ++ [];
              unused_items = unused_items;
              unused_shelves = unused_shelves;
              is = subst (λ (n : ℕ). IsGrowing grown old growing (before ++ []) unused_items unused_shelves n more) (omega arith) is;
              spelled = map-append (spelled_shelf (bare grown growing.records)) before [];
            });
      }
  widens-rest zero at growing before (entry ∷ entries) unused_items unused_shelves items more few starts columns filled is = absurd (omega (arith, few))
  widens-rest (suc steps) at growing before (entry ∷ entries) unused_items unused_shelves items more few starts columns filled is =
      let left : ℕ = allocated_ends (shelves_spelled grown growing.records entries) + items in
      let needs : IsGrowing grown old growing (before ++ entry ∷ entries) unused_items unused_shelves
      (cond (ends_free (spelled_shelf (bare grown growing.records) entry).items) 0 1 + left) more =
      subst (λ (n : ℕ). IsGrowing grown old growing (before ++ entry ∷ entries) unused_items unused_shelves n more) (omega arith) is in
      let widening : Widening frame grown old growing before entries entry unused_shelves left more width =
      shelf-widening frame grown old growing before entries entry.number entry.items entry.free_list unused_items unused_shelves left more width
      (record { some = some; wide = wide; small = small; column = columns.0; width = filled.0 }) needs in
      let now : Growing = shelf_widened entry.number frame.column_width width growing in
      let has : HasEdited grown old growing now before entries entry unused_shelves left more (wider_shelf frame width (spelled_shelf (bare grown growing.records) entry)) = widening.has in
      let follows : link_at shelf_chain.next now.records.shelves entry.number ≡ first_or None (shelf_numbers entries) =
      ap (link_at shelf_chain.next now.records.shelves) (sym has.number)
      ∙ next-is (link_at shelf_chain.next now.records.shelves) (shelf_numbers before) (shelf_numbers entries) has.edited.number now.records.first_shelf None
      (rw (← shelf_numbers-append before (has.edited ∷ entries)) has.is.spelled.linked.shelves.forward) in
      let here : IsGrowing grown old now ((before ++ has.edited ∷ []) ++ entries) has.unused_items unused_shelves (allocated_ends (shelves_spelled grown now.records entries) + items) more =
      rw (has.back, append_assoc before (has.edited ∷ []) entries) has.is in
      widens-next steps at growing before entries entry unused_shelves items left more starts widening
      (widens-rest steps (link_at shelf_chain.next now.records.shelves entry.number) now (before ++ has.edited ∷ []) entries has.unused_items unused_shelves items more
      (omega (arith, few)) follows
      (subst (AllByRecursion (λ (shelf : Shelf). shelf.column ≡ 0)) (sym has.back) columns.1)
      (subst (AllByRecursion (λ (shelf : Shelf). total_width shelf.items ≡ frame.column_width)) (sym has.back) filled.1)
      here)

-- all shelves are widened
pub widens : Widens
widens frame grown old growing shelves width items more positive some wide small columns filled has =
    let entries : List Entry = has.entries in
    let is : IsGrowing grown old growing entries has.unused_items has.unused_shelves (allocated_ends shelves + items) more = has.is in
    let all : WidensRest frame grown old width some wide small (length growing.records.shelves) growing.records.first_shelf growing [] entries items more =
    widens-rest frame grown old width some wide small (length growing.records.shelves) growing.records.first_shelf growing [] entries has.unused_items has.unused_shelves items more
    (shelves-few has.is.spelled.linked)
    (Leads-start (link_at shelf_chain.next growing.records.shelves) (shelf_numbers entries) growing.records.first_shelf None is.spelled.linked.shelves.forward)
    (rw has.spelled columns) (rw has.spelled filled) (rw has.spelled is) in
    (all.can, rw (← has.spelled) all.has)
