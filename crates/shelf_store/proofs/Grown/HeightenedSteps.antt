-- One shelf after the other gets a height at the end of its column, on records: what each step makes of what is spelled.
use Rattle.std.proofs.Common.{◌≡◌, ◌≢◌, ℕ, suc, ◌+◌, ◌/◌, ◌≤◌, Bool, true, false, cond, ◌==◌, Option, None, List, [], ◌∷◌, ◌++◌, length, refl, ap, sym, ◌∙◌, arith, append_assoc, subst}
use Rattle.std.specs.Prelude.{◌%◌, not}
use Rattle.std.proofs.lemmas.Bool.{cond-false, cond-true}
use Rattle.std.proofs.lemmas.List.{length-append, length-map, map-append}
use Rattle.etagere_base.specs.declared.frames.Frame.{Frame}
use Rattle.std.specs.List.{AllByRecursion}
use Rattle.etagere_base.specs.Lists.{NoNeighbours}
use Rattle.etagere_base.proofs.AlignedPlaces.{multiple}
use Rattle.etagere_base.proofs.EachLemmas.{Each-back}
use Rattle.etagere_base.proofs.NoNeighboursLemmas.{NoNeighbours-tail}
use Rattle.etagere_links.specs.Chains.{Leads}
use Rattle.etagere_links.specs.Edits.{link_at}
use Rattle.shelf_records.proofs.AllLists.LinkedItems.{entry_of}
use Rattle.shelf_records.specs.RecordLists.{Entry, Records, shelf_numbers}
use Rattle.shelf_records.specs.Records.{shelf_chain}
use Rattle.shelf_records.proofs.AllLists.LinkedFrames.{shelf_numbers-append}
use Rattle.shelf_records.proofs.AllLists.LinkedUses.{but_first}
use Rattle.shelf_records.specs.AtlasRecords.{across_of, along_of, height_of, is_empty_at, spelled_shelf}
use Rattle.shelf_model.specs.Growing.{ends_column, filled_ends}
use Rattle.shelf_model.specs.Merging.{combined_shelves}
use Rattle.shelf_model.specs.Places.{column_height}
use Rattle.shelf_records.specs.Private.Kept.{bare}
use Rattle.shelf_records.proofs.Spelled.Witnessed.{HasFlag, IsPlaced}
use Rattle.shelf_store.specs.Private.RecordsGrown.{CanHeighten, Growing, after_item, end_heightened, ends_column_at, next_shelf, shelf_inserted}
use Rattle.shelf_records.specs.StandsFor.{AreStacked, height_before}
use Rattle.shelf_model.specs.State.{Shelf, empty_shelf, is_empty}
use Rattle.shelf_model.specs.Valid.{is_out_of_order}
use Rattle.shelf_store.proofs.Grown.CountedRecords.{same-columns}
use Rattle.shelf_model.proofs.Grown.GrownShelves.{columns-after, end_shelf, taller_end}
use Rattle.shelf_store.proofs.Grown.HalfGrown.{HasInserted, Inserts, IsGrowing, growing-as, shelves_spelled}
use Rattle.shelf_model.proofs.Grown.HeightenedShelves.{AreLow, filled-empty, filled-inside, filled-more, low-next, taller-empty, taller-filled, taller-inside}
use Rattle.shelf_store.proofs.Grown.TallerRecords.{IsTallerEnd, end-taller, with_tall}
use Rattle.shelf_store.proofs.Spelled.StackedEdits.{stacked-parts}
use Rattle.shelf_model.proofs.Places.Heights.{column_height-append, column_height-own}
use Rattle.shelf_records.proofs.Spelled.HeightsBefore.{height_before-append}

-- two lists of the same length end to end
parts-same : {X : Type 0} (front other back rest : List X) → length front ≡ length other → front ++ back ≡ other ++ rest → (front ≡ other) × (back ≡ rest)
parts-same [] [] back rest long same = (refl, same)
parts-same [] (y ∷ ys) back rest long same = absurd (omega (arith, long))
parts-same (x ∷ xs) [] back rest long same = absurd (omega (arith, long))
parts-same {X} (x ∷ xs) (y ∷ ys) back rest long same =
    let first : x ≡ y = cc in
    let others : xs ++ back ≡ ys ++ rest = cc in
    let parts = parts-same xs ys back rest (omega (arith, long)) others in
    (ap (λ (z : X). z ∷ xs) first ∙ ap (λ (zs : List X). y ∷ zs) parts.0, parts.1)

-- an empty last shelf of a column becomes taller
empty-made : (width height shelf : ℕ) (next : Option ℕ) (growing : Growing) → ends_column_at growing.records.shelves shelf next ≡ true
    → is_empty_at growing.records.shelves shelf ≡ true
    → record { records = with_tall shelf (height_of growing.records.shelves shelf + height) growing.records; made = growing.made }
    ≡ end_heightened width shelf height next growing
empty-made width height shelf next growing e f = rw (e, f) refl

-- after one that isn't empty comes an empty one
filled-made : (width height shelf : ℕ) (next : Option ℕ) (growing : Growing) → ends_column_at growing.records.shelves shelf next ≡ true
    → is_empty_at growing.records.shelves shelf ≡ false
    → shelf_inserted width shelf (along_of growing.records.shelves shelf) (across_of growing.records.shelves shelf + height_of growing.records.shelves shelf) height growing
    ≡ end_heightened width shelf height next growing
filled-made width height shelf next growing e f = rw (e, f) refl

-- the shelf that an entry spells
abbrev pub shelf_spelled : Frame → Growing → Entry → Shelf
shelf_spelled grown growing entry = spelled_shelf (bare grown growing.records) entry

module _ (grown : Frame) (old height : ℕ) where
  -- the height of shelves before a place is that of what they spell
  heights-spelled : (growing : Growing) (column : ℕ) (entries : List Entry)
      → height_before growing.records.shelves grown.column_width column (shelf_numbers entries) ≡ column_height column (shelves_spelled grown growing.records entries)
  heights-spelled growing column [] = refl
  heights-spelled growing column (entry ∷ entries) =
      ap (λ (n : ℕ). cond (along_of growing.records.shelves entry.number / grown.column_width == column) (height_of growing.records.shelves entry.number) 0 + n)
      (heights-spelled growing column entries)

  -- a shelf ends its column where its record does
  ends-said : (growing : Growing) (entry : Entry) (after : List Entry) (next : Option ℕ) → Leads (link_at shelf_chain.next growing.records.shelves) next (shelf_numbers after) None
      → AllByRecursion (IsPlaced (bare grown growing.records)) (entry ∷ after)
      → ends_column_at growing.records.shelves entry.number next ≡ ends_column (shelf_spelled grown growing entry) (shelves_spelled grown growing.records after)
  ends-said growing entry [] next leads placed = let none : next ≡ None = leads in rw none refl
  ends-said growing entry (other ∷ after) next leads placed =
      rw leads.0
      (ap not (same-columns (along_of growing.records.shelves entry.number) (along_of growing.records.shelves other.number) grown.column_width placed.0.along placed.1.0.along))

  -- records half way: these shelves got their height, and these get it next
  pub record IsAt (growing : Growing) (before left : List Entry) (unused_items unused_shelves : List ℕ) (front back : List Shelf) (items more : ℕ) : Type 0 where
    pub is : IsGrowing grown old growing (before ++ left) unused_items unused_shelves (filled_ends back + items) (filled_ends back + more)
    pub front_spelled : shelves_spelled grown growing.records before ≡ front
    pub back_spelled : shelves_spelled grown growing.records left ≡ back
    pub ordered : NoNeighbours is_out_of_order back
    pub low : AreLow height front back

  -- what is said of the shelf at hand
  pub record IsHere (growing : Growing) (before after : List Entry) (entry : Entry) (next : Option ℕ) (shelf : Shelf) (shelves : List Shelf) : Type 0 where
    pub own : shelf_spelled grown growing entry ≡ shelf
    pub rest : shelves_spelled grown growing.records after ≡ shelves
    pub along : along_of growing.records.shelves entry.number % grown.column_width ≡ 0
    pub flag : is_empty_at growing.records.shelves entry.number ≡ is_empty shelf
    pub ends : ends_column_at growing.records.shelves entry.number next ≡ ends_column shelf shelves
    pub across : across_of growing.records.shelves entry.number
        ≡ height_before growing.records.shelves grown.column_width (along_of growing.records.shelves entry.number / grown.column_width) (shelf_numbers before)
    pub room : across_of growing.records.shelves entry.number + height_of growing.records.shelves entry.number + height ≤ 65535

  -- of records half way that is so
  pub here-is : {growing : Growing} {before after : List Entry} {entry : Entry} {unused_items unused_shelves : List ℕ} {front : List Shelf} {shelf : Shelf} {shelves : List Shelf} {items more : ℕ} (next : Option ℕ)
      → IsAt growing before (entry ∷ after) unused_items unused_shelves front (shelf ∷ shelves) items more
      → Leads (link_at shelf_chain.next growing.records.shelves) next (shelf_numbers after) None
      → IsHere growing before after entry next shelf shelves
  here-is {growing} {before} {after} {entry} {unused_items} {unused_shelves} {front} {shelf} {shelves} {items} {more} next at leads =
      let records : Records = growing.records in
      let spelled : shelf_spelled grown growing entry ∷ shelves_spelled grown records after ≡ shelf ∷ shelves = at.back_spelled in
      let own : shelf_spelled grown growing entry ≡ shelf = cc in
      let rest : shelves_spelled grown records after ≡ shelves = cc in
      let placed = Each-back (IsPlaced (bare grown records)) before (entry ∷ after) at.is.spelled.placed in
      let column : along_of records.shelves entry.number / grown.column_width ≡ shelf.column = ap (λ (s : Shelf). s.column) own in
      let tall : height_of records.shelves entry.number ≡ shelf.height = ap (λ (s : Shelf). s.height) own in
      let numbers : shelf_numbers (before ++ entry ∷ after) ≡ shelf_numbers before ++ entry.number ∷ shelf_numbers after = shelf_numbers-append before (entry ∷ after) in
      let stacked = stacked-parts records.shelves grown.column_width [] (shelf_numbers before) (entry.number ∷ shelf_numbers after)
      (subst (λ (l : List ℕ). AreStacked records.shelves grown.column_width [] l) numbers at.is.spelled.stacked) in
      let below : height_before records.shelves grown.column_width (along_of records.shelves entry.number / grown.column_width) (shelf_numbers before) ≡ column_height shelf.column front =
      heights-spelled growing (along_of records.shelves entry.number / grown.column_width) before
      ∙ ap (λ (c : ℕ). column_height c (shelves_spelled grown records before)) column
      ∙ ap (column_height shelf.column) at.front_spelled in
      record {
        own = own;
        rest = rest;
        along = placed.0.along;
        flag = (Each-back (HasFlag (bare grown records)) before (entry ∷ after) at.is.flags).0 ∙ ap is_empty own;
        ends = ends-said growing entry after next leads placed ∙ ap (λ (s : Shelf). ends_column s (shelves_spelled grown records after)) own ∙ ap (ends_column shelf) rest;
        across = stacked.1.0;
        room = omega (arith, stacked.1.0, below, tall, at.low.0, column_height-append shelf.column front (shelf ∷ shelves), column_height-own shelf shelves);
      }

  -- a step of the loop: the shelf at hand got its height where it is the last of its column
  pub record HasStep (growing : Growing) (entry : Entry) (after : List Entry) (next : Option ℕ) (front back : List Shelf) (items more : ℕ) : Type 0 where
    pub new : Growing
    pub made : new ≡ end_heightened grown.column_width entry.number height next growing
    pub can : ends_column_at growing.records.shelves entry.number next ≡ true → CanHeighten entry.number height growing
    pub entries : List Entry
    pub unused_items : List ℕ
    pub unused_shelves : List ℕ
    pub at : IsAt new entries after unused_items unused_shelves front back items more

  -- one more shelf is spelled after others
  spelled-next : (growing : Growing) (before : List Entry) (entry : Entry) (front : List Shelf) (shelf : Shelf) → shelves_spelled grown growing.records before ≡ front
      → shelf_spelled grown growing entry ≡ shelf → shelves_spelled grown growing.records (before ++ entry ∷ []) ≡ front ++ shelf ∷ []
  spelled-next growing before entry front shelf spelled is =
      map-append (spelled_shelf (bare grown growing.records)) before (entry ∷ [])
      ∙ ap (λ (l : List Shelf). l ++ shelf_spelled grown growing entry ∷ []) spelled
      ∙ ap (λ (s : Shelf). front ++ s ∷ []) is

  module _ {growing : Growing} {before after : List Entry} {entry : Entry} {unused_items unused_shelves : List ℕ} {front : List Shelf} {shelf : Shelf} {shelves : List Shelf} {items more : ℕ} {next : Option ℕ}
      (at : IsAt growing before (entry ∷ after) unused_items unused_shelves front (shelf ∷ shelves) items more)
      (here : IsHere growing before after entry next shelf shelves) where
    -- what is left after the shelf at hand
    left-is : (new : Growing) (entries : List Entry) (unused_items unused_shelves : List ℕ)
        → IsGrowing grown old new (entries ++ after) unused_items unused_shelves (filled_ends shelves + items) (filled_ends shelves + more)
        → shelves_spelled grown new.records entries ≡ front ++ taller_end grown height shelf shelves → shelves_spelled grown new.records after ≡ shelves
        → IsAt new entries after unused_items unused_shelves (front ++ taller_end grown height shelf shelves) shelves items more
    left-is new entries unused_items unused_shelves is spelled rest =
        record {
          is = is;
          front_spelled = spelled;
          back_spelled = rest;
          ordered = NoNeighbours-tail is_out_of_order shelf shelves at.ordered;
          low = low-next grown height shelf shelves front at.ordered at.low;
        }

    -- the other shelves stand in later columns where this one is the last of its own
    others-after : ends_column shelf shelves ≡ true
        → AllByRecursion (λ (other : Entry). along_of growing.records.shelves other.number / grown.column_width ≢ along_of growing.records.shelves entry.number / grown.column_width) after
    others-after e =
        each-later after
        (subst (λ (l : List Shelf). AllByRecursion (λ (s : Shelf). suc shelf.column ≤ s.column) l) (sym here.rest) (columns-after shelf shelves e at.ordered))
      where
        each-later : (after : List Entry) → AllByRecursion (λ (s : Shelf). suc shelf.column ≤ s.column) (shelves_spelled grown growing.records after)
            → AllByRecursion (λ (other : Entry). along_of growing.records.shelves other.number / grown.column_width ≢ along_of growing.records.shelves entry.number / grown.column_width) after
        each-later [] later = tt
        each-later (other ∷ after) later =
            (λ same. omega (arith, later.0, same, ap (λ (s : Shelf). s.column) here.own), each-later after later.1)

    -- a shelf that isn't the last of its column stays as it is
    step-inside : ends_column shelf shelves ≡ false → HasStep growing entry after next (front ++ taller_end grown height shelf shelves) shelves items more
    step-inside e =
        let ends : ends_column_at growing.records.shelves entry.number next ≡ false = here.ends ∙ e in
        record {
          new = growing;
          made = sym (cond-false _ _ _ ends);
          can = λ holds. absurd (cc);
          entries = before ++ entry ∷ [];
          unused_items = unused_items;
          unused_shelves = unused_shelves;
          at = left-is growing (before ++ entry ∷ []) unused_items unused_shelves
              (growing-as at.is
              (sym (append_assoc before (entry ∷ []) after))
              (ap (λ (n : ℕ). n + items) (filled-inside grown height shelf shelves e)) (ap (λ (n : ℕ). n + more) (filled-inside grown height shelf shelves e)))
              (spelled-next growing before entry front shelf at.front_spelled here.own
              ∙ ap (λ (l : List Shelf). front ++ l) (sym (taller-inside grown height shelf shelves e)))
              here.rest;
        }

    -- an empty shelf at the end of its column becomes taller
    step-empty : ends_column shelf shelves ≡ true → is_empty shelf ≡ true → HasStep growing entry after next (front ++ taller_end grown height shelf shelves) shelves items more
    step-empty e f =
        let flag : is_empty_at growing.records.shelves entry.number ≡ true = here.flag ∙ f in
        let new : Growing = record { records = with_tall entry.number (height_of growing.records.shelves entry.number + height) growing.records; made = growing.made } in
        let taller : IsTallerEnd grown old growing new before after entry unused_items unused_shelves (filled_ends (shelf ∷ shelves) + items) (filled_ends (shelf ∷ shelves) + more) height =
        end-taller grown old growing before after entry unused_items unused_shelves (filled_ends (shelf ∷ shelves) + items) (filled_ends (shelf ∷ shelves) + more) height at.is (others-after e) in
        record {
          new = new;
          made = empty-made grown.column_width height entry.number next growing (here.ends ∙ e) flag;
          can = λ holds. record { taller = omega (arith, here.room); bottom = omega (arith, here.room); insert = λ filled. absurd (cc) };
          entries = before ++ entry ∷ [];
          unused_items = unused_items;
          unused_shelves = unused_shelves;
          at = left-is new (before ++ entry ∷ []) unused_items unused_shelves
              (growing-as taller.is
              (sym (append_assoc before (entry ∷ []) after))
              (ap (λ (n : ℕ). n + items) (filled-empty grown height shelf shelves e f)) (ap (λ (n : ℕ). n + more) (filled-empty grown height shelf shelves e f)))
              (spelled-next new before entry front (combined_shelves shelf (end_shelf grown height shelf)) (taller.before_spelled ∙ at.front_spelled)
              (taller.own ∙ ap (λ (s : Shelf). combined_shelves s (end_shelf grown height s)) here.own)
              ∙ ap (λ (l : List Shelf). front ++ l) (sym (taller-empty grown height shelf shelves e f)))
              (taller.after_spelled ∙ here.rest);
        }

    -- what records spell with an empty shelf after the one at hand
    inserted-spelled : (new : Growing) (added : Entry)
        → shelves_spelled grown new.records (before ++ entry ∷ added ∷ after)
        ≡ shelves_spelled grown growing.records (before ++ entry ∷ [])
        ++ empty_shelf grown (along_of growing.records.shelves entry.number / grown.column_width) height ∷ shelves_spelled grown growing.records after
        → ends_column shelf shelves ≡ true → is_empty shelf ≡ false
        → (shelves_spelled grown new.records (before ++ entry ∷ added ∷ []) ≡ front ++ taller_end grown height shelf shelves)
        × (shelves_spelled grown new.records after ≡ shelves)
    inserted-spelled new added spelled e f =
        let column : along_of growing.records.shelves entry.number / grown.column_width ≡ shelf.column = ap (λ (s : Shelf). s.column) here.own in
        let ends : List Shelf = shelf ∷ end_shelf grown height shelf ∷ [] in
        let known : shelves_spelled grown growing.records (before ++ entry ∷ [])
        ++ empty_shelf grown (along_of growing.records.shelves entry.number / grown.column_width) height ∷ shelves_spelled grown growing.records after
        ≡ (front ++ ends) ++ shelves =
        ap (λ (l : List Shelf). l ++ empty_shelf grown (along_of growing.records.shelves entry.number / grown.column_width) height ∷ shelves_spelled grown growing.records after)
        (spelled-next growing before entry front shelf at.front_spelled here.own)
        ∙ ap (λ (c : ℕ). (front ++ shelf ∷ []) ++ empty_shelf grown c height ∷ shelves_spelled grown growing.records after) column
        ∙ ap (λ (l : List Shelf). (front ++ shelf ∷ []) ++ end_shelf grown height shelf ∷ l) here.rest
        ∙ append_assoc front (shelf ∷ []) (end_shelf grown height shelf ∷ shelves)
        ∙ sym (append_assoc front ends shelves) in
        let whole : shelves_spelled grown new.records (before ++ entry ∷ added ∷ []) ++ shelves_spelled grown new.records after
        ≡ shelves_spelled grown new.records (before ++ entry ∷ added ∷ after) =
        sym (map-append (spelled_shelf (bare grown new.records)) (before ++ entry ∷ added ∷ []) after)
        ∙ ap (shelves_spelled grown new.records) (append_assoc before (entry ∷ added ∷ []) after) in
        let long : length (shelves_spelled grown new.records (before ++ entry ∷ added ∷ [])) ≡ length (front ++ ends) =
        omega (
          arith,
          length-map (before ++ entry ∷ added ∷ []) (spelled_shelf (bare grown new.records)),
          length-append before (entry ∷ added ∷ []),
          ap length at.front_spelled,
          length-map before (spelled_shelf (bare grown growing.records)),
          length-append front ends,
        ) in
        let parts = parts-same (shelves_spelled grown new.records (before ++ entry ∷ added ∷ [])) (front ++ ends) (shelves_spelled grown new.records after) shelves long
        (whole ∙ spelled ∙ known) in
        (parts.0 ∙ ap (λ (l : List Shelf). front ++ l) (sym (taller-filled grown height shelf shelves e f)), parts.1)

    -- an entry put after the one at hand stands before those after it
    added-before : (added : Entry) → before ++ entry ∷ added ∷ after ≡ (before ++ entry ∷ added ∷ []) ++ after
    added-before added = sym (append_assoc before (entry ∷ added ∷ []) after)

    -- an empty shelf comes after another one at the end of its column
    step-filled : Inserts → 1 ≤ grown.column_width → ends_column shelf shelves ≡ true → is_empty shelf ≡ false → HasStep growing entry after next (front ++ taller_end grown height shelf shelves) shelves items more
    step-filled inserts wide e f =
        let records : Records = growing.records in
        let along : ℕ = along_of records.shelves entry.number in
        let column : ℕ = along / grown.column_width in
        let across : ℕ = across_of records.shelves entry.number + height_of records.shelves entry.number in
        let flag : is_empty_at records.shelves entry.number ≡ false = here.flag ∙ f in
        let is : IsGrowing grown old growing (before ++ entry ∷ after) unused_items unused_shelves (suc (filled_ends shelves + items)) (suc (filled_ends shelves + more)) =
        growing-as at.is refl
        (omega (arith, filled-more grown height shelf shelves e f)) (omega (arith, filled-more grown height shelf shelves e f)) in
        let under : across ≡ height_before records.shelves grown.column_width column (shelf_numbers (before ++ entry ∷ [])) =
        rw (shelf_numbers-append before (entry ∷ []))
        (omega (
          arith,
          here.across,
          height_before-append records.shelves grown.column_width column (shelf_numbers before) (entry.number ∷ []),
          cond-true (column == column) (height_of records.shelves entry.number) 0 (same-number column),
        )) in
        let can = inserts grown old growing before after entry unused_items unused_shelves (filled_ends shelves + items) (filled_ends shelves + more) column along across height
        is wide (multiple along grown.column_width here.along) under (others-after e) in
        let inserted : HasInserted grown old growing before after entry unused_items unused_shelves (filled_ends shelves + items) (filled_ends shelves + more) column along across height =
        can.1 in
        let new : Growing = shelf_inserted grown.column_width entry.number along across height growing in
        let added : Entry = entry_of (next_shelf (after_item growing)) (inserted.item ∷ []) (inserted.item ∷ []) in
        let spelled = inserted-spelled new added inserted.spelled e f in
        record {
          new = new;
          made = filled-made grown.column_width height entry.number next growing (here.ends ∙ e) flag;
          can = λ holds. record { taller = omega (arith, here.room); bottom = omega (arith, here.room); insert = λ filled. can.0 };
          entries = before ++ entry ∷ added ∷ [];
          unused_items = but_first unused_items;
          unused_shelves = but_first unused_shelves;
          at = left-is new (before ++ entry ∷ added ∷ []) (but_first unused_items) (but_first unused_shelves)
              (growing-as inserted.is (added-before added) refl refl)
              spelled.0 spelled.1;
        }
      where
        same-number : (n : ℕ) → (n == n) ≡ true
        same-number n = grind arith

    -- the shelf at hand gets its height where it is the last of its column
    pub step : Inserts → 1 ≤ grown.column_width → HasStep growing entry after next (front ++ taller_end grown height shelf shelves) shelves items more
    step inserts wide = by_test (ends_column shelf shelves) (is_empty shelf) refl refl
      where
        by_test : (b c : Bool) → ends_column shelf shelves ≡ b → is_empty shelf ≡ c
            → HasStep growing entry after next (front ++ taller_end grown height shelf shelves) shelves items more
        by_test true true e f = step-empty e f
        by_test true false e f = step-filled inserts wide e f
        by_test false c e f = step-inside e
