-- Records that spell lists, and whose shelves say whether they are empty, after empty neighbours of one column became one.
use Rattle.std.proofs.Common.{◌≡◌, ◌≢◌, ℕ, ◌+◌, ◌*◌, ◌≤◌, Bool, true, false, ◌&&◌, ◌==◌, Option, None, Some, List, [], ◌∷◌, ◌++◌, length, map, refl, ap, subst, arith, sym, ◌∙◌}
use Rattle.std.proofs.lemmas.Bool.{and_parts, eqb-true}
use Rattle.std.proofs.lemmas.List.{map-append}
use Rattle.std.specs.Prelude.{◌/◌, ◌%◌, not}
use Rattle.etagere_base.proofs.AlignedPlaces.{multiple}
use Rattle.etagere_base.proofs.EachLemmas.{Each-append, Each-front, Each-back}
use Rattle.etagere_base.specs.Lists.{times}
use Rattle.etagere_base.specs.MergingAt.{merged_at}
use Rattle.shelf_records.proofs.AllLists.LinkedItems.{entry_of}
use Rattle.shelf_records.proofs.AllLists.LinkedEdits.{linked-apart, around_of, Around, with_entry}
use Rattle.shelf_records.specs.declared.records.LinkedItem.{LinkedItem}
use Rattle.shelf_records.specs.declared.records.LinkedShelf.{LinkedShelf}
use Rattle.etagere_links.specs.Edits.{link_at}
use Rattle.shelf_records.specs.ListEnds.{first_or, last_or}
use Rattle.shelf_records.specs.RecordLists.{Records, Entry, IsEntry, first_item_of, shelf_numbers}
use Rattle.shelf_records.specs.Records.{item_chain, shelf_chain}
use Rattle.shelf_records.proofs.Chains.{Leads-start, next-is, previous-is}
use Rattle.shelf_records.proofs.AllLists.LinkedFrames.{shelf_numbers-append}
use Rattle.shelf_records.proofs.AllLists.LinkedUnused.{lists_of}
use Rattle.etagere_links.proofs.ListEnds.{times-here}
use Rattle.shelf_records.specs.AtlasRecords.{AtlasRecords, along_of, height_of, is_empty_at, is_allocated_at, item_at, spelled_shelf}
use Rattle.shelf_model.specs.Merging.{both_empty, combined_shelves}
use Rattle.shelf_store.specs.Private.ItemReturned.{Step, are_both_empty, empty_named, empty_next, shelf_merged, shelf_next_absorbed, shelf_of_item_absorbed}
use Rattle.shelf_records.proofs.Spelled.Witnessed.{HasFlag, IsPlaced}
use Rattle.shelf_store.specs.Private.ReturnedNotes.{next_absorbed_notes, shelf_merged_notes, shelf_of_item_absorbed_notes}
use Rattle.shelf_model.specs.State.{Shelf, is_empty, is_free, is_one_free}
use Rattle.shelf_heights.specs.declared.by_height.BoundedShelf.{BoundedShelf}
use Rattle.shelf_store.specs.Private.SecondWidths.{AreSecondsOf}
use Rattle.shelf_store.specs.Private.Settling.{HoldsExceptNoted}
use Rattle.shelf_notes.specs.Private.Pending.{Notes}
use Rattle.shelf_store.proofs.ByHeight.KeptSeconds.{seconds-absorbed}
use Rattle.shelf_store.proofs.ByHeight.MergedByHeight.{absorbed-holds}
use Rattle.shelf_store.proofs.Spelled.EmptinessSaid.{IsFlagged, flags-same, shelf-is}
use Rattle.shelf_store.proofs.Spelled.ItemsAround.{free-item}
use Rattle.shelf_records.proofs.Spelled.RecordValues.{SameItem}
use Rattle.shelf_store.proofs.Spelled.SpelledLists.{with_records, IsSpelled}
use Rattle.shelf_store.proofs.Spelled.SpelledShelves.{IsTaller, shelf_absorbed-spelled, shelf_absorbed-values}

module _ {X Y : Type 0} (f : Y → X) (touch : X → X → Bool) (combine : X → X → X) where
  -- the last element of a list has no next one
  merged-end : (front : List Y) (x : X) → merged_at touch combine (length front) (map f front ++ x ∷ []) ≡ map f front ++ x ∷ []
  merged-end [] x = refl
  merged-end (y ∷ front) x = ap (λ (xs : List X). f y ∷ xs) (merged-end front x)

  -- two neighbours that don't touch stay
  merged-apart : (front : List Y) (x next : X) (back : List X) → touch x next ≡ false → merged_at touch combine (length front) (map f front ++ x ∷ next ∷ back) ≡ map f front ++ x ∷ next ∷ back
  merged-apart [] x next back e = rw e refl
  merged-apart (y ∷ front) x next back e = ap (λ (xs : List X). f y ∷ xs) (merged-apart front x next back e)

  -- two that touch are combined
  merged-touching : (front : List Y) (x next : X) (back : List X) → touch x next ≡ true → merged_at touch combine (length front) (map f front ++ x ∷ next ∷ back) ≡ map f front ++ combine x next ∷ back
  merged-touching [] x next back e = rw e refl
  merged-touching (y ∷ front) x next back e = ap (λ (xs : List X). f y ∷ xs) (merged-touching front x next back e)

-- what a step that merges a shelf with the next one makes of the lists of shelves, and what these spell
pub record MergesShelf (atlas : AtlasRecords) (step : Step) (change : Notes → Notes) (around : Around) (entry : Entry) : Type 0 where
  pub rest : List Entry
  pub left_unused : List ℕ
  pub gone : List ℕ
  pub flagged : IsFlagged (with_records atlas step.records) (lists_of (around.before ++ entry ∷ rest) left_unused gone)
  pub merged :
      map (spelled_shelf (with_records atlas step.records)) (around.before ++ entry ∷ rest)
      ≡ merged_at both_empty combined_shelves (length around.before) (map (spelled_shelf atlas) (around.before ++ entry ∷ around.after))
  pub counted : length left_unused ≡ step.made_unused + length around.unused_items
  pub holds : (notes : Notes) (by_height : List BoundedShelf) → HoldsExceptNoted atlas (around.before ++ entry ∷ around.after) notes by_height → HoldsExceptNoted (with_records atlas step.records) (around.before ++ entry ∷ rest) (change notes) by_height
  pub seconds : (seconds : List ℕ) → AreSecondsOf atlas.records.items (around.before ++ entry ∷ around.after) seconds → AreSecondsOf step.records.items (around.before ++ entry ∷ rest) seconds

-- nothing is merged
shelf-kept : {atlas : AtlasRecords} (around : Around) (entry : Entry) → merged_at both_empty combined_shelves (length around.before) (map (spelled_shelf atlas) around.before ++ map (spelled_shelf atlas) (entry ∷ around.after)) ≡ map (spelled_shelf atlas) around.before ++ map (spelled_shelf atlas) (entry ∷ around.after) → IsFlagged atlas (with_entry around entry) → MergesShelf atlas (record { records = atlas.records; made_unused = 0 }) (λ notes. notes) around entry
shelf-kept {atlas} around entry stays flagged =
    let whole : map (spelled_shelf atlas) (around.before ++ entry ∷ around.after) ≡ map (spelled_shelf atlas) around.before ++ map (spelled_shelf atlas) (entry ∷ around.after) = map-append (spelled_shelf atlas) around.before (entry ∷ around.after) in
    record {
      rest = around.after;
      left_unused = around.unused_items;
      gone = around.unused_shelves;
      flagged = flagged;
      merged = whole ∙ sym stays ∙ ap (merged_at both_empty combined_shelves (length around.before)) (sym whole);
      counted = omega arith;
      holds = λ notes by_height holds. holds;
      seconds = λ seconds are. are;
    }

-- two shelves stand in one column where they begin at one place
columns-same : (one other width : ℕ) → one % width ≡ 0 → other % width ≡ 0 → (one / width == other / width) ≡ (one == other)
columns-same one other width h k = by_test (one == other) refl
  where
    by_test : (b : Bool) → (one == other) ≡ b → (one / width == other / width) ≡ (one == other)
    by_test true e = let same : one ≡ other = eqb-true one other e in rw same (grind arith)
    by_test false e =
        let differ : one / width ≢ other / width = λ same.
        let again : one ≡ other = multiple one width h ∙ ap (λ c. c * width) same ∙ sym (multiple other width k) in
        grind (arith, again, e) in
        let test : (one / width == other / width) ≡ false = grind (arith, differ) in
        test ∙ sym e

-- two shelves merge where they say that they are empty and begin at one place
touch-same : (atlas : AtlasRecords) (entry next : Entry) → along_of atlas.records.shelves entry.number % atlas.frame.column_width ≡ 0 → along_of atlas.records.shelves next.number % atlas.frame.column_width ≡ 0 → HasFlag atlas entry → HasFlag atlas next → both_empty (spelled_shelf atlas entry) (spelled_shelf atlas next) ≡ are_both_empty atlas.records.shelves entry.number next.number
touch-same atlas entry next along next_along flag next_flag =
    rw (columns-same (along_of atlas.records.shelves entry.number) (along_of atlas.records.shelves next.number) atlas.frame.column_width along next_along, flag, next_flag) refl

-- an empty shelf has one item, which is free
pub record HasOneFree (items : List LinkedItem) (numbers : List ℕ) : Type 0 where
  pub item : ℕ
  pub alone : numbers ≡ item ∷ []
  pub free : is_allocated_at items item ≡ false

one-free-of : (items : List LinkedItem) (numbers : List ℕ) → is_one_free (map (item_at items) numbers) ≡ true → HasOneFree items numbers
one-free-of items [] e = absurd (cc)
one-free-of items (x ∷ []) e =
    let unmarked : (b : Bool) → not b ≡ true → b ≡ false = λ b h. grind arith in
    record { item = x; alone = refl; free = unmarked (is_allocated_at items x) (sym (free-item items x (is_allocated_at items x) refl) ∙ e) }
one-free-of items (x ∷ y ∷ ys) e = absurd (cc)

-- the next shelf is absorbed with its item
shelf-taken : {atlas : AtlasRecords} (around : Around) (entry : Entry) (next item : ℕ) (free : List ℕ) → both_empty (spelled_shelf atlas entry) (spelled_shelf atlas (entry_of next (item ∷ []) free)) ≡ true → along_of atlas.records.shelves next ≡ along_of atlas.records.shelves entry.number → is_allocated_at atlas.records.items item ≡ false → IsFlagged atlas (lists_of (around.before ++ entry ∷ entry_of next (item ∷ []) free ∷ around.after) around.unused_items around.unused_shelves) → MergesShelf atlas (shelf_of_item_absorbed entry.number next (Some item) atlas.records) (shelf_of_item_absorbed_notes entry.number next (Some item)) (record around { after = entry_of next (item ∷ []) free ∷ around.after }) entry
shelf-taken {atlas} around entry next item free touch column is_free flagged =
    let old : List LinkedShelf = atlas.records.shelves in
    let items : List LinkedItem = atlas.records.items in
    let spelled = flagged.spelled in
    let gone : Entry = entry_of next (item ∷ []) free in
    let height : ℕ = height_of old entry.number + height_of old next in
    let records : Records = (shelf_of_item_absorbed entry.number next (Some item) atlas.records).records in
    let new : AtlasRecords = with_records atlas records in
    let apart = linked-apart (record around { after = gone ∷ around.after }) entry spelled.linked in
    let taller : IsTaller atlas.records records entry.number height = shelf_absorbed-values atlas.records entry.number next item height apart.number in
    let before_same : map (spelled_shelf new) around.before ≡ map (spelled_shelf atlas) around.before =
    others-spelled atlas records around.before taller.along (λ k stands. (taller.others k (apart.numbers k (omega (arith, stands)))).height) taller.items in
    let after_same : map (spelled_shelf new) around.after ≡ map (spelled_shelf atlas) around.after =
    others-spelled atlas records around.after taller.along (λ k stands. (taller.others k (apart.numbers k (omega (arith, stands)))).height) taller.items in
    let own : spelled_shelf new entry ≡ combined_shelves (spelled_shelf atlas entry) (spelled_shelf atlas gone) = shelf-is atlas records entry height (taller.along entry.number) taller.own taller.items in
    let tail = Each-back (HasFlag atlas) around.before (entry ∷ gone ∷ around.after) flagged.flags in
    record {
      rest = around.after;
      left_unused = item ∷ around.unused_items;
      gone = next ∷ around.unused_shelves;
      flagged =
          record {
            spelled = shelf_absorbed-spelled around entry next item free column is_free spelled;
            flags = Each-append (HasFlag new) around.before (entry ∷ around.after)
                (flags-same atlas new around.before (λ k stands. taller.is_empty k) before_same (Each-front (HasFlag atlas) around.before (entry ∷ gone ∷ around.after) flagged.flags))
                (taller.is_empty entry.number ∙ tail.0 ∙ ap is_empty (sym own), flags-same atlas new around.after (λ k stands. taller.is_empty k) after_same tail.1.1);
          };
      merged = map-append (spelled_shelf new) around.before (entry ∷ around.after)
          ∙ ap (λ (ss : List Shelf). ss ++ spelled_shelf new entry ∷ map (spelled_shelf new) around.after) before_same
          ∙ ap (λ (s : Shelf). map (spelled_shelf atlas) around.before ++ s ∷ map (spelled_shelf new) around.after) own
          ∙ ap (λ (ss : List Shelf). map (spelled_shelf atlas) around.before ++ combined_shelves (spelled_shelf atlas entry) (spelled_shelf atlas gone) ∷ ss) after_same
          ∙ sym (merged-touching (spelled_shelf atlas) both_empty combined_shelves around.before (spelled_shelf atlas entry) (spelled_shelf atlas gone) (map (spelled_shelf atlas) around.after) touch)
          ∙ ap (merged_at both_empty combined_shelves (length around.before)) (sym (map-append (spelled_shelf atlas) around.before (entry ∷ gone ∷ around.after)));
      counted = omega arith;
      holds = λ notes by_height holds. absorbed-holds atlas records around.before around.after entry gone height notes by_height taller holds;
      seconds = λ seconds are. seconds-absorbed items records.items around.before around.after entry gone seconds (λ k. (taller.items k).item) are;
    }
  where
    others-spelled : (atlas : AtlasRecords) (records : Records) (es : List Entry) → ((k : ℕ) → along_of records.shelves k ≡ along_of atlas.records.shelves k) → ((k : ℕ) → 1 ≤ times k (shelf_numbers es) → height_of records.shelves k ≡ height_of atlas.records.shelves k) → ((k : ℕ) → SameItem atlas.records.items records.items k) → map (spelled_shelf (with_records atlas records)) es ≡ map (spelled_shelf atlas) es
    others-spelled atlas records [] along height same = refl
    others-spelled atlas records (e ∷ es) along height same =
        ap (λ (s : Shelf). s ∷ map (spelled_shelf (with_records atlas records)) es) (shelf-is atlas records e (height_of atlas.records.shelves e.number) (along e.number) (height e.number (omega (arith, times-here e.number (shelf_numbers es)))) same)
        ∙ ap (λ (ss : List Shelf). spelled_shelf atlas e ∷ ss) (others-spelled atlas records es along (λ k stands. height k (omega (arith, stands))) same)

-- the link from a shelf to the next one
pub next-link : {atlas : AtlasRecords} (around : Around) (entry : Entry) → IsSpelled atlas (with_entry around entry) → link_at shelf_chain.next atlas.records.shelves entry.number ≡ first_or None (shelf_numbers around.after)
next-link {atlas} around entry spelled =
    next-is (link_at shelf_chain.next atlas.records.shelves) (shelf_numbers around.before) (shelf_numbers around.after) entry.number atlas.records.first_shelf None
    (rw (← shelf_numbers-append around.before (entry ∷ around.after)) spelled.linked.shelves.forward)

-- the link from a shelf to the previous one
pub previous-link : {atlas : AtlasRecords} (around : Around) (entry : Entry) → IsSpelled atlas (with_entry around entry) → link_at shelf_chain.previous atlas.records.shelves entry.number ≡ last_or None (shelf_numbers around.before)
previous-link {atlas} around entry spelled =
    previous-is (link_at shelf_chain.previous atlas.records.shelves) (shelf_numbers around.before) (shelf_numbers around.after) entry.number None
    (rw (← shelf_numbers-append around.before (entry ∷ around.after)) spelled.linked.shelves.backward)

-- what is known of a shelf and the next one
pub record AreNeighbours (atlas : AtlasRecords) (entry next : Entry) : Type 0 where
  pub touch : both_empty (spelled_shelf atlas entry) (spelled_shelf atlas next) ≡ are_both_empty atlas.records.shelves entry.number next.number
  pub named : empty_next atlas.records.shelves entry.number ≡ empty_named atlas.records.shelves entry.number (Some next.number)
  pub is : IsEntry atlas.records next

pub neighbours : {atlas : AtlasRecords} (around : Around) (entry next : Entry) → IsFlagged atlas (lists_of (around.before ++ entry ∷ next ∷ around.after) around.unused_items around.unused_shelves) → AreNeighbours atlas entry next
neighbours {atlas} around entry next flagged =
    let placed = Each-back (IsPlaced atlas) around.before (entry ∷ next ∷ around.after) flagged.spelled.placed in
    let flags = Each-back (HasFlag atlas) around.before (entry ∷ next ∷ around.after) flagged.flags in
    let are = Each-back (IsEntry atlas.records) around.before (entry ∷ next ∷ around.after) flagged.spelled.linked.entries in
    record {
      touch = touch-same atlas entry next placed.0.along placed.1.0.along flags.0 flags.1.0;
      named = ap (empty_named atlas.records.shelves entry.number) (next-link (record around { after = next ∷ around.after }) entry flagged.spelled);
      is = are.1.0;
    }

-- a shelf was merged with the next one, where both are empty and stand in one column
pub merges-shelf : (atlas : AtlasRecords) (before after : List Entry) (entry : Entry) (unused shelves : List ℕ) → IsFlagged atlas (lists_of (before ++ entry ∷ after) unused shelves) → MergesShelf atlas (shelf_merged entry.number atlas.records) (shelf_merged_notes entry.number atlas.records) (around_of before after unused shelves) entry
merges-shelf atlas before [] entry unused shelves flagged =
    let none : empty_next atlas.records.shelves entry.number ≡ None = ap (empty_named atlas.records.shelves entry.number) (next-link (around_of before [] unused shelves) entry flagged.spelled) in
    subst (λ (o : Option ℕ). MergesShelf atlas (shelf_next_absorbed entry.number o atlas.records) (next_absorbed_notes entry.number o atlas.records) (around_of before [] unused shelves) entry) (sym none)
    (shelf-kept (around_of before [] unused shelves) entry (merged-end (spelled_shelf atlas) both_empty combined_shelves before (spelled_shelf atlas entry)) flagged)
merges-shelf atlas before (next ∷ after) entry unused shelves flagged = by_test (are_both_empty atlas.records.shelves entry.number next.number) refl
  where
    near : AreNeighbours atlas entry next
    near = neighbours (around_of before after unused shelves) entry next flagged

    absorbed : are_both_empty atlas.records.shelves entry.number next.number ≡ true → HasOneFree atlas.records.items next.items → MergesShelf atlas (shelf_next_absorbed entry.number (Some next.number) atlas.records) (next_absorbed_notes entry.number (Some next.number) atlas.records) (around_of before (next ∷ after) unused shelves) entry
    absorbed e one =
        let same : entry_of next.number (one.item ∷ []) next.free_list ≡ next = ap (λ ns. entry_of next.number ns next.free_list) (sym one.alone) in
        let first : first_item_of atlas.records.shelves next.number ≡ Some one.item =
        Leads-start (link_at item_chain.next atlas.records.items) next.items (first_item_of atlas.records.shelves next.number) None near.is.items.forward ∙ ap (first_or None) one.alone in
        let column : along_of atlas.records.shelves entry.number ≡ along_of atlas.records.shelves next.number =
        eqb-true (along_of atlas.records.shelves entry.number) (along_of atlas.records.shelves next.number)
        (and_parts (along_of atlas.records.shelves entry.number == along_of atlas.records.shelves next.number) (is_empty_at atlas.records.shelves entry.number && is_empty_at atlas.records.shelves next.number) e).0 in
        subst (λ (o : Option ℕ). MergesShelf atlas (shelf_of_item_absorbed entry.number next.number o atlas.records) (shelf_of_item_absorbed_notes entry.number next.number o) (around_of before (next ∷ after) unused shelves) entry) (sym first)
        (subst (λ (n : Entry). MergesShelf atlas (shelf_of_item_absorbed entry.number next.number (Some one.item) atlas.records) (shelf_of_item_absorbed_notes entry.number next.number (Some one.item)) (around_of before (n ∷ after) unused shelves) entry) same
        (shelf-taken (around_of before after unused shelves) entry next.number one.item next.free_list
        (subst (λ (n : Entry). both_empty (spelled_shelf atlas entry) (spelled_shelf atlas n) ≡ true) (sym same) (near.touch ∙ e))
        (sym column) one.free
        (subst (λ (n : Entry). IsFlagged atlas (lists_of (before ++ entry ∷ n ∷ after) unused shelves)) (sym same) flagged)))

    by_test : (b : Bool) → are_both_empty atlas.records.shelves entry.number next.number ≡ b → MergesShelf atlas (shelf_merged entry.number atlas.records) (shelf_merged_notes entry.number atlas.records) (around_of before (next ∷ after) unused shelves) entry
    by_test false e =
        let none : empty_named atlas.records.shelves entry.number (Some next.number) ≡ None = simp e refl in
        subst (λ (o : Option ℕ). MergesShelf atlas (shelf_next_absorbed entry.number o atlas.records) (next_absorbed_notes entry.number o atlas.records) (around_of before (next ∷ after) unused shelves) entry) (sym (near.named ∙ none))
        (shelf-kept (around_of before (next ∷ after) unused shelves) entry
        (merged-apart (spelled_shelf atlas) both_empty combined_shelves before (spelled_shelf atlas entry) (spelled_shelf atlas next) (map (spelled_shelf atlas) after) (near.touch ∙ e)) flagged)
    by_test true e =
        let some : empty_named atlas.records.shelves entry.number (Some next.number) ≡ Some next.number = simp e refl in
        let empty = and_parts (is_empty (spelled_shelf atlas entry)) (is_empty (spelled_shelf atlas next))
        (and_parts ((spelled_shelf atlas entry).column == (spelled_shelf atlas next).column) (is_empty (spelled_shelf atlas entry) && is_empty (spelled_shelf atlas next)) (near.touch ∙ e)).1 in
        subst (λ (o : Option ℕ). MergesShelf atlas (shelf_next_absorbed entry.number o atlas.records) (next_absorbed_notes entry.number o atlas.records) (around_of before (next ∷ after) unused shelves) entry) (sym (near.named ∙ some))
        (absorbed e (one-free-of atlas.records.items next.items empty.1))
