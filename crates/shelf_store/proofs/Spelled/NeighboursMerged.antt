-- Records that spell lists, and whose shelves say whether they are empty, after a shelf was merged with its neighbours.
use Rattle.shelf_records.proofs.AllLists.LinkedEdits.{Around, around_of, with_entry}
use Rattle.std.proofs.Common.{◌≡◌, ℕ, suc, ◌+◌, ◌≤◌, ◌<◌, Bool, true, false, Option, None, Some, List, [], ◌∷◌, ◌++◌, length, map, refl, ap, subst, arith, sym, ◌∙◌, append_assoc}
use Rattle.std.proofs.lemmas.List.{length-append}
use Rattle.std.specs.Prelude.{slice_get}
use Rattle.etagere_base.proofs.TimesLemmas.{times-append}
use Rattle.etagere_base.specs.Lists.{times}
use Rattle.etagere_base.specs.MergingAt.{merged_at, merged_before}
use Rattle.etagere_links.specs.Edits.{link_at}
use Rattle.shelf_records.specs.ListEnds.{last_or}
use Rattle.shelf_records.specs.Neighbours.{HasNeighbours, NamesOneOf}
use Rattle.shelf_records.specs.RecordLists.{Entry, first_item_of, item_numbers, shelf_numbers}
use Rattle.shelf_records.specs.Records.{shelf_chain}
use Rattle.shelf_records.proofs.AllLists.LinkedFrames.{item_numbers-append, shelf_numbers-append}
use Rattle.shelf_records.proofs.AllLists.LinkedUnused.{lists_of}
use Rattle.etagere_links.proofs.ListEnds.{times-here}
use Rattle.shelf_records.proofs.ListEnds.{last-append}
use Rattle.shelf_records.specs.AtlasRecords.{AtlasRecords, height_of, spelled_shelf}
use Rattle.shelf_model.specs.Merging.{both_empty, combined_shelves}
use Rattle.shelf_model.specs.Places.{column_height}
use Rattle.shelf_store.specs.Private.ItemReturned.{Step, CanMergeShelves, HeightsFit, IsLinkedBack, are_both_empty, empty_named, empty_next, named_shelf_merged, shelf_merged, shelves_merged}
use Rattle.shelf_store.specs.Private.ReturnedNotes.{CanMergeAllNotes, CanMergeNamedNotes, CanMergeNotes, named_shelf_merged_notes, shelf_merged_notes, shelves_merged_notes}
use Rattle.shelf_model.specs.State.{Shelf}
use Rattle.shelf_heights.specs.declared.by_height.BoundedShelf.{BoundedShelf}
use Rattle.shelf_store.specs.Private.SecondWidths.{AreSecondsOf}
use Rattle.shelf_store.specs.Private.Settling.{HoldsExceptNoted}
use Rattle.shelf_notes.specs.Private.Pending.{Notes}
use Rattle.shelf_model.proofs.Places.Heights.{column_height-merged_at, heights-le}
use Rattle.shelf_store.proofs.Spelled.EmptinessSaid.{IsFlagged}
use Rattle.shelf_store.proofs.Spelled.ItemsAround.{by_end}
use Rattle.shelf_store.proofs.Spelled.NeighboursThere.{first_item-there, shelf-neighbours}
use Rattle.shelf_store.proofs.Spelled.ShelvesMerged.{AreNeighbours, MergesShelf, merges-shelf, neighbours, next-link, previous-link}
use Rattle.shelf_store.proofs.Spelled.SpelledLists.{with_records}

-- what a step that merges a shelf with its neighbours makes of the lists of shelves, and what these spell
pub record MergesShelves (atlas : AtlasRecords) (step : Step) (change : Notes → Notes) (around : Around) (entry : Entry) : Type 0 where
  pub entries : List Entry
  pub left_unused : List ℕ
  pub gone : List ℕ
  pub flagged : IsFlagged (with_records atlas step.records) (lists_of entries left_unused gone)
  pub merged :
      map (spelled_shelf (with_records atlas step.records)) entries
      ≡ merged_before both_empty combined_shelves (length around.before)
      (merged_at both_empty combined_shelves (length around.before) (map (spelled_shelf atlas) (around.before ++ entry ∷ around.after)))
  pub counted : length left_unused ≡ step.made_unused + length around.unused_items
  pub holds : (notes : Notes) (by_height : List BoundedShelf) → HoldsExceptNoted atlas (around.before ++ entry ∷ around.after) notes by_height → HoldsExceptNoted (with_records atlas step.records) entries (change notes) by_height
  pub seconds : (seconds : List ℕ) → AreSecondsOf atlas.records.items (around.before ++ entry ∷ around.after) seconds → AreSecondsOf step.records.items entries seconds

-- one more than the elements of a front
one-more : {X : Type 0} (front : List X) (x : X) → length (front ++ x ∷ []) ≡ suc (length front)
one-more front x = omega (arith, length-append front (x ∷ []))

-- the shelf before one, which has one before it
last-named : {atlas : AtlasRecords} (around : Around) (last entry : Entry) → IsFlagged atlas (lists_of ((around.before ++ last ∷ []) ++ entry ∷ around.after) around.unused_items around.unused_shelves) → link_at shelf_chain.previous atlas.records.shelves entry.number ≡ Some last.number
last-named {atlas} around last entry flagged =
    previous-link (record around { before = around.before ++ last ∷ [] }) entry flagged.spelled
    ∙ ap (last_or None) (shelf_numbers-append around.before (last ∷ []))
    ∙ last-append (shelf_numbers around.before) last.number None

-- a shelf was merged with its neighbours, where they are empty and stand in one column
pub merges-shelves : {atlas : AtlasRecords} (around : Around) (entry : Entry) → IsFlagged atlas (with_entry around entry) → MergesShelves atlas (shelves_merged entry.number atlas.records) (shelves_merged_notes entry.number atlas.records) around entry
merges-shelves {atlas} around entry flagged =
    by_end (λ (xs : List Entry). MergesShelf atlas (shelf_merged entry.number atlas.records) (shelf_merged_notes entry.number atlas.records) (record around { before = xs }) entry → MergesShelves atlas (shelves_merged entry.number atlas.records) (shelves_merged_notes entry.number atlas.records) (record around { before = xs }) entry)
    first some around.before (merges-shelf atlas around.before around.after entry around.unused_items around.unused_shelves flagged)
  where
    one : Step
    one = shelf_merged entry.number atlas.records

    middle : AtlasRecords
    middle = with_records atlas one.records

    link : Option ℕ
    link = link_at shelf_chain.previous one.records.shelves entry.number

    whole : Option ℕ → Step
    whole named = record { records = (named_shelf_merged named one.records).records; made_unused = one.made_unused + (named_shelf_merged named one.records).made_unused }

    change : Option ℕ → Notes → Notes
    change named notes = named_shelf_merged_notes named one.records (shelf_merged_notes entry.number atlas.records notes)

    first : MergesShelf atlas one (shelf_merged_notes entry.number atlas.records) (record around { before = [] }) entry → MergesShelves atlas (whole link) (change link) (record around { before = [] }) entry
    first merges =
        let none : link ≡ None = previous-link (around_of [] merges.rest merges.left_unused merges.gone) entry merges.flagged.spelled in
        subst (λ (o : Option ℕ). MergesShelves atlas (whole o) (change o) (record around { before = [] }) entry) (sym none)
        (record { entries = entry ∷ merges.rest; left_unused = merges.left_unused; gone = merges.gone; flagged = merges.flagged; merged = merges.merged; counted = omega (arith, merges.counted); holds = merges.holds; seconds = merges.seconds })

    some : (xs : List Entry) (last : Entry) → MergesShelf atlas one (shelf_merged_notes entry.number atlas.records) (record around { before = xs ++ last ∷ [] }) entry → MergesShelves atlas (whole link) (change link) (record around { before = xs ++ last ∷ [] }) entry
    some xs last merges =
        let named : link ≡ Some last.number = last-named (around_of xs merges.rest merges.left_unused merges.gone) last entry merges.flagged in
        let regrouped : (xs ++ last ∷ []) ++ entry ∷ merges.rest ≡ xs ++ last ∷ entry ∷ merges.rest = append_assoc xs (last ∷ []) (entry ∷ merges.rest) in
        let two : MergesShelf middle (shelf_merged last.number one.records) (shelf_merged_notes last.number one.records) (around_of xs (entry ∷ merges.rest) merges.left_unused merges.gone) last =
        merges-shelf middle xs (entry ∷ merges.rest) last merges.left_unused merges.gone
        (subst (λ (es : List Entry). IsFlagged middle (lists_of es merges.left_unused merges.gone)) regrouped merges.flagged) in
        subst (λ (o : Option ℕ). MergesShelves atlas (whole o) (change o) (record around { before = xs ++ last ∷ [] }) entry) (sym named)
        (record {
          entries = xs ++ last ∷ two.rest;
          left_unused = two.left_unused;
          gone = two.gone;
          flagged = two.flagged;
          merged = two.merged
              ∙ ap (λ (es : List Entry). merged_at both_empty combined_shelves (length xs) (map (spelled_shelf middle) es)) (sym regrouped)
              ∙ ap (merged_at both_empty combined_shelves (length xs)) merges.merged
              ∙ ap (λ n. merged_before both_empty combined_shelves n (merged_at both_empty combined_shelves (length (xs ++ last ∷ [])) (map (spelled_shelf atlas) ((xs ++ last ∷ []) ++ entry ∷ around.after)))) (sym (one-more xs last));
          counted = omega (arith, two.counted, merges.counted);
          holds = λ notes by_height holds. two.holds (shelf_merged_notes entry.number atlas.records notes) by_height
              (subst (λ (es : List Entry). HoldsExceptNoted middle es (shelf_merged_notes entry.number atlas.records notes) by_height) regrouped (merges.holds notes by_height holds));
          seconds = λ seconds are. two.seconds seconds (subst (λ (es : List Entry). AreSecondsOf one.records.items es seconds) regrouped (merges.seconds seconds are));
        })

-- two neighbours, read by their numbers
pub get-here : {X Y : Type 0} (f : X → Y) (front : List X) (x : X) (back : List X) → slice_get (map f (front ++ x ∷ back)) (length front) ≡ Some (f x)
get-here f [] x back = refl
get-here f (y ∷ front) x back = get-here f front x back

get-next : {X Y : Type 0} (f : X → Y) (front : List X) (x next : X) (back : List X) → slice_get (map f (front ++ x ∷ next ∷ back)) (suc (length front)) ≡ Some (f next)
get-next f [] x next back = refl
get-next f (y ∷ front) x next back = get-next f front x next back

-- no column is taller than 16 bits can say
abbrev pub AreLow : List Shelf → Type 0
AreLow shelves = (column : ℕ) → column_height column shelves ≤ 65535

-- the shelf before one links to it
pub shelf-before : {atlas : AtlasRecords} (around : Around) (entry : Entry) → IsFlagged atlas (with_entry around entry) → IsLinkedBack entry.number atlas.records.shelves
shelf-before {atlas} around entry =
    by_end (λ (xs : List Entry). IsFlagged atlas (lists_of (xs ++ entry ∷ around.after) around.unused_items around.unused_shelves) → IsLinkedBack entry.number atlas.records.shelves)
    (λ flagged n e. let none : link_at shelf_chain.previous atlas.records.shelves entry.number ≡ None = previous-link (record around { before = [] }) entry flagged.spelled in absurd (cc (none, e)))
    some around.before
  where
    some : (xs : List Entry) (last : Entry) → IsFlagged atlas (lists_of ((xs ++ last ∷ []) ++ entry ∷ around.after) around.unused_items around.unused_shelves) → IsLinkedBack entry.number atlas.records.shelves
    some xs last flagged n e =
        let named : link_at shelf_chain.previous atlas.records.shelves entry.number ≡ Some last.number = last-named (record around { before = xs }) last entry flagged in
        let same : last.number ≡ n = cc (named, e) in
        let regrouped : IsFlagged atlas (lists_of (xs ++ last ∷ entry ∷ around.after) around.unused_items around.unused_shelves) =
        subst (λ (es : List Entry). IsFlagged atlas (lists_of es around.unused_items around.unused_shelves)) (append_assoc xs (last ∷ []) (entry ∷ around.after)) flagged in
        subst (λ m. link_at shelf_chain.next atlas.records.shelves m ≡ Some entry.number) same
        (next-link (record around { before = xs; after = entry ∷ around.after }) last regrouped.spelled)

-- the heights of a shelf and the next one fit 16 bits
heights-fit : (atlas : AtlasRecords) (before after : List Entry) (entry : Entry) (unused shelves : List ℕ) → AreLow (map (spelled_shelf atlas) (before ++ entry ∷ after)) → IsFlagged atlas (lists_of (before ++ entry ∷ after) unused shelves) → HeightsFit entry.number atlas.records.shelves
heights-fit atlas before [] entry unused shelves low flagged n e =
    let none : empty_next atlas.records.shelves entry.number ≡ None = ap (empty_named atlas.records.shelves entry.number) (next-link (around_of before [] unused shelves) entry flagged.spelled) in
    absurd (cc (none, e))
heights-fit atlas before (next ∷ after) entry unused shelves low flagged n e = by_test (are_both_empty atlas.records.shelves entry.number next.number) refl
  where
    near : AreNeighbours atlas entry next
    near = neighbours (around_of before after unused shelves) entry next flagged

    all : List Shelf
    all = map (spelled_shelf atlas) (before ++ entry ∷ next ∷ after)

    by_test : (b : Bool) → are_both_empty atlas.records.shelves entry.number next.number ≡ b → height_of atlas.records.shelves entry.number + height_of atlas.records.shelves n < 65536
    by_test false t =
        let none : empty_named atlas.records.shelves entry.number (Some next.number) ≡ None = simp t refl in
        absurd (cc (near.named, none, e))
    by_test true t =
        let some : empty_named atlas.records.shelves entry.number (Some next.number) ≡ Some next.number = simp t refl in
        let same : next.number ≡ n = cc (near.named, some, e) in
        let both : height_of atlas.records.shelves entry.number + height_of atlas.records.shelves next.number ≤ column_height (spelled_shelf atlas entry).column all =
        heights-le (length before) all (spelled_shelf atlas entry) (spelled_shelf atlas next) (get-here (spelled_shelf atlas) before entry (next ∷ after)) (get-next (spelled_shelf atlas) before entry next after) (near.touch ∙ t) in
        subst (λ m. height_of atlas.records.shelves entry.number + height_of atlas.records.shelves m < 65536) same (omega (arith, both, low (spelled_shelf atlas entry).column))

-- and so do those that merging it with its neighbours adds up
pub can-merge-shelves : {atlas : AtlasRecords} (around : Around) (entry : Entry) → AreLow (map (spelled_shelf atlas) (around.before ++ entry ∷ around.after)) → IsFlagged atlas (with_entry around entry) → CanMergeShelves entry.number atlas.records
can-merge-shelves {atlas} around entry low flagged =
    record {
      next = heights-fit atlas around.before around.after entry around.unused_items around.unused_shelves low flagged;
      previous =
          by_end (λ (xs : List Entry). AreLow (map (spelled_shelf atlas) (xs ++ entry ∷ around.after)) → MergesShelf atlas one (shelf_merged_notes entry.number atlas.records) (record around { before = xs }) entry → (n : ℕ) → link ≡ Some n → HeightsFit n one.records.shelves)
          first some around.before low merged;
      linked = shelf-before (around_of around.before merged.rest merged.left_unused merged.gone) entry merged.flagged;
    }
  where
    one : Step
    one = shelf_merged entry.number atlas.records

    middle : AtlasRecords
    middle = with_records atlas one.records

    merged : MergesShelf atlas one (shelf_merged_notes entry.number atlas.records) around entry
    merged = merges-shelf atlas around.before around.after entry around.unused_items around.unused_shelves flagged

    link : Option ℕ
    link = link_at shelf_chain.previous one.records.shelves entry.number

    first : AreLow (map (spelled_shelf atlas) (entry ∷ around.after)) → MergesShelf atlas one (shelf_merged_notes entry.number atlas.records) (record around { before = [] }) entry → (n : ℕ) → link ≡ Some n → HeightsFit n one.records.shelves
    first low_ merges n e =
        let none : link ≡ None = previous-link (around_of [] merges.rest merges.left_unused merges.gone) entry merges.flagged.spelled in
        absurd (cc (none, e))

    some : (xs : List Entry) (last : Entry) → AreLow (map (spelled_shelf atlas) ((xs ++ last ∷ []) ++ entry ∷ around.after)) → MergesShelf atlas one (shelf_merged_notes entry.number atlas.records) (record around { before = xs ++ last ∷ [] }) entry → (n : ℕ) → link ≡ Some n → HeightsFit n one.records.shelves
    some xs last low_ merges n e =
        let named : link ≡ Some last.number = last-named (around_of xs merges.rest merges.left_unused merges.gone) last entry merges.flagged in
        let same : last.number ≡ n = cc (named, e) in
        let regrouped : (xs ++ last ∷ []) ++ entry ∷ merges.rest ≡ xs ++ last ∷ entry ∷ merges.rest = append_assoc xs (last ∷ []) (entry ∷ merges.rest) in
        let still_low : AreLow (map (spelled_shelf middle) (xs ++ last ∷ entry ∷ merges.rest)) = λ column.
        let all : map (spelled_shelf middle) (xs ++ last ∷ entry ∷ merges.rest) ≡ merged_at both_empty combined_shelves (length (xs ++ last ∷ [])) (map (spelled_shelf atlas) ((xs ++ last ∷ []) ++ entry ∷ around.after)) =
        ap (map (spelled_shelf middle)) (sym regrouped) ∙ merges.merged in
        rw all (omega (arith, low_ column, column_height-merged_at column (length (xs ++ last ∷ [])) (map (spelled_shelf atlas) ((xs ++ last ∷ []) ++ entry ∷ around.after)))) in
        subst (λ m. HeightsFit m one.records.shelves) same
        (heights-fit middle xs (entry ∷ merges.rest) last merges.left_unused merges.gone still_low
        (subst (λ (es : List Entry). IsFlagged middle (lists_of es merges.left_unused merges.gone)) regrouped merges.flagged))

-- a shelf in use has neighbours
in-use-neighbours : {atlas : AtlasRecords} (around : Around) (entry : Entry) → IsFlagged atlas (with_entry around entry) → HasNeighbours shelf_chain atlas.records.shelves entry.number
in-use-neighbours {atlas} around entry flagged =
    shelf-neighbours atlas.records (with_entry around entry) [] [] flagged.spelled.linked entry.number
    (omega (
      arith,
      ap (times entry.number) (shelf_numbers-append around.before (entry ∷ around.after)),
      times-append entry.number (shelf_numbers around.before) (entry.number ∷ shelf_numbers around.after),
      times-here entry.number (shelf_numbers around.after),
    ))

-- what merging a shelf with the next one reads is there
can-merge-notes : (atlas : AtlasRecords) (before after : List Entry) (entry : Entry) (unused shelves : List ℕ) (notes : Notes) (by_height : List BoundedShelf) → IsFlagged atlas (lists_of (before ++ entry ∷ after) unused shelves) → HoldsExceptNoted atlas (before ++ entry ∷ after) notes by_height → CanMergeNotes entry.number atlas.records notes
can-merge-notes atlas before [] entry unused shelves notes by_height flagged holds =
    let none : empty_next atlas.records.shelves entry.number ≡ None = ap (empty_named atlas.records.shelves entry.number) (next-link (around_of before [] unused shelves) entry flagged.spelled) in
    record {
      there =
          record {
            here = in-use-neighbours (around_of before [] unused shelves) entry flagged;
            next = λ n e. absurd (cc (none, e));
            item = λ n e. absurd (cc (none, e));
          };
      few = holds.few;
      known = holds.known;
    }
can-merge-notes atlas before (next ∷ after) entry unused shelves notes by_height flagged holds =
    record {
      there =
          record {
            here = in-use-neighbours (around_of before (next ∷ after) unused shelves) entry flagged;
            next = λ n e. subst (HasNeighbours shelf_chain atlas.records.shelves) (named n e (are_both_empty atlas.records.shelves entry.number next.number) refl) behind;
            item = λ n e. subst (λ m. NamesOneOf atlas.records.items (first_item_of atlas.records.shelves m)) (named n e (are_both_empty atlas.records.shelves entry.number next.number) refl) first;
          };
      few = holds.few;
      known = holds.known;
    }
  where
    near : AreNeighbours atlas entry next
    near = neighbours (around_of before after unused shelves) entry next flagged

    behind : HasNeighbours shelf_chain atlas.records.shelves next.number
    behind =
        shelf-neighbours atlas.records (lists_of (before ++ entry ∷ next ∷ after) unused shelves) [] [] flagged.spelled.linked next.number
        (omega (
          arith,
          ap (times next.number) (shelf_numbers-append before (entry ∷ next ∷ after)),
          times-append next.number (shelf_numbers before) (entry.number ∷ next.number ∷ shelf_numbers after),
          times-append next.number (entry.number ∷ []) (next.number ∷ shelf_numbers after),
          times-here next.number (shelf_numbers after),
        ))

    first : NamesOneOf atlas.records.items (first_item_of atlas.records.shelves next.number)
    first =
        first_item-there atlas.records (lists_of (before ++ entry ∷ next ∷ after) unused shelves) [] [] flagged.spelled.linked next near.is
        (λ k. omega (
          arith,
          item_numbers-append before (entry ∷ next ∷ after) k,
          times-append k entry.items (next.items ++ item_numbers after),
          times-append k next.items (item_numbers after),
        ))

    named : (n : ℕ) → empty_next atlas.records.shelves entry.number ≡ Some n → (b : Bool) → are_both_empty atlas.records.shelves entry.number next.number ≡ b → next.number ≡ n
    named n e false t =
        let none : empty_named atlas.records.shelves entry.number (Some next.number) ≡ None = simp t refl in
        absurd (cc (near.named, none, e))
    named n e true t =
        let some : empty_named atlas.records.shelves entry.number (Some next.number) ≡ Some next.number = simp t refl in
        cc (near.named, some, e)

-- and so are they all when it is merged with its neighbours
pub can-merge-all-notes : {atlas : AtlasRecords} (around : Around) (entry : Entry) (notes : Notes) (by_height : List BoundedShelf) → IsFlagged atlas (with_entry around entry) → HoldsExceptNoted atlas (around.before ++ entry ∷ around.after) notes by_height → CanMergeAllNotes entry.number atlas.records notes
can-merge-all-notes {atlas} around entry notes by_height flagged holds =
    record {
      next = can-merge-notes atlas around.before around.after entry around.unused_items around.unused_shelves notes by_height flagged holds;
      previous =
          by_end (λ (xs : List Entry). HoldsExceptNoted atlas (xs ++ entry ∷ around.after) notes by_height → MergesShelf atlas one (shelf_merged_notes entry.number atlas.records) (record around { before = xs }) entry → CanMergeNamedNotes link one.records (shelf_merged_notes entry.number atlas.records notes))
          first some around.before holds (merges-shelf atlas around.before around.after entry around.unused_items around.unused_shelves flagged);
    }
  where
    one : Step
    one = shelf_merged entry.number atlas.records

    middle : AtlasRecords
    middle = with_records atlas one.records

    link : Option ℕ
    link = link_at shelf_chain.previous one.records.shelves entry.number

    first : HoldsExceptNoted atlas (entry ∷ around.after) notes by_height → MergesShelf atlas one (shelf_merged_notes entry.number atlas.records) (record around { before = [] }) entry → CanMergeNamedNotes link one.records (shelf_merged_notes entry.number atlas.records notes)
    first holds_ merges n e =
        let none : link ≡ None = previous-link (around_of [] merges.rest merges.left_unused merges.gone) entry merges.flagged.spelled in
        absurd (cc (none, e))

    some : (xs : List Entry) (last : Entry) → HoldsExceptNoted atlas ((xs ++ last ∷ []) ++ entry ∷ around.after) notes by_height → MergesShelf atlas one (shelf_merged_notes entry.number atlas.records) (record around { before = xs ++ last ∷ [] }) entry → CanMergeNamedNotes link one.records (shelf_merged_notes entry.number atlas.records notes)
    some xs last holds_ merges n e =
        let named : link ≡ Some last.number = last-named (around_of xs merges.rest merges.left_unused merges.gone) last entry merges.flagged in
        let same : last.number ≡ n = cc (named, e) in
        let regrouped : (xs ++ last ∷ []) ++ entry ∷ merges.rest ≡ xs ++ last ∷ entry ∷ merges.rest = append_assoc xs (last ∷ []) (entry ∷ merges.rest) in
        subst (λ m. CanMergeNotes m one.records (shelf_merged_notes entry.number atlas.records notes)) same
        (can-merge-notes middle xs (entry ∷ merges.rest) last merges.left_unused merges.gone (shelf_merged_notes entry.number atlas.records notes) by_height
        (subst (λ (es : List Entry). IsFlagged middle (lists_of es merges.left_unused merges.gone)) regrouped merges.flagged)
        (subst (λ (es : List Entry). HoldsExceptNoted middle es (shelf_merged_notes entry.number atlas.records notes) by_height) regrouped (merges.holds notes by_height holds_)))
