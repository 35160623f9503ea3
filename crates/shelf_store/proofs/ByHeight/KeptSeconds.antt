-- Widths that no more than one free item of each shelf passes: they stay so for shelves that stay, and that of a shelf in
-- which an item became free is kept anew.
use Rattle.std.proofs.Common.{◌≡◌, ◌≢◌, ℕ, ◌<◌, ◌≤◌, Bool, true, false, cond, List, [], ◌∷◌, ◌++◌, length, map, max, refl, subst, arith, sym}
use Rattle.std.proofs.lemmas.Bool.Decides.{nat_tests}
use Rattle.std.proofs.lemmas.List.{get_or-set_other, get_or-set_same, get_or_past, length-set}
use Rattle.std.specs.Prelude.{nat_lt, set}
use Rattle.std.specs.List.{AllByRecursion}
use Rattle.etagere_base.proofs.EachLemmas.{Each-append, Each-back, Each-front, Each-weaken}
use Rattle.etagere_base.proofs.FrameSides.{column_width-le, sides_low}
use Rattle.etagere_base.specs.declared.frames.Frame.{Frame}
use Rattle.etagere_base.specs.Lists.{NoNeighbours, times}
use Rattle.etagere_links.proofs.ListEnds.{times-here}
use Rattle.shelf_model.specs.Merging.{both_free, merged_items}
use Rattle.shelf_model.specs.Returning.{freed}
use Rattle.shelf_model.specs.State.{Item, Shelf, is_empty, total_width}
use Rattle.shelf_model.specs.Valid.{IsShelf}
use Rattle.shelf_notes.specs.Private.SecondWidths.{second_at}
use Rattle.shelf_records.proofs.AllLists.LinkedItems.{entry_of}
use Rattle.shelf_records.proofs.Spelled.RecordValues.{map-agrees}
use Rattle.shelf_records.specs.AtlasRecords.{AtlasRecords, item_at, spelled_shelf}
use Rattle.shelf_records.proofs.Spelled.StandsKept.{witnesses}
use Rattle.shelf_records.proofs.Spelled.Witnesses.{Each-unmap}
use Rattle.shelf_records.specs.Private.Kept.{AreKept, bare}
use Rattle.shelf_records.specs.RecordLists.{Entry, IsEntry, Records, shelf_numbers, walked_lists}
use Rattle.shelf_records.specs.declared.records.LinkedItem.{LinkedItem}
use Rattle.shelf_store.proofs.ByHeight.FreedBounds.{IsWithin}
use Rattle.shelf_store.proofs.ByHeight.NewByHeight.{widths-within}
use Rattle.shelf_store.proofs.ByHeight.SecondWidths.{few-of-one-free, fewer-wider, freed-wider-one, freed-wider-same, within-none}
use Rattle.shelf_store.specs.Private.ReturnedNotes.{freed_width}
use Rattle.shelf_store.specs.Private.SecondWidths.{AreSeconds, AreSecondsOf, IsSecondOf, second_after, wider_count}

-- the width that was kept of a shelf, and that of another one
second-own : (seconds : List ℕ) (shelf second : ℕ) → shelf < length seconds → second_at (set seconds shelf second) shelf ≡ second
second-own seconds shelf second below = get_or-set_same seconds shelf second 65535 below

second-other : (seconds : List ℕ) (shelf second k : ℕ) → k ≢ shelf → second_at (set seconds shelf second) k ≡ second_at seconds k
second-other seconds shelf second k other = get_or-set_other seconds shelf k second 65535 other

second-past : (seconds : List ℕ) (shelf second : ℕ) → length seconds ≤ shelf → second_at (set seconds shelf second) shelf ≡ 65535
second-past seconds shelf second past = get_or_past (set seconds shelf second) shelf 65535 (omega (arith, past, length-set seconds shelf second))

-- shelves whose items stay
seconds-same : (old new : List LinkedItem) (entries : List Entry) (seconds : List ℕ) → ((k : ℕ) → item_at new k ≡ item_at old k) → AreSecondsOf old entries seconds → AreSecondsOf new entries seconds
seconds-same old new entries seconds same are =
    Each-weaken (IsSecondOf old seconds) (IsSecondOf new seconds) entries
    (λ (e : Entry) few. subst (λ (is : List Item). wider_count (second_at seconds e.number) is ≤ 1) (sym (map-agrees (item_at new) (item_at old) e.items (λ k stands. same k))) few) are

-- a shelf took the place of the next one
pub seconds-absorbed : (old new : List LinkedItem) (before after : List Entry) (entry gone : Entry) (seconds : List ℕ) → ((k : ℕ) → item_at new k ≡ item_at old k) → AreSecondsOf old (before ++ entry ∷ gone ∷ after) seconds → AreSecondsOf new (before ++ entry ∷ after) seconds
seconds-absorbed old new before after entry gone seconds same are =
    let tail = Each-back (IsSecondOf old seconds) before (entry ∷ gone ∷ after) are in
    seconds-same old new (before ++ entry ∷ after) seconds same
    (Each-append (IsSecondOf old seconds) before (entry ∷ after) (Each-front (IsSecondOf old seconds) before (entry ∷ gone ∷ after) are) (tail.0, tail.1.1))

-- shelves that are spelled as before
seconds-stay : (atlas new : AtlasRecords) (entries : List Entry) (seconds : List ℕ) → map (spelled_shelf new) entries ≡ map (spelled_shelf atlas) entries → AreSecondsOf atlas.records.items entries seconds → AreSecondsOf new.records.items entries seconds
seconds-stay atlas new [] seconds same are = tt
seconds-stay atlas new (e ∷ es) seconds same are =
    let first : spelled_shelf new e ≡ spelled_shelf atlas e = cc in
    let rest : map (spelled_shelf new) es ≡ map (spelled_shelf atlas) es = cc in
    (subst (λ (s : Shelf). wider_count (second_at seconds e.number) s.items ≤ 1) (sym first) are.0, seconds-stay atlas new es seconds rest are.1)

-- and beside them one that has one free item
pub seconds-beside : (atlas new : AtlasRecords) (before after : List Entry) (entry edited : Entry) (seconds : List ℕ) → map (spelled_shelf new) before ≡ map (spelled_shelf atlas) before → map (spelled_shelf new) after ≡ map (spelled_shelf atlas) after → is_empty (spelled_shelf new edited) ≡ true
    → AreSecondsOf atlas.records.items (before ++ entry ∷ after) seconds → AreSecondsOf new.records.items (before ++ edited ∷ after) seconds
seconds-beside atlas new before after entry edited seconds before_same after_same one are =
    Each-append (IsSecondOf new.records.items seconds) before (edited ∷ after)
    (seconds-stay atlas new before seconds before_same (Each-front (IsSecondOf atlas.records.items seconds) before (entry ∷ after) are)) (
      few-of-one-free (second_at seconds edited.number) (spelled_shelf new edited).items one,
      seconds-stay atlas new after seconds after_same (Each-back (IsSecondOf atlas.records.items seconds) before (entry ∷ after) are).1,
    )

-- shelves that are spelled as before, where that of another one is kept anew
pub seconds-others : (atlas new : AtlasRecords) (entries : List Entry) (seconds : List ℕ) (shelf second : ℕ) → map (spelled_shelf new) entries ≡ map (spelled_shelf atlas) entries → ((k : ℕ) → 1 ≤ times k (shelf_numbers entries) → shelf ≢ k)
    → AreSecondsOf atlas.records.items entries seconds → AreSecondsOf new.records.items entries (set seconds shelf second)
seconds-others atlas new [] seconds shelf second same apart are = tt
seconds-others atlas new (e ∷ es) seconds shelf second same apart are =
    let first : spelled_shelf new e ≡ spelled_shelf atlas e = cc in
    let rest : map (spelled_shelf new) es ≡ map (spelled_shelf atlas) es = cc in
    let other : e.number ≢ shelf = λ own. apart e.number (omega (arith, times-here e.number (shelf_numbers es))) (sym own) in
    let kept : second_at (set seconds shelf second) e.number ≡ second_at seconds e.number = second-other seconds shelf second e.number other in
    let few : wider_count (second_at seconds e.number) (spelled_shelf new e).items ≤ 1 =
    subst (λ (s : Shelf). wider_count (second_at seconds e.number) s.items ≤ 1) (sym first) are.0 in (
      subst (λ (w : ℕ). wider_count w (spelled_shelf new e).items ≤ 1) (sym kept) few,
      seconds-others atlas new es seconds shelf second rest (λ k stands. apart k (omega (arith, stands))) are.1,
    )

-- an item became free: no more than one free item of its shelf passes the width that is kept then
module _ (atlas : AtlasRecords) (shelf number : ℕ) (front back free : List ℕ) (is : IsEntry atlas.records (entry_of shelf (front ++ number ∷ back) free)) (apart : NoNeighbours both_free (map (item_at atlas.records.items) (front ++ number ∷ back))) where
  abbrev Old : List Item
  Old = map (item_at atlas.records.items) (front ++ number ∷ back)

  abbrev New : List Item
  New = merged_items (freed (length front) Old)

  abbrev width : ℕ
  width = freed_width atlas.records.items number

  few-after : (changed : Bool) (bound second : ℕ) → (changed ≡ false → AllByRecursion (IsWithin bound) Old) → wider_count second Old ≤ 1 → wider_count (second_after changed width bound second) New ≤ 1
  few-after changed bound second bounds few = by_change changed bounds
    where
      most : wider_count (max second width) New ≤ 1
      most =
          omega (
            arith,
            freed-wider-same atlas shelf number front back free (max second width) is apart (omega arith),
            fewer-wider second (max second width) Old (omega arith),
            few,
          )

      by_test : (b : Bool) → AllByRecursion (IsWithin bound) Old → wider_count (cond b bound (max second width)) New ≤ 1
      by_test true within = omega (arith, freed-wider-one atlas shelf number front back free bound is apart, within-none bound Old within)
      by_test false within = most

      by_change : (b : Bool) → (b ≡ false → AllByRecursion (IsWithin bound) Old) → wider_count (cond b (max second width) (cond (nat_lt bound width) bound (max second width))) New ≤ 1
      by_change true within = most
      by_change false within = by_test (nat_lt bound width) (within refl)

  pub freed-second : (seconds : List ℕ) (changed : Bool) (bound : ℕ) → (changed ≡ false → AllByRecursion (IsWithin bound) Old) → width ≤ 65535 → wider_count (second_at seconds shelf) Old ≤ 1
      → wider_count (second_at (set seconds shelf (second_after changed width bound (second_at seconds shelf))) shelf) New ≤ 1
  freed-second seconds changed bound bounds narrow few = by_place (nat_lt shelf (length seconds)) refl
    where
      second : ℕ
      second = second_after changed width bound (second_at seconds shelf)

      by_place : (b : Bool) → nat_lt shelf (length seconds) ≡ b → wider_count (second_at (set seconds shelf second) shelf) New ≤ 1
      by_place true e =
          let below : shelf < length seconds = grind (arith, nat_tests) in
          subst (λ (w : ℕ). wider_count w New ≤ 1) (sym (second-own seconds shelf second below)) (few-after changed bound (second_at seconds shelf) bounds few)
      by_place false e =
          let past : length seconds ≤ shelf = grind (arith, nat_tests) in
          let none : second_at seconds shelf ≡ 65535 = get_or_past seconds shelf 65535 past in
          let old : wider_count 65535 Old ≤ 1 = subst (λ (w : ℕ). wider_count w Old ≤ 1) none few in
          subst (λ (w : ℕ). wider_count w New ≤ 1) (sym (second-past seconds shelf second past))
          (omega (arith, freed-wider-same atlas shelf number front back free 65535 is apart narrow, old))

-- widths of which nothing is known are such of each shelf of kept records
pub unknown-seconds : (frame : Frame) (records : Records) (seconds : List ℕ) → AreKept frame records → ((k : ℕ) → second_at seconds k ≡ 65535) → AreSeconds records seconds
unknown-seconds frame records seconds kept unknown =
    Each-weaken (λ (entry : Entry). IsShelf frame (spelled_shelf (bare frame records) entry)) (IsSecondOf records.items seconds) (walked_lists records).entries
    (λ (entry : Entry) is.
    let items : List Item = (spelled_shelf (bare frame records) entry).items in
    let low : total_width items ≤ 65535 = omega (arith, is.width, column_width-le 65535 frame (witnesses kept).valid.frame, sides_low 65535 frame (witnesses kept).valid.frame) in
    let none : wider_count 65535 items ≡ 0 = within-none 65535 items (widths-within 65535 items low) in
    subst (λ (w : ℕ). wider_count w items ≤ 1) (sym (unknown entry.number)) (omega (arith, none)))
    (Each-unmap (IsShelf frame) (spelled_shelf (bare frame records)) (walked_lists records).entries (witnesses kept).valid.shelves)

-- widths that are the same are such again
pub seconds-equal : (records : Records) (seconds other : List ℕ) → ((k : ℕ) → second_at other k ≡ second_at seconds k) → AreSeconds records seconds → AreSeconds records other
seconds-equal records seconds other same are =
    Each-weaken (IsSecondOf records.items seconds) (IsSecondOf records.items other) (walked_lists records).entries
    (λ (entry : Entry) few. subst (λ (w : ℕ). wider_count w (map (item_at records.items) entry.items) ≤ 1) (sym (same entry.number)) few) are
