-- The list of shelves by height holds but for those that have changed, through the steps of a return: where an item became
-- free, and where a shelf took the place of the next one.
use Rattle.std.proofs.Common.{◌≡◌, ◌≢◌, ℕ, ◌+◌, ◌-◌, ◌≤◌, ◌<◌, Bool, true, false, List, [], ◌∷◌, ◌++◌, length, map, refl, ap, subst, arith, sym, ◌∙◌}
use Rattle.std.proofs.lemmas.List.{length-map}
use Rattle.std.specs.Prelude.{◌==◌}
use Rattle.etagere_base.proofs.EachLemmas.{Each-append, Each-back, Each-front, Each-middle, Each-weaken}
use Rattle.etagere_base.proofs.TimesLemmas.{hit, times-append}
use Rattle.std.specs.List.{AllByRecursion}
use Rattle.etagere_base.specs.Lists.{times}
use Rattle.shelf_records.specs.RecordLists.{Records, Entry, shelf_numbers}
use Rattle.shelf_records.proofs.AllLists.LinkedFrames.{shelf_numbers-append}
use Rattle.shelf_records.specs.AtlasRecords.{AtlasRecords, height_of, item_at, spelled_shelf}
use Rattle.shelf_heights.specs.Private.ByHeight.{IsBound, chain_order}
use Rattle.shelf_store.specs.Private.Settling.{HoldsExceptNoted, IsParked, IsSettled}
use Rattle.shelf_notes.specs.Private.Pending.{Notes, is_in_use, is_listed, is_noted, is_parked, noted_as, once_where}
use Rattle.shelf_model.specs.State.{Item, Shelf}
use Rattle.shelf_heights.specs.declared.by_height.BoundedShelf.{BoundedShelf}
use Rattle.shelf_notes.specs.declared.pending.Standing.{Standing}
use Rattle.shelf_heights.proofs.ByHeight.Edited.{Each-raised, bounded_as, in_order-raised, numbers-raised}
use Rattle.shelf_notes.proofs.Noted.{in_use-within, once-le, once-true}
use Rattle.shelf_notes.proofs.NotedShelves.{noted-in_use, noted-known, noted-listed, noted-other, parked-before, unnoted-before, unnoted-differs}
use Rattle.shelf_store.proofs.ByHeight.FreedBounds.{IsWithin, within-more}
use Rattle.shelf_store.proofs.ByHeight.ParkedShelves.{parked-same}
use Rattle.shelf_records.proofs.Spelled.RecordValues.{SameShelf, map-agrees}
use Rattle.shelf_store.specs.Private.ReturnedNotes.{raised_unless}
use Rattle.shelf_store.proofs.Spelled.SpelledLists.{with_records}
use Rattle.shelf_store.proofs.Spelled.SpelledShelves.{IsTaller}

-- a width that none of the free items passes of the shelf of this number
abbrev pub IsBoundOf : AtlasRecords → ℕ → ℕ → Entry → Type 0
IsBoundOf atlas shelf widest entry = entry.number ≡ shelf → IsBound widest (spelled_shelf atlas entry)

-- shelves that are spelled as before keep their bounds, and greater ones
bounds-same : (atlas new : AtlasRecords) (shelf widest other : ℕ) (entries : List Entry) → map (spelled_shelf new) entries ≡ map (spelled_shelf atlas) entries → widest ≤ other → AllByRecursion (IsBoundOf atlas shelf widest) entries → AllByRecursion (IsBoundOf new shelf other) entries
bounds-same atlas new shelf widest other [] same less bounds = tt
bounds-same atlas new shelf widest other (entry ∷ entries) same less bounds =
    let first : spelled_shelf new entry ≡ spelled_shelf atlas entry = cc in
    let rest : map (spelled_shelf new) entries ≡ map (spelled_shelf atlas) entries = cc in (
      λ named. subst (λ (s : Shelf). AllByRecursion (IsWithin other) s.items) (sym first) (within-more widest other (spelled_shelf atlas entry).items less (bounds.0 named)),
      bounds-same atlas new shelf widest other entries rest less bounds.1,
    )

-- what an item that became free leaves by height, where the bound of its shelf was raised, unless that has changed
pub raised-holds : (atlas new : AtlasRecords) (before after : List Entry) (entry edited : Entry) (width : ℕ) (notes : Notes) (by_height : List BoundedShelf) → edited.number ≡ entry.number → length new.records.shelves ≡ length atlas.records.shelves → ((k : ℕ) → chain_order new.records.shelves k ≡ chain_order atlas.records.shelves k) → ((k : ℕ) → height_of new.records.shelves k ≡ height_of atlas.records.shelves k) → map (spelled_shelf new) before ≡ map (spelled_shelf atlas) before → map (spelled_shelf new) after ≡ map (spelled_shelf atlas) after → ((widest : ℕ) → IsBound widest (spelled_shelf atlas entry) → width ≤ widest → IsBound widest (spelled_shelf new edited)) → is_parked notes entry.number ≡ false → HoldsExceptNoted atlas (before ++ entry ∷ after) notes by_height → HoldsExceptNoted new (before ++ edited ∷ after) notes (raised_unless (is_noted notes entry.number) entry.number width by_height)
raised-holds atlas new before after entry edited width notes by_height number lengths in_chain heights before_same after_same own unparked holds = by_note (is_noted notes entry.number) refl
  where
    Old : BoundedShelf → Type 0
    Old one = is_noted notes one.shelf ≡ false → AllByRecursion (IsBoundOf atlas one.shelf one.widest) (before ++ entry ∷ after)

    New : BoundedShelf → Type 0
    New one = is_noted notes one.shelf ≡ false → AllByRecursion (IsBoundOf new one.shelf one.widest) (before ++ edited ∷ after)

    numbers : shelf_numbers (before ++ edited ∷ after) ≡ shelf_numbers (before ++ entry ∷ after)
    numbers =
        shelf_numbers-append before (edited ∷ after)
        ∙ ap (λ n. shelf_numbers before ++ n ∷ shelf_numbers after) number
        ∙ sym (shelf_numbers-append before (entry ∷ after))

    settled : (k : ℕ) → is_noted notes k ≡ false → IsSettled new.records.shelves notes k
    settled k none =
        let is = holds.settled k none in
        record {
          listed = is.listed;
          in_chain = λ stands. is.in_chain stands ∙ sym (in_chain k);
          height = λ stands. is.height stands ∙ sym (heights k);
        }

    around : (shelf widest other : ℕ) → widest ≤ other → IsBoundOf new shelf other edited → AllByRecursion (IsBoundOf atlas shelf widest) (before ++ entry ∷ after) → AllByRecursion (IsBoundOf new shelf other) (before ++ edited ∷ after)
    around shelf widest other less bound bounds =
        Each-append (IsBoundOf new shelf other) before (edited ∷ after)
        (bounds-same atlas new shelf widest other before before_same less (Each-front (IsBoundOf atlas shelf widest) before (entry ∷ after) bounds))
        (bound, bounds-same atlas new shelf widest other after after_same less (Each-back (IsBoundOf atlas shelf widest) before (entry ∷ after) bounds).1)

    others : (one : BoundedShelf) → one.shelf ≢ entry.number → Old one → New one
    others one other bounds none = around one.shelf one.widest one.widest (omega arith) (λ named. absurd (other (sym named ∙ number))) (bounds none)

    parked : (k : ℕ) → is_parked notes k ≡ true → IsParked new (before ++ edited ∷ after) notes k
    parked k so =
        parked-same atlas new (before ++ entry ∷ after) (before ++ edited ∷ after) notes notes k refl refl
        (around k (notes.parked_below - 1) (notes.parked_below - 1) (omega arith)
        (λ named. let none : is_parked notes k ≡ false = rw (sym (sym number ∙ named)) unparked in absurd (cc)))
        (holds.parked k so)

    raises : (one : BoundedShelf) → one.shelf ≡ entry.number → Old one → (widest : ℕ) → one.widest ≤ widest → width ≤ widest → New (bounded_as one.shelf widest)
    raises one same bounds widest less wide none =
        around one.shelf one.widest widest less
        (λ named. own widest
        (within-more one.widest widest (spelled_shelf atlas entry).items less (Each-middle (IsBoundOf atlas one.shelf one.widest) before entry after (bounds none) (sym same)))
        wide)
        (bounds none)

    by_note : (b : Bool) → is_noted notes entry.number ≡ b → HoldsExceptNoted new (before ++ edited ∷ after) notes (raised_unless b entry.number width by_height)
    by_note true noted =
        record {
          listed = holds.listed;
          in_use = λ k. ap (times k) numbers ∙ holds.in_use k;
          order = holds.order;
          settled = settled;
          bounds = Each-weaken Old New by_height
              (λ one bounds none. others one (λ same. let so : is_noted notes one.shelf ≡ true = rw same noted in absurd (cc)) bounds none) holds.bounds;
          parked = parked;
          known = omega (arith, lengths, holds.known);
          few = omega (arith, lengths, holds.few);
        }
    by_note false unnoted =
        record {
          listed = λ k. ap (times k) (numbers-raised entry.number width by_height) ∙ holds.listed k;
          in_use = λ k. ap (times k) numbers ∙ holds.in_use k;
          order = in_order-raised notes.kept entry.number width by_height holds.order;
          settled = settled;
          bounds = Each-raised Old New entry.number width by_height others raises holds.bounds;
          parked = parked;
          known = omega (arith, lengths, holds.known);
          few = omega (arith, lengths, holds.few);
        }

-- as many stand there then
pub length-raised_unless : (changed : Bool) (shelf width : ℕ) (by_height : List BoundedShelf) → length (raised_unless changed shelf width by_height) ≡ length by_height
length-raised_unless true shelf width by_height = refl
length-raised_unless false shelf width by_height = length-map by_height _

-- the shelves before a merge, without the one that goes
fewer-bounds : (atlas : AtlasRecords) (shelf widest : ℕ) (before after : List Entry) (entry gone : Entry) → AllByRecursion (IsBoundOf atlas shelf widest) (before ++ entry ∷ gone ∷ after) → AllByRecursion (IsBoundOf atlas shelf widest) (before ++ entry ∷ after)
fewer-bounds atlas shelf widest [] after entry gone bounds = (bounds.0, bounds.1.1)
fewer-bounds atlas shelf widest (e ∷ before) after entry gone bounds = (bounds.0, fewer-bounds atlas shelf widest before after entry gone bounds.1)

-- how often a number stands among shelves, two of them named, and without the second
all-count : (before after : List Entry) (entry gone : Entry) (k : ℕ) → times k (shelf_numbers (before ++ entry ∷ gone ∷ after)) ≡ times k (shelf_numbers before) + (hit entry.number k + (hit gone.number k + times k (shelf_numbers after)))
all-count before after entry gone k =
    ap (times k) (shelf_numbers-append before (entry ∷ gone ∷ after)) ∙ times-append k (shelf_numbers before) (entry.number ∷ gone.number ∷ shelf_numbers after)

fewer-count : (before after : List Entry) (entry : Entry) (k : ℕ) → times k (shelf_numbers (before ++ entry ∷ after)) ≡ times k (shelf_numbers before) + (hit entry.number k + times k (shelf_numbers after))
fewer-count before after entry k =
    ap (times k) (shelf_numbers-append before (entry ∷ after)) ∙ times-append k (shelf_numbers before) (entry.number ∷ shelf_numbers after)

hit-own : (k : ℕ) → hit k k ≡ 1
hit-own k = grind arith

-- a shelf took the place of the next one: both are noted, and that is out of use
module _ (atlas : AtlasRecords) (records : Records) (before after : List Entry) (entry gone : Entry) (height : ℕ) (notes : Notes) (by_height : List BoundedShelf) (taller : IsTaller atlas.records records entry.number height)
    (holds : HoldsExceptNoted atlas (before ++ entry ∷ gone ∷ after) notes by_height) where
  abbrev new : AtlasRecords
  new = with_records atlas records

  abbrev one : Notes
  one = noted_as gone.number false notes

  abbrev two : Notes
  two = noted_as entry.number true one

  -- how often a number stood among the shelves in use
  once : (k : ℕ) → times k (shelf_numbers before) + (hit entry.number k + (hit gone.number k + times k (shelf_numbers after))) ≡ once_where (is_in_use notes k)
  once k = sym (all-count before after entry gone k) ∙ holds.in_use k

  -- so each of them has an entry
  known : entry.number < length notes.standing
  known = in_use-within notes.standing entry.number (once-true (is_in_use notes entry.number) (omega (arith, once entry.number, hit-own entry.number)))

  gone_known : gone.number < length notes.standing
  gone_known = in_use-within notes.standing gone.number (once-true (is_in_use notes gone.number) (omega (arith, once gone.number, hit-own gone.number)))

  still-known : entry.number < length one.standing
  still-known = omega (arith, known, noted-known notes gone.number false gone_known)

  in_use-after : (k : ℕ) → times k (shelf_numbers (before ++ entry ∷ after)) ≡ once_where (is_in_use two k)
  in_use-after k = by_test (k == entry.number) (k == gone.number) refl refl
    where
      by_test : (b c : Bool) → (k == entry.number) ≡ b → (k == gone.number) ≡ c → times k (shelf_numbers (before ++ entry ∷ after)) ≡ once_where (is_in_use two k)
      by_test true c e f =
          let own : k ≡ entry.number = grind arith in
          let here : hit entry.number k ≡ 1 = grind (arith, own) in
          let so : once_where (is_in_use two k) ≡ 1 = rw own (ap once_where (noted-in_use one entry.number true still-known)) in
          omega (arith, fewer-count before after entry k, once k, once-le (is_in_use notes k), here, so)
      by_test false true e f =
          let own : k ≡ gone.number = grind arith in
          let differ : k ≢ entry.number = grind arith in
          let here : hit gone.number k ≡ 1 = grind (arith, own) in
          let other : hit entry.number k ≡ 0 = grind (arith, differ) in
          let so : once_where (is_in_use two k) ≡ 0 =
          ap (λ (s : Standing). once_where s.in_use) (noted-other one entry.number true still-known k differ)
          ∙ rw own (ap once_where (noted-in_use notes gone.number false gone_known)) in
          omega (arith, fewer-count before after entry k, once k, once-le (is_in_use notes k), here, other, so)
      by_test false false e f =
          let differ : k ≢ entry.number = grind arith in
          let differ_too : k ≢ gone.number = grind arith in
          let none : hit gone.number k ≡ 0 = grind (arith, differ_too) in
          let so : is_in_use two k ≡ is_in_use notes k =
          ap (λ (s : Standing). s.in_use) (noted-other one entry.number true still-known k differ)
          ∙ ap (λ (s : Standing). s.in_use) (noted-other notes gone.number false gone_known k differ_too) in
          omega (arith, fewer-count before after entry k, once k, none, ap once_where so)

  -- a bound is one still
  bound-kept : (shelf widest : ℕ) → AllByRecursion (IsBoundOf atlas shelf widest) (before ++ entry ∷ gone ∷ after) → AllByRecursion (IsBoundOf new shelf widest) (before ++ entry ∷ after)
  bound-kept shelf widest bounds =
      Each-weaken (IsBoundOf atlas shelf widest) (IsBoundOf new shelf widest) (before ++ entry ∷ after)
      (λ (e : Entry) bound named.
      let items : map (item_at records.items) e.items ≡ map (item_at atlas.records.items) e.items = map-agrees (item_at records.items) (item_at atlas.records.items) e.items (λ k stands. (taller.items k).item) in
      subst (λ (is : List Item). AllByRecursion (IsWithin widest) is) (sym items) (bound named))
      (fewer-bounds atlas shelf widest before after entry gone bounds)

  bounds-kept : (bounded : BoundedShelf) → (is_noted notes bounded.shelf ≡ false → AllByRecursion (IsBoundOf atlas bounded.shelf bounded.widest) (before ++ entry ∷ gone ∷ after)) → is_noted two bounded.shelf ≡ false → AllByRecursion (IsBoundOf new bounded.shelf bounded.widest) (before ++ entry ∷ after)
  bounds-kept bounded bounds none =
      bound-kept bounded.shelf bounded.widest
      (bounds (unnoted-before notes gone.number false gone_known bounded.shelf (unnoted-before one entry.number true still-known bounded.shelf none)))

  pub absorbed-holds : HoldsExceptNoted new (before ++ entry ∷ after) two by_height
  absorbed-holds =
      record {
        listed = λ k. holds.listed k ∙ sym (ap once_where (noted-listed one entry.number true still-known k ∙ noted-listed notes gone.number false gone_known k));
        in_use = in_use-after;
        order = holds.order;
        settled = λ k none.
            let differ : k ≢ entry.number = unnoted-differs one entry.number true still-known k none in
            let before_too : is_noted one k ≡ false = unnoted-before one entry.number true still-known k none in
            let is = holds.settled k (unnoted-before notes gone.number false gone_known k before_too) in
            let differ_too : k ≢ gone.number = unnoted-differs notes gone.number false gone_known k before_too in
            let same : SameShelf atlas.records.shelves records.shelves k = taller.others k (λ e. differ (cc)) in
            let standing = noted-other one entry.number true still-known k differ ∙ noted-other notes gone.number false gone_known k differ_too in
            let listed : is_listed two k ≡ is_listed notes k = ap (λ (s : Standing). s.listed) standing in
            record {
              listed = listed ∙ is.listed ∙ sym (ap (λ (s : Standing). s.in_use) standing);
              in_chain = λ stands. is.in_chain (sym listed ∙ stands) ∙ omega (arith, same.along, same.across);
              height = λ stands. is.height (sym listed ∙ stands) ∙ sym same.height;
            };
        bounds = Each-weaken (λ (bounded : BoundedShelf). is_noted notes bounded.shelf ≡ false → AllByRecursion (IsBoundOf atlas bounded.shelf bounded.widest) (before ++ entry ∷ gone ∷ after))
            (λ (bounded : BoundedShelf). is_noted two bounded.shelf ≡ false → AllByRecursion (IsBoundOf new bounded.shelf bounded.widest) (before ++ entry ∷ after)) by_height bounds-kept holds.bounds;
        parked = λ k so.
            parked-same atlas new (before ++ entry ∷ gone ∷ after) (before ++ entry ∷ after) notes two k
            (noted-listed one entry.number true still-known k ∙ noted-listed notes gone.number false gone_known k) refl (bound-kept k (notes.parked_below - 1))
            (holds.parked k (parked-before notes gone.number false gone_known k (parked-before one entry.number true still-known k so)));
        known = omega (arith, taller.as_many, holds.known, noted-known one entry.number true still-known, noted-known notes gone.number false gone_known);
        few = omega (arith, taller.as_many, holds.few);
      }
