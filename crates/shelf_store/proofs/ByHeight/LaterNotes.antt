-- What is noted stays so through the steps of a return, and the bound of a shelf that is noted may be any.
use Rattle.std.proofs.Common.{◌≡◌, ◌≢◌, ℕ, zero, suc, Bool, true, false, cond, Option, None, Some, List, [], ◌∷◌, length, map, set, refl, ap, arith, sym, subst, ◌∙◌}
use Rattle.std.proofs.lemmas.List.{length-set}
use Rattle.std.specs.Prelude.{◌<◌, ◌==◌, nat_lt}
use Rattle.std.specs.List.{AllByRecursion}
use Rattle.etagere_base.specs.Lists.{times}
use Rattle.etagere_links.specs.Edits.{link_at}
use Rattle.shelf_model.specs.Listing.{RiseFrom}
use Rattle.shelf_records.specs.AtlasRecords.{AtlasRecords, shelf_of}
use Rattle.shelf_records.specs.RecordLists.{Entry, Records, first_item_of}
use Rattle.shelf_records.specs.Records.{shelf_chain}
use Rattle.shelf_heights.specs.Private.ByHeight.{order_of, raised}
use Rattle.shelf_store.specs.Private.Settling.{HoldsExceptNoted, IsBoundIn}
use Rattle.shelf_notes.specs.Private.Pending.{Notes, is_noted, noted_as, standing_at}
use Rattle.shelf_heights.specs.declared.by_height.BoundedShelf.{BoundedShelf}
use Rattle.shelf_notes.specs.declared.pending.Standing.{Standing}
use Rattle.shelf_heights.proofs.ByHeight.Edited.{numbers-raised}
use Rattle.shelf_store.specs.Private.ItemReturned.{emptiness_said, empty_next, item_merged, shelf_merged}
use Rattle.shelf_store.specs.Private.ReturnedNotes.{named_shelf_merged_notes, next_absorbed_notes, raised_unless, returned_notes, shelf_merged_notes, shelf_of_item_absorbed_notes, shelves_merged_notes}

-- notes that keep the same records and have as many entries, and in which what was noted is noted still
pub record AreLater (notes later : Notes) : Type 0 where
  pub kept : later.kept ≡ notes.kept
  pub known : length later.standing ≡ length notes.standing
  pub before : (k : ℕ) → is_noted later k ≡ false → is_noted notes k ≡ false

later-same : (notes : Notes) → AreLater notes notes
later-same notes = record { kept = refl; known = refl; before = λ k none. none }

later-chained : (notes middle later : Notes) → AreLater notes middle → AreLater middle later → AreLater notes later
later-chained notes middle later one two =
    record {
      kept = two.kept ∙ one.kept;
      known = two.known ∙ one.known;
      before = λ k none. one.before k (two.before k none);
    }

-- where an entry was written that says of a change, another one says nothing of it just as before
unnoted-written : (standing : List Standing) (shelf k : ℕ) (one : Standing) → one.noted ≡ true → (standing_at (set standing shelf one) k).noted ≡ false → (standing_at standing k).noted ≡ false
unnoted-written [] shelf k one so none = none
unnoted-written (x ∷ xs) zero zero one so none = absurd (cc)
unnoted-written (x ∷ xs) zero (suc k) one so none = none
unnoted-written (x ∷ xs) (suc shelf) zero one so none = none
unnoted-written (x ∷ xs) (suc shelf) (suc k) one so none = unnoted-written xs shelf k one so none

pub noted-later : (notes : Notes) (shelf : ℕ) (in_use : Bool) → AreLater notes (noted_as shelf in_use notes)
noted-later notes shelf in_use =
    let one : Standing = record (standing_at notes.standing shelf) { in_use = in_use; noted = true; parked = false } in
    record {
      kept = refl;
      known = length-set notes.standing shelf one;
      before = λ k none. unnoted-written notes.standing shelf k one refl none;
    }

-- through each step of a return
absorbed-later : (shelf next : ℕ) (item : Option ℕ) (notes : Notes) → AreLater notes (shelf_of_item_absorbed_notes shelf next item notes)
absorbed-later shelf next None notes = later-same notes
absorbed-later shelf next (Some item) notes =
    later-chained notes (noted_as next false notes) (noted_as shelf true (noted_as next false notes))
    (noted-later notes next false) (noted-later (noted_as next false notes) shelf true)

next-later : (shelf : ℕ) (next : Option ℕ) (records : Records) (notes : Notes) → AreLater notes (next_absorbed_notes shelf next records notes)
next-later shelf None records notes = later-same notes
next-later shelf (Some next) records notes = absorbed-later shelf next (first_item_of records.shelves next) notes

merged-later : (shelf : ℕ) (records : Records) (notes : Notes) → AreLater notes (shelf_merged_notes shelf records notes)
merged-later shelf records notes = next-later shelf (empty_next records.shelves shelf) records notes

named-later : (link : Option ℕ) (records : Records) (notes : Notes) → AreLater notes (named_shelf_merged_notes link records notes)
named-later None records notes = later-same notes
named-later (Some shelf) records notes = merged-later shelf records notes

pub merged_all-later : (shelf : ℕ) (records : Records) (notes : Notes) → AreLater notes (shelves_merged_notes shelf records notes)
merged_all-later shelf records notes =
    let one : Records = (shelf_merged shelf records).records in
    later-chained notes (shelf_merged_notes shelf records notes) (shelves_merged_notes shelf records notes)
    (merged-later shelf records notes) (named-later (link_at shelf_chain.previous one.shelves shelf) one (shelf_merged_notes shelf records notes))

pub returned-later : (number : ℕ) (records : Records) (notes : Notes) → AreLater notes (returned_notes number records notes)
returned-later number records notes =
    let shelf : ℕ = shelf_of records.items number in
    merged_all-later shelf (emptiness_said shelf (item_merged shelf number records).records) notes

-- what holds of each shelf but one whose bound was raised held of each before it
Each-unraised : (P Q : BoundedShelf → Type 0) (shelf width : ℕ) (by_height : List BoundedShelf)
    → ((one : BoundedShelf) → one.shelf ≢ shelf → P one → Q one)
    → ((one : BoundedShelf) → one.shelf ≡ shelf → Q one)
    → AllByRecursion P (raised shelf width by_height) → AllByRecursion Q by_height
Each-unraised P Q shelf width [] others own each = tt
Each-unraised P Q shelf width (one ∷ more) others own each =
    by_tests (one.shelf == shelf) (nat_lt one.widest width) refl each (Each-unraised P Q shelf width more others own)
  where
    by_tests : (b c : Bool) → (one.shelf == shelf) ≡ b → AllByRecursion P (cond b (cond c (record one { widest = width }) one) one ∷ raised shelf width more)
        → (AllByRecursion P (raised shelf width more) → AllByRecursion Q more) → AllByRecursion Q (one ∷ more)
    by_tests true c e all rest = let same : one.shelf ≡ shelf = grind arith in (own one same, rest all.1)
    by_tests false c e all rest = let other : one.shelf ≢ shelf = grind arith in (others one other all.0, rest all.1)

-- shelves in use by height of which the bound of one was raised, where that is noted
unraised-holds : (atlas : AtlasRecords) (entries : List Entry) (notes : Notes) (shelf width : ℕ) (by_height : List BoundedShelf) → is_noted notes shelf ≡ true → HoldsExceptNoted atlas entries notes (raised shelf width by_height) → HoldsExceptNoted atlas entries notes by_height
unraised-holds atlas entries notes shelf width by_height noted holds =
    let Bounded : BoundedShelf → Type 0 = λ one. is_noted notes one.shelf ≡ false → IsBoundIn atlas entries one in
    record {
      listed = λ k. sym (ap (times k) (numbers-raised shelf width by_height)) ∙ holds.listed k;
      in_use = holds.in_use;
      order = record {
        within = subst (λ (ns : List ℕ). AllByRecursion (λ k. k < length notes.kept) ns) (numbers-raised shelf width by_height) holds.order.within;
        rising = subst (λ (ns : List ℕ). RiseFrom 0 (map (order_of notes.kept) ns)) (numbers-raised shelf width by_height) holds.order.rising;
      };
      settled = holds.settled;
      bounds = Each-unraised Bounded Bounded shelf width by_height (λ one other bounded. bounded)
          (λ one same none. let so : is_noted notes one.shelf ≡ true = rw same noted in absurd (cc)) holds.bounds;
      parked = holds.parked;
      known = holds.known;
      few = holds.few;
    }

-- so a bound need not rise where a later step noted the shelf
pub raised-later : (atlas : AtlasRecords) (entries : List Entry) (notes later : Notes) (shelf width : ℕ) (by_height : List BoundedShelf) → AreLater notes later → HoldsExceptNoted atlas entries later (raised_unless (is_noted notes shelf) shelf width by_height) → HoldsExceptNoted atlas entries later (raised_unless (is_noted later shelf) shelf width by_height)
raised-later atlas entries notes later shelf width by_height are = by_tests (is_noted notes shelf) (is_noted later shelf) refl (are.before shelf)
  where
    by_tests : (b c : Bool) → is_noted later shelf ≡ c → (c ≡ false → b ≡ false) → HoldsExceptNoted atlas entries later (raised_unless b shelf width by_height) → HoldsExceptNoted atlas entries later (raised_unless c shelf width by_height)
    by_tests false false e before holds = holds
    by_tests true true e before holds = holds
    by_tests true false e before holds = let none : true ≡ false = before refl in absurd (cc)
    by_tests false true noted before holds = unraised-holds atlas entries later shelf width by_height noted holds
