use Rattle.std.proofs.Common.{◌≡◌, ℕ, zero, suc, ◌<◌, Bool, true, false, Option, None, Some, List, [], ◌∷◌, is_some, length, set, ap, arith, refl, sym, ◌∙◌}
use Rattle.etagere_links.specs.Edits.{link_at}
use Rattle.shelf_records.specs.declared.records.LinkedShelf.{LinkedShelf}
use Rattle.shelf_records.specs.RecordLists.{Records, first_item_of}
use Rattle.shelf_records.specs.Records.{shelf_chain}
use Rattle.shelf_notes.specs.declared.pending.Standing.{Standing}
use Rattle.shelf_notes.specs.Private.Pending.{Notes, noted_as, standing_at}
use Rattle.shelf_notes.proofs.Noted.{standing-own}
use Rattle.shelf_notes.proofs.NotedShelves.{noted-known}
use Rattle.shelf_store.specs.Private.ItemReturned.{IsLinkedBack, are_both_empty, empty_named, empty_named_before, empty_next, empty_previous, shelf_merged}
use Rattle.shelf_store.specs.Private.ReturnedNotes.{named_shelf_merged_notes, next_absorbed_notes, shelf_merged_notes, shelf_of_item_absorbed_notes, shelves_merged_notes}
use Rattle.shelf_store.proofs.Spelled.ReturnedLengths.{shelf-next-lengths}
use Rattle.shelf_store.proofs.returning.absorb_around.Goals as goal
use Rattle.shelf_store.proofs.returning.absorb_around.Goals.{After-absorb_records, Start}

-- an element that is written again
set-again : {X : Type 0} (xs : List X) (index : ℕ) (y z : X) → set (set xs index y) index z ≡ set xs index z
set-again [] index y z = refl
set-again (x ∷ xs) zero y z = refl
set-again (x ∷ xs) (suc index) y z = ap (λ (ys : List _). x ∷ ys) (set-again xs index y z)

-- a shelf that is noted and then goes out of use
noted-again : (shelf : ℕ) (notes : Notes) → shelf < length notes.standing → noted_as shelf false (noted_as shelf true notes) ≡ noted_as shelf false notes
noted-again shelf notes within =
    let before : Standing = standing_at notes.standing shelf in
    let noted : Standing = record before { in_use = true; noted = true; parked = false } in
    rw (
      standing-own notes.standing shelf noted within,
      set-again notes.standing shelf noted (record before { in_use = false; noted = true; parked = false }),
    ) refl

-- a shelf whose next one has an item takes its place
absorbs : (shelf next : ℕ) (records : Records) (notes : Notes) → empty_next records.shelves shelf ≡ Some next → true ≡ is_some (first_item_of records.shelves next) → shelf_merged_notes shelf records notes ≡ noted_as shelf true (noted_as next false notes)
absorbs shelf next records notes is has =
    ap (λ (o : Option ℕ). next_absorbed_notes shelf o records notes) is ∙ by_item (first_item_of records.shelves next) has
  where
    by_item : (item : Option ℕ) → true ≡ is_some item → shelf_of_item_absorbed_notes shelf next item notes ≡ noted_as shelf true (noted_as next false notes)
    by_item (Some item) has = refl
    by_item None has = absurd (cc)

-- the empty shelf before one, whose next one it is
before-is : (shelves : List LinkedShelf) (shelf previous : ℕ) (link : Option ℕ) → empty_named_before shelves shelf link ≡ Some previous → (link ≡ Some previous) × (are_both_empty shelves previous shelf ≡ true)
before-is shelves shelf previous None e = absurd (cc e)
before-is shelves shelf previous (Some n) e = by_test (are_both_empty shelves n shelf) refl
  where
    by_test : (b : Bool) → are_both_empty shelves n shelf ≡ b → (Some n ≡ Some previous) × (are_both_empty shelves previous shelf ≡ true)
    by_test false t = let none : empty_named_before shelves shelf (Some n) ≡ None = simp t refl in absurd (cc (none, e))
    by_test true t =
        let some : empty_named_before shelves shelf (Some n) ≡ Some n = simp t refl in
        let same : n ≡ previous = cc in
        (sym some ∙ e, rw (← same) t)

next-is-empty : (shelves : List LinkedShelf) (shelf previous : ℕ) → IsLinkedBack shelf shelves → empty_previous shelves shelf ≡ Some previous → empty_next shelves previous ≡ Some shelf
next-is-empty shelves shelf previous linked e =
    let is = before-is shelves shelf previous (link_at shelf_chain.previous shelves shelf) e in
    let named : empty_named shelves previous (Some shelf) ≡ Some shelf = simp is.1 refl in
    ap (empty_named shelves previous) (linked previous is.0) ∙ named

-- what is noted once both neighbours merged
both-noted : (shelf next previous : ℕ) (records : Records) (notes : Notes) (one : Records) → one ≡ (shelf_merged shelf records).records → empty_next records.shelves shelf ≡ Some next → true ≡ is_some (first_item_of records.shelves next)
    → IsLinkedBack shelf one.shelves → empty_previous one.shelves shelf ≡ Some previous → true ≡ is_some (first_item_of one.shelves shelf) → shelf < length (noted_as next false notes).standing
    → shelves_merged_notes shelf records notes ≡ noted_as previous true (noted_as shelf false (noted_as next false notes))
both-noted shelf next previous records notes one same is has linked before own within =
    let link : link_at shelf_chain.previous one.shelves shelf ≡ Some previous = (before-is one.shelves shelf previous (link_at shelf_chain.previous one.shelves shelf) before).0 in
    ap (λ (r : Records). named_shelf_merged_notes (link_at shelf_chain.previous r.shelves shelf) r (shelf_merged_notes shelf records notes)) (sym same)
    ∙ ap (λ (o : Option ℕ). named_shelf_merged_notes o one (shelf_merged_notes shelf records notes)) link
    ∙ absorbs previous shelf one (shelf_merged_notes shelf records notes) (next-is-empty one.shelves shelf previous linked before) own
    ∙ ap (λ (n : Notes). noted_as previous true (noted_as shelf false n)) (absorbs shelf next records notes is has)
    ∙ ap (λ (n : Notes). noted_as previous true n) (noted-again shelf (noted_as next false notes) within)

-- the shelf is there once the next one is merged
still-there : (c : After-absorb_records) → c.args.shelf < length c.absorb_records.new.records.shelves
still-there c =
    omega (
      arith,
      c.requires.notes.next.there.here.here,
      (shelf-next-lengths c.args.shelf (empty_next c.args.records.now.shelves c.args.shelf) c.args.records.now).shelves,
      ap (λ (r : Records). length r.shelves) c.absorb_records.ensures.records,
    )

pub empty_before-requires-clause-here : goal.empty_before-requires-clause-here
empty_before-requires-clause-here c =
    let at = goal.at.empty_before-requires-clause-here c in
    omega (arith, still-there at.After-absorb_records, ap length c.shelves.ensures)

pub returns-then-absorb_records-clause-notes : goal.returns-then-absorb_records-clause-notes
returns-then-absorb_records-clause-notes c =
    let records : Records = c.args.records.now in
    let notes : Notes = c.args.pending.now.notes in
    let one : Records = c.absorb_records.new.records in
    let linked : IsLinkedBack c.args.shelf one.shelves = rw c.absorb_records.ensures.records c.requires.fits.linked in
    let before : empty_previous one.shelves c.args.shelf ≡ Some c.in-Some.previous = ap (λ (ss : List LinkedShelf). empty_previous ss c.args.shelf) (sym c.shelves.ensures) ∙ sym c.empty_before.ensures ∙ c.in-Some.is in
    let has : true ≡ is_some (first_item_of records.shelves c.args.next) = cc in
    let own : true ≡ is_some (first_item_of one.shelves c.args.shelf) = cc in
    let within : c.args.shelf < length (noted_as c.args.next false notes).standing =
    omega (
      arith,
      c.requires.notes.next.there.here.here,
      c.requires.notes.next.known,
      noted-known notes c.args.next false (omega (arith, (c.requires.notes.next.there.next c.args.next c.requires.next).here, c.requires.notes.next.known)),
    ) in
    rw (c.note-then-absorb_records-2.ensures.notes, c.note-then-absorb_records.ensures.notes, c.note.ensures.notes)
    (sym (both-noted c.args.shelf c.args.next c.in-Some.previous records notes one c.absorb_records.ensures.records c.requires.next has linked before own within))
