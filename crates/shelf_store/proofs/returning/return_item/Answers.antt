use Rattle.std.proofs.Common.{◌≡◌, ℕ, ◌<◌, Bool, true, false, None, List, get_or, length, inl, refl, ap, subst, sym, arith, ◌∙◌}
use Rattle.std.specs.Prelude.{if◌then◌else◌}
use Rattle.shelf_records.specs.declared.records.LinkedItem.{LinkedItem}
use Rattle.shelf_records.specs.declared.records.LinkedShelf.{LinkedShelf}
use Rattle.shelf_records.specs.RecordEdits.{shelf_changed}
use Rattle.shelf_records.specs.RecordLists.{Records}
use Rattle.shelf_records.specs.AtlasRecords.{shelf_of, spelled_item, width_of}
use Rattle.shelf_model.specs.State.{Item}
use Rattle.etagere_links.proofs.FieldChanges.{field_at-within}
use Rattle.shelf_notes.specs.Private.Pending.{Notes, is_noted}
use Rattle.shelf_heights.specs.declared.by_height.BoundedShelf.{BoundedShelf}
use Rattle.shelf_store.specs.Private.ItemReturned.{emptiness_said, has_one_free, item_merged, merged_width}
use Rattle.shelf_store.specs.Private.ReturnedNotes.{IsNotedLate, freed_width, list_returned, raised_unless, returned_notes, shelves_merged_notes}
use Rattle.shelf_store.specs.Private.SecondWidths.{returned_seconds, seconds_after, stands_alone}
use Rattle.shelf_store.proofs.ByHeight.LaterNotes.{returned-later}
use Rattle.shelf_store.proofs.Spelled.NotEmptied.{StaysInUse, stays-in-use}
use Rattle.shelf_store.proofs.Spelled.ReturnedLengths.{merged-lengths}
use Rattle.shelf_store.proofs.returning.return_item.Goals as goal
use Rattle.shelf_store.proofs.returning.return_item.Goals.{After-is_alone, After-set_empty_present, After-index-items-merged}

pub merge_item-merged-requires-clause-fits : goal.merge_item-merged-requires-clause-fits
merge_item-merged-requires-clause-fits c = rw c.requires.shelf (c.requires.fits.item)

pub bounds-items-merged : goal.bounds-items-merged
bounds-items-merged c =
    rw (c.items-items.ensures, c.merge_item-merged.ensures.records, c.merge_item-merged.ensures.item, c.requires.shelf) (c.requires.fits.remaining.there)

pub is_alone-requires : goal.is_alone-requires
is_alone-requires c =
    rw (c.items-items.ensures, c.merge_item-merged.ensures.records, c.merge_item-merged.ensures.item, c.requires.shelf) (c.requires.fits.remaining.there)

pub set_empty_present-requires : goal.set_empty_present-requires
set_empty_present-requires c =
    let shelf : ℕ = shelf_of c.args.records.now.items c.args.number in
    rw (c.merge_item-merged.ensures.records, c.requires.shelf)
    (omega (arith, c.requires.fits.item.here.in_range, (merged-lengths shelf c.args.number c.args.records.now).shelves))

-- what remains is as wide as what becomes free
wide : (c : After-index-items-merged) → (get_or c.items-items.result.now c.merge_item-merged.result.item c.index-items-merged.result).width ≡ freed_width c.args.records.now.items c.args.number
wide c =
    let within : c.merge_item-merged.result.item < length c.items-items.result.now =
    rw (c.items-items.ensures, c.merge_item-merged.ensures.records, c.merge_item-merged.ensures.item, c.requires.shelf) (c.requires.fits.remaining.there) in
    sym (ap (λ (i : Item). i.width) (field_at-within (spelled_item c.merge_item-merged.result.item) (record { width = 0; id = None }) c.items-items.result.now c.merge_item-merged.result.item c.index-items-merged.result within))
    ∙ ap (λ (is : List LinkedItem). width_of is c.merge_item-merged.result.item) (c.items-items.ensures ∙ ap (λ (r : Records). r.items) c.merge_item-merged.ensures.records)
    ∙ ap (width_of (item_merged c.args.shelf c.args.number c.args.records.now).records.items) c.merge_item-merged.ensures.item
    ∙ ap (λ s. merged_width s c.args.number c.args.records.now) c.requires.shelf
    ∙ c.requires.by_height.width

-- so the bound that rises is that of the item's shelf, and it rises to what becomes free
rises : (shelf number width : ℕ) (records : Records) (notes : Notes) (by_height new : List BoundedShelf) → new ≡ raised_unless (is_noted notes shelf) shelf width by_height → shelf ≡ shelf_of records.items number → width ≡ freed_width records.items number
    → new ≡ list_returned number records notes by_height
rises shelf number width records notes by_height new raises own wide =
    raises
    ∙ ap (λ s. raised_unless (is_noted notes s) s width by_height) own
    ∙ ap (λ w. raised_unless (is_noted notes (shelf_of records.items number)) (shelf_of records.items number) w by_height) wide

-- and where others are free beside it the width that is kept of it is kept anew
keeps : (shelf number width : ℕ) (records : Records) (notes before : Notes) (by_height : List BoundedShelf) (seconds new : List ℕ) → new ≡ seconds_after (is_noted notes shelf) shelf width by_height seconds → shelf ≡ shelf_of records.items number → width ≡ freed_width records.items number → notes ≡ returned_notes number records before → stands_alone (shelf_of records.items number) number records ≡ false
    → new ≡ returned_seconds number records before by_height seconds
keeps shelf number width records notes before by_height seconds new kept own wide noted beside =
    kept
    ∙ ap (λ s. seconds_after (is_noted notes s) s width by_height seconds) own
    ∙ ap (λ w. seconds_after (is_noted notes (shelf_of records.items number)) (shelf_of records.items number) w by_height seconds) wide
    ∙ ap (λ (n : Notes). seconds_after (is_noted n (shelf_of records.items number)) (shelf_of records.items number) (freed_width records.items number) by_height seconds) noted
    ∙ ap (λ (b : Bool). if b then seconds else seconds_after (is_noted (returned_notes number records before) (shelf_of records.items number)) (shelf_of records.items number) (freed_width records.items number) by_height seconds) (sym beside)

-- the code says whether the item that remains stands alone
stood : (c : After-is_alone) → stands_alone (shelf_of c.args.records.now.items c.args.number) c.args.number c.args.records.now ≡ c.is_alone.result
stood c = sym (rw (c.is_alone.ensures, c.items-items.ensures, c.merge_item-merged.ensures.records, c.merge_item-merged.ensures.item, c.requires.shelf) refl)

-- which is just where its shelf is empty
emptied : (c : After-is_alone) → (let shelf = shelf_of c.args.records.now.items c.args.number in has_one_free shelf (item_merged shelf c.args.number c.args.records.now).records ≡ c.is_alone.result)
emptied c = c.requires.fits.remaining.alone ∙ stood c

-- the records once the shelf says that it is empty
said : (c : After-set_empty_present) → (let shelf = shelf_of c.args.records.now.items c.args.number in has_one_free shelf (item_merged shelf c.args.number c.args.records.now).records ≡ true → c.set_empty_present.new.self ≡ emptiness_said shelf (item_merged shelf c.args.number c.args.records.now).records)
said c is_empty =
    let shelf : ℕ = shelf_of c.args.records.now.items c.args.number in
    let merged : Records = (item_merged shelf c.args.number c.args.records.now).records in
    rw (c.set_empty_present.ensures, c.merge_item-merged.ensures.records, c.requires.shelf)
    (ap (λ (b : Bool). shelf_changed shelf (λ (here : LinkedShelf). record here { is_empty = b }) merged) (sym is_empty))

pub merge_shelves-made_unused-requires-clause-fits : goal.merge_shelves-made_unused-requires-clause-fits
merge_shelves-made_unused-requires-clause-fits c =
    let at = goal.at.merge_shelves-made_unused-requires-clause-fits c in
    rw (said at.After-set_empty_present (emptied at.After-is_alone ∙ c.if-is_alone.true), c.requires.shelf) (c.requires.fits.shelves)

pub merge_shelves-made_unused-requires-clause-notes : goal.merge_shelves-made_unused-requires-clause-notes
merge_shelves-made_unused-requires-clause-notes c =
    let at = goal.at.merge_shelves-made_unused-requires-clause-notes c in
    rw (said at.After-set_empty_present (emptied at.After-is_alone ∙ c.if-is_alone.true), c.requires.shelf) (c.requires.by_height.shelves)

-- what is noted once shelves merged is what a return notes
noted : (c : After-set_empty_present) (new : Notes) → (let shelf = shelf_of c.args.records.now.items c.args.number in has_one_free shelf (item_merged shelf c.args.number c.args.records.now).records ≡ true → new ≡ shelves_merged_notes c.args.shelf c.set_empty_present.new.self c.args.pending.now.notes → new ≡ returned_notes c.args.number c.args.records.now c.args.pending.now.notes)
noted c new is_empty merged = merged ∙ rw (said c is_empty, c.requires.shelf) refl

pub raise_unless_noted-requires-clause-stands : goal.raise_unless_noted-requires-clause-stands
raise_unless_noted-requires-clause-stands c none =
    let at = goal.at.raise_unless_noted-requires-clause-stands c in
    let shelf : ℕ = shelf_of c.args.records.now.items c.args.number in
    let notes = noted at.After-set_empty_present c.merge_shelves-made_unused.new.pending.notes (emptied at.After-is_alone ∙ c.if-is_alone.true) c.merge_shelves-made_unused.ensures.notes in
    let unnoted : is_noted (returned_notes c.args.number c.args.records.now c.args.pending.now.notes) shelf ≡ false = rw (← notes, ← c.requires.shelf) none in
    rw c.requires.shelf (c.requires.by_height.stands ((returned-later c.args.number c.args.records.now c.args.pending.now.notes).before shelf unnoted))

pub returns-then-is_alone-clause-records : goal.returns-then-is_alone-clause-records
returns-then-is_alone-clause-records c =
    let at = goal.at.returns-then-is_alone-clause-records c in
    rw (c.merge_shelves-made_unused.ensures.records, said at.After-set_empty_present (emptied at.After-is_alone ∙ c.if-is_alone.true), c.requires.shelf) refl

pub returns-then-is_alone-clause-by_height : goal.returns-then-is_alone-clause-by_height
returns-then-is_alone-clause-by_height c =
    let at = goal.at.returns-then-is_alone-clause-by_height c in
    rises c.args.shelf c.args.number (get_or c.items-items.result.now c.merge_item-merged.result.item c.index-items-merged.result).width c.args.records.now c.raise_unless_noted.new.pending.notes c.args.by_height.now.items c.raise_unless_noted.new.by_height.items
    c.raise_unless_noted.ensures.by_height c.requires.shelf (wide at.After-index-items-merged)

pub returns-then-is_alone-clause-seconds : goal.returns-then-is_alone-clause-seconds
returns-then-is_alone-clause-seconds c =
    let at = goal.at.returns-then-is_alone-clause-seconds c in
    let alone : stands_alone (shelf_of c.args.records.now.items c.args.number) c.args.number c.args.records.now ≡ true = stood at.After-is_alone ∙ c.if-is_alone.true in
    ap (λ (b : Bool). if b then c.args.seconds.now else seconds_after (is_noted (returned_notes c.args.number c.args.records.now c.args.pending.now.notes) (shelf_of c.args.records.now.items c.args.number)) (shelf_of c.args.records.now.items c.args.number) (freed_width c.args.records.now.items c.args.number) c.args.by_height.now.items c.args.seconds.now) (sym alone)

pub returns-then-is_alone-clause-notes : goal.returns-then-is_alone-clause-notes
returns-then-is_alone-clause-notes c =
    let at = goal.at.returns-then-is_alone-clause-notes c in
    let merged : Notes = c.merge_shelves-made_unused.new.pending.notes in
    let new : Notes = c.raise_unless_noted.new.pending.notes in
    let is : merged ≡ returned_notes c.args.number c.args.records.now c.args.pending.now.notes =
    noted at.After-set_empty_present merged (emptied at.After-is_alone ∙ c.if-is_alone.true) c.merge_shelves-made_unused.ensures.notes in
    subst (λ (n : Notes). IsNotedLate (shelf_of c.args.records.now.items c.args.number) n new) is
    (subst (λ (s : ℕ). IsNotedLate s merged new) c.requires.shelf c.raise_unless_noted.ensures.notes)

pub returns-then-is_alone-clause-made_unused : goal.returns-then-is_alone-clause-made_unused
returns-then-is_alone-clause-made_unused c =
    let at = goal.at.returns-then-is_alone-clause-made_unused c in
    rw (
      c.merge_shelves-made_unused.ensures.made_unused,
      c.merge_item-merged.ensures.made_unused,
      said at.After-set_empty_present (emptied at.After-is_alone ∙ c.if-is_alone.true),
      c.requires.shelf,
    ) refl

-- where the shelf isn't empty, nothing else changes
stays : (c : After-is_alone) → c.is_alone.result ≡ false → (let shelf = shelf_of c.args.records.now.items c.args.number in StaysInUse shelf (item_merged shelf c.args.number c.args.records.now).records)
stays c in_use =
    stays-in-use (shelf_of c.args.records.now.items c.args.number) c.args.number c.args.records.now c.requires.fits.remaining c.requires.fits.linked
    (emptied c ∙ in_use)

pub returns-else-is_alone-clause-records : goal.returns-else-is_alone-clause-records
returns-else-is_alone-clause-records c =
    let still = stays (goal.at.returns-else-is_alone-clause-records c).After-is_alone c.if-is_alone.false in
    rw (c.merge_item-merged.ensures.records, c.requires.shelf) (sym still.records)

pub returns-else-is_alone-clause-by_height : goal.returns-else-is_alone-clause-by_height
returns-else-is_alone-clause-by_height c =
    let at = goal.at.returns-else-is_alone-clause-by_height c in
    rises c.args.shelf c.args.number (get_or c.items-items.result.now c.merge_item-merged.result.item c.index-items-merged.result).width c.args.records.now c.args.pending.now.notes c.args.by_height.now.items c.raise_both.new.by_height.items
    c.raise_both.ensures.by_height c.requires.shelf (wide at.After-index-items-merged)

pub returns-else-is_alone-clause-seconds : goal.returns-else-is_alone-clause-seconds
returns-else-is_alone-clause-seconds c =
    let at = goal.at.returns-else-is_alone-clause-seconds c in
    let still = stays at.After-is_alone c.if-is_alone.false in
    keeps c.args.shelf c.args.number (get_or c.items-items.result.now c.merge_item-merged.result.item c.index-items-merged.result).width c.args.records.now c.args.pending.now.notes c.args.pending.now.notes c.args.by_height.now.items c.args.seconds.now c.raise_both.new.seconds
    c.raise_both.ensures.seconds c.requires.shelf (wide at.After-index-items-merged) (sym (still.unnoted c.args.pending.now.notes))
    (stood at.After-is_alone ∙ c.if-is_alone.false)

pub returns-else-is_alone-clause-notes : goal.returns-else-is_alone-clause-notes
returns-else-is_alone-clause-notes c =
    let still = stays (goal.at.returns-else-is_alone-clause-notes c).After-is_alone c.if-is_alone.false in
    inl (sym (still.unnoted c.args.pending.now.notes))

pub returns-else-is_alone-clause-made_unused : goal.returns-else-is_alone-clause-made_unused
returns-else-is_alone-clause-made_unused c =
    let still = stays (goal.at.returns-else-is_alone-clause-made_unused c).After-is_alone c.if-is_alone.false in
    let one : c.merge_item-merged.result.made_unused ≡ (item_merged (shelf_of c.args.records.now.items c.args.number) c.args.number c.args.records.now).made_unused = rw (c.merge_item-merged.ensures.made_unused, c.requires.shelf) refl in
    omega (arith, one, still.made_unused)
