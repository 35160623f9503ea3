-- Where a grow puts no shelf record to use, the shelves in use are those that they were: it changes heights and items.
use Rattle.std.proofs.Common.{◌≡◌, ℕ, zero, suc, ◌+◌, ◌-◌, Bool, true, false, cond, Option, None, Some, List, length, map, refl, ap, arith, subst, sym, ◌∙◌}
use Rattle.std.proofs.lemmas.List.{length-map}
use Rattle.std.proofs.lemmas.Simd.{map-map}
use Rattle.std.specs.Prelude.{nat_lt, not, ◌&&◌, ◌==◌}
use Rattle.etagere_base.specs.Lists.{times}
use Rattle.etagere_base.specs.Frames.{across_side}
use Rattle.etagere_base.specs.declared.frames.Frame.{Frame}
use Rattle.etagere_links.specs.Edits.{link_at}
use Rattle.etagere_links.specs.Links.{bits_of}
use Rattle.etagere_links.specs.Walks.{walk}
use Rattle.etagere_links.proofs.RecordChanges.{link_at-same, map-changed_by}
use Rattle.shelf_records.specs.declared.records.LinkedShelf.{LinkedShelf}
use Rattle.shelf_records.specs.RecordLists.{Records, shelf_numbers, shelf_walk, walked_lists}
use Rattle.shelf_records.specs.RecordMaking.{records_made}
use Rattle.shelf_records.specs.RecordUses.{missing}
use Rattle.shelf_records.specs.Records.{item_chain, shelf_chain}
use Rattle.shelf_records.proofs.AllLists.LinkedWalks.{walked-numbers}
use Rattle.shelf_records.proofs.FirstLinks.{to_first_free}
use Rattle.shelf_heights.specs.Private.ByHeight.{AreByHeight, numbers_by_height}
use Rattle.shelf_heights.specs.declared.by_height.BoundedShelf.{BoundedShelf}
use Rattle.shelf_records.specs.AtlasRecords.{along_of, height_of, is_allocated_at, is_empty_at}
use Rattle.shelf_records.proofs.Spelled.RecordValues.{values-same}
use Rattle.shelf_store.specs.Private.RecordsGrown.{Growing, columns_heightened, counted_from, end_heightened, ends_column_at, filled_ends_of, is_filled_end, last_item, needed_of, next_item, records_grown, shelf_widened, shelves_widened, widened_after, with_height, with_missing, with_width}
use Rattle.shelf_store.specs.declared.growing.Needed.{Needed}

-- what a shelf record says of which shelf follows it, of its column, and of whether it is empty
record Standing : Type 0 where
  next : Option ℕ
  along : ℕ
  is_empty : Bool

abbrev standing : LinkedShelf → Standing
standing shelf = record { next = shelf_chain.next shelf; along = shelf.x; is_empty = shelf.is_empty }

-- shelves that follow each other in the same columns, and are empty as before
abbrev AreAlike : List LinkedShelf → List LinkedShelf → Type 0
AreAlike old new = map standing new ≡ map standing old

-- what is read of that is as before
read-alike : {X : Type 0} (read : Standing → X) (old new : List LinkedShelf) → AreAlike old new → map (λ shelf. read (standing shelf)) new ≡ map (λ shelf. read (standing shelf)) old
read-alike read old new alike = sym (map-map read standing new) ∙ ap (map read) alike ∙ map-map read standing old

-- and so are those of records, of which the first is the same
record IsAlike (old new : Records) : Type 0 where
  shelves : AreAlike old.shelves new.shelves
  first : new.first_shelf ≡ old.first_shelf

-- all stay where nothing changes
same-alike : (records : Records) → IsAlike records records
same-alike records = record { shelves = refl; first = refl }

-- step after step
then-alike : (old between new : Records) → IsAlike old between → IsAlike between new → IsAlike old new
then-alike old between new before after = record { shelves = after.shelves ∙ before.shelves; first = after.first ∙ before.first }

-- a shelf ends its column, filled, as before
filled-alike : (old new : List LinkedShelf) (shelf : ℕ) (next : Option ℕ) → AreAlike old new → is_filled_end new shelf next ≡ is_filled_end old shelf next
filled-alike old new shelf next alike = by_next next
  where
    along : (k : ℕ) → along_of new k ≡ along_of old k
    along k = values-same standing (λ (s : Standing). s.along) 0 old new k alike

    empty : is_empty_at new shelf ≡ is_empty_at old shelf
    empty = values-same standing (λ (s : Standing). s.is_empty) false old new shelf alike

    by_next : (next : Option ℕ) → is_filled_end new shelf next ≡ is_filled_end old shelf next
    by_next None = ap (λ (b : Bool). true && not b) empty
    by_next (Some k) =
        ap (λ (b : Bool). not (along_of new shelf == along_of new k) && not b) empty
        ∙ ap (λ (n : ℕ). not (n == along_of new k) && not (is_empty_at old shelf)) (along shelf)
        ∙ ap (λ (n : ℕ). not (along_of old shelf == n) && not (is_empty_at old shelf)) (along k)

-- and so many do
counted-alike : (old new : List LinkedShelf) (steps : ℕ) (at : Option ℕ) → AreAlike old new
    → counted_from (is_filled_end new) new steps at ≡ counted_from (is_filled_end old) old steps at
counted-alike old new zero at alike = refl
counted-alike old new (suc steps) None alike = refl
counted-alike old new (suc steps) (Some shelf) alike =
    let next : Option ℕ = link_at shelf_chain.next old shelf in
    ap (λ (n : Option ℕ). cond (is_filled_end new shelf n) 1 0 + counted_from (is_filled_end new) new steps n) (link_at-same shelf_chain.next old new shelf (read-alike (λ s. s.next) old new alike))
    ∙ ap (λ (b : Bool). cond b 1 0 + counted_from (is_filled_end new) new steps next) (filled-alike old new shelf next alike)
    ∙ ap (λ (n : ℕ). cond (is_filled_end old shelf next) 1 0 + n) (counted-alike old new steps next alike)

-- a height at the end of a column whose last shelf is empty, or at none
end-alike : (width shelf height : ℕ) (next : Option ℕ) (growing : Growing) → is_filled_end growing.records.shelves shelf next ≡ false
    → IsAlike growing.records (end_heightened width shelf height next growing).records
end-alike width shelf height next growing none = by_test (ends_column_at shelves shelf next) (is_empty_at shelves shelf) refl refl
  where
    shelves : List LinkedShelf
    shelves = growing.records.shelves

    taller : LinkedShelf → LinkedShelf
    taller here = record here { height = height_of shelves shelf + height }

    filled : (b e : Bool) → b ≡ true → e ≡ false → (b && not e) ≡ false → ⊥
    filled true false ends full not_so = cc
    filled true true ends full not_so = cc
    filled false e ends full not_so = cc

    by_test : (b e : Bool) → ends_column_at shelves shelf next ≡ b → is_empty_at shelves shelf ≡ e
        → IsAlike growing.records (end_heightened width shelf height next growing).records
    by_test false e ends empty = rw ends (same-alike growing.records)
    by_test true true ends empty = rw (ends, empty) (record { shelves = map-changed_by standing taller shelves (Some shelf) (λ s. refl); first = refl })
    by_test true false ends empty = absurd (filled (ends_column_at shelves shelf next) (is_empty_at shelves shelf) ends empty none)

-- a count of none counts not the first
none-first : (b : Bool) (n : ℕ) → cond b 1 0 + n ≡ 0 → (b ≡ false) × (n ≡ 0)
none-first true n none = absurd (omega (arith, none))
none-first false n none = (refl, omega (arith, none))

-- heights at the ends of columns of which none is filled
heights-alike : (width height steps : ℕ) (at : Option ℕ) (growing : Growing) → counted_from (is_filled_end growing.records.shelves) growing.records.shelves steps at ≡ 0
    → IsAlike growing.records (columns_heightened width height steps at growing).records
heights-alike width height zero at growing none = same-alike growing.records
heights-alike width height (suc steps) None growing none = same-alike growing.records
heights-alike width height (suc steps) (Some shelf) growing none =
    let shelves : List LinkedShelf = growing.records.shelves in
    let next : Option ℕ = link_at shelf_chain.next shelves shelf in
    let after : Growing = end_heightened width shelf height next growing in
    let first = none-first (is_filled_end shelves shelf next) (counted_from (is_filled_end shelves) shelves steps next) none in
    let end : IsAlike growing.records after.records = end-alike width shelf height next growing first.0 in
    then-alike growing.records after.records (columns_heightened width height steps next after).records end
    (heights-alike width height steps next after (counted-alike shelves after.records.shelves steps next end.shelves ∙ first.1))

-- a width at the end of a shelf
widened-alike : (shelf place width : ℕ) (last : Option ℕ) (growing : Growing) → IsAlike growing.records (widened_after shelf place width last growing).records
widened-alike shelf place width None growing = same-alike growing.records
widened-alike shelf place width (Some last) growing = by_test (is_allocated_at growing.records.items last) refl
  where
    by_test : (b : Bool) → is_allocated_at growing.records.items last ≡ b → IsAlike growing.records (widened_after shelf place width (Some last) growing).records
    by_test true e = rw e (record { shelves = map-changed_by standing (to_first_free (Some (next_item growing))) growing.records.shelves (Some shelf) (λ s. refl); first = refl })
    by_test false e = rw e (record { shelves = refl; first = refl })

-- and at the ends of so many
widths-alike : (place width steps : ℕ) (at : Option ℕ) (growing : Growing) → IsAlike growing.records (shelves_widened place width steps at growing).records
widths-alike place width zero at growing = same-alike growing.records
widths-alike place width (suc steps) None growing = same-alike growing.records
widths-alike place width (suc steps) (Some shelf) growing =
    let widened : Growing = shelf_widened shelf place width growing in
    let next : Option ℕ = link_at shelf_chain.next widened.records.shelves shelf in
    then-alike growing.records widened.records (shelves_widened place width steps next widened).records
    (widened-alike shelf place width (last_item growing.records shelf) growing)
    (widths-alike place width steps next widened)

-- a grow that needs no shelf record
grown-alike : (frame grown : Frame) (needed : Needed) (records : Records) → needed ≡ needed_of frame grown records → needed.shelves ≡ 0
    → IsAlike records (records_grown frame grown needed records).records
grown-alike frame grown needed records is none =
    then-alike records wide.records (records_grown frame grown needed records).records begun
    (then-alike wide.records tall.records (records_grown frame grown needed records).records (by_height (nat_lt (across_side frame) (across_side grown)) refl)
    (by_columns (nat_lt frame.columns grown.columns) refl))
  where
    made : Growing
    made = with_missing needed records

    wide : Growing
    wide = with_width frame grown made

    tall : Growing
    tall = with_height frame grown wide

    both : cond (nat_lt (across_side frame) (across_side grown)) (filled_ends_of records) 0 + (grown.columns - frame.columns) ≡ 0
    both = sym (ap (λ (n : Needed). n.shelves) is) ∙ none

    made-is : IsAlike records made.records
    made-is =
        subst (λ (n : ℕ). IsAlike records (records_made (missing item_chain needed.items records.unused_items records.items) (missing shelf_chain n records.unused_shelves records.shelves) records))
        (sym none) (record { shelves = refl; first = refl })

    by_width : (b : Bool) → nat_lt frame.column_width grown.column_width ≡ b → IsAlike made.records wide.records
    by_width true e = rw e (widths-alike frame.column_width (grown.column_width - frame.column_width) (length made.records.shelves) made.records.first_shelf made)
    by_width false e = rw e (same-alike made.records)

    begun : IsAlike records wide.records
    begun = then-alike records made.records wide.records made-is (by_width (nat_lt frame.column_width grown.column_width) refl)

    no-ends : filled_ends_of records ≡ 0 → counted_from (is_filled_end wide.records.shelves) wide.records.shelves (length wide.records.shelves) wide.records.first_shelf ≡ 0
    no-ends unfilled =
        let size : length wide.records.shelves ≡ length records.shelves =
        omega (arith, length-map records.shelves standing, length-map wide.records.shelves standing, ap length begun.shelves) in
        ap (λ (n : ℕ). counted_from (is_filled_end wide.records.shelves) wide.records.shelves n wide.records.first_shelf) size
        ∙ ap (counted_from (is_filled_end wide.records.shelves) wide.records.shelves (length records.shelves)) begun.first
        ∙ counted-alike records.shelves wide.records.shelves (length records.shelves) records.first_shelf begun.shelves
        ∙ unfilled

    by_height : (b : Bool) → nat_lt (across_side frame) (across_side grown) ≡ b → IsAlike wide.records tall.records
    by_height true e =
        let unfilled : filled_ends_of records ≡ 0 = omega (arith, sym (ap (λ (b : Bool). cond b (filled_ends_of records) 0 + (grown.columns - frame.columns)) e) ∙ both) in
        rw e (heights-alike grown.column_width (across_side grown - across_side frame) (length wide.records.shelves) wide.records.first_shelf wide (no-ends unfilled))
    by_height false e = rw e (same-alike wide.records)

    no-more : (a b m : ℕ) → nat_lt a b ≡ true → m + (b - a) ≡ 0 → ⊥
    no-more a b m more zeros = grind arith

    by_columns : (b : Bool) → nat_lt frame.columns grown.columns ≡ b → IsAlike tall.records (records_grown frame grown needed records).records
    by_columns true e = absurd (no-more frame.columns grown.columns (cond (nat_lt (across_side frame) (across_side grown)) (filled_ends_of records) 0) e both)
    by_columns false e = rw e (same-alike tall.records)

-- walks meet the same shelves
walk-alike : (old new : Records) → IsAlike old new → (shelf_walk new).met ≡ (shelf_walk old).met
walk-alike old new alike =
    ap (λ (links : List ℕ). (walk links (bits_of new.first_shelf)).met) (read-alike (λ s. bits_of s.next) old.shelves new.shelves alike.shelves)
    ∙ ap (λ (first : Option ℕ). (walk (map (λ (shelf : LinkedShelf). bits_of (shelf_chain.next shelf)) old.shelves) (bits_of first)).met) alike.first

-- so that a list by height has the shelves in use still
same-shelves : (frame : Frame) (old new : Records) (before after : List BoundedShelf) → AreByHeight frame old before → after ≡ before → IsAlike old new
    → (shelf : ℕ) → times shelf (numbers_by_height after) ≡ times shelf (shelf_numbers (walked_lists new).entries)
same-shelves frame old new before after are same alike shelf =
    ap (λ (by_height : List BoundedShelf). times shelf (numbers_by_height by_height)) same
    ∙ are.once shelf
    ∙ ap (times shelf) (walked-numbers old (shelf_walk old).met ∙ sym (walk-alike old new alike) ∙ sym (walked-numbers new (shelf_walk new).met))

-- nor does a grow that needs none change which they are
pub grown-same : (frame grown : Frame) (needed : Needed) (old new : Records) (before after : List BoundedShelf) → AreByHeight frame old before → after ≡ before
    → needed ≡ needed_of frame grown old → needed.shelves ≡ 0 → new ≡ (records_grown frame grown needed old).records
    → (shelf : ℕ) → times shelf (numbers_by_height after) ≡ times shelf (shelf_numbers (walked_lists new).entries)
grown-same frame grown needed old new before after are same is none grows =
    same-shelves frame old new before after are same (subst (λ (r : Records). IsAlike old r) (sym grows) (grown-alike frame grown needed old is none))
