-- Where columns become neither wider nor taller nor more, a grow needs no record and changes none.
use Rattle.std.proofs.Common.{◌≡◌, ◌-◌, Bool, true, false, ℕ, List, refl, ap, ◌∙◌, sym, arith, subst}
use Rattle.std.specs.Prelude.{nat_lt, ◌||◌}
use Rattle.etagere_base.specs.declared.frames.Frame.{Frame}
use Rattle.etagere_base.specs.Frames.{across_side}
use Rattle.shelf_records.specs.RecordLists.{Records}
use Rattle.shelf_records.specs.RecordMaking.{records_made}
use Rattle.shelf_records.specs.RecordUses.{missing}
use Rattle.shelf_records.specs.Records.{item_chain, shelf_chain}
use Rattle.shelf_heights.specs.Private.ByHeight.{AreByHeight}
use Rattle.shelf_store.specs.Private.RecordsGrown.{Growing, needed_of, records_grown, with_columns, with_height, with_missing, with_width}
use Rattle.shelf_store.specs.declared.growing.Needed.{Needed}
use Rattle.shelf_heights.specs.declared.by_height.BoundedShelf.{BoundedShelf}

-- tests of which none passed
none-of : (a b c : Bool) → (a || b || c) ≡ false → (a ≡ false) × (b ≡ false) × (c ≡ false)
none-of false false false h = (refl, refl, refl)
none-of false false true h = absurd cc
none-of false true c h = absurd cc
none-of true b c h = absurd cc

-- what isn't more is nothing more
none-more : (a b : ℕ) → nat_lt a b ≡ false → b - a ≡ 0
none-more a b h = grind arith

-- columns that aren't wider
no-width : (frame grown : Frame) (growing : Growing) → nat_lt frame.column_width grown.column_width ≡ false → with_width frame grown growing ≡ growing
no-width frame grown growing h = rw h refl

-- columns that aren't taller
no-height : (frame grown : Frame) (growing : Growing) → nat_lt (across_side frame) (across_side grown) ≡ false → with_height frame grown growing ≡ growing
no-height frame grown growing h = rw h refl

-- columns that aren't more
no-columns : (frame grown : Frame) (growing : Growing) → nat_lt frame.columns grown.columns ≡ false → with_columns frame grown growing ≡ growing
no-columns frame grown growing h = rw h refl

-- records to which nothing is added stay as they are
pub nothing-grown : (frame grown : Frame) (needed : Needed) (records : Records) → needed ≡ needed_of frame grown records
    → (nat_lt frame.column_width grown.column_width || nat_lt (across_side frame) (across_side grown) || nat_lt frame.columns grown.columns) ≡ false
    → (records_grown frame grown needed records).records ≡ records
nothing-grown frame grown needed records is none =
    let tests = none-of (nat_lt frame.column_width grown.column_width) (nat_lt (across_side frame) (across_side grown)) (nat_lt frame.columns grown.columns) none in
    let none_more : grown.columns - frame.columns ≡ 0 = none-more frame.columns grown.columns tests.2 in
    let no_shelves : needed.shelves ≡ 0 = ap (λ (n : Needed). n.shelves) is ∙ rw (tests.1) (omega (arith, none_more)) in
    let no_items : needed.items ≡ 0 = ap (λ (n : Needed). n.items) is ∙ rw (tests.0, tests.1) (omega (arith, none_more)) in
    ap (λ (g : Growing). (with_columns frame grown (with_height frame grown g)).records) (no-width frame grown (with_missing needed records) tests.0)
    ∙ ap (λ (g : Growing). (with_columns frame grown g).records) (no-height frame grown (with_missing needed records) tests.1)
    ∙ ap (λ (g : Growing). g.records) (no-columns frame grown (with_missing needed records) tests.2)
    ∙ ap (λ (n : ℕ). records_made (missing item_chain n records.unused_items records.items) (missing shelf_chain needed.shelves records.unused_shelves records.shelves) records) no_items
    ∙ ap (λ (n : ℕ). records_made 0 (missing shelf_chain n records.unused_shelves records.shelves) records) no_shelves

-- shelves stand by height in one frame as in another
pub by_height-elsewhere : (frame grown : Frame) (old new : Records) (before after : List BoundedShelf) → new ≡ old → after ≡ before → AreByHeight frame old before → AreByHeight grown new after
by_height-elsewhere frame grown old new before after same_records same_by_height are =
    subst (λ (records : Records). AreByHeight grown records after) (sym same_records)
    (subst (λ (by_height : List BoundedShelf). AreByHeight grown old by_height) (sym same_by_height)
    (record { once = are.once; rising = are.rising; bounds = are.bounds }))
