-- Where a shelf is noted in place of its bound being raised, the list of shelves by height holds as well.
use Rattle.std.proofs.Common.{◌≡◌, ℕ, ◌≤◌, Bool, true, false, List, ap, arith, subst, sym, ◌∙◌, inl, inr}
use Rattle.etagere_base.specs.Lists.{times}
use Rattle.shelf_records.specs.AtlasRecords.{AtlasRecords}
use Rattle.shelf_records.specs.RecordLists.{Entry}
use Rattle.shelf_heights.specs.Private.ByHeight.{numbers_by_height}
use Rattle.shelf_heights.specs.declared.by_height.BoundedShelf.{BoundedShelf}
use Rattle.shelf_heights.proofs.ByHeight.Edited.{numbers-raised}
use Rattle.shelf_notes.specs.Private.Pending.{Notes, is_in_use, is_listed, is_noted, noted_as}
use Rattle.shelf_notes.proofs.Noted.{in_use-within, once-true}
use Rattle.shelf_store.specs.Private.ReturnedNotes.{IsNotedLate, raised_unless}
use Rattle.shelf_store.specs.Private.Settling.{HoldsExceptNoted}
use Rattle.shelf_store.proofs.ByHeight.LaterNotes.{noted-later, raised-later}
use Rattle.shelf_store.proofs.ByHeight.ParkedShelves.{noted-holds}

-- a shelf that hasn't changed, and that the list has, is in use
listed-used : (atlas : AtlasRecords) (entries : List Entry) (notes : Notes) (by_height : List BoundedShelf) (shelf : ℕ) → is_noted notes shelf ≡ false → 1 ≤ times shelf (numbers_by_height by_height) → HoldsExceptNoted atlas entries notes by_height → is_in_use notes shelf ≡ true
listed-used atlas entries notes by_height shelf none stands holds =
    sym (holds.settled shelf none).listed ∙ once-true (is_listed notes shelf) (omega (arith, holds.listed shelf, stands))

-- the numbers stay where a bound may be raised
stands-raised : (changed : Bool) (shelf width : ℕ) (by_height : List BoundedShelf) → 1 ≤ times shelf (numbers_by_height by_height) → 1 ≤ times shelf (numbers_by_height (raised_unless changed shelf width by_height))
stands-raised true shelf width by_height stands = stands
stands-raised false shelf width by_height stands = omega (arith, stands, ap (times shelf) (numbers-raised shelf width by_height))

-- the list holds where a shelf may be noted in place of its bound being raised
pub late-holds : (atlas : AtlasRecords) (entries : List Entry) (notes new : Notes) (shelf width : ℕ) (by_height : List BoundedShelf) → (is_noted notes shelf ≡ false → 1 ≤ times shelf (numbers_by_height by_height)) → IsNotedLate shelf notes new → HoldsExceptNoted atlas entries notes (raised_unless (is_noted notes shelf) shelf width by_height)
    → HoldsExceptNoted atlas entries new (raised_unless (is_noted new shelf) shelf width by_height)
late-holds atlas entries notes new shelf width by_height stands (inl same) holds =
    subst (λ (n : Notes). HoldsExceptNoted atlas entries n (raised_unless (is_noted n shelf) shelf width by_height)) (sym same) holds
late-holds atlas entries notes new shelf width by_height stands (inr late) holds =
    let list : List BoundedShelf = raised_unless (is_noted notes shelf) shelf width by_height in
    let used : is_in_use notes shelf ≡ true = listed-used atlas entries notes list shelf late.0 (stands-raised (is_noted notes shelf) shelf width by_height (stands late.0)) holds in
    subst (λ (n : Notes). HoldsExceptNoted atlas entries n (raised_unless (is_noted n shelf) shelf width by_height)) (sym late.1)
    (raised-later atlas entries notes (noted_as shelf true notes) shelf width by_height (noted-later notes shelf true)
    (noted-holds atlas entries notes list shelf (in_use-within notes.standing shelf used) used holds))
