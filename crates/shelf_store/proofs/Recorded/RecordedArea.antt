-- Returning the item of a record takes the area that the record says from the space that is allocated.
use Rattle.std.proofs.Common.{◌≡◌, ℕ, ◌+◌, ◌*◌, Bool, true, false, Option, None, Some, refl, ap, sym, arith, ◌∙◌, pos, take}
use Rattle.std.specs.Prelude.{is_some, option_map, position}
use Rattle.etagere_base.specs.declared.frames.Frame.{Frame}
use Rattle.etagere_base.specs.declared.geometry.Point.{Point}
use Rattle.etagere_base.specs.declared.geometry.Rectangle.{Rectangle}
use Rattle.etagere_base.specs.Places.{rectangle_at}
use Rattle.etagere_base.specs.Sides.{swapped_axes}
use Rattle.shelf_records.specs.RecordLists.{Records}
use Rattle.etagere_base.proofs.FirstPlace.{first-at}
use Rattle.shelf_records.specs.AtlasRecords.{across_of, height_of, item_at, item_place_of, shelf_of}
use Rattle.shelf_model.specs.Places.{column_height, column_place, is_allocated, rectangle_of}
use Rattle.shelf_records.specs.Private.Kept.{AreKept, state_of}
use Rattle.shelf_records.specs.Private.Reading.{record_of, recorded_area, recorded_rectangle}
use Rattle.shelf_model.proofs.Allocations.InShelves.{is_allocated_in, width_of}
use Rattle.shelf_model.specs.Returning.{place_at, returned}
use Rattle.shelf_model.specs.Space.{allocated_space}
use Rattle.shelf_model.specs.State.{Shelf, AtlasState}
use Rattle.shelf_model.proofs.Allocations.AllocatedIds.{not_found-not_allocated}
use Rattle.shelf_model.proofs.Allocations.AllocatedItems.{item_of_owner}
use Rattle.shelf_model.proofs.Allocations.AllocatedRectangles.{rectangle_of-allocated}
use Rattle.shelf_records.proofs.Recorded.RecordsOfIds.{kept-allocated, kept-rectangle}
use Rattle.shelf_model.proofs.Returned.ReturnedSpace.{space-returned}
use Rattle.shelf_records.proofs.Spelled.StandsKept.{witnesses}

-- the point at two places
abbrev point : Bool → ℕ → ℕ → Point
point vertical along across =
    let place = swapped_axes vertical (record { along = along; across = across }) in
    record { x = pos place.along; y = pos place.across }

-- one rectangle has one width along and one height across
one-sides : (vertical : Bool) (a b w h c d v k : ℕ) → point vertical a b ≡ point vertical c d → point vertical (a + w) (b + h) ≡ point vertical (c + v) (d + k) → (w ≡ v) × (h ≡ k)
one-sides true a b w h c d v k min max =
    let x : pos b ≡ pos d = ap (λ (p : Point). p.x) min in
    let y : pos a ≡ pos c = ap (λ (p : Point). p.y) min in
    let right : pos (b + h) ≡ pos (d + k) = ap (λ (p : Point). p.x) max in
    let bottom : pos (a + w) ≡ pos (c + v) = ap (λ (p : Point). p.y) max in
    let across : b ≡ d = cc in
    let along : a ≡ c = cc in
    let across_end : b + h ≡ d + k = cc in
    let along_end : a + w ≡ c + v = cc in
    (omega (arith, along, along_end), omega (arith, across, across_end))
one-sides false a b w h c d v k min max =
    let x : pos a ≡ pos c = ap (λ (p : Point). p.x) min in
    let y : pos b ≡ pos d = ap (λ (p : Point). p.y) min in
    let right : pos (a + w) ≡ pos (c + v) = ap (λ (p : Point). p.x) max in
    let bottom : pos (b + h) ≡ pos (d + k) = ap (λ (p : Point). p.y) max in
    let along : a ≡ c = cc in
    let across : b ≡ d = cc in
    let along_end : a + w ≡ c + v = cc in
    let across_end : b + h ≡ d + k = cc in
    (omega (arith, along, along_end), omega (arith, across, across_end))

-- so one rectangle has one area
one-area : (frame : Frame) (a b w h c d v k : ℕ) → rectangle_at frame a b w h ≡ rectangle_at frame c d v k → w * h ≡ v * k
one-area frame a b w h c d v k same =
    let sides = one-sides frame.vertical a b w h c d v k (ap (λ (r : Rectangle). r.min) same) (ap (λ (r : Rectangle). r.max) same) in
    rw (sides.0, sides.1) refl

-- the area that a return takes is that of the rectangle of the record, whose item stands in the shelf of this number
place-area : (frame : Frame) (records : Records) (id number n : ℕ) → AreKept frame records → record_of records.items id ≡ Some number → position (is_allocated_in id) (state_of frame records).shelves ≡ Some n
    → allocated_space (returned (state_of frame records) id) + recorded_area records number ≡ allocated_space (state_of frame records)
place-area frame records id number n kept named found =
    let state : AtlasState = state_of frame records in
    let s = first-at (is_allocated_in id) state.shelves n found in
    let shelf : Shelf = s.first in
    let item = item_of_owner id shelf.items s.passes in
    let across : ℕ = column_height shelf.column (take n state.shelves) in
    let lies : ℕ → Rectangle = λ k. rectangle_at frame (place_at (column_place frame shelf) shelf.items k) across (width_of shelf.items k) shelf.height in
    let given : rectangle_of state id ≡ Some (recorded_rectangle frame records number) =
    kept-rectangle frame records id kept ∙ ap (option_map (recorded_rectangle frame records)) named in
    let there : rectangle_of state id ≡ Some (lies item.number) =
    rectangle_of-allocated frame id n state.shelves shelf found s.at.get ∙ ap (option_map lies) item.found in
    let both : Some (lies item.number) ≡ Some (recorded_rectangle frame records number) = sym there ∙ given in
    let same : lies item.number ≡ recorded_rectangle frame records number = cc in
    let area : width_of shelf.items item.number * shelf.height ≡ recorded_area records number =
    one-area frame (place_at (column_place frame shelf) shelf.items item.number) across (width_of shelf.items item.number) shelf.height
    (item_place_of records.items number) (across_of records.shelves (shelf_of records.items number)) (item_at records.items number).width (height_of records.shelves (shelf_of records.items number)) same in
    ap (λ (k : ℕ). allocated_space (returned state id) + k) (sym area) ∙ space-returned state id n item.number shelf (witnesses kept).valid found s.at.get item.found

-- where an id names a record, that record's area is what a return takes
pub kept-area : (frame : Frame) (records : Records) (id number : ℕ) → AreKept frame records → record_of records.items id ≡ Some number
    → allocated_space (returned (state_of frame records) id) + recorded_area records number ≡ allocated_space (state_of frame records)
kept-area frame records id number kept named =
    by_place (position (is_allocated_in id) (state_of frame records).shelves) refl (kept-allocated frame records id kept ∙ ap is_some named)
  where
    by_place : (index : Option ℕ) → position (is_allocated_in id) (state_of frame records).shelves ≡ index → is_allocated (state_of frame records) id ≡ true
        → allocated_space (returned (state_of frame records) id) + recorded_area records number ≡ allocated_space (state_of frame records)
    by_place None e is_there =
        let not_there : is_allocated (state_of frame records) id ≡ false = not_found-not_allocated (state_of frame records) id e in absurd (cc)
    by_place (Some n) e is_there = place-area frame records id number n kept named e
