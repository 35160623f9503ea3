-- What an allocation leaves of an atlas: the state that its records spell, and what is counted beside them.
use Rattle.std.proofs.Common.{◌≡◌, ℕ, ◌+◌, ◌<◌, ◌≤◌, false, Option, None, Some, IfSome, List, ◌∷◌, length, refl, ap, sym, subst, ◌∙◌, arith, Bool, true, cond}
use Rattle.std.proofs.lemmas.List.{length-map}
use Rattle.std.specs.Prelude.{◌^◌, ◌&&◌, nat_lt, not}
use Rattle.std.specs.Option.{option_map_or}
use Rattle.etagere_base.specs.declared.frames.Frame.{Frame}
use Rattle.etagere_base.specs.declared.geometry.Rectangle.{Rectangle}
use Rattle.etagere_base.specs.declared.geometry.Size.{Size}
use Rattle.etagere_base.specs.declared.ids.Allocation.{Allocation}
use Rattle.shelf_heights.specs.Private.ByHeight.{numbers_by_height, rebounded}
use Rattle.shelf_records.specs.RecordLists.{Records, shelf_numbers, walked_lists}
use Rattle.shelf_model.specs.Choice.{Placement, area, rectangle_of_placement, splits}
use Rattle.shelf_notes.specs.Private.Pending.{Notes, is_noted, once_where, is_in_use, noted_as}
use Rattle.shelf_notes.specs.Private.SecondWidths.{second_at}
use Rattle.shelf_records.specs.Private.Kept.{AreKept, Finds, bare, state_of}
use Rattle.shelf_store.specs.Private.PlacementTaken.{CanTakeFrom, id_of, placement_taken, taken_notes}
use Rattle.shelf_store.specs.Private.SecondWidths.{AreSeconds, FollowsTaking, IsBoundLeft}
use Rattle.shelf_store.specs.Private.Settling.{AreByHeightExceptNoted, HoldsExceptNoted}
use Rattle.shelf_model.specs.Space.{allocated_space}
use Rattle.shelf_model.specs.State.{AtlasState, items_in_use}
use Rattle.shelf_model.specs.Taking.{taken}
use Rattle.shelf_heights.specs.declared.by_height.BoundedShelf.{BoundedShelf}
use Rattle.etagere_base.proofs.TimesLemmas.{times-append, times-here}
use Rattle.etagere_base.specs.Lists.{times}
use Rattle.shelf_store.proofs.ByHeight.KeptSeconds.{seconds-equal}
use Rattle.shelf_store.proofs.ByHeight.RoomByHeight.{rest-next}
use Rattle.shelf_store.proofs.ByHeight.SplitByHeight.{used-once}
use Rattle.shelf_store.proofs.ByHeight.TakenByHeight.{taken-holds}
use Rattle.shelf_store.proofs.ByHeight.TakenSeconds.{rebounded-holds, taken-bound, taken-seconds}
use Rattle.shelf_store.proofs.Spelled.TakenPremises.{can-take}
use Rattle.shelf_model.proofs.Spaces.SpaceSmall.{space-taken-small}
use Rattle.shelf_store.proofs.Spelled.TakenKept.{KeepsTaken, placement-kept}
use Rattle.shelf_model.proofs.Taken.PlacedWithin.{placed-within}
use Rattle.shelf_model.proofs.Taken.Allocated.{Allocated, taken-allocated}
use Rattle.shelf_model.proofs.Taken.TakenSpace.{space-taken}
use Rattle.shelf_model.proofs.Taken.TakenValid.{taken-items_in_use}
use Rattle.shelf_records.proofs.Spelled.StandsKept.{witnesses}
use Rattle.shelf_notes.proofs.Noted.{in_use-within, once-true}
use Rattle.shelf_store.specs.Private.FoundNotes.{found_notes, leaves_narrow}
use Rattle.shelf_store.proofs.ByHeight.ParkedShelves.{noted-holds}

-- what was found in records has the rectangle, the area and the splits of the placement that it stands for
pub record AsPlaced (frame : Frame) (found placement : Placement) : Type 0 where
  pub rectangle : rectangle_of_placement frame found ≡ rectangle_of_placement frame placement
  pub area : area found ≡ area placement
  pub splits : splits found ≡ splits placement
  pub right : found.along + found.width ≤ 65535
  pub bottom : found.across + found.height ≤ 65535

-- what was found for a size is as the placement is
pub found-as_placed : (frame : Frame) (records : Records) (size : Size) (found : Placement) → AreKept frame records → (finds : Finds frame records size found) → AsPlaced frame found finds.placement
found-as_placed frame records size found kept finds =
    let placement : Placement = finds.placement in
    let same : found ≡ record placement { shelf = found.shelf; item = found.item } = finds.located.same in
    let ends = placed-within (state_of frame records) size placement (witnesses kept).valid finds.placed in
    record {
      rectangle = ap (rectangle_of_placement frame) same;
      area = ap area same;
      splits = ap splits same;
      right = omega (arith, ends.right, ap (λ (p : Placement). p.along) same, ap (λ (p : Placement). p.width) same);
      bottom = omega (arith, ends.bottom, ap (λ (p : Placement). p.across) same, ap (λ (p : Placement). p.height) same);
    }

-- what taking what was found leaves of the shelves by height
pub found-holds : (frame : Frame) (records : Records) (size : Size) (found : Placement) (notes : Notes) (by_height : List BoundedShelf) → AreKept frame records → Finds frame records size found
    → AreByHeightExceptNoted frame records notes by_height
    → AreByHeightExceptNoted frame (placement_taken frame.column_width found records) (taken_notes found records notes) by_height
found-holds frame records size found notes by_height kept finds holds =
    let placement : Placement = finds.placement in
    let can : CanTakeFrom frame.column_width found records = can-take frame records size placement found kept finds.placed finds.located in
    taken-holds frame records placement found notes by_height kept (placement-kept frame records size placement found kept finds.placed finds.located)
    (ap (λ (p : Placement). p.splits_shelf) finds.located.same) holds
    (λ rest names. rest-next found records rest names can.rests.shelf)

-- no more than one free item of each shelf passes the width that is kept of it then
pub found-seconds : (frame : Frame) (records : Records) (size : Size) (found : Placement) (seconds after : List ℕ) → AreKept frame records → Finds frame records size found → AreSeconds records seconds → ((k : ℕ) → second_at after k ≡ second_at seconds k)
    → AreSeconds (placement_taken frame.column_width found records) after
found-seconds frame records size found seconds after kept finds are same =
    seconds-equal (placement_taken frame.column_width found records) seconds after same
    (taken-seconds frame records finds.placement found seconds (placement-kept frame records size finds.placement found kept finds.placed finds.located) are)

-- what it leaves of the shelves by height, where its shelf may get another bound
pub found-follows : (frame : Frame) (records : Records) (size : Size) (found : Placement) (notes : Notes) (seconds : List ℕ) (by_height new : List BoundedShelf) → AreKept frame records → Finds frame records size found → AreSeconds records seconds
    → AreByHeightExceptNoted frame records notes by_height → FollowsTaking records.items notes seconds found by_height new
    → AreByHeightExceptNoted frame (placement_taken frame.column_width found records) (taken_notes found records notes) new × (length new ≡ length by_height)
found-follows frame records size found notes seconds by_height new kept finds are holds follows = by_bound follows.left follows.bounds follows.list
  where
    taken : Records
    taken = placement_taken frame.column_width found records

    Follows : List BoundedShelf → Type 0
    Follows list = AreByHeightExceptNoted frame taken (taken_notes found records notes) list × (length list ≡ length by_height)

    before : AreByHeightExceptNoted frame taken (taken_notes found records notes) by_height
    before = found-holds frame records size found notes by_height kept finds holds

    by_bound : (o : Option ℕ) → IfSome o (IsBoundLeft records.items notes seconds found) → new ≡ option_map_or (λ (bound : ℕ). rebounded found.shelf bound by_height) o by_height → Follows new
    by_bound None bounds list = subst Follows (sym list) (before, refl)
    by_bound (Some bound) bounds list =
        subst Follows (sym list) (
          rebounded-holds (bare frame taken) (walked_lists taken).entries (taken_notes found records notes) by_height found.shelf bound
              (taken-bound frame records finds.placement found seconds (placement-kept frame records size finds.placement found kept finds.placed finds.located) are notes bound bounds
              (ap (λ (p : Placement). p.splits_shelf) finds.located.same) (ap (λ (p : Placement). p.width) finds.located.same)) before,
          length-map by_height _,
        )

-- its shelf is in use
found-in_use : (frame : Frame) (records : Records) (size : Size) (found : Placement) → AreKept frame records → (finds : Finds frame records size found) → 1 ≤ times found.shelf (shelf_numbers (walked_lists records).entries)
found-in_use frame records size found kept finds =
    let made : KeepsTaken frame records finds.placement found = placement-kept frame records size finds.placement found kept finds.placed finds.located in
    omega (arith, ap (times found.shelf) made.spells.numbers, times-append found.shelf made.spells.front (found.shelf ∷ made.spells.back), times-here found.shelf made.spells.back)

-- it is there
pub found-there : (frame : Frame) (records : Records) (size : Size) (found : Placement) → AreKept frame records → (finds : Finds frame records size found) → found.shelf < length records.shelves
found-there frame records size found kept finds = (used-once frame records kept).within found.shelf (found-in_use frame records size found kept finds)

-- and stands in the list of shelves by height, where it has not changed
pub found-stands : (frame : Frame) (records : Records) (size : Size) (found : Placement) (notes : Notes) (by_height : List BoundedShelf) → AreKept frame records → Finds frame records size found → AreByHeightExceptNoted frame records notes by_height
    → is_noted notes found.shelf ≡ false → 1 ≤ times found.shelf (numbers_by_height by_height)
found-stands frame records size found notes by_height kept finds holds unnoted =
    omega (arith, holds.listed found.shelf, holds.in_use found.shelf, found-in_use frame records size found kept finds, ap once_where (holds.settled found.shelf unnoted).listed)

-- and what was noted may be noted of it too, where it has not changed
pub found-noted : (frame : Frame) (records new : Records) (size : Size) (found : Placement) (notes : Notes) (by_height : List BoundedShelf) → AreKept frame records → Finds frame records size found
    → HoldsExceptNoted (bare frame records) (walked_lists records).entries notes by_height
    → (list : List BoundedShelf) → AreByHeightExceptNoted frame new (taken_notes found records notes) list → AreByHeightExceptNoted frame new (found_notes found records notes) list
found-noted frame records new size found notes by_height kept finds holds list after = by_width (leaves_narrow records.items notes found) refl
  where
    in_use : is_in_use notes found.shelf ≡ true
    in_use = once-true (is_in_use notes found.shelf) (omega (arith, holds.in_use found.shelf, found-in_use frame records size found kept finds))

    whole : (a b c : Bool) → (a && (not b && c)) ≡ true → b ≡ false
    whole false b c so = absurd (cc)
    whole true true c so = absurd (cc)
    whole true false c so = refl

    by_width : (b : Bool) → leaves_narrow records.items notes found ≡ b → AreByHeightExceptNoted frame new (cond b (noted_as found.shelf true (taken_notes found records notes)) (taken_notes found records notes)) list
    by_width true e =
        let none : found.splits_shelf ≡ false = whole (nat_lt 0 notes.parked_below) found.splits_shelf _ e in
        let same : taken_notes found records notes ≡ notes = rw none refl in
        noted-holds (bare frame new) (walked_lists new).entries (taken_notes found records notes) list found.shelf
        (omega (arith, in_use-within notes.standing found.shelf in_use, ap (λ (n : Notes). length n.standing) same))
        (ap (λ (n : Notes). is_in_use n found.shelf) same ∙ in_use) after
    by_width false e = after

-- what holds after what was found for a size was taken, of the records and of the id
pub record AfterTaking (frame : Frame) (records : Records) (size : Size) (found : Placement) (allocation : Allocation) (new : Records) : Type 0 where
  pub kept : AreKept frame new
  pub allocated : Allocated (state_of frame records) size allocation (state_of frame new)
  pub counted : items_in_use (state_of frame new).shelves ≡ items_in_use (state_of frame records).shelves + splits found
  pub space : allocated_space (state_of frame new) ≡ allocated_space (state_of frame records) + area found
  pub small : allocated_space (state_of frame records) + area found < 2 ^ 31

-- what holds after what was found was taken
placement_taken-after : (frame : Frame) (records : Records) (size : Size) (found : Placement) → AreKept frame records → Finds frame records size found
    → AfterTaking frame records size found (record { id = id_of records.items found.item; rectangle = rectangle_of_placement frame found }) (placement_taken frame.column_width found records)
placement_taken-after frame records size found kept finds =
    let placement : Placement = finds.placement in
    let state : AtlasState = state_of frame records in
    let id : ℕ = id_of records.items found.item in
    let made : KeepsTaken frame records placement found = placement-kept frame records size placement found kept finds.placed finds.located in
    let as_placed = found-as_placed frame records size found kept finds in
    let allocated : Allocated state size (record { id = id; rectangle = rectangle_of_placement frame placement }) (taken state placement id) =
    taken-allocated state size placement id (witnesses kept).valid finds.placed made.fresh made.below in
    record {
      kept = made.kept;
      allocated = subst (λ (r : Rectangle). Allocated state size (record { id = id; rectangle = r }) (state_of frame (placement_taken frame.column_width found records))) (sym as_placed.rectangle)
          (subst (Allocated state size (record { id = id; rectangle = rectangle_of_placement frame placement })) (sym made.state) allocated);
      counted = ap (λ (s : AtlasState). items_in_use s.shelves) made.state ∙ taken-items_in_use state size placement id (witnesses kept).valid finds.placed ∙ ap (λ (k : ℕ). items_in_use state.shelves + k) (sym as_placed.splits);
      space = ap allocated_space made.state ∙ space-taken state size placement id (witnesses kept).valid finds.placed ∙ ap (λ (k : ℕ). allocated_space state + k) (sym as_placed.area);
      small = subst (λ (k : ℕ). allocated_space state + k < 2 ^ 31) (sym as_placed.area) (space-taken-small state size placement id (witnesses kept).valid finds.placed);
    }

-- what holds after an allocation, from what its steps answer
pub after-taking : (frame : Frame) (records new : Records) (size : Size) (found : Placement) (id : ℕ) (rectangle : Rectangle) → AreKept frame records → Finds frame records size found
    → new ≡ placement_taken frame.column_width found records → id ≡ id_of records.items found.item → rectangle ≡ rectangle_of_placement frame found
    → AfterTaking frame records size found (record { id = id; rectangle = rectangle }) new
after-taking frame records new size found id rectangle kept finds made names lies =
    subst (λ (r : Records). AfterTaking frame records size found (record { id = id; rectangle = rectangle }) r) (sym made)
    (subst (λ (n : ℕ). AfterTaking frame records size found (record { id = n; rectangle = rectangle }) (placement_taken frame.column_width found records)) (sym names)
    (subst (λ (r : Rectangle). AfterTaking frame records size found (record { id = id_of records.items found.item; rectangle = r }) (placement_taken frame.column_width found records)) (sym lies)
    (placement_taken-after frame records size found kept finds)))
