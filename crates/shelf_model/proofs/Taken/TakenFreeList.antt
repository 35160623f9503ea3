-- The free list of a shelf after a free item was taken has each place of a free item once again.
use Rattle.std.proofs.Common.{◌≡◌, ℕ, ◌+◌, ◌-◌, ◌≤◌, cond, None, List, ◌∷◌, ◌++◌, ap, ◌∙◌, arith}
use Rattle.std.proofs.lemmas.Bool.{cond-true}
use Rattle.std.specs.Prelude.{is_none}
use Rattle.etagere_base.specs.declared.frames.Frame.{Frame}
use Rattle.shelf_model.specs.Choice.{Placement}
use Rattle.std.specs.List.{AllByRecursion}
use Rattle.etagere_base.specs.Lists.{times}
use Rattle.shelf_model.specs.Places.{free_places}
use Rattle.shelf_model.specs.State.{Item, is_free, total_width}
use Rattle.etagere_base.specs.Lists.{replace_number, remove_number}
use Rattle.shelf_model.specs.Taking.{item_pieces, taken_free_list}
use Rattle.shelf_model.specs.Valid.{IsItem}
use Rattle.etagere_base.proofs.EachLemmas.{Each-front, Each-weaken}
use Rattle.shelf_model.proofs.Places.FreePlaces.{starts-after, starts-append, starts-before, starts-cons}
use Rattle.shelf_model.proofs.Taken.TakenPieces.{IsRoom, allocated_item, free_item, pieces-cases, room-fits}
use Rattle.etagere_base.proofs.TimesLemmas.{hit, times-replace_number, times-remove_number}

-- how often a place stands among those of free items, where one of them is in view
places-old : (p here : ℕ) (front : List Item) (item : Item) (back : List Item) → item.id ≡ None
    → times p (free_places here (front ++ item ∷ back)) ≡ times p (free_places here front) + (hit (here + total_width front) p + times p (free_places ((here + total_width front) + item.width) back))
places-old p here front item back free =
    let place = here + total_width front in
    let here_free : cond (is_free item) (hit place p) 0 ≡ hit place p = cond-true (is_free item) _ _ (ap is_none free) in
    omega (arith, starts-append p here front (item ∷ back), starts-cons p place item back, here_free)

-- the same where that item is taken in part
places-split : (p here : ℕ) (front : List Item) (item : Item) (back : List Item) (width id : ℕ) → width ≤ item.width
    → times p (free_places here (front ++ allocated_item width id ∷ free_item (item.width - width) ∷ back)) ≡ times p (free_places here front) + (hit ((here + total_width front) + width) p + times p (free_places ((here + total_width front) + item.width) back))
places-split p here front item back width id fits =
    let place = here + total_width front in
    let begin : times p (free_places ((place + width) + (item.width - width)) back) ≡ times p (free_places (place + item.width) back) =
    ap (λ n. times p (free_places n back)) (omega arith) in
    omega (arith, starts-append p here front (allocated_item width id ∷ free_item (item.width - width) ∷ back), begin)

-- a free item's place is the place of no other
place-once : (frame : Frame) (here : ℕ) (front : List Item) (item : Item) (back : List Item) → item.id ≡ None → 1 ≤ item.width → AllByRecursion (IsItem frame) (front ++ item ∷ back)
    → times (here + total_width front) (free_places here (front ++ item ∷ back)) ≡ 1
place-once frame here front item back free wide each =
    let place = here + total_width front in
    let one : hit place place ≡ 1 = grind arith in
    let before = Each-weaken (IsItem frame) _ front (λ (r : Item) (h : IsItem frame r). h.width) (Each-front (IsItem frame) front _ each) in
    omega (arith, one, places-old place here front item back free, starts-after place here front before (omega arith), starts-before place (place + item.width) back (omega arith))

-- the free list has the places of the free items once after an item was taken, if it had them before
pub pieces-free_list : (frame : Frame) (here : ℕ) (front : List Item) (item : Item) (back : List Item) (placement : Placement) (id : ℕ) (free_list : List ℕ)
    → IsRoom frame item placement → placement.along ≡ here + total_width front → AllByRecursion (IsItem frame) (front ++ item ∷ back)
    → ((p : ℕ) → times p free_list ≡ times p (free_places here (front ++ item ∷ back)))
    → (p : ℕ) → times p (taken_free_list placement free_list) ≡ times p (free_places here (front ++ (item_pieces placement id item ++ back)))
pieces-free_list frame here front item back placement id free_list room begins each counts p =
    pieces-cases (λ b pieces. times p (cond b (replace_number placement.along (placement.along + placement.width) free_list) (remove_number placement.along free_list)) ≡ times p (free_places here (front ++ (pieces ++ back)))) frame placement id item room
    (λ split. rw begins (omega (arith, old, places-split p here front item back placement.width id (omega arith), times-replace_number p place (place + placement.width) free_list once)))
    (λ whole. rw begins (omega (arith, old, starts-append p here front (allocated_item item.width id ∷ back), times-remove_number p place free_list once)))
  where
    place : ℕ
    place = here + total_width front

    once : times place free_list ≡ 1
    once = counts place ∙ place-once frame here front item back room.free (omega (arith, room.wide, room-fits frame item placement room)) each

    old : times p free_list ≡ times p (free_places here front) + (hit place p + times p (free_places (place + item.width) back))
    old = counts p ∙ places-old p here front item back room.free
