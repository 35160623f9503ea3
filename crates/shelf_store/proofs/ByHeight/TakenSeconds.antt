-- Widths that no more than one free item of each shelf passes when a placement is taken: they stay so, and that of its shelf
-- bounds what is left where the item that passes it is taken.
use Rattle.std.proofs.Common.{◌≡◌, ℕ, ◌-◌, ◌≤◌, Bool, true, false, None, cond, List, [], ◌∷◌, ◌++◌, map, refl, ap, subst, arith, sym, ◌∙◌}
use Rattle.etagere_base.proofs.TimesLemmas.{hit, times-append}
use Rattle.etagere_base.specs.Lists.{times}
use Rattle.etagere_base.specs.declared.frames.Frame.{Frame}
use Rattle.shelf_heights.proofs.ByHeight.Edited.{Each-rebounded, bounded_as, in_order-rebounded, numbers-rebounded}
use Rattle.shelf_heights.specs.Private.ByHeight.{IsBound, rebounded}
use Rattle.shelf_heights.specs.declared.by_height.BoundedShelf.{BoundedShelf}
use Rattle.shelf_model.specs.Choice.{Placement}
use Rattle.shelf_model.specs.State.{Item, Shelf, empty_shelf}
use Rattle.shelf_model.specs.Taking.{taken_shelf}
use Rattle.shelf_notes.specs.Private.Pending.{Notes, is_noted}
use Rattle.shelf_notes.specs.Private.SecondWidths.{second_at}
use Rattle.shelf_records.specs.AtlasRecords.{AtlasRecords, item_at, spelled_shelf}
use Rattle.shelf_records.specs.Private.Kept.{bare}
use Rattle.shelf_records.specs.RecordLists.{Entry, Records, shelf_numbers, walked_lists}
use Rattle.shelf_store.proofs.ByHeight.NumberedShelves.{BoundsAs, HoldIn, IsBoundOf, hold-append, hold-back, hold-changed, hold-numbered, hold-split, numbered-hold}
use Rattle.shelf_store.proofs.ByHeight.SecondWidths.{few-of-one, only-wider-taken, wider-taken}
use Rattle.shelf_store.proofs.ByHeight.SplitByHeight.{used-once}
use Rattle.shelf_store.proofs.Spelled.TakenKept.{KeepsTaken}
use Rattle.shelf_store.proofs.Spelled.TakenRests.{list_where}
use Rattle.shelf_store.specs.Private.PlacementTaken.{id_of, placement_taken}
use Rattle.shelf_store.specs.Private.SecondWidths.{AreSeconds, IsBoundLeft, wider_count}
use Rattle.shelf_store.specs.Private.Settling.{HoldsExceptNoted}

-- no more than one free item of the shelf of this number passes the width that is kept of it
abbrev SecondsAs : List ℕ → ℕ → Shelf → Type 0
SecondsAs seconds n shelf = wider_count (second_at seconds n) shelf.items ≤ 1

-- the list of shelves by height holds with a bound of a shelf that its free items don't pass
pub rebounded-holds : (atlas : AtlasRecords) (entries : List Entry) (notes : Notes) (by_height : List BoundedShelf) (shelf width : ℕ) → IsBoundOf atlas entries (bounded_as shelf width) → HoldsExceptNoted atlas entries notes by_height → HoldsExceptNoted atlas entries notes (rebounded shelf width by_height)
rebounded-holds atlas entries notes by_height shelf width bound holds =
    record {
      listed = λ k. ap (times k) (numbers-rebounded shelf width by_height) ∙ holds.listed k;
      in_use = holds.in_use;
      order = in_order-rebounded notes.kept shelf width by_height holds.order;
      settled = holds.settled;
      bounds = Each-rebounded Bounded Bounded shelf width by_height (λ one other bounds. bounds)
          (λ one same bounds unnoted. subst (λ (n : ℕ). IsBoundOf atlas entries (bounded_as n width)) (sym same) bound) holds.bounds;
      parked = holds.parked;
      known = holds.known;
      few = holds.few;
    }
  where
    Bounded : BoundedShelf → Type 0
    Bounded one = is_noted notes one.shelf ≡ false → IsBoundOf atlas entries one

-- what holds of a shelf alone bounds each shelf of its number, where that stands once
none-bounds : (one : BoundedShelf) (ns : List ℕ) (shelves : List Shelf) → times one.shelf ns ≡ 0 → HoldIn (BoundsAs one) ns shelves
none-bounds one [] shelves none = tt
none-bounds one (n ∷ ns) [] none = tt
none-bounds one (n ∷ ns) (shelf ∷ shelves) none =
    (λ same. let here : hit n one.shelf ≡ 1 = grind (arith, same) in absurd (omega (arith, none, here)), none-bounds one ns shelves (omega (arith, none)))

module _ (frame : Frame) (records : Records) (placement found : Placement) (seconds : List ℕ) (made : KeepsTaken frame records placement found) (are : AreSeconds records seconds) where
  abbrev new : Records
  new = placement_taken frame.column_width found records

  abbrev given : Shelf
  given = taken_shelf placement (id_of records.items found.item) made.spells.whole

  abbrev added : Shelf
  added = empty_shelf frame made.spells.whole.column (made.spells.whole.height - placement.height)

  numbers : (b : Bool) → placement.splits_shelf ≡ b → shelf_numbers (walked_lists new).entries ≡ made.spells.front ++ found.shelf ∷ (list_where b made.spells.rest ++ made.spells.back)
  numbers b e = made.spells.new_numbers ∙ ap (λ (s : Bool). made.spells.front ++ found.shelf ∷ (list_where s made.spells.rest ++ made.spells.back)) e

  shelves : (b : Bool) → placement.splits_shelf ≡ b → map (spelled_shelf (bare frame new)) (walked_lists new).entries ≡ made.spells.fronts ++ given ∷ (cond b (added ∷ []) [] ++ made.spells.backs)
  shelves b e = made.spells.new_shelves ∙ ap (λ (s : Bool). made.spells.fronts ++ given ∷ (cond s (added ∷ []) [] ++ made.spells.backs)) e

  -- the widths over the numbers of the shelves
  before : HoldIn (SecondsAs seconds) (made.spells.front ++ found.shelf ∷ made.spells.back) (made.spells.fronts ++ made.spells.whole ∷ made.spells.backs)
  before =
      subst (λ (ns : List ℕ). HoldIn (SecondsAs seconds) ns (made.spells.fronts ++ made.spells.whole ∷ made.spells.backs)) made.spells.numbers
      (subst (λ (ss : List Shelf). HoldIn (SecondsAs seconds) (shelf_numbers (walked_lists records).entries) ss) made.spells.shelves
      (hold-numbered (SecondsAs seconds) (bare frame records) (walked_lists records).entries are))

  again : (ns : List ℕ) (ss : List Shelf) → shelf_numbers (walked_lists new).entries ≡ ns → map (spelled_shelf (bare frame new)) (walked_lists new).entries ≡ ss → HoldIn (SecondsAs seconds) ns ss → AreSeconds new seconds
  again ns ss new_numbers new_shelves hold =
      numbered-hold (SecondsAs seconds) (bare frame new) (walked_lists new).entries
      (subst (λ (ms : List ℕ). HoldIn (SecondsAs seconds) ms (map (spelled_shelf (bare frame new)) (walked_lists new).entries)) (sym new_numbers)
      (subst (λ (s : List Shelf). HoldIn (SecondsAs seconds) ns s) (sym new_shelves) hold))

  change : SecondsAs seconds found.shelf made.spells.whole → SecondsAs seconds found.shelf given
  change few = omega (arith, wider-taken frame (second_at seconds found.shelf) placement (id_of records.items found.item) made.spells.whole made.spells.takes, few)

  -- they stay so
  pub taken-seconds : AreSeconds new seconds
  taken-seconds = by_split placement.splits_shelf refl
    where
      by_split : (b : Bool) → placement.splits_shelf ≡ b → AreSeconds new seconds
      by_split false e =
          again (made.spells.front ++ found.shelf ∷ made.spells.back) (made.spells.fronts ++ given ∷ made.spells.backs) (numbers false e) (shelves false e)
          (hold-changed (SecondsAs seconds) found.shelf made.spells.front made.spells.back made.spells.fronts made.spells.backs made.spells.whole given made.spells.long change before)
      by_split true e =
          again (made.spells.front ++ found.shelf ∷ made.spells.rest ∷ made.spells.back) (made.spells.fronts ++ given ∷ added ∷ made.spells.backs) (numbers true e) (shelves true e)
          (hold-split (SecondsAs seconds) found.shelf made.spells.rest made.spells.front made.spells.back made.spells.fronts made.spells.backs made.spells.whole given added made.spells.long change
          (few-of-one (second_at seconds made.spells.rest) (record { width = frame.column_width; id = None })) before)

  -- the bound that is left where the item that passed the width was taken
  pub taken-bound : (notes : Notes) (bound : ℕ) → IsBoundLeft records.items notes seconds found bound → found.splits_shelf ≡ placement.splits_shelf → found.width ≡ placement.width
      → IsBoundOf (bare frame new) (walked_lists new).entries (bounded_as found.shelf bound)
  taken-bound notes bound left split_same width_same =
      let e : placement.splits_shelf ≡ false = sym split_same ∙ left.whole in
      let one : BoundedShelf = bounded_as found.shelf bound in
      let few : SecondsAs seconds found.shelf made.spells.whole =
      (hold-back (SecondsAs seconds) made.spells.front (found.shelf ∷ made.spells.back) made.spells.fronts (made.spells.whole ∷ made.spells.backs) made.spells.long before).0 in
      let own : made.spells.takes.found.item.width ≡ (item_at records.items found.item).width = ap (λ (i : Item). i.width) made.spells.taken_item in
      let low : IsBound bound given =
      only-wider-taken frame (second_at seconds found.shelf) placement (id_of records.items found.item) made.spells.whole made.spells.takes few
      (omega (arith, left.wide, own)) bound left.second (omega (arith, left.rest, own, width_same)) in
      let once : times found.shelf (made.spells.front ++ found.shelf ∷ made.spells.back) ≤ 1 =
      subst (λ (ns : List ℕ). times found.shelf ns ≤ 1) (numbers false e) ((used-once frame new made.kept).once found.shelf) in
      let here : hit found.shelf found.shelf ≡ 1 = grind arith in
      let count = times-append found.shelf made.spells.front (found.shelf ∷ made.spells.back) in
      numbered-hold (BoundsAs one) (bare frame new) (walked_lists new).entries
      (subst (λ (ns : List ℕ). HoldIn (BoundsAs one) ns (map (spelled_shelf (bare frame new)) (walked_lists new).entries)) (sym (numbers false e))
      (subst (λ (ss : List Shelf). HoldIn (BoundsAs one) (made.spells.front ++ found.shelf ∷ made.spells.back) ss) (sym (shelves false e))
      (hold-append (BoundsAs one) made.spells.front (found.shelf ∷ made.spells.back) made.spells.fronts (given ∷ made.spells.backs) made.spells.long
      (none-bounds one made.spells.front made.spells.fronts (omega (arith, once, count, here)))
      (λ _. low, none-bounds one made.spells.back made.spells.backs (omega (arith, once, count, here))))))
