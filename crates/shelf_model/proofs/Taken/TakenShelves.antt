-- A shelf in which a place is taken, and the shelves that stand in its place afterwards.
use Rattle.std.proofs.Common.{◌≡◌, ℕ, ◌+◌, ◌-◌, ◌%◌, ◌<◌, ◌≤◌, Bool, true, false, cond, List, [], ◌∷◌, ◌++◌, refl, sym, subst, ap, ◌∙◌, arith, nat_lt, take, ◌&&◌}
use Rattle.std.proofs.lemmas.Bool.{and_parts, cond-false, cond_both, ltb-true}
use Rattle.etagere_base.proofs.AskedSides.{asked-sides}
use Rattle.etagere_base.specs.Frames.{IsFrame, alignment_along}
use Rattle.etagere_base.specs.declared.frames.Frame.{Frame}
use Rattle.etagere_base.specs.declared.geometry.Size.{Size}
use Rattle.shelf_model.specs.Choice.{Placement, is_item_split, is_shelf_split, placement_in, shelf_height, width_at}
use Rattle.shelf_model.specs.Merging.{both_free}
use Rattle.std.specs.List.{AllByRecursion}
use Rattle.etagere_base.specs.Lists.{NoNeighbours, replaced_at, times}
use Rattle.shelf_model.specs.Places.{column_height, column_place, free_places}
use Rattle.shelf_model.specs.State.{Shelf, AtlasState, is_empty, is_one_free, empty_shelf, total_width}
use Rattle.shelf_model.specs.Taking.{item_pieces, shelf_pieces, taken_free_list}
use Rattle.shelf_model.specs.Valid.{IsItem, IsShelf, IsValid}
use Rattle.etagere_base.proofs.EachLemmas.{Each-get}
use Rattle.shelf_model.proofs.Chosen.Placed.{IsPlaced, chosen-stands, shelf_height-tall}
use Rattle.shelf_model.proofs.Taken.TakenPieces.{IsRoom, pieces-apart, pieces-each, pieces-not_empty, pieces-width}
use Rattle.shelf_model.proofs.Taken.TakenItems.{IsFreeAt, free_at}
use Rattle.shelf_model.proofs.Taken.TakenFreeList.{pieces-free_list}

-- a shelf in which a placement takes an item
pub record IsTaking (frame : Frame) (placement : Placement) (shelf : Shelf) : Type 0 where
  pub valid : IsShelf frame shelf
  pub found : IsFreeAt (column_place frame shelf) shelf.items placement.along
  pub item : placement.item ≡ found.number
  pub room : IsRoom frame found.item placement
  pub height : 1 ≤ placement.height
  pub empty : placement.splits_shelf ≡ true → is_empty shelf ≡ true
  pub shorter : placement.splits_shelf ≡ true → placement.height < shelf.height
  pub full : placement.splits_shelf ≡ false → placement.height ≡ shelf.height

-- what is given is the part of what is split, and else the whole
given_split : (slack part whole : ℕ) → nat_lt (part + slack) whole ≡ true → cond (nat_lt (part + slack) whole) part whole < whole
given_split slack part whole h = rw h (omega (arith, ltb-true _ _ h))

-- the same under one more test
given_split_where : (test : Bool) (slack part whole : ℕ) → (test && nat_lt (part + slack) whole) ≡ true
    → cond (test && nat_lt (part + slack) whole) part whole < whole
given_split_where test slack part whole h = rw h (omega (arith, ltb-true _ _ (and_parts test _ h).1))

-- what was found out of a free item that is wide enough, in a shelf that is tall enough, takes it
taking_in : (frame : Frame) (number across width height : ℕ) (shelf : Shelf) (place : ℕ) → IsShelf frame shelf
    → (found : IsFreeAt (column_place frame shelf) shelf.items place) → width ≤ found.item.width → 1 ≤ width
    → width % alignment_along frame ≡ 0 → 1 ≤ height → height ≤ shelf.height
    → IsTaking frame (placement_in frame number across width height shelf place) shelf
taking_in frame number across width height shelf place valid found fits wide aligned high tall =
    let item = Each-get (IsItem frame) shelf.items found.number found.item found.at.get valid.items in
    let item_width = width_at (column_place frame shelf) shelf.items place in
    let is_split = is_item_split width item_width in
    record {
      valid = valid;
      found = found;
      item = found.is;
      room = record {
        free = found.free;
        wide = cond_both is_split width item_width (λ n. 1 ≤ n) (λ _. wide) (λ _. omega (arith, found.width, item.width));
        aligned = cond_both is_split width item_width (λ n. n % alignment_along frame ≡ 0) (λ _. aligned)
            (λ _. ap (λ n. n % alignment_along frame) found.width ∙ item.aligned);
        split = λ e. omega (arith, given_split 8 width item_width e, found.width);
        whole = λ e. cond-false is_split _ _ e ∙ found.width;
      };
      height = cond_both (is_shelf_split height shelf) height shelf.height (λ n. 1 ≤ n) (λ _. high) (λ _. valid.height);
      empty = λ e. (and_parts (is_empty shelf) _ e).0;
      shorter = λ e. given_split_where (is_empty shelf) 8 height shelf.height e;
      full = λ e. cond-false (is_shelf_split height shelf) _ _ e;
    }

-- in a valid state a placement takes an item of its shelf
pub taking : (state : AtlasState) (size : Size) (placement : Placement)
    → IsValid state → (placed : IsPlaced state size placement) → IsTaking state.frame placement placed.chosen.shelf
taking state size placement valid placed =
    let shelf = placed.chosen.shelf in
    let here = column_place state.frame shelf in
    let ok : IsShelf state.frame shelf = Each-get (IsShelf state.frame) state.shelves placement.shelf shelf placed.chosen.at valid.shelves in
    let asks = asked-sides 65535 state.frame size placed.sides valid.frame placed.asked in
    let stands = chosen-stands state placed.sides placement placed.chosen in
    let found = free_at state.frame here shelf.items placement.along ok.items (omega (arith, stands.1, ok.free_list placement.along)) in
    subst (λ (p : Placement). IsTaking state.frame p shelf) (sym placed.chosen.is)
    (taking_in state.frame placement.shelf (column_height shelf.column (take placement.shelf state.shelves)) placed.sides.along
    (shelf_height state.frame placed.sides.across) shelf placement.along ok found (omega (arith, stands.0, found.width)) asks.along asks.aligned
    (omega (arith, asks.across, shelf_height-tall state.frame placed.sides.across)) placed.chosen.tall)

-- the items of a shelf after one was taken
pub taken-items : (frame : Frame) (placement : Placement) (id : ℕ) (shelf : Shelf) → (t : IsTaking frame placement shelf)
    → replaced_at placement.item (item_pieces placement id) shelf.items
    ≡ t.found.at.front ++ (item_pieces placement id t.found.item ++ t.found.at.back)
taken-items frame placement id shelf t = rw (t.item) (t.found.at.split (item_pieces placement id))

-- the shelf of a placement after it was taken, this tall
abbrev pub taken_to : Placement → ℕ → ℕ → Shelf → Shelf
taken_to placement id height shelf =
    record {
      column = shelf.column;
      height = height;
      items = replaced_at placement.item (item_pieces placement id) shelf.items;
      free_list = taken_free_list placement shelf.free_list;
    }

-- the shelf that has an item taken is valid
pub taken_shelf-valid : (frame : Frame) (placement : Placement) (id height : ℕ) (shelf : Shelf)
    → IsTaking frame placement shelf → 1 ≤ height → IsShelf frame (taken_to placement id height shelf)
taken_shelf-valid frame placement id height shelf t tall =
    let f = t.found in
    let same = taken-items frame placement id shelf t in
    let items : AllByRecursion (IsItem frame) (f.at.front ++ f.item ∷ f.at.back) = subst (AllByRecursion (IsItem frame)) f.at.whole t.valid.items in
    record {
      column = t.valid.column;
      height = tall;
      items = rw same (pieces-each frame f.at.front f.item f.at.back placement id t.room items);
      width = rw same (pieces-width frame f.at.front f.item f.at.back placement id t.room ∙ (ap total_width (sym f.at.whole) ∙ t.valid.width));
      apart = rw same (pieces-apart frame f.at.front f.item f.at.back placement id t.room (subst (NoNeighbours both_free) f.at.whole t.valid.apart));
      free_list = λ p. rw same (pieces-free_list frame (column_place frame shelf) f.at.front f.item f.at.back placement id shelf.free_list t.room f.begins items (λ q. t.valid.free_list q ∙ ap (λ rs. times q (free_places (column_place frame shelf) rs)) f.at.whole) p);
    }

-- the shelf that has an item taken is not empty
pub taken_shelf-not_empty : (frame : Frame) (placement : Placement) (id height : ℕ) (shelf : Shelf)
    → IsTaking frame placement shelf → is_empty (taken_to placement id height shelf) ≡ false
taken_shelf-not_empty frame placement id height shelf t =
    ap is_one_free (taken-items frame placement id shelf t) ∙ pieces-not_empty t.found.at.front t.found.item t.found.at.back placement id

-- an empty shelf is valid
pub empty_shelf-valid : (frame : Frame) (column height : ℕ) → IsFrame 65535 frame → column < frame.columns → 1 ≤ height → IsShelf frame (empty_shelf frame column height)
empty_shelf-valid frame column height valid stands tall =
    record {
      column = stands;
      height = tall;
      items = (record { width = valid.column_width; aligned = valid.aligned }, tt);
      width = omega arith;
      apart = tt;
      free_list = λ p. refl;
    }

-- a fact of the shelves that stand for a shelf, from that of a shelf split in two and that of a shelf of full height
pub shelf_pieces-cases : (P : Bool → List Shelf → Type 0) (frame : Frame) (placement : Placement) (id : ℕ) (shelf : Shelf) → IsTaking frame placement shelf
    → (is_empty shelf ≡ true → placement.height < shelf.height → P true (taken_to placement id placement.height shelf ∷ empty_shelf frame shelf.column (shelf.height - placement.height) ∷ []))
    → (placement.height ≡ shelf.height → P false (taken_to placement id shelf.height shelf ∷ []))
    → P placement.splits_shelf (shelf_pieces frame placement id shelf)
shelf_pieces-cases P frame placement id shelf t split full = by_test placement.splits_shelf refl
  where
    by_test : (b : Bool) → placement.splits_shelf ≡ b
        → P b (taken_to placement id placement.height shelf ∷ cond b (empty_shelf frame shelf.column (shelf.height - placement.height) ∷ []) [])
    by_test true e = split (t.empty e) (t.shorter e)
    by_test false e =
        let same = t.full e in
        subst (λ (height : ℕ). P false (taken_to placement id height shelf ∷ [])) (sym same) (full same)
