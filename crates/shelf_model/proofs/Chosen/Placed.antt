-- What it says that a size has a placement.
use Rattle.std.proofs.Common.{◌≡◌, ℕ, ◌+◌, ◌≤◌, Bool, true, false, cond, Option, None, Some, List, map, nat_le, refl, subst, ap, arith, take, sym, ◌∙◌}
use Rattle.std.proofs.lemmas.Bool.{leb-true}
use Rattle.std.proofs.lemmas.Option.{slice_get-map, cond_some}
use Rattle.std.specs.Prelude.{slice_get, option_map, option_and_then}
use Rattle.etagere_base.specs.Frames.{asked}
use Rattle.etagere_base.specs.declared.frames.Frame.{Frame}
use Rattle.etagere_base.specs.declared.geometry.Size.{Size}
use Rattle.etagere_base.specs.declared.sides.Sides.{Sides}
use Rattle.shelf_model.specs.Choice.{Placement, shelf_height, fitting_place, rank, splits, placement_in, placement_of, width_at, chosen}
use Rattle.etagere_base.specs.Least.{Found, first_least}
use Rattle.etagere_base.specs.Lists.{times}
use Rattle.shelf_model.specs.Places.{column_height, column_place}
use Rattle.shelf_model.specs.State.{Shelf, AtlasState, items_in_use}
use Rattle.etagere_base.proofs.AskedSides.{step-tall}
use Rattle.etagere_base.proofs.Least.{first_least-is}
use Rattle.etagere_base.proofs.TimesLemmas.{find-stands}

-- what an option gives through a function that may give none
and_then-parts : {A B : Type 0} (f : A → Option B) (o : Option A) (y : B) → option_and_then f o ≡ Some y → (x : A) × (o ≡ Some x) × (f x ≡ Some y)
and_then-parts f None y h = cc
and_then-parts f (Some x) y h = (x, refl, h)

-- what an option gives through a function
pub map-parts : {A B : Type 0} (f : A → B) (o : Option A) (y : B) → option_map f o ≡ Some y → (x : A) × (o ≡ Some x) × (f x ≡ y)
map-parts f None y h = cc
map-parts f (Some x) y h = (x, refl, cc)

-- a shelf that has a rank is tall enough
rank-tall : (frame : Frame) (width height : ℕ) (shelf : Shelf) (r : ℕ) → rank frame width height shelf ≡ Some r → height ≤ shelf.height
rank-tall frame width height shelf r h = by_test (nat_le height shelf.height) _ refl h
  where
    by_test : (b : Bool) (o : Option ℕ) → nat_le height shelf.height ≡ b → cond b o None ≡ Some r → height ≤ shelf.height
    by_test true o e k = grind arith
    by_test false o e k = cc

-- an item is at most as tall as the shelf that is made for it
pub shelf_height-tall : (frame : Frame) (height : ℕ) → height ≤ shelf_height frame height
shelf_height-tall frame height = grind (arith, step-tall height)

-- what is chosen for sides: a shelf that is tall enough, and in it a place that is wide enough
pub record IsChosen (state : AtlasState) (sides : Sides) (placement : Placement) : Type 0 where
  pub shelf : Shelf
  pub found_rank : ℕ
  pub least : first_least (map (rank state.frame sides.along (shelf_height state.frame sides.across)) state.shelves) ≡ Some (record { number = placement.shelf; rank = found_rank })
  pub at : slice_get state.shelves placement.shelf ≡ Some shelf
  pub place : fitting_place state.frame sides.along shelf ≡ Some placement.along
  pub is : placement ≡ placement_in state.frame placement.shelf (column_height shelf.column (take placement.shelf state.shelves)) sides.along (shelf_height state.frame sides.across) shelf placement.along
  pub tall : shelf_height state.frame sides.across ≤ shelf.height

-- the shelf where a rank was found has that rank
pub found-rank : (frame : Frame) (width height : ℕ) (shelves : List Shelf) (found : Found) (shelf : Shelf)
    → first_least (map (rank frame width height) shelves) ≡ Some found → slice_get shelves found.number ≡ Some shelf → rank frame width height shelf ≡ Some found.rank
found-rank frame width height shelves found shelf h at =
    let ranked = (first_least-is (map (rank frame width height) shelves) found h).at in
    let mapped = slice_get-map (rank frame width height) shelves found.number in
    let there = ap (option_map (rank frame width height)) at in
    cc

-- a choice is a shelf and a place in it, from the place
chosen_in : (state : AtlasState) (sides : Sides) (placement : Placement) (found : Found) (shelf : Shelf) (place : ℕ)
    → first_least (map (rank state.frame sides.along (shelf_height state.frame sides.across)) state.shelves) ≡ Some found
    → slice_get state.shelves found.number ≡ Some shelf
    → fitting_place state.frame sides.along shelf ≡ Some place
    → placement_in state.frame found.number (column_height shelf.column (take found.number state.shelves)) sides.along (shelf_height state.frame sides.across) shelf place ≡ placement
    → IsChosen state sides placement
chosen_in state sides placement found shelf place least at fits same =
    subst (λ (p : Placement). IsChosen state sides p) same
    (record {
      shelf = shelf;
      found_rank = found.rank;
      least = least;
      at = at;
      place = fits;
      is = refl;
      tall = rank-tall state.frame sides.along (shelf_height state.frame sides.across) shelf found.rank
          (found-rank state.frame sides.along (shelf_height state.frame sides.across) state.shelves found shelf least at);
    })

-- the same, from the choice alone
pub chosen-parts : (state : AtlasState) (sides : Sides) (placement : Placement) → chosen state sides ≡ Some placement → IsChosen state sides placement
chosen-parts state sides placement h =
    let find = and_then-parts _ (first_least (map (rank state.frame sides.along (shelf_height state.frame sides.across)) state.shelves)) placement h in
    let stand = and_then-parts _ (slice_get state.shelves find.0.number) placement find.2 in
    let place = map-parts _ (fitting_place state.frame sides.along stand.0) placement stand.2 in
    chosen_in state sides placement find.0 stand.0 place.0 find.1 stand.1 place.1 place.2

-- what is chosen, from the shelf of least rank
pub chosen-is : (state : AtlasState) (sides : Sides) (number : ℕ) (shelf : Shelf)
    → Some number ≡ option_map (λ found. found.number) (first_least (map (rank state.frame sides.along (shelf_height state.frame sides.across)) state.shelves))
    → slice_get state.shelves number ≡ Some shelf
    → chosen state sides ≡ option_map (placement_in state.frame number (column_height shelf.column (take number state.shelves)) sides.along (shelf_height state.frame sides.across) shelf) (fitting_place state.frame sides.along shelf)
chosen-is state sides number shelf h at = by_found (first_least (map (rank state.frame sides.along (shelf_height state.frame sides.across)) state.shelves)) refl h
  where
    by_found : (o : Option Found) → first_least (map (rank state.frame sides.along (shelf_height state.frame sides.across)) state.shelves) ≡ o → Some number ≡ option_map (λ found. found.number) o
        → chosen state sides ≡ option_map (placement_in state.frame number (column_height shelf.column (take number state.shelves)) sides.along (shelf_height state.frame sides.across) shelf) (fitting_place state.frame sides.along shelf)
    by_found None e h = absurd (cc)
    by_found (Some found) e h =
        let same : number ≡ found.number = cc in
        let there : slice_get state.shelves found.number ≡ Some shelf = ap (slice_get state.shelves) (sym same) ∙ at in
        rw (e, there) (ap (λ (n : ℕ). option_map (placement_in state.frame n (column_height shelf.column (take n state.shelves)) sides.along (shelf_height state.frame sides.across) shelf) (fitting_place state.frame sides.along shelf)) (sym same))

-- a placement of a size: what is asked for has a chosen place, and there are records enough for its splits
pub record IsPlaced (state : AtlasState) (size : Size) (placement : Placement) : Type 0 where
  pub sides : Sides
  pub asked : asked state.frame size ≡ Some sides
  pub chosen : IsChosen state sides placement
  pub room : items_in_use state.shelves + splits placement ≤ 65535

-- a placement is a choice with records enough, from the choice
placed_at : (state : AtlasState) (size : Size) (placement : Placement) (sides : Sides) (choice : Placement)
    → asked state.frame size ≡ Some sides → chosen state sides ≡ Some choice → cond (nat_le (items_in_use state.shelves + splits choice) 65535) (Some choice) None ≡ Some placement → IsPlaced state size placement
placed_at state size placement sides choice asks chooses h =
    let consistent = cond_some _ choice placement h in
    subst (λ (p : Placement). IsPlaced state size p) consistent.1
    (record {
      sides = sides;
      asked = asks;
      chosen = chosen-parts state sides choice chooses;
      room = leb-true _ _ consistent.0;
    })

-- what it says that a size has a placement
pub placement_of-placed : (state : AtlasState) (size : Size) (placement : Placement) → placement_of state size ≡ Some placement → IsPlaced state size placement
placement_of-placed state size placement h =
    let asks = and_then-parts _ (asked state.frame size) placement h in
    let choice = and_then-parts _ (chosen state asks.0) placement asks.2 in
    placed_at state size placement asks.0 choice.0 asks.1 choice.1 choice.2

-- the chosen place is wide enough, and its shelf has it in its free list
pub chosen-stands : (state : AtlasState) (sides : Sides) (placement : Placement) → (choice : IsChosen state sides placement)
    → (sides.along ≤ width_at (column_place state.frame choice.shelf) choice.shelf.items placement.along) × (1 ≤ times placement.along choice.shelf.free_list)
chosen-stands state sides placement choice =
    let fits : ℕ → Bool = λ place. nat_le sides.along (width_at (column_place state.frame choice.shelf) choice.shelf.items place) in
    let stands = find-stands fits choice.shelf.free_list placement.along choice.place in
    (leb-true _ _ stands.0, stands.1)
