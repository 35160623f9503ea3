-- What is chosen in a valid state is what the rule says, and none is chosen only where nothing fits.
use Rattle.std.proofs.Common.{◌≡◌, ℕ, zero, suc, ◌+◌, ◌<◌, ◌≤◌, Bool, true, false, cond, Option, None, Some, List, [], ◌∷◌, map, nat_le, take, refl, ap, ◌∙◌, arith}
use Rattle.std.proofs.lemmas.Bool.{cond-true, cond-false, eq-eqb, ne_eqb, leb-true, leb-false, le-leb}
use Rattle.std.proofs.lemmas.Bool.Decides.{nat_tests}
use Rattle.std.proofs.lemmas.Option.{slice_get-map}
use Rattle.std.specs.Prelude.{is_none, option_map, slice_get}
use Rattle.etagere_base.proofs.AskedSides.{test-both}
use Rattle.etagere_base.specs.declared.frames.Frame.{Frame}
use Rattle.etagere_base.specs.declared.sides.Sides.{Sides}
use Rattle.shelf_model.specs.Choice.{Placement, bad_fit_rank, chosen, fitting_place, is_good_fit, placement_in, rank, shelf_height, width_at}
use Rattle.shelf_model.specs.Laws.{FitsShelf, IsByRule, is_before, rank_by_rule}
use Rattle.etagere_base.specs.Least.{Found, first_least}
use Rattle.std.specs.List.{AllByRecursion}
use Rattle.etagere_base.specs.Lists.{times}
use Rattle.shelf_model.specs.Places.{column_height, column_place}
use Rattle.shelf_model.specs.Returning.{is_free_at, place_at}
use Rattle.shelf_model.specs.State.{Item, Shelf, AtlasState}
use Rattle.shelf_model.specs.Valid.{IsItem, IsShelf, IsValid}
use Rattle.etagere_base.proofs.EachLemmas.{Each-get, Each-weaken}
use Rattle.etagere_base.proofs.FirstFound.{find-any, find-first}
use Rattle.etagere_base.proofs.FrameSides.{sides_low}
use Rattle.etagere_base.proofs.Least.{first_least-is, first_least-none}
use Rattle.etagere_base.proofs.TimesLemmas.{find-stands}
use Rattle.shelf_model.proofs.Allocations.AllocatedItems.{is_free_at-get}
use Rattle.shelf_model.proofs.Places.FreePlaces.{place_at-cons, starts-free}
use Rattle.shelf_model.proofs.Places.Heights.{column_height-upto}
use Rattle.shelf_model.proofs.Chosen.Placed.{chosen-parts, found-rank, map-parts}
use Rattle.shelf_model.proofs.Taken.TakenItems.{free_at}

-- the width at the place of the item of a number is that item's
width_at-place : (here n : ℕ) (items : List Item) (item : Item) → AllByRecursion (λ (r : Item). 1 ≤ r.width) items → slice_get items n ≡ Some item
    → width_at here items (place_at here items n) ≡ item.width
width_at-place here n [] item wide at = absurd (cc)
width_at-place here zero (x ∷ items) item wide at =
    let same : x ≡ item = cc in
    cond-true _ _ _ (eq-eqb here (place_at here (x ∷ items) zero) (omega arith)) ∙ ap (λ (r : Item). r.width) same
width_at-place here (suc n) (x ∷ items) item wide at =
    cond-false _ _ _ (ne_eqb here (place_at here (x ∷ items) (suc n)) (λ e. omega (arith, wide.0)))
    ∙ (ap (width_at (here + x.width) items) (place_at-cons here n x items)
    ∙ width_at-place (here + x.width) n items item wide.1 at)

-- what it says that a shelf has a rank: it fits, and a good fit ranks by its height and a bad one after all
record IsRanked (width height : ℕ) (shelf : Shelf) (r : ℕ) : Type 0 where
  fits : FitsShelf width height shelf
  is : cond (is_good_fit height shelf) shelf.height bad_fit_rank ≡ r

module _ (frame : Frame) (width height : ℕ) (shelf : Shelf) (valid : IsShelf frame shelf) where
  -- a shelf of a valid state that has a rank fits
  rank-fits : (r : ℕ) → rank frame width height shelf ≡ Some r → IsRanked width height shelf r
  rank-fits r h =
      let here = column_place frame shelf in
      let tests = test-both (nat_le height shelf.height) _ r h in
      let fitting = map-parts _ (fitting_place frame width shelf) r tests.1 in
      let place = fitting.0 in
      let stands = find-stands (λ p. nat_le width (width_at here shelf.items p)) shelf.free_list place fitting.1 in
      let found = free_at frame here shelf.items place valid.items (omega (arith, stands.1, valid.free_list place)) in
      record {
        fits = record {
          tall = leb-true _ _ tests.0;
          number = found.number;
          item = found.item;
          at = found.at.get;
          free = ap is_none found.free;
          wide = omega (arith, found.width, leb-true _ _ stands.0);
        };
        is = fitting.2;
      }

  -- a shelf of a valid state that fits has a rank
  fits-rank : FitsShelf width height shelf → rank frame width height shelf ≡ Some (cond (is_good_fit height shelf) shelf.height bad_fit_rank)
  fits-rank fits =
      let here = column_place frame shelf in
      let widths = Each-weaken (IsItem frame) (λ (r : Item). 1 ≤ r.width) shelf.items (λ (r : Item) (h : IsItem frame r). h.width) valid.items in
      let place = place_at here shelf.items fits.number in
      let free : is_free_at fits.number shelf.items ≡ true = is_free_at-get fits.number shelf.items fits.item fits.at ∙ fits.free in
      let wide : width ≤ width_at here shelf.items place = omega (arith, width_at-place here fits.number shelf.items fits.item widths fits.at, fits.wide) in
      let stands : 1 ≤ times place shelf.free_list = omega (arith, valid.free_list place, starts-free here fits.number shelf.items widths free) in
      let found = find-any (λ p. nat_le width (width_at here shelf.items p)) shelf.free_list place (le-leb width (width_at here shelf.items place) wide) stands in
      let tall : nat_le height shelf.height ≡ true = le-leb height shelf.height fits.tall in
      rw (tall, found.1) refl

-- of the ranks by the rule the chosen one is first, where it is the first of least rank by number
rule-least : (good good' : Bool) (height height' number number' : ℕ) → height ≤ 65535 → height' ≤ 65535
    → cond good height bad_fit_rank ≤ cond good' height' bad_fit_rank
    → (number' < number → cond good height bad_fit_rank < cond good' height' bad_fit_rank)
    → is_before (cond good' (record { fit = 0; height = height'; position = number' }) (record { fit = 1; height = 0; position = number' }))
    (cond good (record { fit = 0; height = height; position = number }) (record { fit = 1; height = 0; position = number })) ≡ false
rule-least true true height height' number number' l l' least first = grind (arith, nat_tests)
rule-least true false height height' number number' l l' least first = refl
rule-least false true height height' number number' l l' least first = absurd (omega arith)
rule-least false false height height' number number' l l' least first = grind (arith, nat_tests)

module _ (state : AtlasState) (valid : IsValid state) where
  -- a shelf of the state is as a shelf must be
  shelf-valid : (n : ℕ) (shelf : Shelf) → slice_get state.shelves n ≡ Some shelf → IsShelf state.frame shelf
  shelf-valid n shelf at = Each-get (IsShelf state.frame) state.shelves n shelf at valid.shelves

  -- no shelf is taller than the longest side
  shelf-short : (n : ℕ) (shelf : Shelf) → slice_get state.shelves n ≡ Some shelf → shelf.height ≤ 65535
  shelf-short n shelf at =
      omega (
        arith,
        column_height-upto n state.shelves shelf at,
        valid.heights shelf.column (shelf-valid n shelf at).column,
        (sides_low 65535 state.frame valid.frame).1,
      )

  module _ (sides : Sides) where
    -- the height of a shelf for the sides
    abbrev tall : ℕ
    tall = shelf_height state.frame sides.across

    -- the ranks of all shelves
    abbrev ranks : List (Option ℕ)
    ranks = map (rank state.frame sides.along tall) state.shelves

    -- the rank of the shelf of a number
    rank-at : (n : ℕ) (shelf : Shelf) → slice_get state.shelves n ≡ Some shelf → slice_get ranks n ≡ Some (rank state.frame sides.along tall shelf)
    rank-at n shelf at = slice_get-map (rank state.frame sides.along tall) state.shelves n ∙ ap (option_map (rank state.frame sides.along tall)) at

    -- the chosen shelf ranks first by the rule
    ranks_first : (found : Found) (shelf : Shelf) → first_least ranks ≡ Some found → slice_get state.shelves found.number ≡ Some shelf
        → (n : ℕ) (other : Shelf) → slice_get state.shelves n ≡ Some other → FitsShelf sides.along tall other
        → is_before (rank_by_rule tall n other) (rank_by_rule tall found.number shelf) ≡ false
    ranks_first found shelf least at n other at' fits =
        let first = first_least-is ranks found least in
        let ranked = rank-fits state.frame sides.along tall shelf (shelf-valid found.number shelf at) found.rank
        (found-rank state.frame sides.along tall state.shelves found shelf least at) in
        let same = ranked.is in
        let other_rank = cond (is_good_fit tall other) other.height bad_fit_rank in
        let there : slice_get ranks n ≡ Some (Some other_rank) =
        rank-at n other at' ∙ ap Some (fits-rank state.frame sides.along tall other (shelf-valid n other at') fits) in
        rule-least (is_good_fit tall shelf) (is_good_fit tall other) shelf.height other.height found.number n
        (shelf-short found.number shelf at) (shelf-short n other at')
        (omega (arith, same, first.least n other_rank there)) (λ before. omega (arith, same, first.first n other_rank there before))

  -- what is chosen is chosen by the rule
  pub chosen-by_rule : (sides : Sides) (placement : Placement) → chosen state sides ≡ Some placement → IsByRule state sides placement
  chosen-by_rule sides placement h =
      let choice = chosen-parts state sides placement h in
      let shelf = choice.shelf in
      let found : Found = record { number = placement.shelf; rank = choice.found_rank } in
      let ranked = rank-fits state.frame sides.along (tall sides) shelf (shelf-valid placement.shelf shelf choice.at) found.rank
      (found-rank state.frame sides.along (tall sides) state.shelves found shelf choice.least choice.at) in
      let first = find-first (λ p. nat_le sides.along (width_at (column_place state.frame shelf) shelf.items p)) shelf.free_list placement.along choice.place in
      record {
        shelf = shelf;
        at = choice.at;
        fits = ranked.fits;
        least = ranks_first sides found shelf choice.least choice.at;
        first = record {
          front = first.front;
          back = first.back;
          list = first.whole;
          narrow = Each-weaken _ _ first.front (λ p fails. leb-false sides.along (width_at (column_place state.frame shelf) shelf.items p) fails) first.fails;
          wide = leb-true _ _ first.passes;
        };
      }

  -- where a shelf has the least rank, a place is chosen in it
  some-chosen : (sides : Sides) (found : Found) → first_least (ranks sides) ≡ Some found → chosen state sides ≡ None → ⊥
  some-chosen sides found least none = by_shelf (slice_get state.shelves found.number) refl
    where
      by_place : (shelf : Shelf) → slice_get state.shelves found.number ≡ Some shelf
          → (place : ℕ) × (fitting_place state.frame sides.along shelf ≡ Some place) → ⊥
      by_place shelf at place =
          let some : chosen state sides ≡ Some (placement_in state.frame found.number (column_height shelf.column (take found.number state.shelves)) sides.along (tall sides) shelf place.0) = rw (least, at, place.1) refl in
          absurd (cc)

      by_shelf : (o : Option Shelf) → slice_get state.shelves found.number ≡ o → ⊥
      by_shelf None e =
          let there = (first_least-is (ranks sides) found least).at in
          let mapped = slice_get-map (rank state.frame sides.along (tall sides)) state.shelves found.number in
          let nothing = ap (option_map (rank state.frame sides.along (tall sides))) e in
          absurd (cc)
      by_shelf (Some shelf) e =
          let tests = test-both (nat_le (tall sides) shelf.height) _ found.rank
          (found-rank state.frame sides.along (tall sides) state.shelves found shelf least e) in
          let fits = map-parts _ (fitting_place state.frame sides.along shelf) found.rank tests.1 in
          by_place shelf e (fits.0, fits.1)

  -- where none is chosen, nothing fits
  pub none_chosen-none_fits : (sides : Sides) → chosen state sides ≡ None → (n : ℕ) (shelf : Shelf) → slice_get state.shelves n ≡ Some shelf
      → FitsShelf sides.along (tall sides) shelf → ⊥
  none_chosen-none_fits sides none n shelf at fits = by_found (first_least (ranks sides)) refl
    where
      by_found : (o : Option Found) → first_least (ranks sides) ≡ o → ⊥
      by_found None e =
          first_least-none (ranks sides) e n _ (rank-at sides n shelf at ∙ ap Some (fits-rank state.frame sides.along (tall sides) shelf (shelf-valid n shelf at) fits))
      by_found (Some found) e = some-chosen sides found e none
