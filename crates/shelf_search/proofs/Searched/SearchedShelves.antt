-- Shelves of records that keep every rule: their items by place, and their ranks, are those of the state.
use Rattle.std.proofs.Common.{◌≡◌, ℕ, suc, ◌+◌, ◌≤◌, Bool, true, false, cond, Option, None, Some, option_map, List, [], ◌∷◌, ◌++◌, length, map, refl, ap, arith, sym, ◌∙◌, subst}
use Rattle.std.proofs.lemmas.Bool.{eq-eqb, ne_eqb}
use Rattle.std.specs.Prelude.{◌/◌, ◌||◌, ◌==◌, find, nat_le, slice_get, if◌then◌else◌}
use Rattle.std.specs.List.{AllByRecursion}
use Rattle.etagere_base.specs.Lists.{times}
use Rattle.etagere_base.proofs.ReplacedLists.{slice_get-append}
use Rattle.etagere_base.specs.declared.frames.Frame.{Frame}
use Rattle.shelf_records.specs.declared.records.LinkedItem.{LinkedItem}
use Rattle.shelf_records.specs.RecordLists.{Entry, Records, walked_entry}
use Rattle.etagere_links.proofs.ListEnds.{times-here}
use Rattle.shelf_records.specs.AtlasRecords.{AtlasRecords, along_of, height_of, is_empty_at, item_at, item_place_of, spelled_shelf}
use Rattle.shelf_model.specs.Choice.{bad_fit_rank, fitting_place, is_good_fit, number_at, rank, width_at}
use Rattle.shelf_model.specs.Places.{column_place}
use Rattle.shelf_records.specs.Private.Kept.{atlas_of}
use Rattle.shelf_search.specs.Private.Searching.{first_wide, offered, rank_of}
use Rattle.shelf_records.specs.StandsFor.{LieFrom}
use Rattle.shelf_model.specs.State.{Item, Shelf}
use Rattle.shelf_model.specs.Valid.{IsItem}
use Rattle.shelf_records.proofs.Recorded.Members.{IsAmong, among}
use Rattle.shelf_records.proofs.Recorded.RecordedAllocations.{spelled-column}
use Rattle.shelf_search.proofs.Searched.LowestCandidates.{rank_in}
use Rattle.shelf_search.proofs.Searched.SearchSteps.{is_wide}
use Rattle.shelf_records.proofs.Spelled.EntryValues.{LieFrom-back, widths}
use Rattle.shelf_records.proofs.Spelled.KeptShelves.{IsSearched}

-- the item that begins where one of a shelf does is that one
place-found : (frame : Frame) (items : List LinkedItem) (here : ℕ) (front : List ℕ) (n : ℕ) (back : List ℕ) → AllByRecursion (IsItem frame) (map (item_at items) (front ++ n ∷ back)) → LieFrom items here (front ++ n ∷ back)
    → (width_at here (map (item_at items) (front ++ n ∷ back)) (item_place_of items n) ≡ (item_at items n).width)
    × (number_at here (map (item_at items) (front ++ n ∷ back)) (item_place_of items n) ≡ length front)
place-found frame items here [] n back are lies =
    let place : ℕ = item_place_of items n in
    let width : ℕ = (item_at items n).width in
    let same : (here == place) ≡ true = eq-eqb here place (sym lies.0) in (
      ap (λ b. cond b width (width_at (here + width) (map (item_at items) back) place)) same,
      ap (λ b. cond b 0 (suc (number_at (here + width) (map (item_at items) back) place))) same,
    )
place-found frame items here (x ∷ front) n back are lies =
    let place : ℕ = item_place_of items n in
    let width : ℕ = (item_at items x).width in
    let rest : List Item = map (item_at items) (front ++ n ∷ back) in
    let begins : place ≡ here + width + widths items front = (LieFrom-back items (here + width) front (n ∷ back) lies.1).0 in
    let other : (here == place) ≡ false = ne_eqb here place (λ e. omega (arith, begins, e, are.0.width)) in
    let later = place-found frame items (here + width) front n back are.1 lies.1 in (
      ap (λ b. cond b width (width_at (here + width) rest place)) other ∙ later.0,
      ap (λ b. cond b 0 (suc (number_at (here + width) rest place))) other ∙ ap suc later.1,
    )

-- an item of a shelf, as the state has it by its place
pub record IsPlacedItem (atlas : AtlasRecords) (entry : Entry) (number : ℕ) : Type 0 where
  pub width :
      width_at (column_place atlas.frame (spelled_shelf atlas entry)) (spelled_shelf atlas entry).items (item_place_of atlas.records.items number)
      ≡ (item_at atlas.records.items number).width
  pub get :
      slice_get entry.items (number_at (column_place atlas.frame (spelled_shelf atlas entry)) (spelled_shelf atlas entry).items (item_place_of atlas.records.items number))
      ≡ Some number

pub placed-item : (atlas : AtlasRecords) (entry : Entry) (number : ℕ) → 1 ≤ atlas.frame.column_width → IsSearched atlas entry → 1 ≤ times number entry.items → IsPlacedItem atlas entry number
placed-item atlas entry number wide searched stands =
    let items : List LinkedItem = atlas.records.items in
    let place : ℕ = item_place_of items number in
    let at : IsAmong number entry.items = among number entry.items stands in
    let begins : column_place atlas.frame (spelled_shelf atlas entry) ≡ along_of atlas.records.shelves entry.number = spelled-column atlas entry wide searched.placed.along in
    let found = place-found atlas.frame items (along_of atlas.records.shelves entry.number) at.front number at.back
    (subst (λ (ns : List ℕ). AllByRecursion (IsItem atlas.frame) (map (item_at items) ns)) at.whole searched.shelf.items)
    (subst (λ (ns : List ℕ). LieFrom items (along_of atlas.records.shelves entry.number) ns) at.whole searched.placed.places) in
    let number_is : number_at (column_place atlas.frame (spelled_shelf atlas entry)) (spelled_shelf atlas entry).items place ≡ length at.front =
    ap (λ b. number_at b (map (item_at items) entry.items) place) begins
    ∙ ap (λ (ns : List ℕ). number_at (along_of atlas.records.shelves entry.number) (map (item_at items) ns) place) at.whole
    ∙ found.1 in
    record {
      width =
          ap (λ b. width_at b (map (item_at items) entry.items) place) begins
          ∙ ap (λ (ns : List ℕ). width_at (along_of atlas.records.shelves entry.number) (map (item_at items) ns) place) at.whole
          ∙ found.0;
      get =
          ap (slice_get entry.items) number_is
          ∙ ap (λ (ns : List ℕ). slice_get ns (length at.front)) at.whole
          ∙ slice_get-append at.front number at.back (length at.front) refl;
    }

-- what is found first among images, where the tests agree
find-images : (place : ℕ → ℕ) (test other : ℕ → Bool) (numbers : List ℕ) → ((k : ℕ) → 1 ≤ times k numbers → test (place k) ≡ other k) → find test (map place numbers) ≡ option_map place (find other numbers)
find-images place test other [] agree = refl
find-images place test other (n ∷ ns) agree =
    ap (λ b. cond b (Some (place n)) (find test (map place ns))) (agree n (omega (arith, times-here n ns)))
    ∙ ap (λ o. cond (other n) (Some (place n)) o) (find-images place test other ns (λ k stands. agree k (omega (arith, stands))))
    ∙ by_test (other n) (find other ns)
  where
    by_test : (b : Bool) (o : Option ℕ) → cond b (Some (place n)) (option_map place o) ≡ option_map place (cond b (Some n) o)
    by_test true o = refl
    by_test false o = refl

-- the fitting place of a shelf is that of the first wide item
pub searched-place : (frame : Frame) (records : Records) (number width : ℕ) → 1 ≤ frame.column_width → IsSearched (atlas_of frame records) (walked_entry records number)
    → fitting_place frame width (spelled_shelf (atlas_of frame records) (walked_entry records number)) ≡ option_map (item_place_of records.items) (first_wide records width number)
searched-place frame records number width wide searched =
    let entry : Entry = walked_entry records number in
    let shelf : Shelf = spelled_shelf (atlas_of frame records) entry in
    find-images (item_place_of records.items) (λ place. nat_le width (width_at (column_place frame shelf) shelf.items place)) (is_wide records width) entry.free_list
    (λ k stands. ap (nat_le width) (placed-item (atlas_of frame records) entry k wide searched (omega (arith, stands, searched.members k))).width)

-- the rank of a shelf is that of what it offers
searched-rank : (frame : Frame) (records : Records) (number width height : ℕ) → 1 ≤ frame.column_width → IsSearched (atlas_of frame records) (walked_entry records number)
    → rank frame width height (spelled_shelf (atlas_of frame records) (walked_entry records number)) ≡ option_map rank_in (offered records width height number)
searched-rank frame records number width height wide searched =
    let shelf : Shelf = spelled_shelf (atlas_of frame records) (walked_entry records number) in
    let good : is_good_fit height shelf ≡ (is_empty_at records.shelves number || nat_le (height_of records.shelves number) (height + height / 2)) =
    ap (λ b. b || nat_le (height_of records.shelves number) (height + height / 2)) (sym searched.flag) in
    ap (λ b. cond (nat_le height (height_of records.shelves number)) (option_map (λ _. if b then height_of records.shelves number else bad_fit_rank) (fitting_place frame width shelf)) None) good
    ∙ ap (λ o. cond (nat_le height (height_of records.shelves number)) (option_map (λ _. rank_of records.shelves height number) o) None) (searched-place frame records number width wide searched)
    ∙ by_parts (nat_le height (height_of records.shelves number)) (first_wide records width number)
  where
    by_parts : (b : Bool) (o : Option ℕ) → cond b (option_map (λ _. rank_of records.shelves height number) (option_map (item_place_of records.items) o)) None
        ≡ option_map rank_in (cond b (option_map (λ item. record { shelf = number; item = item; rank = rank_of records.shelves height number }) o) None)
    by_parts true None = refl
    by_parts true (Some item) = refl
    by_parts false o = refl

-- the ranks of the shelves are those of what they offer
pub searched-ranks : (frame : Frame) (records : Records) (width height : ℕ) (numbers : List ℕ) → 1 ≤ frame.column_width → AllByRecursion (λ number. IsSearched (atlas_of frame records) (walked_entry records number)) numbers
    → map (rank frame width height) (map (spelled_shelf (atlas_of frame records)) (map (walked_entry records) numbers)) ≡ map (option_map rank_in) (map (offered records width height) numbers)
searched-ranks frame records width height [] wide searched = refl
searched-ranks frame records width height (n ∷ ns) wide searched =
    let rest : List (Option ℕ) = map (rank frame width height) (map (spelled_shelf (atlas_of frame records)) (map (walked_entry records) ns)) in
    ap (λ r. r ∷ rest) (searched-rank frame records n width height wide searched.0)
    ∙ ap (λ rs. option_map rank_in (offered records width height n) ∷ rs) (searched-ranks frame records width height ns wide searched.1)
