-- What the search by records finds is the placement that the model finds, by the numbers of records.
use Rattle.std.proofs.Common.{◌≡◌, ℕ, ◌+◌, ◌<◌, ◌≤◌, Bool, true, false, Option, None, Some, option_map, map, take, refl, ap, arith, sym, ◌∙◌, subst}
use Rattle.std.proofs.lemmas.Bool.Decides.{nat_tests}
use Rattle.std.proofs.lemmas.Option.{slice_get-map}
use Rattle.std.specs.Prelude.{◌&&◌, nat_le, nat_lt, option_and_then, slice_get, if◌then◌else◌}
use Rattle.etagere_base.specs.Frames.{asked}
use Rattle.etagere_base.specs.Least.{Found, first_least}
use Rattle.etagere_base.specs.Lists.{times}
use Rattle.etagere_base.specs.declared.frames.Frame.{Frame}
use Rattle.etagere_base.specs.declared.geometry.Size.{Size}
use Rattle.etagere_base.specs.declared.sides.Sides.{Sides}
use Rattle.etagere_base.proofs.EachLemmas.{Each-get}
use Rattle.etagere_base.proofs.TimesLemmas.{find-stands}
use Rattle.shelf_records.specs.RecordLists.{Entry, Records, shelf_walk, walked_entry}
use Rattle.shelf_records.specs.AtlasRecords.{across_of, height_of, is_empty_at, item_at, item_place_of, spelled_shelf}
use Rattle.shelf_model.specs.Choice.{Placement, chosen, fitting_place, is_item_split, placement_in, placement_of, rank, shelf_height, splits, width_at}
use Rattle.shelf_model.specs.Places.{column_height, column_place}
use Rattle.shelf_records.specs.Private.Kept.{AreKept, Finds, Locates, atlas_of, state_of}
use Rattle.shelf_search.specs.Private.Searching.{best_candidate, chosen_at, first_wide, offered, placement_at}
use Rattle.shelf_model.specs.State.{AtlasState, Shelf, items_in_use}
use Rattle.shelf_search.specs.declared.choosing.Candidate.{Candidate}
use Rattle.shelf_model.proofs.Chosen.Placed.{chosen-is, map-parts}
use Rattle.shelf_search.proofs.Searched.LowestCandidates.{AreSame, lowest-same, rank_in}
use Rattle.shelf_search.proofs.Searched.SearchSteps.{Offers, is_wide, offers-parts}
use Rattle.shelf_search.proofs.Searched.SearchedShelves.{IsPlacedItem, placed-item, searched-place, searched-ranks}
use Rattle.shelf_records.proofs.Spelled.StandsKept.{witnesses}
use Rattle.shelf_records.proofs.Spelled.KeptShelves.{IsSearched, across-at, kept-searched}

-- the model's shelf of a position, by the number of its record
abbrev shelf_at : Frame → Records → ℕ → Shelf
shelf_at frame records number = spelled_shelf (atlas_of frame records) (walked_entry records number)

-- a candidate's placement is that of the model, by the numbers of records
located : (frame : Frame) (records : Records) (width height position : ℕ) (candidate : Candidate) → AreKept frame records → slice_get (shelf_walk records).met position ≡ Some candidate.shelf → first_wide records width candidate.shelf ≡ Some candidate.item
    → Locates records (placement_at records width height candidate)
    (placement_in frame position (column_height (shelf_at frame records candidate.shelf).column (take position (state_of frame records).shelves)) width height (shelf_at frame records candidate.shelf) (item_place_of records.items candidate.item))
located frame records width height position candidate kept at wide =
    let entry : Entry = walked_entry records candidate.shelf in
    let shelf : Shelf = shelf_at frame records candidate.shelf in
    let own : ℕ = height_of records.shelves candidate.shelf in
    let searched : IsSearched (atlas_of frame records) entry =
    Each-get (λ number. IsSearched (atlas_of frame records) (walked_entry records number)) (shelf_walk records).met position candidate.shelf at (kept-searched frame records kept) in
    let free : 1 ≤ times candidate.item entry.free_list = (find-stands (is_wide records width) entry.free_list candidate.item wide).1 in
    let item : IsPlacedItem (atlas_of frame records) entry candidate.item =
    placed-item (atlas_of frame records) entry candidate.item (witnesses kept).valid.frame.column_width searched (omega (arith, free, searched.members candidate.item)) in
    let fill : ℕ → ℕ → Bool → Placement = λ across item_width empty.
    record {
      shelf = candidate.shelf;
      item = candidate.item;
      along = item_place_of records.items candidate.item;
      across = across;
      width = if is_item_split width item_width then width else item_width;
      height = if empty && nat_lt (height + 8) own then height else own;
      splits_shelf = empty && nat_lt (height + 8) own;
      splits_item = is_item_split width item_width;
    } in
    let across : across_of records.shelves candidate.shelf ≡ column_height shelf.column (take position (state_of frame records).shelves) = across-at frame records position candidate.shelf kept at in
    record {
      entry = entry;
      at = slice_get-map (walked_entry records) (shelf_walk records).met position ∙ ap (option_map (walked_entry records)) at;
      shelf = refl;
      item = item.get;
      same =
          ap (λ a. fill a (item_at records.items candidate.item).width (is_empty_at records.shelves candidate.shelf)) across
          ∙ ap (λ w. fill (column_height shelf.column (take position (state_of frame records).shelves)) w (is_empty_at records.shelves candidate.shelf)) (sym item.width)
          ∙ ap (fill (column_height shelf.column (take position (state_of frame records).shelves)) (width_at (column_place frame shelf) shelf.items (item_place_of records.items candidate.item))) searched.flag;
    }

-- what was found is the placement that the model finds, or neither found any
abbrev AreLocated : Records → Option Placement → Option Placement → Type 0
AreLocated records None None = Unit {0}
AreLocated records None (Some placement) = ⊥
AreLocated records (Some found) None = ⊥
AreLocated records (Some found) (Some placement) = Locates records found placement

-- a candidate of the shelves is where its shelf stands, and the first wide one there
pub record StandsAt (records : Records) (width position : ℕ) (candidate : Candidate) : Type 0 where
  pub at : slice_get (shelf_walk records).met position ≡ Some candidate.shelf
  pub wide : first_wide records width candidate.shelf ≡ Some candidate.item

stands-at : (records : Records) (width height position : ℕ) (candidate : Candidate) → slice_get (map (offered records width height) (shelf_walk records).met) position ≡ Some (Some candidate) → StandsAt records width position candidate
stands-at records width height position candidate at =
    let found = map-parts (offered records width height) (slice_get (shelf_walk records).met position) (Some candidate) (sym (slice_get-map (offered records width height) (shelf_walk records).met position) ∙ at) in
    let offers : Offers records width height found.0 candidate = offers-parts records width height found.0 candidate found.2 in
    record {
      at = found.1 ∙ ap Some (sym offers.shelf_is);
      wide = ap (first_wide records width) offers.shelf_is ∙ offers.wide;
    }

-- what is chosen by records is what the model chooses
pub chosen-located : (frame : Frame) (records : Records) (sides : Sides) → AreKept frame records → AreLocated records (chosen_at frame records sides) (chosen (state_of frame records) sides)
chosen-located frame records sides kept =
    by_found (first_least (map (rank frame sides.along (shelf_height frame sides.across)) (state_of frame records).shelves)) (best_candidate records sides.along (shelf_height frame sides.across)) refl refl
    (rw ranks (lowest-same (map (offered records sides.along (shelf_height frame sides.across)) (shelf_walk records).met)))
  where
    ranks : map (rank frame sides.along (shelf_height frame sides.across)) (state_of frame records).shelves
        ≡ map (option_map rank_in) (map (offered records sides.along (shelf_height frame sides.across)) (shelf_walk records).met)
    ranks = searched-ranks frame records sides.along (shelf_height frame sides.across) (shelf_walk records).met (witnesses kept).valid.frame.column_width (kept-searched frame records kept)

    by_found : (o : Option Found) (p : Option Candidate)
        → first_least (map (rank frame sides.along (shelf_height frame sides.across)) (state_of frame records).shelves) ≡ o
        → best_candidate records sides.along (shelf_height frame sides.across) ≡ p
        → AreSame (map (offered records sides.along (shelf_height frame sides.across)) (shelf_walk records).met) o p
        → AreLocated records (option_map (placement_at records sides.along (shelf_height frame sides.across)) p) (chosen (state_of frame records) sides)
    by_found None None least best same = rw least tt
    by_found None (Some candidate) least best same = absurd same
    by_found (Some found) None least best same = absurd same
    by_found (Some found) (Some candidate) least best same =
        let height : ℕ = shelf_height frame sides.across in
        let stands : StandsAt records sides.along found.number candidate = stands-at records sides.along height found.number candidate same.0 in
        let shelf : Shelf = shelf_at frame records candidate.shelf in
        let across : ℕ = column_height shelf.column (take found.number (state_of frame records).shelves) in
        let at : slice_get (state_of frame records).shelves found.number ≡ Some shelf =
        slice_get-map (spelled_shelf (atlas_of frame records)) (map (walked_entry records) (shelf_walk records).met) found.number
        ∙ ap (option_map (spelled_shelf (atlas_of frame records))) (slice_get-map (walked_entry records) (shelf_walk records).met found.number ∙ ap (option_map (walked_entry records)) stands.at) in
        let searched : IsSearched (atlas_of frame records) (walked_entry records candidate.shelf) =
        Each-get (λ number. IsSearched (atlas_of frame records) (walked_entry records number)) (shelf_walk records).met found.number candidate.shelf stands.at (kept-searched frame records kept) in
        let place : fitting_place frame sides.along shelf ≡ Some (item_place_of records.items candidate.item) =
        searched-place frame records candidate.shelf sides.along (witnesses kept).valid.frame.column_width searched ∙ ap (option_map (item_place_of records.items)) stands.wide in
        let model : chosen (state_of frame records) sides ≡ Some (placement_in frame found.number across sides.along height shelf (item_place_of records.items candidate.item)) =
        chosen-is (state_of frame records) sides found.number shelf (sym (ap (option_map (λ (f : Found). f.number)) least)) at
        ∙ ap (option_map (placement_in frame found.number across sides.along height shelf)) place in
        subst (AreLocated records (Some (placement_at records sides.along height candidate))) (sym model)
        (located frame records sides.along height found.number candidate kept stands.at stands.wide)

-- what was found, as the model has it
pub record IsModelled (frame : Frame) (records : Records) (sides : Sides) (found : Placement) : Type 0 where
  pub placement : Placement
  pub chosen : chosen (state_of frame records) sides ≡ Some placement
  pub located : Locates records found placement

-- where neither or both found one
pub located-parts : (frame : Frame) (records : Records) (sides : Sides) (o p : Option Placement) → chosen (state_of frame records) sides ≡ p → AreLocated records o p
    → (o ≡ None → p ≡ None) × ((found : Placement) → o ≡ Some found → IsModelled frame records sides found)
located-parts frame records sides None None is located = (λ e. refl, λ found e. absurd (cc))
located-parts frame records sides None (Some placement) is located = absurd located
located-parts frame records sides (Some found) None is located = absurd located
located-parts frame records sides (Some one) (Some placement) is located = (
  λ e. absurd (cc),
  λ found e. let same : one ≡ found = cc in record { placement = placement; chosen = is; located = subst (λ (f : Placement). Locates records f placement) same located },
)

-- the placement of a size, from what is chosen for the sides that it asks for
placement-chosen : (state : AtlasState) (size : Size) (sides : Sides) (o : Option Placement) → asked state.frame size ≡ Some sides → chosen state sides ≡ o
    → placement_of state size ≡ option_and_then (λ placement. if nat_le (items_in_use state.shelves + splits placement) 65535 then Some placement else None) o
placement-chosen state size sides o asks is = rw (asks, is) refl

-- where the search finds none, the size is refused
pub none-chosen : (frame : Frame) (records : Records) (size : Size) (sides : Sides) → AreKept frame records → asked frame size ≡ Some sides → chosen_at frame records sides ≡ None → placement_of (state_of frame records) size ≡ None
none-chosen frame records size sides kept asks none =
    let parts = located-parts frame records sides (chosen_at frame records sides) (chosen (state_of frame records) sides) refl (chosen-located frame records sides kept) in
    placement-chosen (state_of frame records) size sides None asks (parts.0 none)

-- what the search finds splits as the model's placement does
pub located-splits : (records : Records) (found placement : Placement) → Locates records found placement → splits found ≡ splits placement
located-splits records found placement located = ap splits located.same

-- where the search finds one, it is the placement of the size if there are records enough for its splits
pub some-chosen : (frame : Frame) (records : Records) (size : Size) (sides : Sides) (found : Placement) → AreKept frame records → asked frame size ≡ Some sides → chosen_at frame records sides ≡ Some found
    → (items_in_use (state_of frame records).shelves + splits found ≤ 65535 → Finds frame records size found)
    × (65535 < items_in_use (state_of frame records).shelves + splits found → placement_of (state_of frame records) size ≡ None)
some-chosen frame records size sides found kept asks is =
    let parts = located-parts frame records sides (chosen_at frame records sides) (chosen (state_of frame records) sides) refl (chosen-located frame records sides kept) in
    let model : IsModelled frame records sides found = parts.1 found is in
    let same : splits found ≡ splits model.placement = located-splits records found model.placement model.located in
    let placed : placement_of (state_of frame records) size ≡ (if nat_le (items_in_use (state_of frame records).shelves + splits model.placement) 65535 then Some model.placement else None) =
    placement-chosen (state_of frame records) size sides (Some model.placement) asks model.chosen in (
      λ room.
          let fits : nat_le (items_in_use (state_of frame records).shelves + splits model.placement) 65535 ≡ true = grind (arith, nat_tests) in
          record { placement = model.placement; placed = placed ∙ ap (λ b. if b then Some model.placement else None) fits; located = model.located },
      λ full.
          let lacks : nat_le (items_in_use (state_of frame records).shelves + splits model.placement) 65535 ≡ false = grind (arith, nat_tests) in
          placed ∙ ap (λ b. if b then Some model.placement else None) lacks,
    )
