-- How the place of a size is found by records: the shelf of least rank, and in it the first item
-- that is wide enough.
use Rattle.std.specs.Prelude.{◌≡◌, ℕ, ◌+◌, ◌-◌, ◌/◌, ◌^◌, ◌≤◌, Bool, false, true, ⊤, ◌&&◌, ◌||◌, Option, None, Some, option_map, List, [], ◌∷◌, drop, find, length, map, nat_le, nat_lt, take, if◌then◌else◌}
use Rattle.std.specs.Option.{option_map_or}
use Rattle.std.specs.List.{AllByRecursion}
use Rattle.etagere_base.specs.Lists.{times}
use Rattle.etagere_base.specs.declared.frames.Frame.{Frame}
use Rattle.etagere_base.specs.declared.sides.Sides.{Sides}
use Rattle.shelf_records.specs.declared.records.LinkedShelf.{LinkedShelf}
use Rattle.shelf_records.specs.RecordLists.{Records, free_walk, shelf_walk}
use Rattle.shelf_records.specs.AtlasRecords.{across_of, height_of, is_empty_at, item_at, item_place_of}
use Rattle.shelf_model.specs.Choice.{Placement, bad_fit_rank, is_item_split, shelf_height, shelf_slack}
use Rattle.shelf_heights.specs.Private.ByHeight.{chain_order}
use Rattle.shelf_search.specs.declared.by_place.Looked.{Looked}
use Rattle.shelf_search.specs.declared.by_place.Looked.TheVariants.{Lower, NotLower, Unknown}
use Rattle.shelf_search.specs.declared.by_place.Walked.{Walked}
use Rattle.shelf_search.specs.declared.by_place.Walked.TheVariants.{NotThrough, Through}
use Rattle.shelf_search.specs.declared.choosing.Candidate.{Candidate}
use Rattle.shelf_search.specs.declared.choosing.FirstGood.{FirstGood}
use Rattle.shelf_search.specs.declared.choosing.FirstGood.TheVariants.{Found, Rest}

-- the first item of a shelf's free list that is wide enough
abbrev pub first_wide : Records → ℕ → ℕ → Option ℕ
first_wide records width shelf =
    find (λ item. nat_le width (item_at records.items item).width) (free_walk records shelf).met

-- the rank of a shelf that fits: a good fit by its height, a bad one after every good one
abbrev pub rank_of : List LinkedShelf → ℕ → ℕ → ℕ
rank_of shelves height shelf =
    if is_empty_at shelves shelf || nat_le (height_of shelves shelf) (height + height / 2)
    then height_of shelves shelf
    else bad_fit_rank

-- what a shelf offers for a width and a height, where it fits
abbrev pub offered : Records → ℕ → ℕ → ℕ → Option Candidate
offered records width height shelf =
    if nat_le height (height_of records.shelves shelf)
    then option_map
    (λ item. record { shelf = shelf; item = item; rank = rank_of records.shelves height shelf })
    (first_wide records width shelf)
    else None

-- a candidate, unless what comes after it ranks lower
abbrev pub lower : Candidate → Option Candidate → Candidate
lower candidate None = candidate
lower candidate (Some later) = if nat_lt later.rank candidate.rank then later else candidate

-- what was found before, unless what comes after it ranks lower
abbrev pub better : Option Candidate → Option Candidate → Option Candidate
better None later = later
better (Some candidate) later = Some (lower candidate later)

-- below which a shelf ranks lower than what was found, if anything was: no rank is as high as where nothing was
abbrev pub limit_of : Option Candidate → ℕ
limit_of None = 2 ^ 32 - 1
limit_of (Some candidate) = candidate.rank

-- what a look at a shelf comes to where that was found: what ranks lower, that nothing does, or that it isn't known
abbrev pub IsLooked : Option Candidate → Option Candidate → Looked → Type 0
IsLooked best offer (Lower candidate) = better best offer ≡ Some candidate
IsLooked best offer NotLower = better best offer ≡ best
IsLooked best offer Unknown = ⊤

-- the first of least rank
abbrev pub lowest : List (Option Candidate) → Option Candidate
lowest [] = None
lowest (candidate ∷ candidates) = better candidate (lowest candidates)

-- the first of least rank among what the shelves offer
abbrev pub best_candidate : Records → ℕ → ℕ → Option Candidate
best_candidate records width height =
    lowest (map (offered records width height) (shelf_walk records).met)

-- what a shelf of the walk offers ranks at least so high
abbrev pub RanksFrom : Records → ℕ → ℕ → ℕ → Type 0
RanksFrom records width height least =
    (shelf : ℕ) (offer : Candidate) → 1 ≤ times shelf (shelf_walk records).met
    → offered records width height shelf ≡ Some offer → least ≤ offer.rank

-- where all shelves were gone through, that came to the first of least rank
abbrev pub IsThrough : Records → ℕ → ℕ → Walked → Type 0
IsThrough records width height walked =
    (best : Option Candidate) → walked ≡ Through best → best ≡ best_candidate records width height

-- whether the list by height is searched: all shelves weren't gone through before
abbrev pub list_follows : Walked → Bool
list_follows (Through best) = false
list_follows NotThrough = true

-- what a shelf offers, where it is a good fit
abbrev pub good_offer : Records → ℕ → ℕ → ℕ → Option Candidate
good_offer records width height shelf =
    if nat_lt (rank_of records.shelves height shelf) bad_fit_rank
    then offered records width height shelf
    else None

-- what the first of these shelves offers that offers something
abbrev pub first_offer : (ℕ → Option Candidate) → List ℕ → Option Candidate
first_offer offers [] = None
first_offer offers (shelf ∷ shelves) =
    option_map_or Some (offers shelf) (first_offer offers shelves)

-- each of these shelves is too tall for a good fit, unless it is empty
abbrev pub AreTooTall : List LinkedShelf → ℕ → List ℕ → Type 0
AreTooTall shelves height numbers =
    AllByRecursion (λ shelf. height + height / 2 + 1 ≤ height_of shelves shelf) numbers

-- what a search for a good fit comes to from a position on: the first one; else a position before which no shelf
-- offers a place, and from which on each is too tall for a good fit that isn't empty
abbrev pub IsFirstGood : Records → ℕ → ℕ → ℕ → List ℕ → FirstGood → Type 0
IsFirstGood records width height start shelves (Found candidate) =
    first_offer (good_offer records width height) (drop start shelves) ≡ Some candidate
IsFirstGood records width height start shelves (Rest rest) =
    (start ≤ rest)
    × (rest ≤ length shelves)
    × AllByRecursion (λ shelf. offered records width height shelf ≡ None) (drop start (take rest shelves))
    × AreTooTall records.shelves height (drop rest shelves)

-- of two candidates the one whose shelf is earlier in the chain
abbrev pub earlier : List LinkedShelf → Option Candidate → Option Candidate → Option Candidate
earlier shelves None other = other
earlier shelves (Some one) None = Some one
earlier shelves (Some one) (Some other) =
    if nat_lt (chain_order shelves one.shelf) (chain_order shelves other.shelf)
    then Some one
    else Some other

-- the one whose shelf is the earliest in the chain
abbrev pub earliest : List LinkedShelf → List (Option Candidate) → Option Candidate
earliest shelves [] = None
earliest shelves (candidate ∷ candidates) =
    earlier shelves candidate (earliest shelves candidates)

-- the first good fit of these shelves; where there is none, what the earliest shelf in the chain offers
abbrev pub first_by_height : Records → ℕ → ℕ → List ℕ → Option Candidate
first_by_height records width height shelves =
    option_map_or Some (first_offer (good_offer records width height) shelves)
    (earliest records.shelves (map (offered records width height) shelves))

-- an empty shelf is split where more than the slack would be left of it
abbrev pub is_split_at : List LinkedShelf → ℕ → ℕ → Bool
is_split_at shelves height shelf =
    is_empty_at shelves shelf && nat_lt (height + shelf_slack) (height_of shelves shelf)

-- all that is found out of an item of a shelf, for a width and a height
abbrev pub placement_at : Records → ℕ → ℕ → Candidate → Placement
placement_at records width height candidate =
    let item_width = (item_at records.items candidate.item).width in
    let splits_shelf = is_split_at records.shelves height candidate.shelf in
    record {
      shelf = candidate.shelf;
      item = candidate.item;
      along = item_place_of records.items candidate.item;
      across = across_of records.shelves candidate.shelf;
      width = if is_item_split width item_width then width else item_width;
      height = if splits_shelf then height else height_of records.shelves candidate.shelf;
      splits_shelf = splits_shelf;
      splits_item = is_item_split width item_width;
    }

-- all that is found out of the place for sides
abbrev pub chosen_at : Frame → Records → Sides → Option Placement
chosen_at frame records sides =
    let height = shelf_height frame sides.across in
    option_map (placement_at records sides.along height) (best_candidate records sides.along height)
