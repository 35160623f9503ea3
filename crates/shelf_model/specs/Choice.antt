-- Which place a size gets: the shelf of least rank, and in it the first item wide enough.
use Rattle.std.specs.Prelude.{ℕ, suc, ◌+◌, ◌*◌, ◌/◌, ◌≡◌, Bool, ◌&&◌, ◌||◌, Option, None, Some, option_map, option_and_then, List, [], ◌∷◌, map, find, slice_get, take, nat_le, nat_lt, ◌==◌, if◌then◌else◌}
use Rattle.etagere_base.specs.declared.frames.Frame.{Frame}
use Rattle.etagere_base.specs.declared.geometry.Rectangle.{Rectangle}
use Rattle.etagere_base.specs.declared.geometry.Size.{Size}
use Rattle.etagere_base.specs.declared.sides.Sides.{Sides}
use Rattle.etagere_base.specs.Frames.{asked, across_side}
use Rattle.etagere_base.specs.Least.{first_least}
use Rattle.etagere_base.specs.Sides.{step}
use Rattle.etagere_base.specs.Places.{rectangle_at}
use Rattle.shelf_model.specs.Places.{column_height, column_place}
use Rattle.shelf_model.specs.State.{Item, Shelf, AtlasState, is_empty, items_in_use}

-- the height of a shelf for items of this height: stepped, unless that is taller than the atlas
abbrev pub shelf_height : Frame → ℕ → ℕ
shelf_height frame height = if nat_le (step height) (across_side frame) then step height else height

-- empty, or not much taller than asked
abbrev pub is_good_fit : ℕ → Shelf → Bool
is_good_fit height shelf = is_empty shelf || nat_le shelf.height (height + height / 2)

-- the width of the item that begins at a place, where the first one begins here; 0 where none
-- begins there
abbrev pub width_at : ℕ → List Item → ℕ → ℕ
width_at here [] place = 0
width_at here (item ∷ items) place =
    if here == place then item.width else width_at (here + item.width) items place

-- the number of the item that begins at a place, the first one here; the number of items where none
-- does
abbrev pub number_at : ℕ → List Item → ℕ → ℕ
number_at here [] place = 0
number_at here (item ∷ items) place =
    if here == place then 0 else suc (number_at (here + item.width) items place)

-- in a shelf the first place in the free list whose item is wide enough
abbrev pub fitting_place : Frame → ℕ → Shelf → Option ℕ
fitting_place frame width shelf =
    find (λ place. nat_le width (width_at (column_place frame shelf) shelf.items place))
    shelf.free_list

-- a shelf is split where more than this would be left of its height
abbrev pub shelf_slack : ℕ
shelf_slack = 8

-- an item is split where more than this would be left of its width
abbrev pub item_slack : ℕ
item_slack = 8

-- an atlas has no more items than this
abbrev pub most_items : ℕ
most_items = 65535

-- the rank of a bad fit, which is above each height
abbrev pub bad_fit_rank : ℕ
bad_fit_rank = 65536

-- the rank of a shelf that fits: a good fit by its height, a bad one after every good one; none
-- where it doesn't fit
abbrev pub rank : Frame → ℕ → ℕ → Shelf → Option ℕ
rank frame width height shelf =
    if nat_le height shelf.height
    then option_map (λ _. if is_good_fit height shelf then shelf.height else bad_fit_rank)
    (fitting_place frame width shelf)
    else None

-- an empty shelf is split where more than the slack would be left of it
abbrev pub is_shelf_split : ℕ → Shelf → Bool
is_shelf_split height shelf = is_empty shelf && nat_lt (height + shelf_slack) shelf.height

-- an item is split where more than the slack would be left of it
abbrev pub is_item_split : ℕ → ℕ → Bool
is_item_split width item_width = nat_lt (width + item_slack) item_width

-- all that is found out of a place: the numbers of its shelf and of its item there, where they
-- begin, the width and the height that are given, and which of the two is split for it
pub record Placement : Type 0 where
  pub shelf : ℕ
  pub item : ℕ
  pub along : ℕ
  pub across : ℕ
  pub width : ℕ
  pub height : ℕ
  pub splits_shelf : Bool
  pub splits_item : Bool

-- what is found out of a place in the shelf of a number that begins there across, for this width
-- and height: what is split gives them, and what is not gives all of its own
abbrev pub placement_in : Frame → ℕ → ℕ → ℕ → ℕ → Shelf → ℕ → Placement
placement_in frame number across width height shelf place =
    let item_width = width_at (column_place frame shelf) shelf.items place in
    record {
      shelf = number;
      item = number_at (column_place frame shelf) shelf.items place;
      along = place;
      across = across;
      width = if is_item_split width item_width then width else item_width;
      height = if is_shelf_split height shelf then height else shelf.height;
      splits_shelf = is_shelf_split height shelf;
      splits_item = is_item_split width item_width;
    }

-- the rectangle that a placement gives
abbrev pub rectangle_of_placement : Frame → Placement → Rectangle
rectangle_of_placement frame placement =
    rectangle_at frame placement.along placement.across placement.width placement.height

-- the area that a placement gives
abbrev pub area : Placement → ℕ
area placement = placement.width * placement.height

-- how many splits a placement makes, each of which needs a record for the rest
abbrev pub splits : Placement → ℕ
splits placement =
    (if placement.splits_shelf then 1 else 0) + (if placement.splits_item then 1 else 0)

-- the shelf of least rank, and in it the first place in the free list that is wide enough
abbrev pub chosen : AtlasState → Sides → Option Placement
chosen state sides =
    let height = shelf_height state.frame sides.across in
    option_and_then
    (λ found. option_and_then
    (λ shelf. option_map
    (placement_in state.frame found.number
    (column_height shelf.column (take found.number state.shelves))
    sides.along height shelf)
    (fitting_place state.frame sides.along shelf))
    (slice_get state.shelves found.number))
    (first_least (map (rank state.frame sides.along height) state.shelves))

-- the chosen place, where there are records enough for its splits
abbrev pub placement_of : AtlasState → Size → Option Placement
placement_of state size =
    option_and_then
    (λ sides. option_and_then
    (λ placement.
    if nat_le (items_in_use state.shelves + splits placement) most_items
    then Some placement else None)
    (chosen state sides))
    (asked state.frame size)

-- the size has no place
abbrev pub IsRefused : AtlasState → Size → Type 0
IsRefused state size = placement_of state size ≡ None
