-- Why a size has no place: each reason as a test of the state and the size, and the first that holds.
use Rattle.std.specs.Prelude.{ℕ, ◌+◌, Bool, false, Option, None, Some, nat_lt, if◌then◌else◌}
use Rattle.std.specs.Option.{option_map_or}
use Rattle.etagere_base.specs.declared.geometry.Size.{Size}
use Rattle.etagere_base.specs.declared.sides.Sides.{Sides}
use Rattle.etagere_base.specs.declared.faults.SizeRefusal.{SizeRefusal}
use Rattle.etagere_base.specs.declared.faults.SizeRefusal.TheVariants as sizes
use Rattle.etagere_base.specs.Frames.{rounded}
use Rattle.etagere_base.specs.Refusing.{size_refusal}
use Rattle.shelf_model.specs.declared.faults.Refusal.{Refusal}
use Rattle.shelf_model.specs.declared.faults.Refusal.TheVariants.{NotPositive, TooLong, WiderThanColumn, TallerThanAtlas, NoRoom, NoRecords}
use Rattle.shelf_model.specs.Choice.{chosen, most_items, shelf_height, splits}
use Rattle.shelf_model.specs.State.{AtlasState, items_in_use}
use Rattle.shelf_model.specs.Widest.{widest_free}

-- the number by which a reason is told
abbrev pub refusal_number : Refusal → ℕ
refusal_number NotPositive = 1
refusal_number TooLong = 2
refusal_number WiderThanColumn = 3
refusal_number TallerThanAtlas = 4
refusal_number (NoRoom widest) = 5
refusal_number NoRecords = 6

-- the reason of a size itself, as one of an atlas of shelves
abbrev pub of_size : SizeRefusal → Refusal
of_size sizes.NotPositive = NotPositive
of_size sizes.TooLong = TooLong
of_size sizes.WiderThanColumn = WiderThanColumn
of_size sizes.TallerThanAtlas = TallerThanAtlas

-- the width of the widest free item of the shelves that are tall enough
abbrev pub widest_for : AtlasState → Sides → ℕ
widest_for state sides = widest_free (shelf_height state.frame sides.across) state.shelves

-- no shelf that is tall enough has a free item that is wide enough
abbrev pub has_no_room : AtlasState → Sides → Bool
has_no_room state sides = nat_lt (widest_for state sides) sides.along

-- the splits of the chosen place would make more items than an atlas has
abbrev pub lacks_records : AtlasState → Sides → Bool
lacks_records state sides =
    option_map_or
    (λ placement. nat_lt most_items (items_in_use state.shelves + splits placement))
    (chosen state sides) false

-- the first reason for which the sides of a size that could fit have no place
abbrev pub sides_refusal : AtlasState → Sides → Option Refusal
sides_refusal state sides =
    if has_no_room state sides then Some (NoRoom (widest_for state sides))
    else (if lacks_records state sides then Some NoRecords
    else None)

-- the first reason for which a size has no place; none where it has one
abbrev pub refusal : AtlasState → Size → Option Refusal
refusal state size =
    option_map_or
    (λ reason. Some (of_size reason))
    (size_refusal state.frame size) (sides_refusal state (rounded state.frame size))
