-- The list of the shelves in use as its fields have it: a list that begins with some that are left over.
use Rattle.std.specs.Prelude.{◌≤◌, ◌<◌, ◌^◌, drop, length}
use Rattle.shelf_heights.specs.Private.ListFields.{ListByHeight}
use Rattle.shelf_heights.specs.declared.by_height.ShelvesByHeight.TheInside.{Inside}

-- what the fields stand for
abbrev pub used_list : Inside → ListByHeight
used_list by_height =
    record { items = drop by_height.start by_height.list.items; capacity = by_height.room }

-- what they keep: no more are left over than there are, and there is room for all
pub record HasFrontRoom (by_height : Inside) : Type 0 where
  pub within : by_height.start ≤ length by_height.list.items
  pub fits : length by_height.list.items ≤ by_height.room
  pub room : by_height.room ≤ by_height.list.capacity
  pub few : by_height.room < 2 ^ 64
