-- What the fields of an iteration keep, and what it has still to give.
use Rattle.std.specs.Prelude.{◌≤◌, List, length}
use Rattle.etagere_base.specs.declared.ids.Allocation.{Allocation}
use Rattle.shelf_records.specs.Private.Kept.{AreKept}
use Rattle.shelf_records.specs.Private.Reading.{recorded_from}
use Rattle.etagere_shelves.specs.declared.listing.Iter.TheInside.{Inside}

-- what an iteration has still to give
abbrev pub listed_in : Inside → List Allocation
listed_in iter = recorded_from iter.frame.now iter.records.now iter.number

-- its records keep every rule, and it is not past them
pub record IsListed (iter : Inside) : Type 0 where
  pub kept : AreKept iter.frame.now iter.records.now
  pub within : iter.number ≤ length iter.records.now.items
