use Rattle.std.proofs.Common.{◌≤◌}
use Rattle.etagere_links.specs.Links.{link_of}
use Rattle.shelf_records.specs.RecordLists.{free_walk}
use Rattle.shelf_records.proofs.AllLists.Following.{count_from}
use Rattle.shelf_search.proofs.Searched.SearchSteps.{SearchesWithin}
use Rattle.shelf_search.proofs.by_place.search_within.Given as goal

-- the first wide one of what is left of the free list is that of all, and so is the widest; each that was passed is counted
abbrev pub invariant-loop-number : goal.invariant-loop-number
invariant-loop-number l = record {
  searches : SearchesWithin l.records l.width l.shelf l.widest (link_of l.number) l.fn.left l.left;
  small : l.number ≤ 65535;
  narrow : l.widest ≤ 65535;
}

abbrev pub decreases-loop-number : goal.decreases-loop-number
decreases-loop-number l = count_from (link_of l.number) (free_walk l.records l.shelf).met
