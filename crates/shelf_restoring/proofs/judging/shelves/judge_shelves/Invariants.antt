use Rattle.std.proofs.Common.{◌≡◌, ◌+◌, ◌*◌, ◌%◌, ◌/◌, ◌≤◌, true, false, drop, length, map}
use Rattle.std.specs.List.{AllByRecursion}
use Rattle.shelf_records.specs.RecordLists.{Entry}
use Rattle.shelf_model.specs.Space as space
use Rattle.shelf_records.specs.AtlasRecords.{spelled_shelf}
use Rattle.shelf_records.specs.Private.Judging.{atlas_of_records}
use Rattle.shelf_records.specs.StandsFor.{HasItems, LinkBack}
use Rattle.shelf_restoring.specs.Private.Rules.{FollowFrom, FreeOwn}
use Rattle.shelf_restoring.proofs.Judged.FlagPasses.{IsFlagged}
use Rattle.shelf_restoring.proofs.Judged.NeighbourPasses.{StandApart}
use Rattle.shelf_restoring.proofs.judging.shelves.judge_shelves.Given as goal

-- the flags say what holds so far, and the sum so far and that of the rest make the whole
abbrev pub invariant-loop-entry : goal.invariant-loop-entry
invariant-loop-entry l =
    let atlas = atlas_of_records l.frame l.shelves l.items in
    let column = l.start / l.frame.column_width in record {
      links : IsFlagged l.judged.are_linked (AllByRecursion (LinkBack l.items) l.entries) (AllByRecursion (LinkBack l.items)) l.entry-index l.entries;
      free : IsFlagged l.judged.have_free_lists (AllByRecursion (FreeOwn l.items l.marks) l.entries) (AllByRecursion (FreeOwn l.items l.marks)) l.entry-index l.entries;
      stacked : IsFlagged l.judged.are_stacked (FollowFrom l.frame l.shelves 0 0 l.entries) (FollowFrom l.frame l.shelves column l.height) l.entry-index l.entries;
      filled : IsFlagged l.judged.are_filled (AllByRecursion (HasItems l.frame l.shelves l.items) l.entries) (AllByRecursion (HasItems l.frame l.shelves l.items)) l.entry-index l.entries;
      apart : l.judged.are_stacked ≡ true → IsFlagged l.judged.are_apart (StandApart atlas 0 false l.entries) (StandApart atlas column l.was_empty) l.entry-index l.entries;
      sum : l.judged.space + space.space_in (map (spelled_shelf atlas) (drop l.entry-index l.entries)) ≡ space.space_in (map (spelled_shelf atlas) l.entries);
      small : l.judged.space ≤ 281462092005375 * l.entry-index;
      short : AllByRecursion (λ (entry : Entry). length entry.items ≤ 65535) (drop l.entry-index l.entries);
      near : l.start ≤ 65535;
      high : l.height ≤ 65535 * l.entry-index;
      at_column : l.judged.are_stacked ≡ true → l.start % l.frame.column_width ≡ 0;
    }
