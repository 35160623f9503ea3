use Rattle.std.proofs.Common.{◌≡◌, ◌+◌, ◌*◌, ◌≤◌, None, drop, length, map, false}
use Rattle.shelf_model.specs.Space as space
use Rattle.shelf_model.specs.State as state
use Rattle.shelf_records.specs.AtlasRecords.{item_at}
use Rattle.shelf_records.specs.StandsFor.{free_present}
use Rattle.shelf_restoring.specs.Private.Rules.{ApartFrom, LinkedFrom, RowFrom}
use Rattle.shelf_restoring.proofs.Judged.FlagPasses.{IsFlagged}
use Rattle.shelf_restoring.proofs.judging.items.judge_items.Given as goal

-- the flags say what holds so far, and the sums so far and those of the rest make the whole
abbrev pub invariant-loop-number : goal.invariant-loop-number
invariant-loop-number l = record {
  links : IsFlagged l.judged.are_linked (LinkedFrom l.items l.shelf None l.numbers) (LinkedFrom l.items l.shelf l.before) l.number-index l.numbers;
  places : IsFlagged l.judged.lie_in_row (RowFrom l.frame l.items l.start l.numbers) (RowFrom l.frame l.items l.here) l.number-index l.numbers;
  apart : IsFlagged l.judged.are_apart (ApartFrom l.items false l.numbers) (ApartFrom l.items l.was_free) l.number-index l.numbers;
  width : l.here + state.total_width (map (item_at l.items) (drop l.number-index l.numbers)) ≡ l.start + state.total_width (map (item_at l.items) l.numbers);
  free : l.judged.free_count + length (free_present l.items (drop l.number-index l.numbers)) ≡ length (free_present l.items l.numbers);
  allocated : l.judged.allocated_width + space.allocated_width (map (item_at l.items) (drop l.number-index l.numbers)) ≡ space.allocated_width (map (item_at l.items) l.numbers);
  above : l.start ≤ l.here;
  narrow : l.here ≤ 65535 * (l.number-index + 1);
  few : l.judged.free_count ≤ l.number-index;
  small : l.judged.allocated_width ≤ 65535 * l.number-index;
}
