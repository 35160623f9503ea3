use Rattle.std.proofs.Common.{◌≡◌, length, take}
use Rattle.shelf_records.specs.Private.Judging.{AreUsed}
use Rattle.shelf_restoring.proofs.judging.freeing.used_marks.Given as goal

-- all are marked but those unused so far
abbrev pub invariant-loop-number : goal.invariant-loop-number
invariant-loop-number l = record {
  marks : length l.marks.items ≡ l.fn.count;
  used : AreUsed l.fn.count (take l.number-index l.unused) l.marks.items;
}
