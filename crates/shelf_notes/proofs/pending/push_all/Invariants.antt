use Rattle.std.proofs.Common.{◌≡◌, take, vec_capacity}
use Rattle.shelf_notes.proofs.pending.push_all.Given as goal

-- the records so far are the first of them
abbrev pub invariant-loop-shelf : goal.invariant-loop-shelf
invariant-loop-shelf l = record {
  items : l.kept.items ≡ take l.shelf-index l.shelves;
  capacity : vec_capacity l.kept ≡ vec_capacity l.fn.kept;
}
