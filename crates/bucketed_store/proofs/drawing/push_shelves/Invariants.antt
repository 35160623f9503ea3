use Rattle.std.proofs.Common.{drop}
use Rattle.std.specs.List.{AllByRecursion}
use Rattle.pictures.proofs.GatheringLemmas.{GathersAlong}
use Rattle.bucketed_store.specs.Private.DrawnRecords.{FitAlong, shelf_lines}
use Rattle.bucketed_store.proofs.drawing.push_shelves.Given as goal

-- the lines so far and those of the shelves from here on make the whole
abbrev pub invariant-loop-kept : goal.invariant-loop-kept
invariant-loop-kept g l = record {
  along : GathersAlong (shelf_lines l.frame l.buckets) (g.W.Write.contents l.fn.writer) l.fn.text (g.W.Write.contents l.writer) l.text (drop l.kept-index l.shelves) l.shelves;
  fit : AllByRecursion (FitAlong l.buckets) (drop l.kept-index l.shelves);
}
