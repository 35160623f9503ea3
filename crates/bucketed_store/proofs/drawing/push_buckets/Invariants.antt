use Rattle.std.proofs.Common.{◌-◌}
use Rattle.std.specs.List.{AllByRecursion}
use Rattle.pictures.proofs.GatheringLemmas.{GathersAlong}
use Rattle.bucketed_model.specs.State.{most_buckets}
use Rattle.bucketed_store.specs.Private.DrawnRecords.{FitsIn, bucket_lines, linked_buckets, linked_from}
use Rattle.bucketed_store.proofs.drawing.push_buckets.Given as goal

-- the lines so far and those of the buckets from here on make the whole
abbrev pub invariant-loop-step : goal.invariant-loop-step
invariant-loop-step g l = record {
  along : GathersAlong (bucket_lines l.frame l.kept.shelf) (g.W.Write.contents l.fn.writer) l.fn.text (g.W.Write.contents l.writer) l.text (linked_from (most_buckets - l._step) l.buckets l.at) (linked_buckets l.buckets l.kept.shelf);
  fit : AllByRecursion (FitsIn l.kept.shelf) (linked_from (most_buckets - l._step) l.buckets l.at);
}
