use Rattle.std.proofs.Common.{◌≡◌, ◌+◌, ◌-◌, ◌≤◌, length}
use Rattle.etagere_links.specs.Links.{link_of}
use Rattle.bucketed_records.specs.BucketRecords.{next_of}
use Rattle.bucketed_store.specs.Private.Returns as spec
use Rattle.bucketed_store.proofs.dropping.row_end.Given as goal

-- the rest of the list ends where the whole does
abbrev pub invariant-loop-step : goal.invariant-loop-step
invariant-loop-step l = record {
  rest : spec.row_from (length l.buckets - l._step) l.buckets l.end.count l.end.last ≡ spec.row_end l.buckets l.first;
  next : link_of l.number ≡ next_of l.buckets l.end.last;
  small : l.end.count ≤ l._step + 1;
}
