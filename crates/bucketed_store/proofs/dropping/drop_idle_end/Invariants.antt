use Rattle.std.proofs.Common.{◌≡◌, ◌*◌, ◌-◌, ◌≤◌, length, take, vec_len}
use Rattle.bucket_index.specs.Private.Spans.{AreSpans}
use Rattle.bucketed_store.specs.Private.Returns as spec
use Rattle.bucketed_store.proofs.dropping.drop_idle_end.Given as goal

-- what is dropped so far and from here on is all that is dropped
abbrev pub invariant-loop-left : goal.invariant-loop-left
invariant-loop-left l = record {
  rest : spec.end_dropped l.left (spec.dropping_of (take l.left l.fn.shelves.items) l.buckets l.unused l.dropped)
      ≡ spec.end_dropped (vec_len l.fn.shelves) (spec.dropping_of l.fn.shelves.items l.fn.buckets l.fn.unused 0);
  within : l.left ≤ vec_len l.fn.shelves;
  small : l.dropped ≤ (vec_len l.fn.shelves - l.left) * 4096;
  few : length l.buckets ≤ 4095;
  spans : AreSpans l.spans l.buckets;
}

-- fewer are left at each step
abbrev pub decreases-loop-left : goal.decreases-loop-left
decreases-loop-left l = l.left
