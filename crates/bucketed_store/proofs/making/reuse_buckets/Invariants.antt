use Rattle.std.proofs.Common.{◌≡◌, ◌+◌, ◌*◌, ◌-◌, ◌<◌, ◌≤◌, length}
use Rattle.std.specs.Prelude.{◌^◌}
use Rattle.bucket_index.specs.Private.Spans.{AreSpans}
use Rattle.bucketed_store.specs.Private.StoreEdits.{made_many}
use Rattle.bucketed_store.proofs.making.reuse_buckets.Given as goal

-- what is made from here on is what is made of all
abbrev pub invariant-loop-made : goal.invariant-loop-made
invariant-loop-made l = record {
  whole : made_many (l.count - l.made) l.row (record { buckets = l.buckets; unused = l.left; first = l.first })
      ≡ made_many l.count l.fn.row (record { buckets = l.fn.buckets; unused = l.fn.left; first = l.fn.first });
  narrow : l.row.x + (l.count - l.made) * l.row.width < 2 ^ 16;
  few : length l.buckets ≤ 65535;
  spans : AreSpans l.spans l.buckets;
}
