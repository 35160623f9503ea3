use Rattle.std.proofs.Common.{◌≡◌, ◌+◌, ◌*◌, ◌-◌, ◌<◌, ◌≤◌, None, length}
use Rattle.std.specs.Prelude.{◌^◌, vec_len, vec_capacity}
use Rattle.bucket_index.specs.Private.Spans.{AreSpans}
use Rattle.bucket_index.specs.declared.spans.Spans.{Spans}
use Rattle.bucketed_store.specs.Private.StoreEdits.{made_many}
use Rattle.bucketed_store.proofs.making.push_buckets.Given as goal

-- what is made from here on is what is made of all
abbrev pub invariant-loop-made : goal.invariant-loop-made
invariant-loop-made l = record {
  whole : made_many (l.count - l._made) l.here (record { buckets = l.buckets.items; unused = None; first = l.first })
      ≡ made_many l.count l.new (record { buckets = l.fn.buckets.items; unused = None; first = l.fn.first });
  narrow : l.here.x + (l.count - l._made) * l.here.width < 2 ^ 16;
  room : length (made_many (l.count - l._made) l.here (record { buckets = l.buckets.items; unused = None; first = l.first })).buckets ≤ vec_capacity l.buckets;
  length : vec_len l.buckets ≤ vec_len l.fn.buckets + l._made;
  capacity : vec_capacity l.fn.buckets ≤ vec_capacity l.buckets;
  spans : (spans : Spans) → AreSpans spans l.fn.buckets.items → AreSpans spans l.buckets.items;
}
