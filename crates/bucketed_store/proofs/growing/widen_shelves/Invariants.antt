use Rattle.std.proofs.Common.{◌≡◌, ◌+◌, ◌-◌, ◌≤◌, drop, length, vec_len, vec_capacity}
use Rattle.etagere_links.specs.Links.{no_link}
use Rattle.bucket_index.specs.Private.Spans.{AreSpans}
use Rattle.bucketed_store.specs.Private.Grows as spec
use Rattle.bucketed_store.proofs.growing.widen_shelves.Given as goal

-- what the shelves so far and those from here on get is what all get; there is room for the rest
abbrev pub invariant-loop-number : goal.invariant-loop-number
invariant-loop-number l = record {
  rest : spec.shelves_widened (length l.fn.shelves - l.number) l.number l.place l.added l.left (spec.stored_of l.shelves l.buckets.items l.unused)
      ≡ spec.shelves_widened (length l.fn.shelves) 0 l.place l.added l.fn.left (spec.stored_of l.fn.shelves l.fn.buckets.items l.fn.unused);
  room : length (spec.shelves_widened (length l.fn.shelves - l.number) l.number l.place l.added l.left (spec.stored_of l.shelves l.buckets.items l.unused)).buckets ≤ vec_capacity l.buckets;
  length : length l.shelves ≡ length l.fn.shelves;
  few : vec_len l.buckets + (l.left - spec.left_after l.added l.left (drop l.number l.shelves)) ≤ no_link;
  capacity : vec_capacity l.fn.buckets ≤ vec_capacity l.buckets;
  spans : AreSpans l.spans l.buckets.items;
}
