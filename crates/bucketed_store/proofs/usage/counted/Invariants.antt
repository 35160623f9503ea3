use Rattle.std.proofs.Common.{◌≡◌, ◌+◌, ◌*◌, ◌≤◌, drop}
use Rattle.bucketed_store.specs.Private.Refusals.{idle_in, kept_idle_count, kept_items}
use Rattle.bucketed_store.proofs.usage.counted.Given as goal

-- what was counted so far and what the shelves from here on hold make up the whole
abbrev pub invariant-loop-kept : goal.invariant-loop-kept
invariant-loop-kept l = record {
  shelves : l.idle_shelves + kept_idle_count (drop l.kept-index l.shelves) ≡ kept_idle_count l.shelves;
  buckets : l.idle + idle_in l.buckets (drop l.kept-index l.shelves) ≡ idle_in l.buckets l.shelves;
  items : l.items + kept_items (drop l.kept-index l.shelves) ≡ kept_items l.shelves;
  few_shelves : l.idle_shelves ≤ l.kept-index;
  few_buckets : l.idle ≤ 4095 * l.kept-index;
}
