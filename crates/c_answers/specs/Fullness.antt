-- What the structs stand for that tell why a size has no place, and how full an atlas is.
use Rattle.std.specs.Prelude.{ℕ}
use Rattle.std.specs.declared.option.Option.{Option}
use Rattle.std.specs.declared.option.Option.TheVariants.{None, Some}
use Rattle.shelf_model.specs.Refusal.{refusal_number}
use Rattle.shelf_model.specs.declared.faults.Refusal.{Refusal}
use Rattle.shelf_model.specs.declared.faults.Refusal.TheVariants as reasons
use Rattle.shelf_model.specs.declared.usage.Usage.{Usage}
use Rattle.bucketed_model.specs.Refusal as buckets
use Rattle.bucketed_model.specs.declared.refusals.BucketedRefusal.{BucketedRefusal}
use Rattle.bucketed_model.specs.declared.refusals.BucketedRefusal.TheVariants as bucketed_reasons
use Rattle.bucketed_model.specs.declared.usage.BucketedUsage.{BucketedUsage}
use Rattle.c_answers.specs.Crossing.{size_in}
use Rattle.c_answers.specs.declared.fullness.EtagereBucketedUsage.{EtagereBucketedUsage}
use Rattle.c_answers.specs.declared.fullness.EtagereRefusal.{EtagereRefusal}
use Rattle.c_answers.specs.declared.fullness.EtagereUsage.{EtagereUsage}

-- how wide the widest is that has room, 0 where that isn't the reason
abbrev pub widest_of : Refusal → ℕ
widest_of reasons.NotPositive = 0
widest_of reasons.TooLong = 0
widest_of reasons.WiderThanColumn = 0
widest_of reasons.TallerThanAtlas = 0
widest_of (reasons.NoRoom widest) = widest
widest_of reasons.NoRecords = 0

abbrev pub bucketed_widest_of : BucketedRefusal → ℕ
bucketed_widest_of bucketed_reasons.NotPositive = 0
bucketed_widest_of bucketed_reasons.TooLong = 0
bucketed_widest_of bucketed_reasons.WiderThanColumn = 0
bucketed_widest_of bucketed_reasons.TallerThanAtlas = 0
bucketed_widest_of (bucketed_reasons.NoRoom widest) = widest
bucketed_widest_of bucketed_reasons.NoBuckets = 0
bucketed_widest_of bucketed_reasons.ItemsUsedUp = 0

-- a reason by its number, 0 where there is none
abbrev pub told : Option Refusal → EtagereRefusal
told None = record { reason = 0; widest = 0 }
told (Some refusal) = record { reason = refusal_number refusal; widest = widest_of refusal }

abbrev pub bucketed_told : Option BucketedRefusal → EtagereRefusal
bucketed_told None = record { reason = 0; widest = 0 }
bucketed_told (Some refusal) =
    record { reason = buckets.refusal_number refusal; widest = bucketed_widest_of refusal }

abbrev pub usage_in : EtagereUsage → Usage
usage_in usage = record {
  shelves = usage.shelves;
  empty_shelves = usage.empty_shelves;
  items = usage.items;
  free_items = usage.free_items;
  unused_records = usage.unused_records;
  largest_free = size_in usage.largest_free;
}

abbrev pub bucketed_usage_in : EtagereBucketedUsage → BucketedUsage
bucketed_usage_in usage = record {
  shelves = usage.shelves;
  idle_shelves = usage.idle_shelves;
  buckets = usage.buckets;
  idle_buckets = usage.idle_buckets;
  items = usage.items;
  unused_buckets = usage.unused_buckets;
  largest_free = size_in usage.largest_free;
}
