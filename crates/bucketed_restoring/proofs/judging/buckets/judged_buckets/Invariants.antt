use Rattle.std.proofs.Common.{◌≡◌, ◌+◌, ◌*◌, ◌<◌, ◌≤◌, ◌&&◌, ℕ, drop, length, max}
use Rattle.std.specs.List.{AllByRecursion, list_all}
use Rattle.etagere_base.proofs.DecidingLemmas.{IsLeft}
use Rattle.bucketed_model.specs.State.{generations}
use Rattle.bucketed_restoring.specs.Private.Judging as spec
use Rattle.bucketed_restoring.proofs.Judged.RowPasses.{stand_on}
use Rattle.bucketed_restoring.proofs.judging.buckets.judged_buckets.Given as goal

-- what is told of those met so far and of the rest is told of all
abbrev pub invariant-loop-met : goal.invariant-loop-met
invariant-loop-met l = record {
  owned : (l.judged.are_owned && list_all (spec.is_owned l.buckets l.number) (drop l.met-index l.numbers)) ≡ list_all (spec.is_owned l.buckets l.number) l.numbers;
  filled : (l.judged.are_filled && list_all (spec.is_filled_at l.alignment l.shelf.bucket_width l.shelf.height l.buckets) (drop l.met-index l.numbers))
      ≡ list_all (spec.is_filled_at l.alignment l.shelf.bucket_width l.shelf.height l.buckets) l.numbers;
  generations : IsLeft (AllByRecursion (λ (n : ℕ). spec.generation_of l.buckets n < generations) l.numbers) (AllByRecursion (λ (n : ℕ). spec.generation_of l.buckets n < generations)) l.met-index l.numbers;
  stand : stand_on l.alignment l.shelf.bucket_width l.buckets l.begin l.stand.are_apart l.stand.is_aligned l.stand.place (drop l.met-index l.numbers)
      ≡ spec.stand_together l.alignment l.shelf.bucket_width l.buckets l.begin (l.begin + l.frame.column_width) l.numbers;
  used : l.judged.used_width + spec.used_by l.shelf.bucket_width l.buckets (drop l.met-index l.numbers) ≡ spec.used_by l.shelf.bucket_width l.buckets l.numbers;
  live : l.judged.live_items + spec.live_by l.buckets (drop l.met-index l.numbers) ≡ spec.live_by l.buckets l.numbers;
  widest : max l.judged.widest_room (spec.widest_by l.buckets (drop l.met-index l.numbers)) ≡ spec.widest_by l.buckets l.numbers;
  within : AllByRecursion (λ (n : ℕ). n < length l.buckets) (drop l.met-index l.numbers);
  narrow : l.judged.used_width ≤ l.met-index * 65535;
  few : l.judged.live_items ≤ l.met-index * 65535;
}
