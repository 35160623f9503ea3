-- What one more bucket adds.
use Rattle.std.proofs.Common.{◌≡◌, ◌+◌, ◌-◌, ◌%◌, ◌<◌, Bool, ◌&&◌, ◌==◌, ℕ, Some, List, ◌∷◌, drop, get_or, length, max, ap, arith, refl, subst, sym, ◌∙◌}
use Rattle.std.proofs.lemmas.List.{drop_more}
use Rattle.std.proofs.lemmas.Option.{slice_get_read}
use Rattle.std.specs.List.{AllByRecursion}
use Rattle.std.specs.Prelude.{nat_le, slice_get}
use Rattle.etagere_base.proofs.DecidingLemmas.{left-less}
use Rattle.bucketed_model.specs.State.{generations}
use Rattle.bucketed_records.specs.declared.records.LinkedBucket.{LinkedBucket}
use Rattle.bucketed_records.specs.Private.Store.{record_room}
use Rattle.bucketed_restoring.specs.Private.Judging as spec
use Rattle.bucketed_restoring.proofs.Judged.RowPasses.{field-here, flag-more, stand-more, stand_on, sum-more, widest-more}
use Rattle.bucketed_restoring.proofs.judging.buckets.judged_buckets.Goals as goal

pub overflow_add-judged-in-loop-met : goal.overflow_add-judged-in-loop-met
overflow_add-judged-in-loop-met c =
    omega (arith, c.loop-met.invariant.few, c.loop-met-test.true, c.requires.few, c.from-in-loop-met.ensures, c.is_kept.ensures.live)

pub loop-met-preserved : goal.loop-met-preserved
loop-met-preserved c =
    let buckets = c.args.buckets.now in
    let numbers = c.args.numbers.now in
    let shelf = c.args.shelf.now in
    let alignment : ℕ = c.alignment_along-alignment.result in
    let i = c.loop-met.met-index in
    let judged = c.loop-met.judged in
    let stand = c.loop-met.stand in
    let kept = c.loop-met.invariant in
    let n : ℕ = c.from-at.result in
    let r = c.index-buckets-at.result in
    let is : n ≡ get_or numbers i 0 = c.from-at.ensures in
    let rest : List ℕ = drop (i + 1) numbers in
    let more : drop i numbers ≡ n ∷ rest = drop_more numbers i 0 c.loop-met-test.true ∙ ap (λ (y : ℕ). y ∷ rest) (sym is) in
    let within = subst (AllByRecursion (λ (b : ℕ). b < length buckets)) more kept.within in
    let here : slice_get buckets n ≡ Some r = slice_get_read buckets (length buckets) n r refl within.0 c.index-buckets-at.is in
    let generation : spec.generation_of buckets n < generations =
    subst (λ (g : ℕ). g < generations) (sym (field-here (λ (b : LinkedBucket). b.generation) 0 buckets n r here)) c.is_kept.ensures.generation in
    let used = sum-more (spec.used_at shelf.bucket_width buckets) judged.used_width c.from.result (spec.used_by shelf.bucket_width buckets numbers) (drop i numbers) rest n more
    (field-here (λ (b : LinkedBucket). shelf.bucket_width - b.free_space) 0 buckets n r here ∙ sym (omega (arith, c.from.ensures, c.saturating_sub.ensures))) kept.used in
    let begin : ℕ = c.from-begin.result in
    let next = c.stand_below-stand.result in
    let moved = c.stand_below-stand.ensures in
    let apart : Bool = stand.are_apart && (stand.is_aligned && nat_le (r.x + shelf.bucket_width) stand.place) in
    record {
      owned = flag-more (spec.is_owned buckets c.args.number) judged.are_owned _ _ (drop i numbers) rest n more (field-here _ _ buckets n r here) kept.owned;
      filled = flag-more (spec.is_filled_at alignment shelf.bucket_width shelf.height buckets) judged.are_filled _ _ (drop i numbers) rest n more
          (field-here (spec.is_filled alignment shelf.bucket_width shelf.height) _ buckets n r here ∙ sym c.is_kept.ensures.value) kept.filled;
      generations = left-less (AllByRecursion (λ (b : ℕ). spec.generation_of buckets b < generations) numbers) (AllByRecursion (λ (b : ℕ). spec.generation_of buckets b < generations)) (AllByRecursion (λ (b : ℕ). spec.generation_of buckets b < generations))
          (spec.generation_of buckets n < generations) i numbers 0 n (λ later h. h) (λ later h. h) c.loop-met-test.true is generation kept.generations;
      stand =
          ap (λ (b : Bool). stand_on alignment shelf.bucket_width buckets begin b next.is_aligned next.place rest) moved.apart
          ∙ ap (λ (b : Bool). stand_on alignment shelf.bucket_width buckets begin apart b next.place rest) moved.aligned
          ∙ ap (λ (p : ℕ). stand_on alignment shelf.bucket_width buckets begin apart (r.x % alignment == 0) p rest) moved.place
          ∙ stand-more alignment shelf.bucket_width buckets begin stand.are_apart stand.is_aligned stand.place
          (spec.stand_together alignment shelf.bucket_width buckets begin (begin + c.args.frame.now.column_width) numbers)
          (drop i numbers) rest n r more here kept.stand;
      used = used;
      live = sum-more (spec.live_of buckets) judged.live_items c.from-in-loop-met.result (spec.live_by buckets numbers) (drop i numbers) rest n more
          (field-here (λ (b : LinkedBucket). b.refcount) 0 buckets n r here ∙ sym c.from-in-loop-met.ensures) kept.live;
      widest =
          ap (λ (m : ℕ). max m (spec.widest_by buckets rest)) c.max.ensures
          ∙ widest-more buckets judged.widest_room c.record_room.result (spec.widest_by buckets numbers) (drop i numbers) rest n more
          (field-here record_room 0 buckets n r here ∙ sym c.record_room.ensures) kept.widest;
      within = within.1;
      narrow = omega (arith, kept.narrow, c.from.ensures, c.saturating_sub.type_inv);
      few = omega (arith, kept.few, c.from-in-loop-met.ensures, c.is_kept.ensures.live);
    }
