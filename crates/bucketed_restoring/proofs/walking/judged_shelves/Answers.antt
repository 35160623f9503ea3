use Rattle.std.proofs.Common.{◌≡◌, ◌+◌, ℕ, Some, List, [], ◌∷◌, ◌++◌, length, take, arith, refl, subst, sym, ◌∙◌}
use Rattle.std.proofs.lemmas.Option.{slice_get_read}
use Rattle.std.proofs.lemmas.Result.{err_from_is_err_and}
use Rattle.std.specs.Prelude.{slice_get}
use Rattle.etagere_base.specs.declared.faults.RestoreFault.TheVariants.{Memory}
use Rattle.bucketed_records.specs.declared.records.LinkedBucketShelf.{LinkedBucketShelf}
use Rattle.bucketed_records.specs.declared.records.KeptShelf.{KeptShelf}
use Rattle.bucketed_restoring.specs.Private.Walking.{AreKeptSoFar, IsShelfJudged}
use Rattle.bucketed_restoring.proofs.Judged.JudgedShelves.{breaks-at, length_of_take, more-kept, none-kept, steps-few, take-next}
use Rattle.bucketed_restoring.proofs.Judged.LinksRead.{read-at}
use Rattle.bucketed_restoring.proofs.walking.judged_shelves.Goals as goal

pub loop-number-init : goal.loop-number-init
loop-number-init c =
    let none = none-kept c.args.frame.now c.args.buckets.now c.args.marks.now c.requires.unmarked in (
      subst (λ (n : ℕ). AreKeptSoFar c.args.frame.now c.args.buckets.now [] c.new-kept.result.items c.args.marks.now n 0) (sym c.requires.steps)
          (subst (λ (ks : List KeptShelf). AreKeptSoFar c.args.frame.now c.args.buckets.now [] ks c.args.marks.now 0 0) (sym c.new-kept.ensures.items) none),
      refl,
      c.requires.marks,
      omega arith,
      omega (arith, c.requires.steps),
    )

pub returns-in_err-told-clause-fault : goal.returns-in_err-told-clause-fault
returns-in_err-told-clause-fault c =
    let passed = err_from_is_err_and c.from_residual.result c.from_residual.ensures.1 in
    rw (passed.1, passed.2) (λ atlas.
    breaks-at c.args.frame.now c.args.buckets.now c.args.shelves.now atlas c.loop-number.number c.index-shelves-number.result c.loop-number.marks c.in_err-told.field-0.0
    (slice_get_read c.args.shelves.now (length c.args.shelves.now) c.loop-number.number c.index-shelves-number.result refl (omega arith) c.index-shelves-number.is)
    c.loop-number.invariant.0.marked c.in_err-told.ensures.fault)

pub loop-number-preserved : goal.loop-number-preserved
loop-number-preserved c =
    let frame = c.args.frame.now in
    let buckets = c.args.buckets.now in
    let shelves = c.args.shelves.now in
    let n = c.loop-number.number in
    let x = c.index-shelves-number.result in
    let told = c.in_ok-told.told in
    let marks = c.judged_shelf.new.marks in
    let area : ℕ = c.loop-number.space + told.space in
    let here : slice_get shelves n ≡ Some x = slice_get_read shelves (length shelves) n x refl (omega arith) c.index-shelves-number.is in
    let before : length (take n shelves) ≡ n = length_of_take shelves n (omega arith) in
    let one = subst (λ (k : ℕ). IsShelfJudged frame buckets k x told) (sym before) c.in_ok-told.ensures.ok in
    let all = more-kept frame buckets (take n shelves) x c.loop-number.kept.items told c.loop-number.marks marks c.loop-number.steps c.loop-number.space c.loop-number.invariant.0 one c.in_ok-told.ensures.marked in
    let counted = subst (λ (s : ℕ). AreKeptSoFar frame buckets (take n shelves ++ x ∷ []) (c.loop-number.kept.items ++ told.kept ∷ []) marks s area) (sym c.in_ok-told.ensures.steps) all in
    let kept = subst (λ (ks : List KeptShelf). AreKeptSoFar frame buckets (take n shelves ++ x ∷ []) ks marks c.judged_shelf.new.steps area) (sym c.in-Ok.ensures.items) counted in
    let done = subst (λ (xs : List LinkedBucketShelf). AreKeptSoFar frame buckets xs c.push.new.self.items marks c.judged_shelf.new.steps area) (sym (take-next shelves n x here)) kept in
    let long : length marks ≡ length buckets = c.judged_shelf.auto.marks ∙ c.loop-number.invariant.2 in (
      done,
      c.judged_shelf.ensures.room ∙ c.loop-number.invariant.1,
      long,
      omega (arith, c.in_ok-told.ensures.small, c.in_ok-told.ensures.steps, c.loop-number.invariant.3),
      omega (arith, long, steps-few frame buckets (take (n + 1) shelves) c.push.new.self.items marks c.judged_shelf.new.steps area done),
    )

pub returns-in_err-told-clause-until : goal.returns-in_err-told-clause-until
returns-in_err-told-clause-until c =
    let passed = err_from_is_err_and c.from_residual.result c.from_residual.ensures.1 in
    rw (passed.1, passed.2) (λ atlas.
    read-at c.args.frame.now c.args.buckets.now c.args.shelves.now atlas c.loop-number.number c.index-shelves-number.result c.loop-number.kept.items c.loop-number.marks c.loop-number.steps c.loop-number.space c.judged_shelf.new.steps c.in_err-told.field-0.0
    c.requires.buckets
    (slice_get_read c.args.shelves.now (length c.args.shelves.now) c.loop-number.number c.index-shelves-number.result refl (omega arith) c.index-shelves-number.is)
    c.loop-number.invariant.0 c.in_err-told.ensures.fault c.in_err-told.ensures.read)

pub returns-in_default-clause-until : goal.returns-in_default-clause-until
returns-in_default-clause-until c =
    let here = slice_get_read c.args.shelves.now (length c.args.shelves.now) c.loop-number.number c.index-shelves-number.result refl (omega arith) c.index-shelves-number.is in
    λ atlas. read-at c.args.frame.now c.args.buckets.now c.args.shelves.now atlas c.loop-number.number c.index-shelves-number.result c.loop-number.kept.items c.loop-number.marks c.loop-number.steps c.loop-number.space c.judged_shelf.new.steps Memory
    c.requires.buckets here c.loop-number.invariant.0 tt (omega (arith, c.in_ok-told.ensures.steps))
