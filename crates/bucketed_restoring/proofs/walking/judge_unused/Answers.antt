use Rattle.std.proofs.Common.{◌≡◌, ◌∙◌, ℕ, true, false, List, ap, arith, subst, sym}
use Rattle.std.proofs.lemmas.Result.{err_from_is_err_and}
use Rattle.std.specs.List.{AllByRecursion, list_all}
use Rattle.etagere_base.proofs.DecidingLemmas.{denied, granted}
use Rattle.etagere_links.specs.Walks.{Walked, walk}
use Rattle.bucketed_records.specs.BucketRecords.{bucket_walk}
use Rattle.bucketed_restoring.specs.Private.Judging.{is_unused, live_of}
use Rattle.bucketed_restoring.specs.Private.Walking.{BreaksWalk, links_of}
use Rattle.bucketed_restoring.proofs.Judged.Breaches.{walk-breaks-unused, walk-same, walk-within}
use Rattle.bucketed_restoring.proofs.Judged.RowTests.{unused-decided}
use Rattle.bucketed_restoring.proofs.walking.judge_unused.Goals as goal

pub returns-in_err-walk_list-clause-fault : goal.returns-in_err-walk_list-clause-fault
returns-in_err-walk_list-clause-fault c =
    let buckets = c.args.buckets.now in
    let marks = c.args.marks.now in
    let passed = err_from_is_err_and c.from_residual.result c.from_residual.ensures.1 in
    rw (passed.1, passed.2) (walk-breaks-unused buckets marks c.args.unused c.in_err-walk_list.field-0.0
    (subst (λ (first : ℕ). BreaksWalk (links_of buckets) marks (walk (links_of buckets) first) c.in_err-walk_list.field-0.0) c.bits-first.ensures.value
    (subst (λ (links : List ℕ). BreaksWalk links marks (walk links c.bits-first.result) c.in_err-walk_list.field-0.0) c.requires.links c.in_err-walk_list.ensures.fault)))

pub returns-then-not-are_unused-clause-fault : goal.returns-then-not-are_unused-clause-fault
returns-then-not-are_unused-clause-fault c =
    let buckets = c.args.buckets.now in
    let met : List ℕ = (bucket_walk buckets c.args.unused).met in
    let same : c.deref.result.now ≡ met =
    c.deref.ensures.value ∙ c.in_ok-walk_list.ensures.met ∙ ap (λ (w : Walked). w.met) (walk-same buckets c.args.links.now c.bits-first.result c.args.unused c.requires.links c.bits-first.ensures.value) in
    let none : list_all (is_unused buckets) c.deref.result.now ≡ false = grind (arith, c.are_unused.ensures, c.if-not-are_unused.true) in
    denied (list_all (is_unused buckets) met) (AllByRecursion (λ (n : ℕ). live_of buckets n ≡ 0) met) (unused-decided buckets met (walk-within buckets c.args.unused c.requires.buckets))
    (ap (list_all (is_unused buckets)) (sym same) ∙ none)

pub returns-clause-idle : goal.returns-clause-idle
returns-clause-idle c =
    let buckets = c.args.buckets.now in
    let met : List ℕ = (bucket_walk buckets c.args.unused).met in
    let same : c.deref.result.now ≡ met =
    c.deref.ensures.value ∙ c.in_ok-walk_list.ensures.met ∙ ap (λ (w : Walked). w.met) (walk-same buckets c.args.links.now c.bits-first.result c.args.unused c.requires.links c.bits-first.ensures.value) in
    let all : list_all (is_unused buckets) c.deref.result.now ≡ true = grind (arith, c.are_unused.ensures, c.if-not-are_unused.false) in
    granted (list_all (is_unused buckets) met) (AllByRecursion (λ (n : ℕ). live_of buckets n ≡ 0) met) (unused-decided buckets met (walk-within buckets c.args.unused c.requires.buckets))
    (ap (list_all (is_unused buckets)) (sym same) ∙ all)
