use Rattle.std.proofs.Common.{◌∙◌, ◌<◌, ◌≤◌, ℕ, List, ap, length, arith, subst, sym}
use Rattle.std.proofs.lemmas.Result.{err_from_is_err_and}
use Rattle.std.specs.List.{AllByRecursion}
use Rattle.etagere_base.proofs.EachLemmas.{Each-weaken}
use Rattle.etagere_links.proofs.WalkChains.{walk-leads}
use Rattle.etagere_links.specs.Walks.{walk}
use Rattle.bucketed_records.proofs.Spelling.StandsKept.{each-within}
use Rattle.bucketed_restoring.specs.Private.Walking.{BreaksWalk, links_of}
use Rattle.bucketed_restoring.proofs.Judged.Breaches.{links-length, walk-breaks}
use Rattle.bucketed_restoring.proofs.walking.judged_shelf.Goals as goal

pub judged_row-requires-clause-within : goal.judged_row-requires-clause-within
judged_row-requires-clause-within c =
    let links = c.args.links.now in
    let few : length links ≤ 65535 = omega (arith, c.requires.buckets, links-length c.args.buckets.now, ap (λ (ls : List ℕ). length ls) c.requires.links) in
    let within : AllByRecursion (λ (n : ℕ). n < length links) (walk links c.bits-first.result).met =
    each-within (length links) (walk links c.bits-first.result).met (walk-leads links c.bits-first.result few).within in
    let there : AllByRecursion (λ (n : ℕ). n < length c.args.buckets.now) (walk links c.bits-first.result).met =
    Each-weaken (λ (n : ℕ). n < length links) (λ (n : ℕ). n < length c.args.buckets.now) (walk links c.bits-first.result).met
    (λ n is. omega (arith, is, links-length c.args.buckets.now, ap (λ (ls : List ℕ). length ls) c.requires.links)) within in
    subst (AllByRecursion (λ (n : ℕ). n < length c.args.buckets.now)) (sym (c.deref.ensures.value ∙ c.in_ok-walk_list.ensures.met)) there

pub returns-in_err-walk_list-clause-fault : goal.returns-in_err-walk_list-clause-fault
returns-in_err-walk_list-clause-fault c =
    let buckets = c.args.buckets.now in
    let marks = c.args.marks.now in
    let passed = err_from_is_err_and c.from_residual.result c.from_residual.ensures.1 in
    rw (passed.1, passed.2) (walk-breaks c.args.frame.now buckets marks c.args.number c.args.shelf.now c.in_err-walk_list.field-0.0
    (subst (λ (first : ℕ). BreaksWalk (links_of buckets) marks (walk (links_of buckets) first) c.in_err-walk_list.field-0.0) c.bits-first.ensures.value
    (subst (λ (links : List ℕ). BreaksWalk links marks (walk links c.bits-first.result) c.in_err-walk_list.field-0.0) c.requires.links c.in_err-walk_list.ensures.fault)))
