use Rattle.std.proofs.Common.{◌≡◌, ℕ, ◌-◌, ◌+◌, ◌==◌, Bool, true, false, cond, None, Some, length, refl, ap, sym, ◌∙◌, arith}
use Rattle.std.proofs.lemmas.Bool.{eqb-true}
use Rattle.std.proofs.lemmas.Option.{slice_get-get_or}
use Rattle.std.specs.Option.{option_map_or}
use Rattle.etagere_links.specs.Links.{link_of, no_link}
use Rattle.bucket_index.proofs.KnownSpans.{next-at}
use Rattle.bucket_index.proofs.LinkedRecords.{named}
use Rattle.bucketed_store.specs.declared.dropping.RowEnd.{RowEnd}
use Rattle.bucketed_store.proofs.Emptying.SpelledDrops.{row-step, row-stops}
use Rattle.bucketed_store.proofs.dropping.row_end.Goals as goal

pub loop-step-preserved : goal.loop-step-preserved
loop-step-preserved c =
    let buckets = c.args.buckets.now in
    let number = c.loop-step.number in
    let link = named number number _ refl c.loop-step.invariant.next (omega (arith, c.if-number-buckets.false, c.requires)) in
    record {
      rest = sym (row-step buckets (length buckets - c.loop-step._step) (length buckets - (c.loop-step._step + 1))
          c.loop-step.end.count c.loop-step.end.last number (omega (arith, c.loop-step-test.true)) link)
          ∙ c.loop-step.invariant.rest;
      next = ap link_of c.from-number-in-loop-step.ensures ∙ c.bits-in-loop-step.ensures.link
          ∙ sym (next-at buckets number _ (slice_get-get_or buckets number c.index-buckets-number.result c.if-number-buckets.false));
      small = omega (arith, c.loop-step.invariant.small);
    }

-- where a list ends by a number of no record
ended : (number : ℕ) (end result : RowEnd) → (number ≡ no_link → result ≡ end) → ((number ≡ no_link → ⊥) → result ≡ record { last = number; count = end.count + 1 })
    → result ≡ option_map_or (λ (n : ℕ). let next : RowEnd = record { last = n; count = end.count + 1 } in next) (link_of number) end
ended number end result none some = by_test (number == no_link) refl
  where
    apart : number ≡ no_link → (number == no_link) ≡ false → ⊥
    apart h f = grind arith

    by_test : (t : Bool) → (number == no_link) ≡ t
        → result ≡ option_map_or (λ (n : ℕ). let next : RowEnd = record { last = n; count = end.count + 1 } in next) (cond t None (Some number)) end
    by_test true e = none (eqb-true number no_link e)
    by_test false e = some (λ h. apart h e)

pub returns-then-number-buckets-clause-end : goal.returns-then-number-buckets-clause-end
returns-then-number-buckets-clause-end c =
    let buckets = c.args.buckets.now in
    ended c.loop-step.number c.loop-step.end c.end_by.result c.end_by.ensures.none c.end_by.ensures.some
    ∙ sym (row-stops buckets (length buckets - c.loop-step._step) (length buckets - (c.loop-step._step + 1))
    c.loop-step.end.count c.loop-step.end.last c.loop-step.number (omega (arith, c.loop-step-test.true)) c.loop-step.invariant.next c.if-number-buckets.true)
    ∙ c.loop-step.invariant.rest
