use Rattle.std.proofs.Common.{◌≡◌, ◌<◌, Bool, true, false, length, refl, ap, sym, arith, ◌==◌, ◌∙◌}
use Rattle.std.proofs.lemmas.Bool.{eqb-false, eqb-true}
use Rattle.std.proofs.lemmas.Option.{slice_get_read, slice_get_within}
use Rattle.std.specs.Prelude.{slice_get, ◌%◌}
use Rattle.bucketed_records.specs.declared.records.KeptShelf.{KeptShelf}
use Rattle.bucket_index.proofs.KnownBlocks.{some-same}
use Rattle.bucket_index.proofs.blocks.are_in_steps.Goals as goal

pub loop-number-init : goal.loop-number-init
loop-number-init c number kept below = absurd (omega (arith, below))

pub loop-number-preserved : goal.loop-number-preserved
loop-number-preserved c number kept below at = by_number (number == c.loop-number.number) refl
  where
    by_number : (t : Bool) → (number == c.loop-number.number) ≡ t → kept.shelf.height % 8 ≡ 0
    by_number true e =
        let shelves = c.args.shelves.now in
        let one = c.index-shelves-number.result in
        let here = slice_get_read shelves (length shelves) c.loop-number.number one refl c.loop-number-test.true c.index-shelves-number.is in
        ap (λ (s : KeptShelf). s.shelf.height % 8) (some-same (slice_get shelves c.loop-number.number) kept one (ap (slice_get shelves) (sym (eqb-true number c.loop-number.number e)) ∙ at) here)
        ∙ ap (λ (s : KeptShelf). s.shelf.height % 8) c.index-shelves-number.is ∙ c.if-shelves-number-ne0.false
    by_number false e = c.loop-number.invariant number kept (by_less (eqb-false number c.loop-number.number e)) at
      where
        by_less : (number ≡ c.loop-number.number → ⊥) → number < c.loop-number.number
        by_less other = omega (arith, below, other)

pub returns : goal.returns
returns c is number kept at =
    let within = slice_get_within c.args.shelves.now number kept at in
    c.loop-number.invariant number kept (omega (arith, within, c.loop-number-test.false)) at
