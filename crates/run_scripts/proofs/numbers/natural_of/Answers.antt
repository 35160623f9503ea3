use Rattle.std.proofs.Common.{◌-◌, ◌^◌, sym, ◌∙◌, arith, rules}
use Rattle.std.proofs.lemmas.Bool.Decides.{nat_tests}
use Rattle.std.proofs.lemmas.List.{at_drop_all}
use Rattle.run_scripts.proofs.Digits.{natural_after, natural_after-stop, natural_after-go, natural_after-zero, natural_after-nil}
use Rattle.run_scripts.proofs.numbers.natural_of.Goals as goal

pub returns-in_err-value : goal.returns-in_err-value
returns-in_err-value c =
    c.from_residual.ensures ∙ sym (natural_after-stop _ c.loop-byte.value c.loop-byte.byte-index _ c.args.word.now (omega arith) (sym c.with_digit.ensures ∙ c.in_err-value.was)) ∙ c.loop-byte.invariant.1

pub loop-byte-preserved : goal.loop-byte-preserved
loop-byte-preserved c = (
  search rules,
  sym (natural_after-go _ c.loop-byte.value c.in_ok-value.value c.loop-byte.byte-index _ c.args.word.now (omega arith) (sym c.with_digit.ensures ∙ c.in_ok-value.was)) ∙ c.loop-byte.invariant.1,
)

pub returns : goal.returns
returns c =
    sym (natural_after-nil (2 ^ 64 - 1) c.loop-byte.value (omega arith))
    ∙ sym (at_drop_all (natural_after (2 ^ 64 - 1) c.loop-byte.value) c.args.word.now c.loop-byte.byte-index (omega arith))
    ∙ c.loop-byte.invariant.1

pub loop-byte-init : goal.loop-byte-init
loop-byte-init c = (omega arith, natural_after-zero (2 ^ 64 - 1) c.args.word.now (grind (arith, nat_tests)))
