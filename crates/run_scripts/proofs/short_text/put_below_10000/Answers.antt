use Rattle.std.proofs.Common.{◌≡◌, ◌-◌, ◌*◌, ◌%◌, arith, append_assoc, refl}
use Rattle.run_scripts.proofs.DecimalPairs.{last-pair, two-pairs}
use Rattle.run_scripts.proofs.short_text.put_below_10000.Goals as goal

pub returns-then-number-ge1000-clause-text : goal.returns-then-number-ge1000-clause-text
returns-then-number-ge1000-clause-text c = rw (two-pairs c.args.number (omega arith) (omega arith)) c.put_four.ensures.text

pub returns-then-number-ge100-clause-text : goal.returns-then-number-ge100-clause-text
returns-then-number-ge100-clause-text c =
    let ones : c.args.number - c.hundreds_of-hundreds.result * 100 ≡ c.args.number % 100 = omega (arith, c.hundreds_of-hundreds.ensures) in
    rw (c.put_pair.ensures.text, c.put_digit-behind.ensures.text, last-pair c.args.number (omega arith) (omega arith), append_assoc, ones, c.hundreds_of-hundreds.ensures) refl
