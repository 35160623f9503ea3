use Rattle.std.proofs.Common.{arith, append_assoc, refl}
use Rattle.run_scripts.proofs.DecimalPairs.{last-four}
use Rattle.run_scripts.proofs.short_text.put_number.Goals as goal

pub returns-then-number-ge100000-clause-text : goal.returns-then-number-ge100000-clause-text
returns-then-number-ge100000-clause-text c =
    rw (c.put_four.ensures.text, c.put_front-behind.ensures.text, last-four c.args.number (omega arith) (omega arith), append_assoc) refl
