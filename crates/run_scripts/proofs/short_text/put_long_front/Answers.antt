use Rattle.std.proofs.Common.{arith, append_assoc, refl}
use Rattle.run_scripts.proofs.DecimalPairs.{last-four}
use Rattle.run_scripts.proofs.short_text.put_long_front.Goals as goal

pub returns-clause-text : goal.returns-clause-text
returns-clause-text c =
    rw (c.put_four.ensures.text, c.put_below_100-behind.ensures.text, last-four c.args.number (omega arith) (omega arith), append_assoc) refl
