use Rattle.std.proofs.Common.{arith}
use Rattle.run_scripts.proofs.DecimalPairs.{two-digits}
use Rattle.run_scripts.proofs.short_text.put_below_100.Goals as goal

pub returns-else-number-lt10-clause-text : goal.returns-else-number-lt10-clause-text
returns-else-number-lt10-clause-text c = rw (two-digits c.args.number (omega arith) (omega arith)) c.put_pair.ensures.text
