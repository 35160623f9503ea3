use Rattle.std.proofs.Common.{arith}
use Rattle.std.proofs.lemmas.Fmt.{decimal_digit}
use Rattle.run_scripts.proofs.short_text.put_digit.Goals as goal

pub returns-clause-text : goal.returns-clause-text
returns-clause-text c = rw (decimal_digit c.args.number (omega arith)) c.put_byte.ensures.text
