use Rattle.std.proofs.Common.{ap, arith, length, sym}
use Rattle.std.proofs.lemmas.Fmt.{decimal_digit}
use Rattle.pictures.proofs.DigitCounts.{digits-between}
use Rattle.pictures.proofs.gathering.digits_of.Goals as goal

pub returns-then-number-lt10-clause-count : goal.returns-then-number-lt10-clause-count
returns-then-number-lt10-clause-count c = sym (ap length (decimal_digit c.args.number (omega arith)))

pub returns-clause-count : goal.returns-clause-count
returns-clause-count c =
    digits-between c.ilog10.result c.args.number c.ilog10.ensures.power_le c.ilog10.ensures.next_power_gt (omega arith)
