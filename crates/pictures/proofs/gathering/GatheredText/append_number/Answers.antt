use Rattle.std.proofs.Common.{◌≡◌, ◌+◌, ◌++◌, ap, arith, drop, length, length-append, take, ◌∙◌}
use Rattle.std.specs.Fmt.{decimal}
use Rattle.pictures.proofs.DigitCounts.{written-behind}
use Rattle.pictures.proofs.gathering.GatheredText.append_number.Goals as goal

pub returns-clause-text : goal.returns-clause-text
returns-clause-text c =
    let digits = decimal c.args.number in
    let at = c.self.inside.length in
    let same : c.write_digits.result ≡ at = omega (arith, c.write_digits.ensures.start, c.digits_of.ensures.count) in
    ap (λ n. take (at + n) c.write_digits.new.buf) c.digits_of.ensures.count
    ∙ written-behind c.self.inside.bytes c.write_digits.new.buf digits (drop (at + c.digits_of.result) c.self.inside.bytes) at c.write_digits.result same c.write_digits.ensures.written c.write_digits.ensures.before
    ∙ ap (λ l. l ++ digits) c.self.view_is

pub returns-clause-short : goal.returns-clause-short
returns-clause-short c =
    let all = ap length (returns-clause-text c) in
    omega (arith, all, length-append c.args.self.now (decimal c.args.number), c.digits_of.ensures.count, c.digits_of.ensures.short)
