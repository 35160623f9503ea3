use Rattle.std.proofs.Common.{◌≡◌, ◌≤◌, ◌<◌, ◌+◌, rules, arith, ap, sym, ◌∙◌, Some, drop, length}
use Rattle.std.specs.Prelude.{slice_index_or}
use Rattle.run_scripts.specs.Private.Arguments.{Number, Sized}
use Rattle.run_scripts.proofs.PlainLines.{byte-at, byte-before, one-number, two-first, two-numbers}
use Rattle.run_scripts.proofs.plain_lines.plain_command.Goals as goal

pub returns-in_ok-with_number-in-10 : goal.returns-in_ok-with_number-in-10
returns-in_ok-with_number-in-10 g c =
    let bytes = c.args.bytes.now in
    let end = c.in_ok-first.end in
    let long : 20 ≤ length bytes = omega (arith, c.if-bytes-lt-LONGEST.false) in
    let within : end < length bytes = omega (arith, long, c.in_ok-first.ensures.end) in
    let space : slice_index_or bytes 1 0 ≡ 32 = search rules in
    let feed : slice_index_or bytes end 0 ≡ 10 = search rules in
    one-number g.C.LetteredCommand.cleared g.C.LetteredCommand.meaning (slice_index_or bytes 0 0) bytes _ c.in_ok-with_number-in-10.field-0 (omega (arith, c.if-letter-le32.false))
    c.in_ok-first.first (drop 2 bytes) (drop end bytes) (two-first bytes 32 (omega (arith, long)) space) c.in_ok-first.ensures.number (byte-before bytes end 10 within feed)
    (λ words is. c.in_ok-with_number-in-10.ensures words (is ∙ ap (λ n. Some (Number n)) (sym c.from-number.ensures)))

pub returns-in_ok-with_size-in-32 : goal.returns-in_ok-with_size-in-32
returns-in_ok-with_size-in-32 g c =
    let bytes = c.args.bytes.now in
    let middle = c.in_ok-first.end in
    let end = c.in_ok-second-in-32.end in
    let long : 20 ≤ length bytes = omega (arith, c.if-bytes-lt-LONGEST.false) in
    let before : middle < length bytes = omega (arith, long, c.in_ok-first.ensures.end) in
    let within : end < length bytes = omega (arith, long, c.in_ok-first.ensures.end, c.in_ok-second-in-32.ensures.end) in
    let space : slice_index_or bytes 1 0 ≡ 32 = search rules in
    let next : slice_index_or bytes middle 0 ≡ 32 = search rules in
    let feed : slice_index_or bytes end 0 ≡ 10 = search rules in
    two-numbers g.C.LetteredCommand.cleared g.C.LetteredCommand.meaning (slice_index_or bytes 0 0) bytes _ c.in_ok-with_size-in-32.field-0 (omega (arith, c.if-letter-le32.false))
    c.in_ok-first.first c.in_ok-second-in-32.second (drop 2 bytes) (drop middle bytes) (drop (middle + 1) bytes) (drop end bytes) (two-first bytes 32 (omega (arith, long)) space) c.in_ok-first.ensures.number
    (byte-at bytes middle 32 before next) c.in_ok-second-in-32.ensures.number (byte-before bytes end 10 within feed)
    (λ words is. c.in_ok-with_size-in-32.ensures words (is ∙ ap (λ s. Some (Sized s)) (sym c.size_of_sides-size.ensures)))
