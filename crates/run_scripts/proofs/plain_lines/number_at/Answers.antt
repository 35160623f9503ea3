use Rattle.std.proofs.Common.{◌≡◌, ◌≤◌, ◌<◌, ◌+◌, ◌-◌, ◌%◌, arith, ap, sym, ◌∙◌, [], ◌∷◌, ◌++◌, drop, get_or, take}
use Rattle.std.proofs.lemmas.List.{drop-drop, get_or-drop, length-drop, take-append-drop}
use Rattle.run_scripts.proofs.PlainLines.{digit-more, digit-tests, digits-end, few-below, more-below}
use Rattle.run_scripts.proofs.plain_lines.number_at.Goals as goal

pub returns-else-index-eq0-clause-small : goal.returns-else-index-eq0-clause-small
returns-else-index-eq0-clause-small c = few-below c.loop-index.index c.loop-index.value (omega arith) c.loop-index.invariant.0

pub returns-else-index-eq0-clause-number : goal.returns-else-index-eq0-clause-number
returns-else-index-eq0-clause-number c =
    let from = c.args.from in
    let bytes = c.args.bytes.now in
    let rest = drop from bytes in
    let i = c.loop-index.index in
    let small = few-below i c.loop-index.value (omega arith) c.loop-index.invariant.0 in
    record {
      digits = take i rest;
      whole = sym (take-append-drop i rest) ∙ ap (λ l. take i rest ++ l) (drop-drop i from bytes);
      natural = λ greatest large. digits-end greatest c.loop-index.value i rest (omega (arith, c.if-index-eq0.false)) (omega (arith, length-drop from bytes)) (omega (arith, small))
          (c.loop-index.invariant.1 greatest [] large);
    }

pub overflow_mul-value : goal.overflow_mul-value
overflow_mul-value c = omega (arith, few-below c.loop-index.index c.loop-index.value (omega arith) c.loop-index.invariant.0)

pub overflow_add-value : goal.overflow_add-value
overflow_add-value c = omega (arith, c.if-digit-gt9.false, few-below c.loop-index.index c.loop-index.value (omega arith) c.loop-index.invariant.0)

pub loop-index-preserved : goal.loop-index-preserved
loop-index-preserved c =
    let from = c.args.from in
    let bytes = c.args.bytes.now in
    let rest = drop from bytes in
    let i = c.loop-index.index in
    let value = c.loop-index.value in
    let byte = c.from-digit.result in
    let digit = (byte + 4294967248) % 4294967296 in
    let at : get_or rest i 0 ≡ byte = get_or-drop from bytes i 0 ∙ sym c.from-digit.ensures in
    let fits : byte < 256 = search arith in
    let nine : digit ≤ 9 = omega (arith, c.if-digit-gt9.false) in
    let least : 48 ≤ byte = omega (arith, nine, fits) in
    let most : byte ≤ 57 = omega (arith, nine, fits) in
    let is : digit ≡ byte - 48 = omega (arith, least, most) in
    let small = few-below i value (omega arith) c.loop-index.invariant.0 in (
      more-below i value digit nine c.loop-index.invariant.0,
      λ greatest end large. digit-more greatest value i digit rest end (omega (arith, length-drop from bytes)) (rw at (digit-tests byte least most)) (rw at is)
          (omega (arith, small, nine)) (c.loop-index.invariant.1 greatest (get_or rest i 0 ∷ end) large),
    )
