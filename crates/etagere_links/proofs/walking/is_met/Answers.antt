use Rattle.std.proofs.Common.{◌≡◌, ℕ, ◌<◌, drop, get_or, length, ap, arith, sym, ◌∙◌}
use Rattle.std.proofs.lemmas.List.{get_or-drop, length-drop}
use Rattle.std.specs.Prelude.{◌==◌}
use Rattle.etagere_links.proofs.MetPositions.{noted-within, noted-past}
use Rattle.etagere_links.proofs.walking.is_met.Goals as goal

pub returns-then-position-met : goal.returns-then-position-met
returns-then-position-met c =
    let before = c.args.before in
    let met = c.args.met.now in
    let noted : c.from-2.result ≡ get_or c.args.positions.now c.args.at 0 = c.from-2.ensures ∙ ap (λ n. get_or c.args.positions.now n 0) c.from.ensures in
    let within : c.from-2.result < length (drop before met) = omega (arith, c.if-position-met.true, length-drop before met) in
    ap (λ (n : ℕ). n == c.args.at) (sym (get_or-drop before met c.from-2.result 0))
    ∙ noted-within c.args.positions.now (drop before met) c.from-2.result c.args.at noted within c.requires.at_positions

pub returns-else-position-met : goal.returns-else-position-met
returns-else-position-met c =
    let before = c.args.before in
    let met = c.args.met.now in
    let noted : c.from-2.result ≡ get_or c.args.positions.now c.args.at 0 = c.from-2.ensures ∙ ap (λ n. get_or c.args.positions.now n 0) c.from.ensures in
    let past = noted-past c.args.positions.now (drop before met) c.from-2.result c.args.at noted (omega (arith, c.if-position-met.false, length-drop before met)) c.requires.at_positions in
    grind (arith, past, c.if-position-met.false, length-drop before met)
