use Rattle.std.proofs.Common.{rules, FitsSigned, sym, w32, ◌∙◌}
use Rattle.std.proofs.lemmas.Int.{to_z-of_z}
use Rattle.padding.proofs.Accepted.{accepted}
use Rattle.padding.proofs.sides.Padding.padded.Goals as goal

pub returns-in-Some-Some-clause-accepted : goal.returns-in-Some-Some-clause-accepted
returns-in-Some-Some-clause-accepted c =
    let wide : FitsSigned w32 c.args.size.width = search rules in
    let tall : FitsSigned w32 c.args.size.height = search rules in
    (accepted c.args.self c.args.size c.is_empty.result c.in-Some-Some.width c.in-Some-Some.height c.is_empty.ensures c.if-is_empty.false
    (sym (rw (to_z-of_z w32 c.args.size.width wide) at c.padded_side-width.ensures) ∙ c.in-Some-Some.is-0)
    (sym (rw (to_z-of_z w32 c.args.size.height tall) at c.padded_side-height.ensures) ∙ c.in-Some-Some.is-1)).0

pub returns-in-Some-Some-clause-ok : goal.returns-in-Some-Some-clause-ok
returns-in-Some-Some-clause-ok c =
    let wide : FitsSigned w32 c.args.size.width = search rules in
    let tall : FitsSigned w32 c.args.size.height = search rules in
    let given_wide : FitsSigned w32 c.in-Some-Some.width = search rules in
    let given_tall : FitsSigned w32 c.in-Some-Some.height = search rules in
    let fine = accepted c.args.self c.args.size c.is_empty.result c.in-Some-Some.width c.in-Some-Some.height c.is_empty.ensures c.if-is_empty.false
    (sym (rw (to_z-of_z w32 c.args.size.width wide) at c.padded_side-width.ensures) ∙ c.in-Some-Some.is-0)
    (sym (rw (to_z-of_z w32 c.args.size.height tall) at c.padded_side-height.ensures) ∙ c.in-Some-Some.is-1) in
    let made = rw (to_z-of_z w32 c.in-Some-Some.width given_wide, to_z-of_z w32 c.in-Some-Some.height given_tall) at c.size2.ensures in
    made ∙ fine.1
