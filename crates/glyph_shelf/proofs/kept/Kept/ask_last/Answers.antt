use Rattle.std.proofs.Common.{Bool, subst}
use Rattle.glyph_shelf.proofs.Asking.{asked-goes, asked-stays}
use Rattle.glyph_shelf.proofs.kept.Kept.ask_last.Goals as goal

pub returns-then-keeps-clause-asked : goal.returns-then-keeps-clause-asked
returns-then-keeps-clause-asked g c =
    asked-stays (goal.F-step g) c.args.keeps.now c.keeps.new.self c.args.self.now c.look.new.self c.in-Some.key c.in-Some.rectangle
    c.in-Some.ensures
    (subst (λ (b : Bool). goal.F-step g c.args.keeps.now c.in-Some.key c.in-Some.rectangle b c.keeps.new.self) c.if-keeps.true c.keeps.ensures)
    c.look.ensures.used

pub returns-else-keeps-clause-asked : goal.returns-else-keeps-clause-asked
returns-else-keeps-clause-asked g c =
    asked-goes (goal.F-step g) c.args.keeps.now c.keeps.new.self c.args.self.now c.drop_last.new.self c.in-Some.key c.in-Some.rectangle
    c.in-Some.ensures
    (subst (λ (b : Bool). goal.F-step g c.args.keeps.now c.in-Some.key c.in-Some.rectangle b c.keeps.new.self) c.if-keeps.false c.keeps.ensures)
    c.drop_last.ensures.dropped
