use Rattle.std.proofs.Common.{arith}
use Rattle.glyph_shelf.proofs.Asking.{asks-left, asks-more, asks-none}
use Rattle.glyph_shelf.proofs.kept.Kept.ask.Goals as goal

pub loop-turn-init : goal.loop-turn-init
loop-turn-init g c =
    record {
      callable = c.requires.callable;
      asked = asks-none (goal.F-step g) c.args.keeps.now c.args.self.now;
      left = let few = c.requires.few in omega arith;
      promises = c.requires.promises;
    }

pub loop-turn-preserved : goal.loop-turn-preserved
loop-turn-preserved g c =
    let before = c.loop-turn.self in
    let fewer = asks-left (goal.F-step g) 1 c.loop-turn.keeps c.ask_last.new.keeps before c.ask_last.new.self c.ask_last.ensures.asked in
    let left = c.loop-turn.invariant.left in
    record {
      callable = c.ask_last.ensures.callable;
      asked = asks-more (goal.F-step g) c.loop-turn.turn c.args.keeps.now c.loop-turn.keeps c.ask_last.new.keeps c.args.self.now before
          c.ask_last.new.self c.loop-turn.invariant.asked c.ask_last.ensures.asked;
      left = omega arith;
      promises = c.ask_last.ensures.promises;
    }
