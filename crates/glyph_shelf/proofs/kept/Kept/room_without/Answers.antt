use Rattle.std.proofs.Common.{◌+◌, ap, sym, ◌∙◌, subst, arith}
use Rattle.shelf_model.specs.State.{AtlasState}
use Rattle.glyph_shelf.specs.Cache.{CacheState}
use Rattle.glyph_shelf.specs.Promises.{KeepsCachePromises}
use Rattle.glyph_shelf.proofs.FullFrames.{IsTried, lacks-more, lacks-none, tried-allocated, tried-more, tried-none, tried-room, tried-some}
use Rattle.glyph_shelf.proofs.kept.Kept.room_without.Goals as goal

pub loop-gone-init : goal.loop-gone-init
loop-gone-init c =
    record {
      tried = tried-none c.args.self.now c.iter-left.result c.in_ok-atlas.atlas
          (c.iter-left.ensures ∙ ap (λ (s : CacheState). s.entries) c.self.view_is)
          (c.in_ok-atlas.ensures.cases ∙ ap (λ (s : CacheState). s.atlas) c.self.view_is);
      lacks = lacks-none c.args.self.now c.args.size c.requires.full;
    }

pub unreachable-requires : goal.unreachable-requires
unreachable-requires c =
    let few = c.requires.few in
    tried-some c.args.self.now c.loop-gone.gone c.loop-gone.left c.loop-gone.atlas c.loop-gone.invariant.tried (omega arith) c.in_default.ensures.steps.0

pub give_back-requires : goal.give_back-requires
give_back-requires c =
    tried-allocated c.args.self.now c.loop-gone.gone c.loop-gone.left c.next_back.new.self (c.in-Some.field-0-0.now, c.in-Some.entry.now)
    c.loop-gone.atlas c.loop-gone.invariant.tried c.in-Some.ensures.steps (subst KeepsCachePromises c.self.view_is c.self.invariant)

pub returns-then-branch-clause-room : goal.returns-then-branch-clause-room
returns-then-branch-clause-room c =
    let promises = subst KeepsCachePromises c.self.view_is c.self.invariant in
    let tried = tried-more c.args.self.now c.loop-gone.gone c.loop-gone.left c.next_back.new.self (c.in-Some.field-0-0.now, c.in-Some.entry.now)
    c.loop-gone.atlas c.loop-gone.invariant.tried c.in-Some.ensures.steps c.give_back.new.atlas c.give_back.ensures.returned in
    let few = c.requires.few in
    λ makes. record {
      count = c.loop-gone.gone + 1;
      few = omega arith;
      room = tried-room c.args.self.now c.args.size (c.loop-gone.gone + 1) c.next_back.new.self c.give_back.new.atlas promises tried
          (omega arith) (omega arith)
          ∙ sym c.in_ok-takes.ensures.room
          ∙ c.if-branch.true;
    }

pub loop-gone-preserved : goal.loop-gone-preserved
loop-gone-preserved c =
    let promises = subst KeepsCachePromises c.self.view_is c.self.invariant in
    let tried = tried-more c.args.self.now c.loop-gone.gone c.loop-gone.left c.next_back.new.self (c.in-Some.field-0-0.now, c.in-Some.entry.now)
    c.loop-gone.atlas c.loop-gone.invariant.tried c.in-Some.ensures.steps c.give_back.new.atlas c.give_back.ensures.returned in
    let few = c.requires.few in
    record {
      tried = subst (λ (atlas : AtlasState). IsTried c.args.self.now (c.loop-gone.gone + 1) c.next_back.new.self atlas)
          (sym (c.in_ok-takes.ensures.none c.if-branch.false)) tried;
      lacks = lacks-more c.args.self.now c.args.size c.loop-gone.gone c.loop-gone.invariant.lacks
          (tried-room c.args.self.now c.args.size (c.loop-gone.gone + 1) c.next_back.new.self c.give_back.new.atlas promises tried
          (omega arith) (omega arith)
          ∙ sym c.in_ok-takes.ensures.room
          ∙ c.if-branch.false);
    }
