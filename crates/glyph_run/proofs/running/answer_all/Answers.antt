use Rattle.std.proofs.Common.{◌≡◌, ◌<◌, ◌≤◌, [], ◌∷◌, ◌++◌, length, arith, rules}
use Rattle.glyph_run.proofs.RunsOn.{ends, goes_on, starts}
use Rattle.glyph_run.proofs.running.answer_all.Goals as goal

pub loop-position-init : goal.loop-position-init
loop-position-init c =
    let now = c.args.cache.now in
    record {
      way = rw c.requires.none (starts now.atlas.frame now.capacity now c.requires.new c.requires.promises);
      replies = search rules;
      space = c.requires.room;
    }

pub loop-position-preserved : goal.loop-position-preserved
loop-position-preserved c =
    let now = c.args.cache.now in
    let within : c.loop-position.position < length c.args.commands.now = omega arith in
    let longer : c.push.new.self.items ≡ c.loop-position.replies.items ++ c.answer-reply.result ∷ [] = search rules in
    record {
      way = goes_on now.atlas.frame now.capacity c.args.commands.now c.loop-position.position _
          c.loop-position.replies.items c.push.new.self.items c.answer-reply.result c.loop-position.cache c.answer-reply.new.cache
          within c.loop-position.invariant.way c.answer-reply.ensures.step c.answer-reply.ensures.promises longer;
      replies = search rules;
      space = search rules;
    }

pub returns : goal.returns
returns c =
    let now = c.args.cache.now in
    let all : length c.args.commands.now ≤ c.loop-position.position = omega arith in
    let end = ends now.atlas.frame now.capacity c.args.commands.now c.loop-position.position c.loop-position.replies.items
    c.loop-position.cache all c.loop-position.invariant.way in
    record { run = (c.loop-position.cache, end.run); promises = end.throughout }
