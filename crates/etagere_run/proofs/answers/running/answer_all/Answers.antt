use Rattle.std.proofs.Common.{◌≡◌, ℕ, ◌<◌, ◌≤◌, [], ◌∷◌, ◌++◌, length, refl, arith, rules, subst}
use Rattle.etagere_run.specs.Answers.Private.Tables.{entries_of}
use Rattle.etagere_run.specs.Answers.Private.Tied.{IsAnswerOf}
use Rattle.etagere_run.proofs.RunAnswers.RunsOn.{ends, goes_on, starts}
use Rattle.etagere_run.proofs.answers.running.answer_all.Goals as goal

pub loop-position-preserved : goal.loop-position-preserved
loop-position-preserved g c =
    let within : c.loop-position.position < length c.args.commands.now = omega arith in
    let longer : c.push.new.self.items ≡ c.loop-position.replies.items ++ c.answer_next-reply.result ∷ [] = search rules in
    let kind = g.A.Answering.kind in
    let entries = entries_of c.loop-position.ledger in
    let later = entries_of c.answer_next-reply.new.ledger in
    let answer = subst (λ (n : ℕ). IsAnswerOf kind g.A.Answering.Tied n c.index-commands-position.result c.answer_next-reply.result entries later c.loop-position.atlas c.answer_next-reply.new.atlas)
    c.loop-position.invariant.slots c.answer_next-reply.ensures.answer in
    let next = goes_on kind g.A.Answering.Tied c.requires.suits (kind.frame c.args.atlas.now) c.args.commands.now
    c.loop-position.position c.index-commands-position.result c.loop-position.replies.items c.push.new.self.items
    c.answer_next-reply.result entries later c.loop-position.atlas c.answer_next-reply.new.atlas within c.index-commands-position.is
    c.loop-position.invariant.way c.loop-position.invariant.throughout answer longer in
    record {
      way = next.0;
      throughout = next.1;
      replies = search rules;
      space = search rules;
      slots = search rules;
      room = omega arith;
    }

pub loop-position-init : goal.loop-position-init
loop-position-init g c =
    let kind = g.A.Answering.kind in
    let room = c.requires.room in
    let frame = kind.frame c.args.atlas.now in
    let start = starts kind g.A.Answering.Tied c.requires.suits frame c.args.atlas.now c.requires.new.fresh
    (record { width = refl; height = refl; direction = refl }) c.requires.new.tied in
    record {
      way = rw (room.replies, room.ledger.entries) start.0;
      throughout = rw room.replies start.1;
      replies = room.replies_length;
      space = room.replies_room;
      slots = room.ledger.length;
      room = room.ledger.room;
    }

pub returns : goal.returns
returns g c =
    let all : length c.args.commands.now ≤ c.loop-position.position = omega arith in
    let kind = g.A.Answering.kind in
    let end = ends kind g.A.Answering.Tied (kind.frame c.args.atlas.now) c.args.commands.now c.loop-position.position
    c.loop-position.replies.items (entries_of c.loop-position.ledger) c.loop-position.atlas all
    c.loop-position.invariant.way c.loop-position.invariant.throughout in
    record { last = end.0; promises = end.1 }
