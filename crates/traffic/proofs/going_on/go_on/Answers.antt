use Rattle.std.proofs.Common.{◌≡◌, ℕ, ◌<◌, ◌++◌, [], ◌∷◌, length, arith, rules, subst}
use Rattle.std.specs.Prelude.{vec_len}
use Rattle.etagere_run.specs.Answers.Private.Tables.{entries_of}
use Rattle.etagere_run.specs.Answers.Private.Tied.{IsAnswerOf}
use Rattle.traffic.specs.GoingOn.{with_finding}
use Rattle.traffic.proofs.Going.{going-more}
use Rattle.traffic.proofs.going_on.go_on.Goals as goal

pub loop-position-preserved : goal.loop-position-preserved
loop-position-preserved g c =
    let kind = g.A.Answering.kind in
    let told = g.A.Explaining.told in
    let first = vec_len c.args.ledger.now.slots in
    let position = c.loop-position.position in
    let command = c.index-commands-position.result in
    let reply = c.answer_next-reply.result in
    let entries = entries_of c.loop-position.ledger in
    let later = entries_of c.answer_next-reply.new.ledger in
    let state = c.answer_next-reply.new.atlas in
    let within : position < length c.args.commands.now = omega arith in
    let longer : c.push.new.self.items ≡ c.loop-position.replies.items ++ reply ∷ [] = search rules in
    let more : c.note.new.findings.items ≡ c.loop-position.findings.items ++ with_finding position (told state command reply) [] =
    search rules in
    let answer = subst (λ (n : ℕ). IsAnswerOf kind g.A.Answering.Tied n command reply entries later c.loop-position.atlas state)
    c.loop-position.invariant.slots c.answer_next-reply.ensures.answer in
    record {
      going = going-more kind g.A.Answering.Tied told first (entries_of c.args.ledger.now) c.args.atlas.now c.loop-position.atlas state
          c.args.commands.now position command c.loop-position.replies.items c.push.new.self.items reply
          c.loop-position.findings.items c.note.new.findings.items entries later within c.index-commands-position.is
          c.loop-position.invariant.going answer longer more;
      slots = omega (arith, c.answer_next-reply.ensures.length, c.loop-position.invariant.slots);
      room = omega (arith, c.answer_next-reply.ensures.room, c.loop-position.invariant.room);
    }
