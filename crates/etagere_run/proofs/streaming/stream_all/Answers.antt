use Rattle.std.proofs.Common.{ℕ, ◌<◌, ◌≤◌, length, refl, arith, rules, subst}
use Rattle.std.specs.Io.KnownBytes.{Appends}
use Rattle.pictures.specs.Sending.{AppendsBeginning, AppendsPart}
use Rattle.pictures.proofs.GatheringLemmas.{on-err}
use Rattle.run_scripts.specs.ReplyText.{line_of}
use Rattle.etagere_run.specs.Answers.Private.Tables.{entries_of}
use Rattle.etagere_run.specs.Answers.Private.Tied.{IsAnswerOf}
use Rattle.etagere_run.proofs.StreamsOn.{line-some, stream-ends, stream-goes_on, stream-starts, stream-stops, stream-stops_at}
use Rattle.etagere_run.proofs.streaming.stream_all.Goals as goal

pub loop-position-init : goal.loop-position-init
loop-position-init g c =
    let kind = g.A.Answering.kind in
    let start = stream-starts kind g.A.Answering.Tied c.requires.suits (kind.frame c.args.atlas.now) c.args.atlas.now
    (g.W.Write.contents c.args.writer.now) c.requires.new.fresh (record { width = refl; height = refl; direction = refl })
    c.requires.new.tied in
    record {
      so_far = rw c.requires.room.entries start;
      slots = c.requires.room.length;
      room = c.requires.room.room;
    }

pub loop-position-preserved : goal.loop-position-preserved
loop-position-preserved g c =
    let within : c.loop-position.position < length c.args.commands.now = omega arith in
    let kind = g.A.Answering.kind in
    let contents = g.W.Write.contents in
    let entries = entries_of c.loop-position.ledger in
    let later = entries_of c.answer_next-reply.new.ledger in
    let answer = subst (λ (n : ℕ). IsAnswerOf kind g.A.Answering.Tied n c.index-commands-position.result c.answer_next-reply.result entries later c.loop-position.atlas c.answer_next-reply.new.atlas)
    c.loop-position.invariant.slots c.answer_next-reply.ensures.answer in
    let out : Appends (contents c.loop-position.writer) (contents c.send_line.new.writer) (line_of c.answer_next-reply.result) =
    rw (← c.line_of.ensures.text) c.in_ok-send_line.ensures.whole in
    record {
      so_far = stream-goes_on kind g.A.Answering.Tied c.requires.suits (kind.frame c.args.atlas.now) c.args.commands.now
          c.loop-position.position c.index-commands-position.result c.answer_next-reply.result entries later
          c.loop-position.atlas c.answer_next-reply.new.atlas (contents c.args.writer.now) (contents c.loop-position.writer)
          (contents c.send_line.new.writer) within c.index-commands-position.is c.loop-position.invariant.so_far answer out;
      slots = search rules;
      room = omega arith;
    }

pub returns-in_err-send_line-clause-beginning : goal.returns-in_err-send_line-clause-beginning
returns-in_err-send_line-clause-beginning g c =
    let within : c.loop-position.position < length c.args.commands.now = omega arith in
    let kind = g.A.Answering.kind in
    let contents = g.W.Write.contents in
    let entries = entries_of c.loop-position.ledger in
    let later = entries_of c.answer_next-reply.new.ledger in
    let answer = subst (λ (n : ℕ). IsAnswerOf kind g.A.Answering.Tied n c.index-commands-position.result c.answer_next-reply.result entries later c.loop-position.atlas c.answer_next-reply.new.atlas)
    c.loop-position.invariant.slots c.answer_next-reply.ensures.answer in
    let out : AppendsBeginning (contents c.loop-position.writer) (contents c.send_line.new.writer) (line_of c.answer_next-reply.result) =
    rw (← c.line_of.ensures.text) c.in_err-send_line.ensures.beginning in
    on-err c.from_residual.result
    (stream-stops kind g.A.Answering.Tied c.requires.suits (kind.frame c.args.atlas.now) c.args.commands.now
    c.loop-position.position c.index-commands-position.result c.answer_next-reply.result entries later
    c.loop-position.atlas c.answer_next-reply.new.atlas (contents c.args.writer.now) (contents c.loop-position.writer)
    (contents c.send_line.new.writer) within c.index-commands-position.is c.loop-position.invariant.so_far answer out)

pub returns-in_err-send_line-clause-stopped : goal.returns-in_err-send_line-clause-stopped
returns-in_err-send_line-clause-stopped g c =
    let within : c.loop-position.position < length c.args.commands.now = omega arith in
    let kind = g.A.Answering.kind in
    let contents = g.W.Write.contents in
    let entries = entries_of c.loop-position.ledger in
    let later = entries_of c.answer_next-reply.new.ledger in
    let answer = subst (λ (n : ℕ). IsAnswerOf kind g.A.Answering.Tied n c.index-commands-position.result c.answer_next-reply.result entries later c.loop-position.atlas c.answer_next-reply.new.atlas)
    c.loop-position.invariant.slots c.answer_next-reply.ensures.answer in
    let out : AppendsPart (contents c.loop-position.writer) (contents c.send_line.new.writer) (line_of c.answer_next-reply.result) =
    rw (← c.line_of.ensures.text) c.in_err-send_line.ensures.part in
    on-err c.from_residual.result
    (stream-stops_at kind g.A.Answering.Tied c.requires.suits (kind.frame c.args.atlas.now) c.args.commands.now
    c.loop-position.position c.index-commands-position.result c.answer_next-reply.result entries later
    c.loop-position.atlas c.answer_next-reply.new.atlas (contents c.args.writer.now) (contents c.loop-position.writer)
    (contents c.send_line.new.writer) within c.index-commands-position.is c.loop-position.invariant.so_far answer out)

pub returns-clause-whole : goal.returns-clause-whole
returns-clause-whole g c =
    let all : length c.args.commands.now ≤ c.loop-position.position = omega arith in
    let kind = g.A.Answering.kind in
    let contents = g.W.Write.contents in
    stream-ends kind g.A.Answering.Tied (kind.frame c.args.atlas.now) c.args.commands.now c.loop-position.position
    (entries_of c.loop-position.ledger) c.loop-position.atlas (contents c.args.writer.now) (contents c.loop-position.writer)
    all c.loop-position.invariant.so_far

pub send_line-requires : goal.send_line-requires
send_line-requires g c =
    rw c.line_of.ensures.text (line-some c.answer_next-reply.result)
