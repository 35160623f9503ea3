use Rattle.std.proofs.Common.{◌<◌, ◌≤◌, length, arith}
use Rattle.pictures.proofs.GatheringLemmas.{on-err}
use Rattle.glyph_run.proofs.StreamsOn.{stream-ends, stream-goes_on, stream-starts, stream-stops_at}
use Rattle.glyph_run.proofs.streaming.stream_all.Goals as goal

pub loop-position-init : goal.loop-position-init
loop-position-init g c =
    let now = c.args.cache.now in
    stream-starts now.atlas.frame now.capacity now (g.W.Write.contents c.args.writer.now) c.requires.new c.requires.promises

pub loop-position-preserved : goal.loop-position-preserved
loop-position-preserved g c =
    let now = c.args.cache.now in
    let contents = g.W.Write.contents in
    let within : c.loop-position.position < length c.args.commands.now = omega arith in
    stream-goes_on now.atlas.frame now.capacity c.args.commands.now c.loop-position.position _
    c.answer-reply.result c.loop-position.cache c.answer-reply.new.cache (contents c.args.writer.now) (contents c.loop-position.writer)
    (contents c.send_line.new.writer) within c.loop-position.invariant c.answer-reply.ensures.step
    c.answer-reply.ensures.promises c.in_ok-send_line.ensures.whole

pub returns-in_err-send_line-clause-stopped : goal.returns-in_err-send_line-clause-stopped
returns-in_err-send_line-clause-stopped g c =
    let now = c.args.cache.now in
    let contents = g.W.Write.contents in
    let within : c.loop-position.position < length c.args.commands.now = omega arith in
    on-err c.from_residual.result
    (stream-stops_at now.atlas.frame now.capacity c.args.commands.now c.loop-position.position _
    c.answer-reply.result c.loop-position.cache c.answer-reply.new.cache (contents c.args.writer.now) (contents c.loop-position.writer)
    (contents c.send_line.new.writer) within c.loop-position.invariant c.answer-reply.ensures.step
    c.answer-reply.ensures.promises c.in_err-send_line.ensures.part)

pub returns-clause-whole : goal.returns-clause-whole
returns-clause-whole g c =
    let now = c.args.cache.now in
    let contents = g.W.Write.contents in
    let all : length c.args.commands.now ≤ c.loop-position.position = omega arith in
    stream-ends now.atlas.frame now.capacity c.args.commands.now c.loop-position.position c.loop-position.cache
    (contents c.args.writer.now) (contents c.loop-position.writer) all c.loop-position.invariant
