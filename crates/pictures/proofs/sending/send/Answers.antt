use Rattle.std.proofs.Common.{arith}
use Rattle.pictures.proofs.Beginnings.{appends_more}
use Rattle.pictures.proofs.sending.send.Goals as goal

pub loop-sent-preserved : goal.loop-sent-preserved
loop-sent-preserved g c = (
  omega (arith, c.in_ok-count.ensures.bound, c.loop-sent.invariant.0),
  appends_more
      (g.W.Write.contents c.args.writer.now) (g.W.Write.contents c.loop-sent.writer)
      (g.W.Write.contents c.write.new.self) c.args.text.now c.loop-sent.sent c.in_ok-count.count
      c.loop-sent.invariant.1 c.in_ok-count.ensures.bytes,
)
