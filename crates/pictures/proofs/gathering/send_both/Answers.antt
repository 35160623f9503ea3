use Rattle.std.proofs.lemmas.Result.{on_err_weaker}
use Rattle.pictures.proofs.GatheringLemmas.{begins-behind}
use Rattle.pictures.proofs.gathering.send_both.Goals as goal

-- the first text went out whole, and then a beginning of the second
pub returns-clause-beginning : goal.returns-clause-beginning
returns-clause-beginning g c =
    let old = g.W.Write.contents c.args.writer.now in
    let middle = g.W.Write.contents c.send.new.writer in
    let new = g.W.Write.contents c.send-2.new.writer in
    on_err_weaker c.send-2.result
    (λ out. begins-behind old middle new c.args.first.now c.args.second.now c.in_ok-send.ensures.whole out)
    c.send-2.ensures.beginning
