use Rattle.std.proofs.Common.{[], append-nil, subst, sym}
use Rattle.pictures.proofs.GatheringLemmas.{begins-piece, on-err}
use Rattle.pictures.specs.Sending.{AppendsBeginning}
use Rattle.pictures.proofs.gathering.GatheredText.send_all.Goals as goal

-- a beginning went out of what was gathered
pub returns-in_err-send-clause-err : goal.returns-in_err-send-clause-err
returns-in_err-send-clause-err g c =
    let old = g.W.Write.contents c.args.writer.now in
    let new = g.W.Write.contents c.send.new.writer in
    on-err c.from_residual.result
    (begins-piece old new c.args.self.now []
    (subst (AppendsBeginning old new) (sym (append-nil c.args.self.now))
    (subst (AppendsBeginning old new) c.as_bytes.ensures c.in_err-send.ensures.beginning)))
