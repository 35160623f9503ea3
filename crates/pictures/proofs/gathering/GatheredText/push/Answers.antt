use Rattle.std.proofs.Common.{ℕ, List, ◌≡◌, ◌++◌, sym, subst, refl}
use Rattle.std.specs.Io.KnownBytes.{Appends}
use Rattle.pictures.proofs.GatheringLemmas.{begins-piece, on-err, sends-piece}
use Rattle.pictures.specs.Gathering.{GathersMore}
use Rattle.pictures.specs.Sending.{AppendsBeginning}
use Rattle.pictures.proofs.gathering.GatheredText.push.Goals as goal

-- a beginning went out of what was gathered and the piece
pub returns-in_err-send_both-clause-err : goal.returns-in_err-send_both-clause-err
returns-in_err-send_both-clause-err g c =
    let old = g.W.Write.contents c.args.writer.now in
    let new = g.W.Write.contents c.send_both.new.writer in
    let both : c.as_bytes.result.now ++ c.as_bytes-2.result.now ≡ c.args.self.now ++ c.args.piece.now = rw (c.as_bytes.ensures, c.as_bytes-2.ensures.value) refl in
    on-err c.from_residual.result
    (begins-piece old new c.args.self.now c.args.piece.now
    (subst (λ (l : List ℕ). AppendsBeginning old new l) both c.in_err-send_both.ensures.beginning))

-- what was gathered and the piece went out, and nothing is gathered now
pub returns-clause-ok : goal.returns-clause-ok
returns-clause-ok g c =
    let old = g.W.Write.contents c.args.writer.now in
    let new = g.W.Write.contents c.send_both.new.writer in
    let both : c.as_bytes.result.now ++ c.as_bytes-2.result.now ≡ c.args.self.now ++ c.args.piece.now = rw (c.as_bytes.ensures, c.as_bytes-2.ensures.value) refl in
    subst (λ (l : List ℕ). GathersMore old c.args.self.now new l c.args.piece.now) (sym c.clear.ensures)
    (sends-piece old new c.args.self.now c.args.piece.now
    (subst (λ (l : List ℕ). Appends old new l) both c.in_ok-send_both.ensures.whole))
