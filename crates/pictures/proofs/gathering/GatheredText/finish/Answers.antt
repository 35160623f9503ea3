use Rattle.std.proofs.Common.{ℕ, List, ◌≡◌, ◌++◌, [], sym, subst, ◌∙◌}
use Rattle.std.proofs.lemmas.List.{append-nil}
use Rattle.std.proofs.lemmas.Result.{on_err_weaker}
use Rattle.pictures.proofs.GatheringLemmas.{begins-piece}
use Rattle.pictures.specs.Sending.{AppendsBeginning}
use Rattle.pictures.proofs.gathering.GatheredText.finish.Goals as goal

-- a beginning went out of what was gathered
pub returns-clause-err : goal.returns-clause-err
returns-clause-err g c =
    let old = g.W.Write.contents c.args.writer.now in
    let new = g.W.Write.contents c.send.new.writer in
    let gathered : c.as_bytes.result.now ≡ c.args.self ++ [] = c.as_bytes.ensures ∙ sym (append-nil c.args.self) in
    on_err_weaker c.send.result
    (λ out. begins-piece old new c.args.self [] (subst (λ (l : List ℕ). AppendsBeginning old new l) gathered out))
    c.send.ensures.beginning
