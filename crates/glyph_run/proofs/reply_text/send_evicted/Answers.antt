use Rattle.std.proofs.Common.{◌<◌, length, arith, subst}
use Rattle.std.proofs.lemmas.Bool.Decides.{nat_tests}
use Rattle.std.specs.Prelude.{codes}
use Rattle.pictures.specs.Sending.{AppendsPart}
use Rattle.pictures.proofs.GatheringLemmas.{on-err}
use Rattle.glyph_run.specs.ReplyText.{keys_text}
use Rattle.glyph_run.proofs.PartsSent.{evicted_text-some, on-err-then, part-behind, part-first}
use Rattle.glyph_run.proofs.reply_text.send_evicted.Goals as goal

pub returns-in_err-send-clause-part : goal.returns-in_err-send-clause-part
returns-in_err-send-clause-part g c =
    let old = g.W.Write.contents c.args.writer.now in
    let new = g.W.Write.contents c.send.new.writer in
    let keys = c.args.evicted.now in
    let some : 0 < length keys = grind (arith, nat_tests) in
    on-err c.from_residual.result
    (subst (AppendsPart old new) (evicted_text-some keys some)
    (part-first old new (codes " evicted") (keys_text keys) c.in_err-send.ensures.part))

pub returns-clause-part : goal.returns-clause-part
returns-clause-part g c =
    let old = g.W.Write.contents c.args.writer.now in
    let middle = g.W.Write.contents c.send.new.writer in
    let new = g.W.Write.contents c.send_keys.new.writer in
    let keys = c.args.evicted.now in
    let some : 0 < length keys = grind (arith, nat_tests) in
    on-err-then c.send_keys.result
    (λ (part : AppendsPart middle new (keys_text keys)). subst (AppendsPart old new) (evicted_text-some keys some)
    (part-behind old middle new (codes " evicted") (keys_text keys) c.in_ok-send.ensures.whole part))
    c.send_keys.ensures.part
