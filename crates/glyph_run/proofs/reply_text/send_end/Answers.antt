use Rattle.std.proofs.Common.{[], ◌∷◌}
use Rattle.pictures.specs.Sending.{AppendsPart}
use Rattle.run_scripts.specs.Lines.{line_feed}
use Rattle.glyph_run.specs.ReplyText.{evicted_text}
use Rattle.glyph_run.proofs.PartsSent.{on-err-then, part-behind}
use Rattle.glyph_run.proofs.reply_text.send_end.Goals as goal

pub returns-clause-part : goal.returns-clause-part
returns-clause-part g c =
    let old = g.W.Write.contents c.args.writer.now in
    let middle = g.W.Write.contents c.send_evicted.new.writer in
    let new = g.W.Write.contents c.send.new.writer in
    on-err-then c.send.result
    (λ (part : AppendsPart middle new (line_feed ∷ [])). part-behind old middle new (evicted_text c.args.evicted.now) (line_feed ∷ [])
    c.in_ok-send_evicted.ensures.whole part)
    c.send.ensures.part
