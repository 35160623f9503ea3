use Rattle.std.proofs.Common.{ℕ, List, [], ◌∷◌, ◌++◌, subst}
use Rattle.std.specs.Io.KnownBytes.{Appends}
use Rattle.pictures.specs.Sending.{AppendsPart}
use Rattle.run_scripts.specs.Lines.{line_feed}
use Rattle.glyph_run.specs.ReplyText as spec
use Rattle.glyph_run.specs.ReplyText.{evicted_text}
use Rattle.glyph_run.proofs.PartsSent.{on-err-then, part-behind}
use Rattle.glyph_run.proofs.reply_text.send_line.Goals as goal

pub returns-clause-part : goal.returns-clause-part
returns-clause-part g c =
    let old = g.W.Write.contents c.args.writer.now in
    let middle = g.W.Write.contents c.send.new.writer in
    let new = g.W.Write.contents c.send_end.new.writer in
    let reply = c.args.reply.now in
    let first : Appends old middle (spec.words_of reply) = rw (← c.words_of.ensures) c.in_ok-send.ensures.whole in
    let end : List ℕ → List ℕ = λ keys. evicted_text keys ++ line_feed ∷ [] in
    on-err-then c.send_end.result
    (λ (part : AppendsPart middle new (end c.evicted_by.result.now)). part-behind old middle new (spec.words_of reply) (end (spec.evicted_by reply)) first
    (subst (λ (keys : List ℕ). AppendsPart middle new (end keys)) c.evicted_by.ensures part))
    c.send_end.ensures.part
