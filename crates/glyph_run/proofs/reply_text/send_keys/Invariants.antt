use Rattle.std.proofs.Common.{take}
use Rattle.std.specs.Io.KnownBytes.{Appends}
use Rattle.glyph_run.specs.ReplyText.{keys_text}
use Rattle.glyph_run.proofs.reply_text.send_keys.Given as goal

-- the first keys were sent
abbrev pub invariant-loop-index : goal.invariant-loop-index
invariant-loop-index g l =
    let contents = g.W.Write.contents in
    Appends (contents l.fn.writer) (contents l.writer) (keys_text (take l.index l.keys))
