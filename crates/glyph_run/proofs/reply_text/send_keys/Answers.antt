use Rattle.std.proofs.Common.{ℕ, ◌<◌, ◌≤◌, List, length, get_or, take, arith, subst}
use Rattle.std.proofs.lemmas.List.{take_all}
use Rattle.std.specs.Io.KnownBytes.{Appends}
use Rattle.pictures.proofs.GatheringLemmas.{appends-both, appends-nothing, on-err}
use Rattle.glyph_run.specs.ReplyText.{key_text, keys_text}
use Rattle.glyph_run.proofs.PartsSent.{keys-more, keys-stopped}
use Rattle.glyph_run.proofs.reply_text.send_keys.Goals as goal

pub loop-index-init : goal.loop-index-init
loop-index-init g c = appends-nothing (g.W.Write.contents c.args.writer.now)

pub loop-index-preserved : goal.loop-index-preserved
loop-index-preserved g c =
    let contents = g.W.Write.contents in
    let keys = c.args.keys.now in
    let i = c.loop-index.index in
    let within : i < length keys = omega arith in
    subst (Appends (contents c.args.writer.now) (contents c.send_key.new.writer)) (keys-more keys i within)
    (appends-both (contents c.args.writer.now) (contents c.loop-index.writer) (contents c.send_key.new.writer)
    (keys_text (take i keys)) (key_text (get_or keys i 0)) c.loop-index.invariant c.in_ok-send_key.ensures.whole)

pub returns-in_err-send_key-clause-part : goal.returns-in_err-send_key-clause-part
returns-in_err-send_key-clause-part g c =
    let contents = g.W.Write.contents in
    let keys = c.args.keys.now in
    let i = c.loop-index.index in
    let within : i < length keys = omega arith in
    on-err c.from_residual.result
    (keys-stopped (contents c.args.writer.now) (contents c.loop-index.writer) (contents c.send_key.new.writer) keys i within
    c.loop-index.invariant c.in_err-send_key.ensures.part)

pub returns-clause-whole : goal.returns-clause-whole
returns-clause-whole g c =
    let contents = g.W.Write.contents in
    let keys = c.args.keys.now in
    let all : length keys ≤ c.loop-index.index = omega arith in
    subst (λ (l : List ℕ). Appends (contents c.args.writer.now) (contents c.loop-index.writer) (keys_text l))
    (take_all c.loop-index.index keys all) c.loop-index.invariant
