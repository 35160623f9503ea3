use Rattle.std.proofs.Common.{◌≡◌, false, ap, rules, subst, sym, ◌∙◌}
use Rattle.std.specs.Prelude.{is_ok}
use Rattle.etagere_base.specs.declared.frames.Frame.{Frame}
use Rattle.etagere_run.specs.Streaming.{Stops, Streams}
use Rattle.etagere_run.proofs.StreamsOn.{on_err-failed}
use Rattle.etagere_run.proofs.streaming.stream_on_new.Goals as goal

pub returns-clause-written : goal.returns-clause-written
returns-clause-written g c =
    let kind = g.A.Answering.kind in
    let contents = g.W.Write.contents in
    let is : kind.frame c.in_ok-atlas.atlas ≡ g.A.Beginning.framed c.args.size c.args.options.now = search rules in
    subst (λ (f : Frame). Streams kind f c.args.commands.now (contents c.args.writer.now) (contents c.stream_all.new.writer) c.map_err-3.result)
    is (search rules)

pub returns-clause-stopped : goal.returns-clause-stopped
returns-clause-stopped g c fails =
    let kind = g.A.Answering.kind in
    let contents = g.W.Write.contents in
    let is : kind.frame c.in_ok-atlas.atlas ≡ g.A.Beginning.framed c.args.size c.args.options.now = search rules in
    let failed : is_ok c.stream_all.result ≡ false = sym c.map_err-3.ensures.variant ∙ ap is_ok fails in
    subst (λ (f : Frame). Stops kind f c.args.commands.now (contents c.args.writer.now) (contents c.stream_all.new.writer)) is
    (c.stream_all.new.atlas, on_err-failed c.stream_all.result failed c.stream_all.ensures.stopped)
