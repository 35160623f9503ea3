use Rattle.std.proofs.Common.{◌≡◌, rules, subst}
use Rattle.std.specs.NonZero.{non_zero_usize_get}
use Rattle.etagere_base.specs.Frames.{atlas_frame}
use Rattle.glyph_shelf.specs.Cache.{CacheState, empty_cache}
use Rattle.glyph_run.specs.Streaming.{Streams}
use Rattle.glyph_run.proofs.streaming.stream_cache.Goals as goal

pub returns-clause-written : goal.returns-clause-written
returns-clause-written g c =
    let is : c.in_ok-cache.cache ≡ empty_cache (atlas_frame c.args.size c.args.options.now) (non_zero_usize_get c.args.capacity) = search (rules, c.new.ensures.ok, c.in_ok-cache.ensures.cases) in
    subst (λ (s : CacheState). Streams s.atlas.frame s.capacity c.args.commands.now (g.W.Write.contents c.args.writer.now)
    (g.W.Write.contents c.stream_all.new.writer) c.map_err-2.result) is
    (search rules)
