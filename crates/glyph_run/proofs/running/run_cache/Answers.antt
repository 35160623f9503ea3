use Rattle.std.proofs.Common.{◌≡◌, rules, subst}
use Rattle.std.specs.NonZero.{non_zero_usize_get}
use Rattle.etagere_base.specs.Frames.{atlas_frame}
use Rattle.glyph_shelf.specs.Cache.{CacheState, empty_cache}
use Rattle.glyph_run.specs.Runs.{RunKeepsPromisesThroughout, RunsTo}
use Rattle.glyph_run.proofs.running.run_cache.Goals as goal

pub returns-clause-run : goal.returns-clause-run
returns-clause-run c =
    let is : c.in_ok-cache.cache ≡ empty_cache (atlas_frame c.args.size c.args.options.now) (non_zero_usize_get c.args.capacity) = search (rules, c.new.ensures.ok, c.in_ok-cache.ensures.cases) in
    subst (λ (s : CacheState). RunsTo s.atlas.frame s.capacity c.args.commands.now c.answer_all.result.items) is c.answer_all.ensures.run

pub returns-clause-promises : goal.returns-clause-promises
returns-clause-promises c =
    let is : c.in_ok-cache.cache ≡ empty_cache (atlas_frame c.args.size c.args.options.now) (non_zero_usize_get c.args.capacity) = search (rules, c.new.ensures.ok, c.in_ok-cache.ensures.cases) in
    subst (λ (s : CacheState). RunKeepsPromisesThroughout s.atlas.frame s.capacity c.args.commands.now c.answer_all.result.items) is
    c.answer_all.ensures.promises
