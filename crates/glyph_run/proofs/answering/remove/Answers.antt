use Rattle.std.proofs.Common.{◌≡◌, None, sym, ◌∙◌}
use Rattle.glyph_shelf.specs.Cache.{rectangle_at}
use Rattle.glyph_shelf.proofs.Callers.{unknown-rectangle, without_key-unknown}
use Rattle.glyph_run.proofs.answering.remove.Goals as goal

pub returns-in-None-clause-step : goal.returns-in-None-clause-step
returns-in-None-clause-step c =
    let none : rectangle_at c.args.cache.now c.args.key ≡ None = sym c.remove.ensures.value ∙ c.in-None.is in
    let unknown = unknown-rectangle c.args.cache.now c.args.key none in (
      unknown,
      c.remove.ensures.removed ∙ without_key-unknown c.args.cache.now c.args.key unknown,
    )
