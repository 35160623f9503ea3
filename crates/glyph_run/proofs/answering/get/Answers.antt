use Rattle.std.proofs.Common.{◌≡◌, None, sym, ◌∙◌}
use Rattle.glyph_shelf.specs.Cache.{rectangle_at}
use Rattle.glyph_shelf.proofs.Callers.{looked-unknown, unknown-rectangle}
use Rattle.glyph_run.proofs.answering.get.Goals as goal

pub returns-in-None-clause-step : goal.returns-in-None-clause-step
returns-in-None-clause-step c =
    let none : rectangle_at c.args.cache.now c.args.key ≡ None = sym c.get.ensures.value ∙ c.in-None.is in (
      unknown-rectangle c.args.cache.now c.args.key none,
      looked-unknown c.args.cache.now c.get.new.self c.args.key none c.get.ensures.used,
    )
