use Rattle.glyph_map.proofs.MapAnswers.{not-removed}
use Rattle.glyph_map.proofs.runs.remove.Goals as goal

pub returns : goal.returns
returns g c =
    record {
      answers = not-removed (g.K.PartialEq.eq c.args.key) c.args.map.now c.remove.new.self c.in-None.ensures.value c.remove.ensures.removed;
      promises = c.remove.ensures.promises;
    }
