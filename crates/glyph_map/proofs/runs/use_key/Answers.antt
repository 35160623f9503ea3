use Rattle.glyph_map.proofs.MapAnswers.{not-used}
use Rattle.glyph_map.proofs.runs.use_key.Goals as goal

pub returns : goal.returns
returns g c =
    record {
      answers = not-used (g.K.PartialEq.eq c.args.key) c.args.map.now c.use_key.new.self c.in-None.ensures.value c.use_key.ensures.used;
      promises = c.use_key.ensures.promises;
    }
