use Rattle.glyph_map.proofs.MapAnswers.{was-placed}
use Rattle.glyph_map.proofs.runs.place.Goals as goal

pub returns-in-Ok : goal.returns-in-Ok
returns-in-Ok g c =
    record {
      answers = was-placed g.K.PartialEq.eq c.args.map.now c.place.new.self c.args.key c.args.value c.args.size c.in-Ok.placed
          c.in-Ok.ensures.found c.in-Ok.ensures.placed c.in-Ok.ensures.large c.in-Ok.ensures.too_large.1 c.in-Ok.ensures.spared;
      promises = c.place.ensures.promises;
    }
