use Rattle.padding.proofs.PaddedCaches.PaddedAnswers.{not-used}
use Rattle.padding.proofs.caches.runs.get.Goals as goal

pub returns-in-None : goal.returns-in-None
returns-in-None c =
    record {
      answers = not-used c.args.cache.now c.get.new.self c.args.key c.in-None.ensures.value c.get.ensures.used;
      atlas = c.get.ensures.promises.cache.atlas;
    }
