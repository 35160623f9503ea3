use Rattle.padding.proofs.PaddedCaches.PaddedAnswers.{not-removed}
use Rattle.padding.proofs.caches.runs.remove.Goals as goal

pub returns-in-None : goal.returns-in-None
returns-in-None c =
    record {
      answers = not-removed c.args.cache.now c.remove.new.self c.args.key c.in-None.ensures.value c.remove.ensures.removed;
      atlas = c.remove.ensures.promises.cache.atlas;
    }
