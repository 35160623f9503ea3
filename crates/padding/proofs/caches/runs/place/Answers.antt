use Rattle.padding.proofs.PaddedCaches.PaddedAnswers.{ok-not_err, reason-is, was-placed, was-refused}
use Rattle.padding.specs.Padding.{padded}
use Rattle.padding.proofs.caches.runs.place.Goals as goal

pub returns-in-Ok : goal.returns-in-Ok
returns-in-Ok c =
    record {
      answers = was-placed c.args.cache.now c.place.new.self c.args.key c.args.size c.in-Ok.placed c.in-Ok.ensures.found c.in-Ok.ensures.placed
          c.in-Ok.ensures.large (λ is. ok-not_err c.in-Ok.placed _ (c.in-Ok.ensures.too_large.1 is)) c.in-Ok.ensures.spared;
      atlas = c.place.ensures.promises.cache.atlas;
    }

pub returns-in-Err : goal.returns-in-Err
returns-in-Err c =
    let is_new = was-refused c.args.cache.now c.args.key _ (λ r is. is.0) c.in-Err.ensures.found in
    record {
      answers = record {
        is_new = is_new;
        reason = reason-is c.args.cache.now.cache c.args.key (padded c.args.cache.now.padding c.args.size) c.in-Err.fault is_new c.in-Err.ensures.too_large c.in-Err.ensures.frame_full;
        left = c.in-Err.ensures.left;
        spared = c.in-Err.ensures.spared_left;
        padding = c.place.ensures.padding;
      };
      atlas = c.place.ensures.promises.cache.atlas;
    }
