use Rattle.std.proofs.Common.{List, [], ap, rules, ◌∙◌}
use Rattle.bucketed_model.specs.Frames.{bucketed_frame}
use Rattle.bucketed_model.specs.State.{fresh}
use Rattle.etagere_run.specs.Answers.BucketedRuns.{bucketed_atlas}
use Rattle.etagere_run.specs.Answers.Live.{Entry}
use Rattle.traffic.specs.Refusals.{bucketed_told}
use Rattle.traffic.specs.Tallies.{asked_space, bucketed_asked}
use Rattle.traffic.proofs.Starting.{going-runs}
use Rattle.traffic.proofs.stats.bucketed_stats.Goals as goal

pub returns-clause-stats : goal.returns-clause-stats
returns-clause-stats c =
    let gone = c.in_ok-gone.gone in
    let answers = gone.answers in
    let commands = c.args.commands.now in
    record {
      last = gone.atlas;
      run = record {
        replies = answers.replies.items;
        run = going-runs bucketed_atlas bucketed_told 0 [] (fresh (bucketed_frame c.args.size c.args.options.now)) commands answers.replies.items answers.findings.items
            gone.atlas c.in_ok-gone.ensures.answers;
        counts = search rules;
        asked_is = c.asked_space.ensures ∙ ap (λ (l : List Entry). asked_space bucketed_asked l commands) c.in_ok-gone.ensures.live;
      };
      allocated = search rules;
      free = search rules;
      usage = search rules;
    }
