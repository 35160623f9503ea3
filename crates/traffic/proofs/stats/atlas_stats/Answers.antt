use Rattle.std.proofs.Common.{List, [], ap, rules, ◌∙◌}
use Rattle.etagere_base.specs.Frames.{atlas_frame}
use Rattle.shelf_model.specs.Fresh.{fresh}
use Rattle.etagere_run.specs.Answers.AtlasRuns.{shelf_atlas}
use Rattle.etagere_run.specs.Answers.Live.{Entry}
use Rattle.traffic.specs.Refusals.{atlas_told}
use Rattle.traffic.specs.Tallies.{asked_space, atlas_asked}
use Rattle.traffic.proofs.Starting.{going-runs}
use Rattle.traffic.proofs.stats.atlas_stats.Goals as goal

pub returns-clause-stats : goal.returns-clause-stats
returns-clause-stats c =
    let gone = c.in_ok-gone.gone in
    let answers = gone.answers in
    let commands = c.args.commands.now in
    record {
      last = gone.atlas;
      run = record {
        replies = answers.replies.items;
        run = going-runs shelf_atlas atlas_told 0 [] (fresh (atlas_frame c.args.size c.args.options.now)) commands answers.replies.items answers.findings.items
            gone.atlas c.in_ok-gone.ensures.answers;
        counts = search rules;
        asked_is = c.asked_space.ensures ∙ ap (λ (l : List Entry). asked_space atlas_asked l commands) c.in_ok-gone.ensures.live;
      };
      allocated = search rules;
      free = search rules;
      usage = search rules;
    }

pub returns-clause-accepted : goal.returns-clause-accepted
returns-clause-accepted c = search rules
