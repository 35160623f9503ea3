use Rattle.std.proofs.Common.{◌^◌, ◌<◌, rules}
use Rattle.etagere_base.specs.Sides.{side}
use Rattle.etagere_run.proofs.RunAnswers.TwoRuns.{bucketed-runs-differ}
use Rattle.etagere_run.proofs.answers.laws.two_bucketed_runs_differ_in_ids.Goals as goal

pub returns : goal.returns
returns c =
    let short_width : side c.args.options.alignment.width < 2 ^ 31 = search rules in
    let short_height : side c.args.options.alignment.height < 2 ^ 31 = search rules in
    bucketed-runs-differ c.args.size c.args.options c.requires.accepted short_width short_height
