use Rattle.std.proofs.Common.{◌^◌, ◌<◌, rules}
use Rattle.etagere_base.specs.Sides.{side}
use Rattle.etagere_run.proofs.RunAnswers.EveryRun.{every_bucketed_run}
use Rattle.etagere_run.proofs.answers.laws.every_bucketed_run_keeps_promises.Goals as goal

pub returns-clause-end : goal.returns-clause-end
returns-clause-end c commands replies last run =
    let short_width : side c.args.options.alignment.width < 2 ^ 31 = search rules in
    let short_height : side c.args.options.alignment.height < 2 ^ 31 = search rules in
    (every_bucketed_run c.args.size c.args.options c.requires short_width short_height commands replies last run).end

pub returns-clause-throughout : goal.returns-clause-throughout
returns-clause-throughout c commands replies last run =
    let short_width : side c.args.options.alignment.width < 2 ^ 31 = search rules in
    let short_height : side c.args.options.alignment.height < 2 ^ 31 = search rules in
    (every_bucketed_run c.args.size c.args.options c.requires short_width short_height commands replies last run).throughout
