use Rattle.etagere_run.proofs.RunAnswers.BucketedAnswers.{cleared}
use Rattle.etagere_run.specs.Answers.Private.Tables.{entries_of}
use Rattle.etagere_run.proofs.answers.bucketed_running.clear.Goals as goal

pub returns-clause-answer : goal.returns-clause-answer
returns-clause-answer c position =
    cleared position (entries_of c.args.ledger.now) (entries_of c.clear-2.new.self) c.args.atlas.now
    c.clear.new.self c.requires c.clear.ensures.cleared c.clear-2.ensures.empty
