use Rattle.std.proofs.Common.{rules}
use Rattle.etagere_run.proofs.RightAnswers.{right-answers}
use Rattle.etagere_run.proofs.checking.judge.Goals as goal

pub returns-in-Ok-clause-answer : goal.returns-in-Ok-clause-answer
returns-in-Ok-clause-answer c =
    right-answers c.judge_saved.result c.in-Ok.saved c.args.bytes.now (search rules) c.judge_saved.ensures.answer
