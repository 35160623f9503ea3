use Rattle.std.proofs.Common.{◌≡◌, [], rules, subst}
use Rattle.etagere_base.specs.declared.frames.Frame.{Frame}
use Rattle.etagere_run.specs.Answers.Runs.{RunKeepsPromisesThroughout, Runs}
use Rattle.etagere_run.proofs.answers.running.run_new.Goals as goal

pub returns-clause-last : goal.returns-clause-last
returns-clause-last g c =
    let kind = g.A.Answering.kind in
    let run = c.answer_all-replies in
    let is : kind.frame c.in_ok-atlas.atlas ≡ g.A.Beginning.framed c.args.size c.args.options.now = search rules in
    subst (λ (f : Frame). Runs kind 0 [] (kind.fresh f) c.args.commands.now run.result.items run.new.atlas) is run.ensures.last

pub returns-clause-promises : goal.returns-clause-promises
returns-clause-promises g c =
    let kind = g.A.Answering.kind in
    let run = c.answer_all-replies in
    let is : kind.frame c.in_ok-atlas.atlas ≡ g.A.Beginning.framed c.args.size c.args.options.now = search rules in
    subst (λ (f : Frame). RunKeepsPromisesThroughout kind f c.args.commands.now run.result.items) is run.ensures.promises
