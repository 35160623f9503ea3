use Rattle.std.proofs.Common.{◌≡◌, List, ap, rules, subst, sym, ◌∙◌}
use Rattle.std.specs.Prelude.{vec_len}
use Rattle.etagere_run.specs.Answers.Live.{Entry}
use Rattle.etagere_run.specs.Answers.Private.Tables.{entries_of}
use Rattle.etagere_run.specs.Answers.Private.Tied.{IsNew}
use Rattle.traffic.proofs.Starting.{starting, starting-live}
use Rattle.traffic.proofs.going_on.go_on_new.Goals as goal

pub go_on-requires-clause-tied : goal.go_on-requires-clause-tied
go_on-requires-clause-tied g c =
    let new : IsNew g.A.Answering.kind g.A.Answering.Tied c.in_ok-atlas.atlas = search rules in
    subst (λ (l : List Entry). g.A.Answering.Tied l c.in_ok-atlas.atlas) (sym c.in-Ok.ensures.empty) new.tied

pub returns-clause-answers : goal.returns-clause-answers
returns-clause-answers g c =
    let kind = g.A.Answering.kind in
    let frame = g.A.Beginning.framed c.args.size c.args.options.now in
    let new : IsNew kind g.A.Answering.Tied c.in_ok-atlas.atlas = search rules in
    let framed : kind.frame c.in_ok-atlas.atlas ≡ frame = search rules in
    let answers = c.in-Ok-go_on.answers in
    starting kind g.A.Explaining.told frame (vec_len c.in-Ok.ledger.slots) (entries_of c.in-Ok.ledger) c.in_ok-atlas.atlas
    c.args.commands.now answers.replies.items answers.findings.items c.go_on.new.atlas
    c.in-Ok.ensures.length c.in-Ok.ensures.empty (new.fresh ∙ ap kind.fresh framed) c.in-Ok-go_on.ensures.answers

pub returns-clause-live : goal.returns-clause-live
returns-clause-live g c =
    starting-live g.A.Answering.kind (vec_len c.in-Ok.ledger.slots) (entries_of c.in-Ok.ledger) (entries_of c.go_on.new.ledger)
    c.args.commands.now c.in-Ok-go_on.answers.replies.items c.in-Ok.ensures.length c.in-Ok.ensures.empty c.in-Ok-go_on.ensures.live
