use Rattle.std.proofs.Common.{◌≡◌, None, rules}
use Rattle.shelf_model.specs.Growing.{grow_fault}
use Rattle.etagere_run.proofs.RunAnswers.AtlasAnswers.{grown}
use Rattle.etagere_run.proofs.answers.atlas_running.grow.Goals as goal

pub returns-in-Ok : goal.returns-in-Ok
returns-in-Ok c position entries tied =
    let fits : grow_fault c.args.atlas.now c.args.size ≡ None = search rules in
    grown position c.args.size entries c.args.atlas.now c.grow.new.self tied fits c.in-Ok.ensures.ok
    c.in-Ok.ensures.allocated c.in-Ok.ensures.promises
