use Rattle.shelf_model.proofs.Grown.GrownFrames.{grow-fits}
use Rattle.shelf_model.proofs.Grown.GrownValid.{grown-space, items-grown}
use Rattle.shelf_model.proofs.model_laws.a_grow_keeps_the_allocated_space.Goals as goal

pub returns-clause-space : goal.returns-clause-space
returns-clause-space c = λ state size valid none. grown-space state size valid (grow-fits state size none)

pub returns-clause-uses : goal.returns-clause-uses
returns-clause-uses c = λ state size valid none. items-grown state size valid (grow-fits state size none)
