use Rattle.std.proofs.Common.{rules, arith, ◌∙◌, ◌+◌}
use Rattle.std.specs.Prelude.{pos}
use Rattle.std.proofs.Math.Seq.{take-suc}
use Rattle.std.proofs.lemmas.List.{drop-set-lt}
use Rattle.shelf_model.specs.Atlas.{Allocates}
use Rattle.etagere_shelves.specs.Plain.{allocation_in}
use Rattle.c_answers.specs.Crossing.{size_in}
use Rattle.c_answers.proofs.BatchSteps.{drop_on, gives_on}
use Rattle.c_answers.proofs.batches.allocate_each.Goals as goal

pub loop-i-preserved : goal.loop-i-preserved
loop-i-preserved c = (
  gives_on (λ before size allocation after. Allocates before (size_in size) (allocation_in allocation) after) c.args.atlas.now c.args.sizes.now c.loop-i.allocations c.loop-i.i c.loop-i.atlas _ c.allocate-status.new.allocation c.allocate-status.new.atlas
      (omega arith) (take-suc c.args.sizes.now c.loop-i.i (record { width = pos 0; height = pos 0 }) (omega arith)) c.loop-i.invariant.0 (search rules),
  drop-set-lt (c.loop-i.i + 1) c.loop-i.allocations c.loop-i.i c.allocate-status.new.allocation (omega arith) ∙ drop_on c.loop-i.i c.loop-i.allocations c.args.allocations.now c.loop-i.invariant.1,
  search rules,
)
