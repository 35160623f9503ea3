use Rattle.std.proofs.Common.{ap, ◌∙◌}
use Rattle.shelf_heights.specs.Private.ListFields.{ListByHeight}
use Rattle.shelf_heights.specs.Private.OneBound.{all_bounded}
use Rattle.shelf_heights.proofs.by_height.ShelvesByHeight.set_bounds.Goals as goal

pub returns-clause-items : goal.returns-clause-items
returns-clause-items c = c.restart.ensures.items ∙ ap (λ (value : ListByHeight). all_bounded c.args.bound value.items) c.self.view_is
