use Rattle.std.proofs.Common.{arith}
use Rattle.shelf_heights.proofs.ByHeight.UsedLists.{used-count, used-few, used-first}
use Rattle.shelf_heights.proofs.by_height.ShelvesByHeight.first_rarely_as_wide.Goals as goal

pub overflow_add-self-inside : goal.overflow_add-self-inside
overflow_add-self-inside c = omega (arith, used-few c.self.inside c.args.self.now c.self.invariant c.self.view_is c.args.from c.requires)

pub first_rarely_as_wide-requires : goal.first_rarely_as_wide-requires
first_rarely_as_wide-requires c = omega (arith, c.requires, used-count c.self.inside c.args.self.now c.self.invariant c.self.view_is)

pub returns-clause-first : goal.returns-clause-first
returns-clause-first c = used-first c.self.inside c.args.self.now c.self.invariant c.self.view_is c.args.from c.args.width c.in_ok-first.first c.in_ok-first.ensures.first
