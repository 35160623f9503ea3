use Rattle.std.proofs.Common.{◌≡◌, ℕ, subst, sym}
use Rattle.bucketed_store.specs.Private.Grows as spec
use Rattle.bucketed_store.proofs.Widening.NoneWidened.{left-of-none}
use Rattle.bucketed_store.proofs.growing.left_after.Goals as goal

pub returns-then-added-eq0 : goal.returns-then-added-eq0
returns-then-added-eq0 c = subst (λ (added : ℕ). c.args.left ≡ spec.left_after added c.args.left c.args.shelves.now) (sym c.if-added-eq0.true) (sym (left-of-none c.args.left c.args.shelves.now))
