use Rattle.std.proofs.Common.{◌≡◌, ◌≤◌, ℕ, arith, true}
use Rattle.std.proofs.lemmas.Bool.Decides.{nat_tests}
use Rattle.std.specs.Prelude.{nat_le}
use Rattle.shelf_store.proofs.ByHeight.SettledShelves.{for-width, none-waits}
use Rattle.shelf_store.proofs.settling.follows.Goals as goal

below : (a b : ℕ) → nat_le a b ≡ true → a ≤ b
below a b is = grind (arith, nat_tests)

pub returns-then-len-eq0 : goal.returns-then-len-eq0
returns-then-len-eq0 c is frame records by_height kept holds =
    for-width frame records c.args.pending.now.notes by_height kept holds
    (none-waits c.args.pending.now.notes c.len.ensures.tied (omega (arith, c.if-len-eq0.true, c.len.ensures.len)))
    c.args.width (omega (arith, below c.parked_below.result c.args.width is, c.parked_below.ensures.value))
