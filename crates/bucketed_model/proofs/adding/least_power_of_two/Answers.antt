use Rattle.std.proofs.Common.{◌≡◌, ℕ, suc, ◌+◌, ◌-◌, ◌<◌, ◌∙◌, sym, ap, arith, refl}
use Rattle.std.specs.Prelude.{nat_le, false}
use Rattle.bucketed_model.specs.Adding.{doubled}
use Rattle.bucketed_model.proofs.adding.least_power_of_two.Goals as goal

-- a power that is too least is doubled
doubled-least : (steps power n : ℕ) → power < n → doubled (suc steps) power n ≡ doubled steps (power + power) n
doubled-least steps power n h =
    let least : nat_le n power ≡ false = grind arith in
    rw least refl

-- with one step less
doubled-next : (k power n : ℕ) → k < 12 → power < n → doubled (12 - (k + 1)) (power + power) n ≡ doubled (12 - k) power n
doubled-next k power n h least =
    let steps : 12 - k ≡ suc (12 - (k + 1)) = omega arith in
    sym (ap (λ (s : ℕ). doubled s power n) steps ∙ doubled-least (12 - (k + 1)) power n least)

pub loop-preserved : goal.loop-preserved
loop-preserved c =
    doubled-next c.loop.counter c.loop.power c.args.number (omega arith) (omega arith) ∙ c.loop.invariant
