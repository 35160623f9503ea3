-- A power of two that is doubled until it is large enough is the least one.
use Rattle.std.proofs.Common.{◌≡◌, ℕ, zero, suc, ◌+◌, ◌^◌, ◌<◌, ◌≤◌, Bool, true, false, cond, arith, refl, subst}
use Rattle.std.proofs.Math.Nat.{pow-le-pow_right, two-pow-succ}
use Rattle.std.proofs.lemmas.Nat.{pow_pos}
use Rattle.std.specs.Prelude.{nat_le}
use Rattle.bucketed_model.specs.Adding.{doubled, least_power_of_two}
use Rattle.bucketed_model.specs.Laws.{IsLeastPower}

-- what a power does not reach, only a later power does
next-power : (exponent other number : ℕ) → 2 ^ exponent < number → number ≤ 2 ^ other → 2 ^ suc exponent ≤ 2 ^ other
next-power exponent other number low within = pow-le-pow_right (omega arith) (by_order (nat_le other exponent) refl)
  where
    by_order : (b : Bool) → nat_le other exponent ≡ b → suc exponent ≤ other
    by_order false e = grind arith
    by_order true e =
        let most : 2 ^ other ≤ 2 ^ exponent = pow-le-pow_right (omega arith) (grind arith) in
        omega (arith, low, within, most)

-- so many doublings reach it, from a power on that no power which is large enough is below
least-from : (steps exponent number : ℕ) → number ≤ 2 ^ (steps + exponent) → ((other : ℕ) → number ≤ 2 ^ other → 2 ^ exponent ≤ 2 ^ other)
    → IsLeastPower number (doubled steps (2 ^ exponent) number)
least-from zero exponent number within least =
    let same : zero + exponent ≡ exponent = omega arith in
    let enough : number ≤ 2 ^ exponent = subst (λ (power : ℕ). number ≤ 2 ^ power) same within in
    record { exponent = exponent; is_power = refl; enough = enough; least = least }
least-from (suc steps) exponent number within least =
    let same : suc steps + exponent ≡ steps + suc exponent = omega arith in
    let further : number ≤ 2 ^ (steps + suc exponent) = subst (λ (power : ℕ). number ≤ 2 ^ power) same within in
    by_test (nat_le number (2 ^ exponent)) refl
    (λ low. least-from steps (suc exponent) number further (λ other enough. next-power exponent other number low enough))
  where
    by_test : (b : Bool) → nat_le number (2 ^ exponent) ≡ b
        → (2 ^ exponent < number → IsLeastPower number (doubled steps (2 ^ suc exponent) number))
        → IsLeastPower number (cond b (2 ^ exponent) (doubled steps (2 ^ exponent + 2 ^ exponent) number))
    by_test true e further =
        record { exponent = exponent; is_power = refl; enough = grind arith; least = least }
    by_test false e further =
        subst (λ (power : ℕ). IsLeastPower number (doubled steps power number)) (two-pow-succ exponent)
        (further (grind arith))

-- up to 4096
pub least-power : (number : ℕ) → number ≤ 4096 → IsLeastPower number (least_power_of_two number)
least-power number within =
    least-from 12 0 number within (λ other enough. pow_pos other)
