use Rattle.std.proofs.Common.{◌≡◌, ◌-◌}
use Rattle.bucketed_model.specs.Adding as spec
use Rattle.bucketed_model.proofs.adding.least_power_of_two.Given as goal

abbrev pub invariant-loop : goal.invariant-loop
invariant-loop l = spec.doubled (12 - l.counter) l.power l.number ≡ spec.doubled 12 1 l.number
