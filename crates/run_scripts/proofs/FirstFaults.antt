-- Which fault of options it is that is told.
use Rattle.std.proofs.Common.{◌≡◌, Option, None, Some, ap, sym}
use Rattle.std.specs.Prelude.{MatchOption}
use Rattle.etagere_base.specs.declared.faults.OptionsFault.{OptionsFault}
use Rattle.etagere_base.specs.declared.faults.OptionsFault.TheVariants as faults

-- what is told of options and isn't memory is their first fault
pub first-fault : (first : Option OptionsFault) (fault : OptionsFault)
    → MatchOption first (fault ≡ faults.Memory) (λ other. fault ≡ other) → (fault ≡ faults.Memory → ⊥) → first ≡ Some fault
first-fault None fault is other = absurd (other is)
first-fault (Some one) fault is other = ap Some (sym is)
