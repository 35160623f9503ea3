-- Keys that are among some.
use Rattle.std.specs.Prelude.{Bool, List}
use Rattle.std.specs.List.{list_any}

-- a key is among some keys
abbrev pub is_one_of : {K : Type 0} → (K → K → Bool) → List K → K → Bool
is_one_of eq some key = list_any (λ one. eq one key) some
