-- The ids of what commands were given.
use Rattle.std.specs.Prelude.{ℕ, List, Option, map, option_map}
use Rattle.etagere_base.specs.declared.ids.Allocation.{Allocation}

-- the id of what a command was given, if it was given something
abbrev pub id_in : Option Allocation → Option ℕ
id_in given = option_map (λ allocation. allocation.id) given

-- those of what each was given
abbrev pub ids_in : List (Option Allocation) → List (Option ℕ)
ids_in slots = map id_in slots
