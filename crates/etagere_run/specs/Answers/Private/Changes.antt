-- What a change makes of the slots of a table.
use Rattle.std.specs.Prelude.{List, [], ◌∷◌, ◌++◌, Option, None, slice_set}
use Rattle.etagere_base.specs.declared.ids.Allocation.{Allocation}
use Rattle.etagere_run.specs.declared.answers.table.Change.{Change}
use Rattle.etagere_run.specs.declared.answers.table.Change.TheVariants.{Adds, Empties}

abbrev pub changed : List (Option Allocation) → Change → List (Option Allocation)
changed slots (Adds given) = slots ++ given ∷ []
changed slots (Empties slot) = slice_set slots slot None
