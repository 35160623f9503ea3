-- What was live before the first command, as entries.
use Rattle.std.specs.Prelude.{ℕ, ◌+◌, List, [], ◌∷◌}
use Rattle.etagere_base.specs.declared.ids.Allocation.{Allocation}
use Rattle.etagere_run.specs.Answers.Live.{Entry}

-- allocations as entries, the first of them at this position
abbrev pub entries_from : ℕ → List Allocation → List Entry
entries_from position [] = []
entries_from position (allocation ∷ allocations) =
    record { position = position; allocation = allocation } ∷ entries_from (position + 1) allocations
