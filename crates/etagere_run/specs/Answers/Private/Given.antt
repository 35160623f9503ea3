-- What a reply gives to its command.
use Rattle.std.specs.Prelude.{ℕ, Option, None, Some, List, [], ◌∷◌, ◌++◌}
use Rattle.etagere_base.specs.declared.ids.Allocation.{Allocation}
use Rattle.run_scripts.specs.declared.commands.Reply.{Reply}
use Rattle.run_scripts.specs.declared.commands.Reply.TheVariants.{Placed}
use Rattle.etagere_run.specs.Answers.Live.{Entry}

-- the allocation that a reply gives
abbrev pub given_by : Reply → Option Allocation
given_by (Placed allocation) = Some allocation
given_by reply = None

-- the entries with what the command at a position was given
abbrev pub with_entry : ℕ → Option Allocation → List Entry → List Entry
with_entry position None entries = entries
with_entry position (Some allocation) entries =
    entries ++ record { position = position; allocation = allocation } ∷ []

-- the entries with what the reply to the command at a position gives
abbrev pub with_given : ℕ → Reply → List Entry → List Entry
with_given position reply entries = with_entry position (given_by reply) entries
