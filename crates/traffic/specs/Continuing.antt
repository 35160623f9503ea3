-- A run cut in two, and the positions that its second part has in the whole.
use Rattle.std.specs.Prelude.{◌≡◌, ◌↔◌, ℕ, zero, suc, ◌+◌, List, [], ◌∷◌, ◌++◌, length, ◌==◌, if◌then◌else◌}
use Rattle.etagere_base.specs.declared.ids.Allocation.{Allocation}
use Rattle.run_scripts.specs.declared.commands.AtlasCommand.{AtlasCommand}
use Rattle.run_scripts.specs.declared.commands.AtlasCommand.TheVariants.{Return, Look}
use Rattle.run_scripts.specs.declared.commands.Reply.{Reply}
use Rattle.etagere_run.specs.Answers.Live.{Entry, live_from}
use Rattle.etagere_run.specs.Answers.Runs.{Kind, Runs, effects}

-- a run of commands, and one of others that goes on from where it leads, with the ledger and the positions that it leaves
pub record RunsInTwo {S C : Type 0} (kind : Kind S C) (position : ℕ) (entries : List Entry) (old : S)
    (first rest : List C) (replies : List Reply) (new : S) : Type 0 where
  pub middle : S
  pub earlier : List Reply
  pub later : List Reply
  pub replies_are : replies ≡ earlier ++ later
  pub begins : Runs kind position entries old first earlier middle
  pub goes_on : Runs kind (position + length first) (live_from position entries (effects kind first earlier)) middle
      rest later new

-- a run of two lists of commands, one behind the other, is a run of the first that goes on by the second
abbrev pub IsCutAnywhere : {S C : Type 0} → Kind S C → Type 0
IsCutAnywhere {S} {C} kind =
    (position : ℕ) (entries : List Entry) (old : S) (first rest : List C) (replies : List Reply) (new : S)
    → Runs kind position entries old (first ++ rest) replies new
    ↔ RunsInTwo kind position entries old first rest replies new

-- a command that names another position, which depends on the one that it names
abbrev pub renumbered : (ℕ → ℕ) → AtlasCommand → AtlasCommand
renumbered new_position (Return position) = Return (new_position position)
renumbered new_position (Look position) = Look (new_position position)
renumbered new_position command = command

-- the position of the entry that has this id; 0 where there is none
abbrev pub position_under : ℕ → List Entry → ℕ
position_under id [] = 0
position_under id (entry ∷ entries) =
    if entry.allocation.id == id then entry.position else position_under id entries

-- The position in a whole run of what a run that goes on names by this one, where so many commands went before, and left
-- these entries live: what was live at first has the position of the command that was given it; the commands behind that
-- have theirs behind those before.
abbrev pub whole_position : ℕ → List Entry → List Allocation → ℕ → ℕ
whole_position before entries [] n = before + n
whole_position before entries (allocation ∷ live) zero = position_under allocation.id entries
whole_position before entries (allocation ∷ live) (suc n) = whole_position before entries live n
