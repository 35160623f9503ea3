-- How the table of a ledger is read: the slots of commands one after another, as the entries that
-- are live.
use Rattle.std.specs.Prelude.{◌≡◌, ℕ, ◌+◌, Option, None, Some, List, [], ◌∷◌, drop, vec_capacity, vec_len}
use Rattle.etagere_base.specs.declared.ids.Allocation.{Allocation}
use Rattle.etagere_run.specs.declared.answers.ledger.Ledger.{Ledger}
use Rattle.etagere_run.specs.Answers.Live.{Entry}

-- the entries of slots, the first of which is of this position
abbrev pub entries_from : ℕ → List (Option Allocation) → List Entry
entries_from position [] = []
entries_from position (None ∷ slots) = entries_from (position + 1) slots
entries_from position (Some allocation ∷ slots) =
    record { position = position; allocation = allocation } ∷ entries_from (position + 1) slots

-- the entries of a table of which the slots before a floor don't count
abbrev pub entries_above : ℕ → List (Option Allocation) → List Entry
entries_above floor slots = entries_from floor (drop floor slots)

-- what a ledger says is live
abbrev pub entries_of : Ledger → List Entry
entries_of ledger = entries_above ledger.floor ledger.table.slots

-- a ledger has as many slots as another, and as much room for them
pub record HasSlotsOf (old new : Ledger) : Type 0 where
  pub length : vec_len new.slots ≡ vec_len old.slots
  pub room : vec_capacity new.slots ≡ vec_capacity old.slots
