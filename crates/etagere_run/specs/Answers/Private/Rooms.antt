-- What room a run takes before it begins.
use Rattle.std.specs.Prelude.{◌≡◌, ℕ, ◌≤◌, [], vec_capacity, vec_len}
use Rattle.etagere_run.specs.declared.answers.ledger.Ledger.{Ledger}
use Rattle.etagere_run.specs.declared.answers.running.Room.{Room}
use Rattle.etagere_run.specs.Answers.Private.Tables.{entries_of}

-- a ledger with room for so many commands of which none was answered
pub record IsEmptyLedger (count : ℕ) (ledger : Ledger) : Type 0 where
  pub entries : entries_of ledger ≡ []
  pub length : vec_len ledger.slots ≡ 0
  pub room : count ≤ vec_capacity ledger.slots

-- room for so many commands of which none was answered
pub record IsEmptyRoom (count : ℕ) (room : Room) : Type 0 where
  pub replies : room.replies.items ≡ []
  pub replies_length : vec_len room.replies ≡ 0
  pub replies_room : count ≤ vec_capacity room.replies
  pub ledger : IsEmptyLedger count room.ledger
