-- Laws of replays and drawings: what an input decides.
use Rattle.std.specs.Prelude.{◌≡◌, ℕ, All, List, map}
use Rattle.etagere_run.specs.Drawing.{IsDrawingOf}
use Rattle.etagere_run.specs.Replaying.{IsRunOf}
use Rattle.etagere_run.specs.Answers.Laws.{without_number}
use Rattle.etagere_run.specs.Answers.Leading.{HasMemory}

-- what two replays of an input answer, neither refused memory, is the same but for the numbers of ids
abbrev pub ReplaysDifferInIds : Type 0
ReplaysDifferInIds =
    (input text other : List ℕ) (one : IsRunOf input text) (another : IsRunOf input other)
    → All HasMemory one.replies → All HasMemory another.replies
    → map without_number one.replies ≡ map without_number another.replies

-- two drawings of a script are the same
abbrev pub DrawingsAreTheSame : Type 0
DrawingsAreTheSame =
    (input text other : List ℕ) → IsDrawingOf input text → IsDrawingOf input other → text ≡ other
