-- What a writer has after a text was sent: all of it, or a beginning.
use Rattle.std.specs.Prelude.{ℕ, ◌<◌, ◌≤◌, List, Option, length, take}
use Rattle.std.specs.Io.KnownBytes.{Appends}

-- known bytes grow by a beginning of a text, which may be empty or whole
abbrev pub AppendsBeginning : Option (List ℕ) → Option (List ℕ) → List ℕ → Type 0
AppendsBeginning old new text = (sent : ℕ) × (sent ≤ length text) × Appends old new (take sent text)

-- known bytes grow by a beginning of a text that isn't all of it
abbrev pub AppendsPart : Option (List ℕ) → Option (List ℕ) → List ℕ → Type 0
AppendsPart old new text = (sent : ℕ) × (sent < length text) × Appends old new (take sent text)
