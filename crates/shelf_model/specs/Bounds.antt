-- How many records an atlas may come to have.
use Rattle.std.specs.Prelude.{ℕ, ◌+◌, ◌*◌}

-- an atlas of so many columns has at most this many records where never more was allocated at once
abbrev pub record_bound : ℕ → ℕ → ℕ
record_bound peak columns = 4 * peak + columns
