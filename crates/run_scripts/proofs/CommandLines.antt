-- The commands of a script, read line by line behind those that were read before.
use Rattle.std.proofs.Common.{ℕ, List, ◌++◌, Option, Result, Ok, Err}
use Rattle.run_scripts.specs.Lines.{lines_of, filled_from}
use Rattle.run_scripts.specs.Script.{commands_of}

-- commands, and then those of a reading
abbrev pub behind : {C : Type 0} → List C → Result (List C) ℕ → Result (List C) ℕ
behind front (Ok commands) = Ok (front ++ commands)
behind front (Err number) = Err number

-- what bytes from this line on add to the commands before, by what words stand for
abbrev pub commands_behind : {C : Type 0} → (List (List ℕ) → Option C) → List C → ℕ → List ℕ → Result (List C) ℕ
commands_behind meaning front number bytes = behind front (commands_of meaning (filled_from number (lines_of bytes)))
