-- What reading a script gives: what the definition says, unless memory ran out.
use Rattle.std.specs.Prelude.{◌≡◌, ℕ, Result, Ok, Err, ⊤}
use Rattle.run_scripts.specs.Script as meaning
use Rattle.run_scripts.specs.declared.script.Commands.{Commands}
use Rattle.run_scripts.specs.declared.script.Commands.TheVariants.{OfShelves, OfBuckets}
use Rattle.run_scripts.specs.declared.script.ScriptFault.{ScriptFault}
use Rattle.run_scripts.specs.declared.script.ScriptFault.TheVariants.{BadLine, Memory}

-- a fault is the one that the definition says, unless memory ran out
abbrev pub Fails : {A : Type 0} → ScriptFault → Result A ℕ → Type 0
Fails (BadLine number) meaning = meaning ≡ Err number
Fails Memory meaning = ⊤

-- what was read, as a view shows it, is what the definition says, unless memory ran out
abbrev pub Gives : {A B : Type 0} → (A → B) → Result A ScriptFault → Result B ℕ → Type 0
Gives view (Ok read) meaning = meaning ≡ Ok (view read)
Gives view (Err fault) meaning = Fails fault meaning

-- commands as lists
abbrev pub commands_in : Commands → meaning.Commands
commands_in (OfShelves commands) = meaning.OfShelves commands.items
commands_in (OfBuckets commands) = meaning.OfBuckets commands.items
