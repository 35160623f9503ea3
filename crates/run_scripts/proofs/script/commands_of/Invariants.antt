use Rattle.std.proofs.Common.{◌≡◌, length, ◌+◌, ◌≤◌, []}
use Rattle.run_scripts.specs.Words.{command_of}
use Rattle.run_scripts.proofs.CommandLines.{commands_behind}
use Rattle.run_scripts.proofs.script.commands_of.Given as goal

-- the lines that are left, behind the commands so far, stand for what all of them do
abbrev pub invariant-loop-rest : goal.invariant-loop-rest
invariant-loop-rest g l =
    let meaning = command_of g.C.LetteredCommand.cleared g.C.LetteredCommand.meaning in
    (l.number + length l.rest ≤ l.before + length l.bytes)
    × (commands_behind meaning l.commands.items (l.number + 1) l.rest ≡ commands_behind meaning [] (l.before + 1) l.bytes)

abbrev pub decreases-loop-rest : goal.decreases-loop-rest
decreases-loop-rest g l = length l.rest
