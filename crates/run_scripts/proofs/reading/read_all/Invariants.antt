use Rattle.std.specs.Io.KnownBytes.{Consumes}
use Rattle.run_scripts.proofs.reading.read_all.Given as goal

-- what was gathered is what the reader gave
abbrev pub invariant-loop : goal.invariant-loop
invariant-loop g l = Consumes (g.R.Read.remaining l.fn.reader) (g.R.Read.remaining l.reader) l.input.items
