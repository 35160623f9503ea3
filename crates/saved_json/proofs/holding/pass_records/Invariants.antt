use Rattle.std.proofs.Common.{drop}
use Rattle.saved_json.proofs.PassedItems.{SpellsOn}
use Rattle.saved_json.proofs.holding.pass_records.Given as goal

abbrev pub invariant-loop-record : goal.invariant-loop-record
invariant-loop-record g l =
    SpellsOn g.R.Spelled.spells 125 l.initial.reader l.reader l.records (drop l.record-index l.records)
