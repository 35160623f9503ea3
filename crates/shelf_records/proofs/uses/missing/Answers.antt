use Rattle.std.proofs.Common.{◌+◌, ◌-◌, ◌∙◌, sym, arith}
use Rattle.shelf_records.proofs.MadeRecords.{missing-next, missing-none}
use Rattle.shelf_records.proofs.uses.missing.Goals as goal

pub loop-used-preserved : goal.loop-used-preserved
loop-used-preserved g c =
    missing-next g.T.Linked.family (c.args.wanted - c.loop-used.used) (c.args.wanted - (c.loop-used.used + 1)) c.in-Some.number c.loop-used.at c.next_of-at.result c.args.records.now
    (omega (arith, c.loop-used-test.true)) (sym c.number.ensures.value ∙ c.in-Some.is) c.next_of-at.ensures
    ∙ c.loop-used.invariant

pub returns-in_default-clause-value : goal.returns-in_default-clause-value
returns-in_default-clause-value g c =
    sym (missing-none g.T.Linked.family (c.args.wanted - c.loop-used.used) c.loop-used.at c.args.records.now (sym c.number.ensures.value ∙ c.in_default.is))
    ∙ c.loop-used.invariant
