use Rattle.std.proofs.Common.{◌∙◌, arith, subst, sym}
use Rattle.std.specs.Prelude.{codes}
use Rattle.json.specs.Value.{value_view}
use Rattle.saved_json.specs.Snapshots.{IsSaved}
use Rattle.saved_json.proofs.OnlyMember.{only-member}
use Rattle.saved_json.proofs.reading.is_saved.Goals as goal

pub returns-then-eq : goal.returns-then-eq
returns-then-eq c = λ yes.
    let only = only-member c.args.json.now c.in-Object.members c.as_slice.result.now (codes "atlas")
    c.index-name-0.result c.index-value-0.result c.in-Object.is c.as_slice.ensures.value (omega arith)
    (sym c.eq.ensures ∙ c.if-eq.true) in
    subst (IsSaved (value_view c.args.json.now)) (sym c.in-Atlas.is) (_, only, c.is_spelled_by.ensures yes)

pub returns-then-eq-2 : goal.returns-then-eq-2
returns-then-eq-2 c = λ yes.
    let only = only-member c.args.json.now c.in-Object.members c.as_slice.result.now (codes "bucketed")
    c.index-name-0.result c.index-value-0.result c.in-Object.is c.as_slice.ensures.value (omega arith)
    (sym c.eq-in-Bucketed.ensures ∙ c.if-eq-2.true) in
    subst (IsSaved (value_view c.args.json.now)) (sym c.in-Bucketed.is)
    (_, only, c.is_spelled_by-then-eq-2.ensures yes)
