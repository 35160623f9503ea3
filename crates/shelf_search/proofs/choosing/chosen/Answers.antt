use Rattle.std.proofs.Common.{None, Some, ap, sym, ◌∙◌}
use Rattle.shelf_search.proofs.Searched.SearchSteps.{best-within, chosen-found}
use Rattle.shelf_records.proofs.Spelled.StandsKept.{witnesses}
use Rattle.shelf_search.proofs.choosing.chosen.Goals as goal

pub placement_at-requires-clause-shelf : goal.placement_at-requires-clause-shelf
placement_at-requires-clause-shelf c =
    (best-within c.args.records.now c.args.sides.along c.args.height c.in_ok-candidate.candidate (witnesses c.requires.kept).linked (sym c.in_ok-candidate.ensures.value)).0

pub placement_at-requires-clause-item : goal.placement_at-requires-clause-item
placement_at-requires-clause-item c =
    (best-within c.args.records.now c.args.sides.along c.args.height c.in_ok-candidate.candidate (witnesses c.requires.kept).linked (sym c.in_ok-candidate.ensures.value)).1

pub returns-in_err-candidate-clause-value : goal.returns-in_err-candidate-clause-value
returns-in_err-candidate-clause-value c =
    c.from_residual.ensures
    ∙ chosen-found c.args.frame.now c.args.records.now c.args.sides c.args.height None c.requires.height c.in_err-candidate.ensures.value

pub returns-clause-value : goal.returns-clause-value
returns-clause-value c =
    ap Some c.placement_at.ensures
    ∙ chosen-found c.args.frame.now c.args.records.now c.args.sides c.args.height (Some c.in_ok-candidate.candidate) c.requires.height c.in_ok-candidate.ensures.value
