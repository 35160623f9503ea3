use Rattle.std.proofs.Common.{◌≡◌, ◌+◌, None, Some, option_map, nat_lt, ap, sym, ◌∙◌}
use Rattle.shelf_model.specs.State.{items_in_use}
use Rattle.shelf_records.specs.Private.Kept.{state_of}
use Rattle.shelf_search.specs.Private.Searching.{best_candidate, chosen_at, placement_at}
use Rattle.shelf_search.proofs.Searched.CountedStates.{none-lacks, some-lacks}
use Rattle.shelf_search.proofs.Searched.SearchSteps.{best-within}
use Rattle.shelf_search.proofs.asking.lacks_records.Goals as goal

pub returns-in_default : goal.returns-in_default
returns-in_default c frame kept counted tall =
    let records = c.args.records.now in
    let best : best_candidate records c.args.sides.along c.args.height ≡ None = sym c.first_of_least_rank.ensures ∙ c.in_default.is in
    sym (none-lacks frame records c.args.sides kept
    (ap (λ h. option_map (placement_at records c.args.sides.along h) (best_candidate records c.args.sides.along h)) (sym tall)
    ∙ ap (option_map (placement_at records c.args.sides.along c.args.height)) best))

pub placement_at-placement-requires-clause-shelf : goal.placement_at-placement-requires-clause-shelf
placement_at-placement-requires-clause-shelf c =
    (best-within c.args.records.now c.args.sides.along c.args.height c.in-Some.candidate c.requires.linked (sym c.first_of_least_rank.ensures ∙ c.in-Some.is)).0

pub placement_at-placement-requires-clause-item : goal.placement_at-placement-requires-clause-item
placement_at-placement-requires-clause-item c =
    (best-within c.args.records.now c.args.sides.along c.args.height c.in-Some.candidate c.requires.linked (sym c.first_of_least_rank.ensures ∙ c.in-Some.is)).1

pub returns : goal.returns
returns c frame kept counted tall =
    let records = c.args.records.now in
    let best : best_candidate records c.args.sides.along c.args.height ≡ Some c.in-Some.candidate = sym c.first_of_least_rank.ensures ∙ c.in-Some.is in
    let found : chosen_at frame records c.args.sides ≡ Some c.placement_at-placement.result =
    ap (λ h. option_map (placement_at records c.args.sides.along h) (best_candidate records c.args.sides.along h)) (sym tall)
    ∙ ap (option_map (placement_at records c.args.sides.along c.args.height)) best
    ∙ ap Some (sym c.placement_at-placement.ensures) in
    ap (λ n. nat_lt 65535 (n + c.splits.result)) counted
    ∙ ap (λ n. nat_lt 65535 (items_in_use (state_of frame records).shelves + n)) c.splits.ensures.value
    ∙ sym (some-lacks frame records c.args.sides c.placement_at-placement.result kept found)
