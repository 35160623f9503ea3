use Rattle.std.proofs.Common.{◌≡◌, ℕ, suc, ◌+◌, ◌-◌, take, drop, ap, ◌∙◌, arith}
use Rattle.bucketed_model.specs.Merging.{Group}
use Rattle.bucketed_store.specs.Private.Placing.{kept_height}
use Rattle.bucketed_store.specs.Private.StoreEdits.{group_height}
use Rattle.bucketed_store.proofs.merging.group_height.Goals as goal

pub returns : goal.returns
returns c =
    let many : c.group.inside.first + 1 + c.group.inside.others - c.group.inside.first ≡ suc c.group.inside.others = omega arith in
    c.total_height.ensures.value
    ∙ ap (λ (n : ℕ). kept_height (take n (drop c.group.inside.first c.args.shelves.now))) many
    ∙ ap (λ (group : Group). group_height group c.args.shelves.now) c.group.view_is
