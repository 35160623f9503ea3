use Rattle.std.proofs.Common.{◌≡◌, List, Option, None, Some, length, refl, ap, sym, ◌∙◌, arith}
use Rattle.bucketed_records.specs.declared.records.KeptShelf.{KeptShelf}
use Rattle.bucketed_model.specs.Merging.{Group}
use Rattle.bucketed_model.specs.Picking.{or_else}
use Rattle.bucket_index.proofs.Searched.{drop-past}
use Rattle.bucketed_store.specs.Private.Placing.{kept_mergeable}
use Rattle.bucketed_store.proofs.merging.mergeable_from.Goals as goal

-- nothing is found behind all
or-none : (found : Option Group) → or_else found None ≡ found
or-none None = refl
or-none (Some found) = refl

pub returns : goal.returns
returns c =
    let sides = c.args.sides.now in
    let shelves = c.args.shelves.now in
    sym (or-none c.mergeable_between.result)
    ∙ ap (λ (xs : List KeptShelf). or_else c.mergeable_between.result (kept_mergeable sides (length shelves) xs)) (sym (drop-past (length shelves) shelves (omega arith)))
    ∙ c.mergeable_between.ensures
