use Rattle.std.proofs.Common.{ap, sym, ◌∙◌}
use Rattle.bucket_index.proofs.Searched.{drop-past}
use Rattle.bucketed_store.specs.Private.Placing.{kept_mergeable}
use Rattle.bucketed_store.proofs.BusyShelves.{mergeable-busy}
use Rattle.bucketed_store.proofs.merging.mergeable_shelves.Goals as goal

pub returns-then-first-shelves : goal.returns-then-first-shelves
returns-then-first-shelves c =
    let first = c.first_idle-first.result in
    ap (kept_mergeable c.args.sides first) (sym (drop-past first c.args.shelves.now c.if-first-shelves.true))
    ∙ mergeable-busy c.args.sides c.args.shelves.now first c.first_idle-first.ensures.busy

pub returns : goal.returns
returns c =
    c.mergeable_from.ensures ∙ mergeable-busy c.args.sides c.args.shelves.now c.first_idle-first.result c.first_idle-first.ensures.busy
