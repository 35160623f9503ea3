use Rattle.std.proofs.Common.{ℕ, Some, ap, sym, ◌∙◌}
use Rattle.etagere_links.specs.Edits.{changed_by}
use Rattle.bucketed_store.specs.Private.StoreEdits.{given_from}
use Rattle.bucketed_store.proofs.RoomsKept.{is-there}
use Rattle.bucketed_store.proofs.store.give_from.Goals as goal

pub returns-in-Some-clause-shelves : goal.returns-in-Some-clause-shelves
returns-in-Some-clause-shelves c =
    c.count_given-in-Some.ensures
    ∙ ap (λ (room : ℕ). changed_by (Some c.args.found.now.shelf) (given_from room) c.args.shelves.now) c.in-Some.ensures

pub returns-then-is_only-clause-shelves : goal.returns-then-is_only-clause-shelves
returns-then-is_only-clause-shelves c =
    let buckets = c.args.buckets.now in
    let one = is-there c.args.found.now.bucket buckets c.requires.bucket in
    let widest = c.is_only.ensures c.if-is_only.true one.bucket one.at in
    c.count_given.ensures
    ∙ ap (λ (room : ℕ). changed_by (Some c.args.found.now.shelf) (given_from room) c.args.shelves.now) (c.room_of.ensures one.bucket one.at ∙ sym widest)
