use Rattle.std.proofs.Common.{[], ◌∷◌, ◌++◌, sym, subst}
use Rattle.etagere_base.specs.declared.geometry.Size.{Size}
use Rattle.shelf_model.specs.Atlas.{Allocates}
use Rattle.shelf_model.specs.Choice.{IsRefused}
use Rattle.shelf_model.specs.State.{AtlasState}
use Rattle.moves.specs.Atlases.Arranging.{Arranges, moved, refused}
use Rattle.moves.proofs.atlases.rearrangement.allocate_next.Goals as goal

pub returns-in_ok-push-in-Some : goal.returns-in_ok-push-in-Some
returns-in_ok-push-in-Some c = λ start asked so_far.
    let placed = rw c.in-Some.is at c.in_ok-after.ensures.placed in
    rw c.in_ok-push-in-Some.ensures.items
    (moved c.args.before so_far
    (subst (λ (size : Size). Allocates c.args.done.now.atlas size c.in-Some.after c.allocate.new.self) c.size.ensures placed)
    c.allocate.ensures.promises.valid)

pub returns-in_ok-push-in-None : goal.returns-in_ok-push-in-None
returns-in_ok-push-in-None c = λ start asked so_far.
    let has_none = rw c.in-None.is at c.in_ok-after.ensures.refused in
    let stays = rw c.in-None.is at c.in_ok-after.ensures.none in
    let before = c.args.before in
    let done = c.args.done.now in
    rw c.in_ok-push-in-None.ensures.items
    (subst (λ (state : AtlasState). Arranges start (asked ++ before ∷ []) done.moves.items (done.unplaced.items ++ before ∷ []) state) (sym stays)
    (refused before so_far (subst (λ (size : Size). IsRefused done.atlas size) c.size.ensures has_none)))
