use Rattle.std.proofs.Common.{◌++◌, List, subst}
use Rattle.etagere_base.specs.declared.ids.Allocation.{Allocation}
use Rattle.shelf_model.specs.Callers.{AreTied}
use Rattle.shelf_model.specs.Places.{allocations}
use Rattle.shelf_model.specs.State.{AtlasState}
use Rattle.moves.specs.Atlases.Arranging.{moved_from}
use Rattle.moves.specs.declared.atlases.rearrangement.Move.{Move}
use Rattle.moves.specs.Caches.Private.Following.{Follows, IsMovedInto}
use Rattle.moves.proofs.MovedCaches.Done.{done-each, done-left, done-moved}
use Rattle.moves.proofs.caches.moving.rearranged_cache.Goals as goal

pub returns-in-Ok-clause-each : goal.returns-in-Ok-clause-each
returns-in-Ok-clause-each c =
    let old = c.args.cache.now in
    let moved = c.in_ok-moved.moved in
    let done = c.in-Ok.done in
    let into : IsMovedInto old.atlas moved.moves.items moved.unplaced.items moved.atlas =
    record {
      each = subst (λ (a : AtlasState). AreTied (moved_from moved.moves.items ++ moved.unplaced.items) (allocations a)) c.atlas.ensures c.in_ok-moved.ensures.each;
      whole = c.in_ok-moved.ensures.whole;
      promises = c.in_ok-moved.ensures.promises;
    } in
    let follows : Follows old moved.moves.items moved.unplaced.items moved.atlas done.moves.items done.unplaced.items done.cache =
    subst (λ (m : List Move). Follows old m moved.unplaced.items moved.atlas done.moves.items done.unplaced.items done.cache) c.deref.ensures.value
    (subst (λ (u : List Allocation). Follows old c.deref.result.now u moved.atlas done.moves.items done.unplaced.items done.cache) c.deref-2.ensures.value c.in-Ok.ensures) in
    done-each old moved.moves.items moved.unplaced.items moved.atlas follows.was into done.moves.items done.unplaced.items done.cache follows

pub returns-in-Ok-clause-moved : goal.returns-in-Ok-clause-moved
returns-in-Ok-clause-moved c =
    let old = c.args.cache.now in
    let moved = c.in_ok-moved.moved in
    let done = c.in-Ok.done in
    let into : IsMovedInto old.atlas moved.moves.items moved.unplaced.items moved.atlas =
    record {
      each = subst (λ (a : AtlasState). AreTied (moved_from moved.moves.items ++ moved.unplaced.items) (allocations a)) c.atlas.ensures c.in_ok-moved.ensures.each;
      whole = c.in_ok-moved.ensures.whole;
      promises = c.in_ok-moved.ensures.promises;
    } in
    let follows : Follows old moved.moves.items moved.unplaced.items moved.atlas done.moves.items done.unplaced.items done.cache =
    subst (λ (m : List Move). Follows old m moved.unplaced.items moved.atlas done.moves.items done.unplaced.items done.cache) c.deref.ensures.value
    (subst (λ (u : List Allocation). Follows old c.deref.result.now u moved.atlas done.moves.items done.unplaced.items done.cache) c.deref-2.ensures.value c.in-Ok.ensures) in
    done-moved old moved.moves.items moved.unplaced.items moved.atlas follows.was into done.moves.items done.unplaced.items done.cache follows c.in_ok-moved.ensures.room

pub returns-in-Ok-clause-left_out : goal.returns-in-Ok-clause-left_out
returns-in-Ok-clause-left_out c =
    let old = c.args.cache.now in
    let moved = c.in_ok-moved.moved in
    let done = c.in-Ok.done in
    let into : IsMovedInto old.atlas moved.moves.items moved.unplaced.items moved.atlas =
    record {
      each = subst (λ (a : AtlasState). AreTied (moved_from moved.moves.items ++ moved.unplaced.items) (allocations a)) c.atlas.ensures c.in_ok-moved.ensures.each;
      whole = c.in_ok-moved.ensures.whole;
      promises = c.in_ok-moved.ensures.promises;
    } in
    let follows : Follows old moved.moves.items moved.unplaced.items moved.atlas done.moves.items done.unplaced.items done.cache =
    subst (λ (m : List Move). Follows old m moved.unplaced.items moved.atlas done.moves.items done.unplaced.items done.cache) c.deref.ensures.value
    (subst (λ (u : List Allocation). Follows old c.deref.result.now u moved.atlas done.moves.items done.unplaced.items done.cache) c.deref-2.ensures.value c.in-Ok.ensures) in
    done-left old moved.moves.items moved.unplaced.items moved.atlas follows.was into done.moves.items done.unplaced.items done.cache follows
