use Rattle.std.proofs.Common.{List, ap, sym, subst, ◌∙◌}
use Rattle.std.specs.List.{AllByRecursion}
use Rattle.etagere_base.specs.Frames.{atlas_frame}
use Rattle.etagere_base.specs.declared.ids.Allocation.{Allocation}
use Rattle.shelf_model.specs.Places.{allocations}
use Rattle.moves.proofs.MovedAtlases.Asking.{tied-permuted, tied-sides}
use Rattle.moves.proofs.MovedAtlases.Done.{IsDone, arranged-done}
use Rattle.moves.specs.Atlases.Arranging.{Arranges}
use Rattle.moves.specs.Atlases.Options.{options_of}
use Rattle.moves.specs.Atlases.Private.Sides.{HasSides}
use Rattle.moves.proofs.atlases.moving.rearranged.Goals as goal

pub allocate_each-requires : goal.allocate_each-requires
allocate_each-requires c =
    let all = allocations c.args.atlas.now in
    subst (AllByRecursion HasSides) (sym c.deref.ensures.value)
    (tied-sides c.args.atlas.now c.in-Ok.asked.items c.iter-allocated.ensures.promises
    (tied-permuted c.iter-allocated.result c.in-Ok.asked.items all c.iter-allocated.ensures.each c.in-Ok.ensures.same))

-- all clauses
done : (c : goal.After-drop-asked)
    → IsDone c.args.atlas.now c.args.size c.in-Ok-allocate_each.done.moves.items c.in-Ok-allocate_each.done.unplaced.items c.in-Ok-allocate_each.done.atlas
done c =
    let done = c.in-Ok-allocate_each.done in
    arranged-done c.args.atlas.now c.args.size c.options_of-options.result c.in_ok-new.new done.atlas
    c.iter-allocated.result c.in-Ok.asked.items done.unplaced.items done.moves.items
    c.iter-allocated.ensures.promises (c.options_of-options.ensures.value ∙ ap options_of c.frame.ensures)
    c.in_ok-new.ensures.ok c.in_ok-new.ensures.promises
    c.iter-allocated.ensures.each c.in-Ok.ensures.same c.in-Ok.ensures.ordered
    (subst (λ (asked : List Allocation). Arranges c.in_ok-new.new asked done.moves.items done.unplaced.items done.atlas)
    c.deref.ensures.value c.in-Ok-allocate_each.ensures)

pub returns-in-Ok-allocate_each-clause-rearranged : goal.returns-in-Ok-allocate_each-clause-rearranged
returns-in-Ok-allocate_each-clause-rearranged c = (done c).rearranged

pub returns-in-Ok-allocate_each-clause-each : goal.returns-in-Ok-allocate_each-clause-each
returns-in-Ok-allocate_each-clause-each c = (done c).each

pub returns-in-Ok-allocate_each-clause-once : goal.returns-in-Ok-allocate_each-clause-once
returns-in-Ok-allocate_each-clause-once c = (done c).once

pub returns-in-Ok-allocate_each-clause-whole : goal.returns-in-Ok-allocate_each-clause-whole
returns-in-Ok-allocate_each-clause-whole c = (done c).whole

pub returns-in-Ok-allocate_each-clause-inside : goal.returns-in-Ok-allocate_each-clause-inside
returns-in-Ok-allocate_each-clause-inside c = (done c).inside

pub returns-in-Ok-allocate_each-clause-apart : goal.returns-in-Ok-allocate_each-clause-apart
returns-in-Ok-allocate_each-clause-apart c = (done c).apart

pub returns-in-Ok-allocate_each-clause-room : goal.returns-in-Ok-allocate_each-clause-room
returns-in-Ok-allocate_each-clause-room c = (done c).room

pub returns-in-Ok-allocate_each-clause-frame : goal.returns-in-Ok-allocate_each-clause-frame
returns-in-Ok-allocate_each-clause-frame c = (done c).frame

pub returns-in-Ok-allocate_each-clause-same_frame : goal.returns-in-Ok-allocate_each-clause-same_frame
returns-in-Ok-allocate_each-clause-same_frame c = λ options accepted same.
    (done c).frame
    ∙ ap (atlas_frame c.args.size) (sym (c.options_of-options.ensures.value ∙ ap options_of c.frame.ensures))
    ∙ c.options_of-options.ensures.again c.args.size options accepted (c.frame.ensures ∙ same)
    ∙ c.frame.ensures

pub returns-in-Ok-allocate_each-clause-promises : goal.returns-in-Ok-allocate_each-clause-promises
returns-in-Ok-allocate_each-clause-promises c = (done c).kept
