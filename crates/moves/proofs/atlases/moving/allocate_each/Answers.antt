use Rattle.std.proofs.Common.{◌∷◌, ◌++◌, [], List, Some, take, ap, sym, subst, ◌∙◌}
use Rattle.std.proofs.lemmas.List.{take_all, take_more}
use Rattle.std.proofs.lemmas.Option.{slice_get-get_or}
use Rattle.etagere_base.proofs.EachLemmas.{Each-get}
use Rattle.etagere_base.specs.declared.ids.Allocation.{Allocation}
use Rattle.moves.specs.Atlases.Arranging.{Arranges, nothing}
use Rattle.moves.specs.Atlases.Private.Sides.{HasSides}
use Rattle.moves.specs.declared.atlases.rearrangement.Move.{Move}
use Rattle.moves.proofs.atlases.moving.allocate_each.Goals as goal

pub loop-before-init : goal.loop-before-init
loop-before-init c =
    subst (λ (moves : List Move). Arranges c.args.atlas [] moves c.new.result.items c.args.atlas) (sym c.in_ok-moves.ensures.items)
    (subst (λ (unplaced : List Allocation). Arranges c.args.atlas [] [] unplaced c.args.atlas) (sym c.new.ensures.items) nothing)

pub allocate_next-requires : goal.allocate_next-requires
allocate_next-requires c =
    Each-get HasSides c.args.asked.now c.loop-before.before-index c.before-item.result
    (slice_get-get_or c.args.asked.now c.loop-before.before-index c.before-item.result c.loop-before-test.true ∙ ap Some (sym c.before-item.is))
    c.requires

pub loop-before-preserved : goal.loop-before-preserved
loop-before-preserved c =
    let asked = c.args.asked.now in
    let index = c.loop-before.before-index in
    let before = c.before-item.result in
    let done = c.allocate_next.new.done in
    let more = take_more asked index before c.loop-before-test.true ∙ ap (λ (one : Allocation). take index asked ++ one ∷ []) (sym c.before-item.is) in
    subst (λ (some : List Allocation). Arranges c.args.atlas some done.moves.items done.unplaced.items done.atlas) (sym more)
    (c.in_ok-allocate_next.ensures c.args.atlas (take index asked) c.loop-before.invariant)

pub returns : goal.returns
returns c =
    let done = c.loop-before.done in
    subst (λ (some : List Allocation). Arranges c.args.atlas some done.moves.items done.unplaced.items done.atlas)
    (take_all c.loop-before.before-index c.args.asked.now c.loop-before-test.false) c.loop-before.invariant
