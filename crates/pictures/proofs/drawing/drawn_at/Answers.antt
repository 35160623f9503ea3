use Rattle.std.proofs.Common.{ap, ◌∙◌}
use Rattle.etagere_base.specs.Sides.{swapped_axes}
use Rattle.etagere_base.specs.declared.drawing.Drawn.{Drawn}
use Rattle.etagere_base.specs.declared.sides.Sides.{Sides}
use Rattle.pictures.proofs.drawing.drawn_at.Goals as goal

-- both axes are swapped where the shelves are vertical
pub returns : goal.returns
returns c =
    let drawn : Sides → Sides → Drawn = λ place sides. record { colour = c.args.colour; x = place.along; y = place.across; width = sides.along; height = sides.across } in
    ap (λ place. drawn place c.swapped_axes-sides.result) c.swapped_axes-place.ensures
    ∙ ap (λ sides. drawn (swapped_axes c.args.frame.now.vertical c.args.place) sides) c.swapped_axes-sides.ensures
