use Rattle.std.proofs.Common.{Bool, Option, option_map, ap, sym, subst, ◌∙◌, ◌==◌, IfSome, ⊎_elim}
use Rattle.std.proofs.lemmas.List.Folds.{find_at}
use Rattle.std.proofs.lemmas.Option.{slice_get_cases}
use Rattle.std.specs.List.{position_or_len}
use Rattle.etagere_base.proofs.EachLemmas.{Each-get}
use Rattle.etagere_base.specs.Rectangles.{IsInside}
use Rattle.etagere_base.specs.declared.geometry.Rectangle.{Rectangle}
use Rattle.etagere_base.specs.declared.ids.Allocation.{Allocation}
use Rattle.shelf_model.specs.Places.{allocations}
use Rattle.uses.proofs.texture.rectangle_inside.Goals as goal

pub returns-clause-inside : goal.returns-clause-inside
returns-clause-inside c =
    let all = allocations c.args.atlas.now in
    let test : Allocation → Bool = λ allocation. allocation.id == c.args.id in
    let rectangle : Option Allocation → Option Rectangle = option_map (λ allocation. allocation.rectangle) in
    let Inside : Rectangle → Type 0 = IsInside c.args.atlas.now.frame in
    let position = position_or_len test all in
    let is = c.get.ensures ∙ ap rectangle (find_at test all) in
    ⊎_elim
    (λ there. subst (λ (o : Option Rectangle). IfSome o Inside) (sym (is ∙ ap rectangle there.2))
    (Each-get (λ (allocation : Allocation). Inside allocation.rectangle) all position there.0 there.2 c.requires.inside))
    (λ past. subst (λ (o : Option Rectangle). IfSome o Inside) (sym (is ∙ ap rectangle past.1)) tt)
    (slice_get_cases all position).1
