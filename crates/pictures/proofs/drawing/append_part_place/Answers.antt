use Rattle.std.proofs.Common.{◌≡◌, ◌++◌, ap, rules, w32, ◌∙◌}
use Rattle.std.proofs.lemmas.Int.{to_z-of_z}
use Rattle.std.specs.Prelude.{codes}
use Rattle.etagere_base.specs.Drawing.{attribute, height_of, signed_attribute, width_of}
use Rattle.pictures.proofs.GatheringLemmas.{four-added}
use Rattle.pictures.proofs.drawing.append_part_place.Goals as goal

pub returns-clause-text : goal.returns-clause-text
returns-clause-text c =
    let old = c.args.text.now in
    let rectangle = c.args.rectangle.now in
    let one = c.append_signed_attribute.new.text in
    let two = c.append_signed_attribute-2.new.text in
    let three = c.append_attribute.new.text in
    let four = c.append_attribute-2.new.text in
    let left : one ≡ old ++ signed_attribute (codes "    <svg x=\"") rectangle.min.x =
    c.append_signed_attribute.ensures.text
    ∙ ap (λ z. old ++ signed_attribute (codes "    <svg x=\"") z) (to_z-of_z w32 rectangle.min.x (search rules)) in
    let top : two ≡ one ++ signed_attribute (codes "\" y=\"") rectangle.min.y =
    c.append_signed_attribute-2.ensures.text
    ∙ ap (λ z. one ++ signed_attribute (codes "\" y=\"") z) (to_z-of_z w32 rectangle.min.y (search rules)) in
    four-added old one two three four
    (signed_attribute (codes "    <svg x=\"") rectangle.min.x) (signed_attribute (codes "\" y=\"") rectangle.min.y)
    (attribute (codes "\" width=\"") (width_of rectangle)) (attribute (codes "\" height=\"") (height_of rectangle))
    left top
    (c.append_attribute.ensures.text ∙ ap (λ n. two ++ attribute (codes "\" width=\"") n) c.width_of.ensures)
    (c.append_attribute-2.ensures.text ∙ ap (λ n. three ++ attribute (codes "\" height=\"") n) c.height_of.ensures)
