use Rattle.std.proofs.Common.{ap, ◌∙◌, ◌↔◌, ◌≡◌, IsTrue, int_eq}
use Rattle.std.proofs.lemmas.Bool.{and_from, and_parts}
use Rattle.std.specs.Prelude.{◌&&◌}
use Rattle.etagere_base.specs.declared.geometry.Point.{Point}
use Rattle.etagere_base.specs.declared.geometry.Rectangle.{Rectangle}
use Rattle.etagere_base.proofs.PlainEqual.{points-same}
use Rattle.etagere_base.proofs.plain_laws.agreement_of_rectangles.Goals as goal

-- rectangles that are equal by their corners are the same
same : (p q : Rectangle) → IsTrue ((int_eq p.min.x q.min.x && int_eq p.min.y q.min.y) && (int_eq p.max.x q.max.x && int_eq p.max.y q.max.y)) ↔ (p ≡ q)
same p q = (
  λ equal. let parts = and_parts (int_eq p.min.x q.min.x && int_eq p.min.y q.min.y) (int_eq p.max.x q.max.x && int_eq p.max.y q.max.y) equal in
      ap (λ (min : Point). let r : Rectangle = record { min = min; max = p.max } in r) ((points-same p.min q.min).0 parts.0)
      ∙ ap (λ (max : Point). let r : Rectangle = record { min = q.min; max = max } in r) ((points-same p.max q.max).0 parts.1),
  λ (is : p ≡ q). and_from _ _ ((points-same p.min q.min).1 (ap (λ (r : Rectangle). r.min) is)) ((points-same p.max q.max).1 (ap (λ (r : Rectangle). r.max) is)),
)

pub returns-clause-equal : goal.returns-clause-equal
returns-clause-equal c = rw c.compared.ensures.equal (same c.args.one.now c.args.other.now)
