use Rattle.std.proofs.Common.{Bool, ap, ◌∙◌, ◌↔◌, ◌≡◌, IsTrue, int_eq, rules}
use Rattle.std.proofs.lemmas.Bool.{and_from, and_parts}
use Rattle.std.specs.Prelude.{◌&&◌, ℤ}
use Rattle.std.proofs.Math.Bool.{beq}
use Rattle.etagere_base.specs.declared.geometry.Size.{Size}
use Rattle.etagere_base.specs.declared.options.AllocatorOptions.{AllocatorOptions}
use Rattle.etagere_base.proofs.PlainEqual.{sizes-same}
use Rattle.etagere_base.proofs.plain_laws.agreement_of_options.Goals as goal

-- directions and numbers of columns that are equal are the same
others-same : (one other : Bool) (m n : ℤ) → IsTrue (beq one other && int_eq m n) ↔ ((one ≡ other) × (m ≡ n))
others-same one other m n = search rules

-- options that are equal by their fields are the same
same : (p q : AllocatorOptions)
    → IsTrue ((int_eq p.alignment.width q.alignment.width && int_eq p.alignment.height q.alignment.height) && (beq p.vertical_shelves q.vertical_shelves && int_eq p.num_columns q.num_columns))
    ↔ (p ≡ q)
same p q = (
  λ equal. let parts = and_parts (int_eq p.alignment.width q.alignment.width && int_eq p.alignment.height q.alignment.height)
      (beq p.vertical_shelves q.vertical_shelves && int_eq p.num_columns q.num_columns) equal in
      let others = (others-same p.vertical_shelves q.vertical_shelves p.num_columns q.num_columns).0 parts.1 in
      ap (λ (s : Size). let o : AllocatorOptions = record { alignment = s; vertical_shelves = p.vertical_shelves; num_columns = p.num_columns } in o) ((sizes-same p.alignment q.alignment).0 parts.0)
      ∙ ap (λ (b : Bool). let o : AllocatorOptions = record { alignment = q.alignment; vertical_shelves = b; num_columns = p.num_columns } in o) others.0
      ∙ ap (λ (n : ℤ). let o : AllocatorOptions = record { alignment = q.alignment; vertical_shelves = q.vertical_shelves; num_columns = n } in o) others.1,
  λ (is : p ≡ q). and_from _ _ ((sizes-same p.alignment q.alignment).1 (ap (λ (o : AllocatorOptions). o.alignment) is))
      ((others-same p.vertical_shelves q.vertical_shelves p.num_columns q.num_columns).1 (ap (λ (o : AllocatorOptions). o.vertical_shelves) is, ap (λ (o : AllocatorOptions). o.num_columns) is)),
)

pub returns-clause-equal : goal.returns-clause-equal
returns-clause-equal c = rw c.compared.ensures.equal (same c.args.one.now c.args.other.now)
