use Rattle.std.proofs.Common.{ℕ, Some, refl}
use Rattle.etagere_links.proofs.EditLemmas.{changed_by-past, set-changed}
use Rattle.bucket_index.proofs.rest.set_number.Goals as goal

pub returns-then-place-numbers : goal.returns-then-place-numbers
returns-then-place-numbers c = set-changed (λ (_ : ℕ). c.args.number) c.args.numbers.now c.args.place 0 c.if-place-numbers.true

pub returns-else-place-numbers : goal.returns-else-place-numbers
returns-else-place-numbers c = changed_by-past (λ (_ : ℕ). c.args.number) c.args.numbers.now (Some c.args.place) c.args.place refl c.if-place-numbers.false
