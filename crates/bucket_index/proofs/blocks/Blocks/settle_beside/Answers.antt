use Rattle.std.proofs.Common.{rules, ◌≡◌, false, length, refl, arith}
use Rattle.std.proofs.lemmas.Option.{slice_get_read}
use Rattle.bucket_index.proofs.OtherShelves.{known-late, lower-counted, lower-followed}
use Rattle.bucket_index.proofs.blocks.Blocks.settle_beside.Goals as goal

pub returns-then-late-min-clause-others : goal.returns-then-late-min-clause-others
returns-then-late-min-clause-others c =
    let shelves = c.args.shelves.now in
    let number = c.args.number in
    let old = c.args.self.now in
    let late = old.others.number in
    let one = c.index-shelves-late.result in
    rw c.lower_again.ensures (record {
      counted = λ counts.
          lower-counted (λ n. n ≡ number → ⊥) (λ n. n ≡ number → ⊥) late one old shelves (search rules) (search rules) (search rules) (slice_get_read shelves (length shelves) late one refl (omega (arith, c.if-late-min.true)) c.index-shelves-late.is) refl
          (omega (arith, c.if-late-min.true)) (λ n after _. after) (c.requires.others.counted counts);
      steps = c.requires.others.steps;
    })

pub returns-then-late-min-clause-followed : goal.returns-then-late-min-clause-followed
returns-then-late-min-clause-followed c kept was =
    let old = c.args.self.now in
    let late = old.others.number in
    rw c.lower_again.ensures
    (lower-followed c.args.number late kept c.index-shelves-late.result old refl (omega (arith, c.if-late-min.true)) c.if-late-number.true was)

pub returns-else-self-clause-others : goal.returns-else-self-clause-others
returns-else-self-clause-others c = known-late (λ n. n ≡ c.args.number → ⊥) false c.args.self.now c.args.shelves.now c.requires.others
