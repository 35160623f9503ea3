use Rattle.std.proofs.Common.{rules, ◌≡◌, ◌∙◌, length, refl, subst, arith}
use Rattle.std.proofs.lemmas.Option.{slice_get_read}
use Rattle.bucket_index.specs.Private.Blocks.{IsKnown, block_at, block_of, kept_others}
use Rattle.bucket_index.proofs.KnownBlocks.{known-with}
use Rattle.bucket_index.proofs.NestedBlocks.{known-nested}
use Rattle.bucket_index.proofs.OtherShelves.{kept-counted, lower-counted}
use Rattle.bucket_index.proofs.blocks.Blocks.lower.Goals as goal

pub returns-then-knows_others : goal.returns-then-knows_others
returns-then-knows_others c =
    let shelves = c.args.shelves.now in
    let number = c.args.number in
    let one = c.index-shelves-number.result in
    let is = c.knows_others.ensures c.if-knows_others.true in
    rw c.lower_again.ensures (record {
      counted = λ _.
          lower-counted (λ n. n ≡ number → ⊥) (λ n. Unit {0}) number one c.args.self.now shelves (search rules) (search rules) (search rules) (slice_get_read shelves (length shelves) number one refl c.requires.within c.index-shelves-number.is) is.0 is.1
          (λ n any other. other) (c.requires.others.counted c.requires.counted);
      steps = c.requires.others.steps;
    })

pub recount-requires-clause-fresh : goal.recount-requires-clause-fresh
recount-requires-clause-fresh c = rw (← c.first_of_block.ensures) c.counted-fresh.ensures

pub returns-then-is_same : goal.returns-then-is_same
returns-then-is_same c =
    let shelves = c.args.shelves.now in
    let number = c.args.number in
    let old = c.args.self.now in
    let one = c.index-shelves-number.result in
    let there = slice_get_read shelves (length shelves) number one refl c.requires.within c.index-shelves-number.is in
    let counted = c.requires.others.counted c.requires.counted in
    let within = c.if-number-self.true in
    let small : c.counted-fresh.result ≡ block_at old.small (block_of 8 number) = c.is_same.ensures c.if-is_same.true ∙ c.block_at-small.ensures in
    let first = c.first_of_block.ensures in
    let known = known-nested number one old within counted.nested (subst (IsKnown one) small (c.counted-fresh.ensures number one (omega (arith, first)) (omega (arith, first)) there)) in
    rw c.keep_others.ensures
    (known-with number one (kept_others number one.widest_room old) shelves there
    (record {
      known = record { small = known.small; middle = known.middle; large = known.large };
      beside = λ _. record { small = λ other. absurd (other refl); middle = λ other. absurd (other refl); large = λ other. absurd (other refl) };
    })
    (record { counted = λ _. kept-counted number one.widest_room old shelves (search rules) (search rules) (search rules) within counted; steps = c.requires.others.steps }))
