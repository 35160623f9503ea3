use Rattle.std.proofs.Common.{rules, ◌≡◌, length, refl, arith}
use Rattle.std.proofs.lemmas.Option.{slice_get_read}
use Rattle.bucket_index.proofs.NestedBlocks.{known-without}
use Rattle.bucket_index.proofs.OtherShelves.{raise-unkept}
use Rattle.bucket_index.proofs.blocks.Blocks.raise_alone.Goals as goal

pub returns : goal.returns
returns c =
    let shelves = c.args.shelves.now in
    let number = c.args.number in
    let old = c.args.self.now in
    let one = c.index-shelves-number.result in
    let unkept = known-without (λ n. n ≡ number → ⊥) old shelves (search rules) (search rules) (search rules) c.requires.others in
    rw c.raise.ensures (record {
      counted = λ _.
          raise-unkept number one (record old { others = record old.others { number = 4096 } }) shelves (search rules) (search rules) (search rules)
          (slice_get_read shelves (length shelves) number one refl c.requires.within c.index-shelves-number.is) (omega arith) (unkept.counted c.requires.counted);
      steps = c.requires.others.steps;
    })
