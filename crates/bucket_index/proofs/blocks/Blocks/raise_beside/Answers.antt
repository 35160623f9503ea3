use Rattle.std.proofs.Common.{rules, length, refl}
use Rattle.std.proofs.lemmas.Option.{slice_get_read}
use Rattle.bucket_index.proofs.OtherShelves.{raise-counted}
use Rattle.bucket_index.proofs.blocks.Blocks.raise_beside.Goals as goal

pub returns-then-number-self : goal.returns-then-number-self
returns-then-number-self c =
    let shelves = c.args.shelves.now in
    let number = c.args.number in
    let old = c.args.self.now in
    let one = c.index-shelves-number.result in
    rw c.keep_own.ensures (rw c.raise.ensures (rw c.remember.ensures (record {
      counted = λ _.
          raise-counted number c.args.room one old shelves (search rules) (search rules) (search rules) (slice_get_read shelves (length shelves) number one refl c.requires.within c.index-shelves-number.is)
          c.if-number-self.true (c.requires.others.counted c.requires.counted);
      steps = c.requires.others.steps;
    })))
