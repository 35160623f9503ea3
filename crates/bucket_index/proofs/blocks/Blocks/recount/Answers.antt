use Rattle.std.proofs.Common.{length, refl}
use Rattle.std.proofs.lemmas.Option.{slice_get_read}
use Rattle.bucket_index.specs.Private.Blocks.{kept_others}
use Rattle.bucket_index.proofs.KnownBlocks.{known-at, known-except, known-with}
use Rattle.bucket_index.proofs.OtherShelves.{kept-counted}
use Rattle.bucket_index.proofs.blocks.Blocks.recount.Goals as goal

pub returns-then-number-self : goal.returns-then-number-self
returns-then-number-self c =
    let shelves = c.args.shelves.now in
    let number = c.args.number in
    let counted = c.count_anew.new.self in
    let one = c.index-shelves-number.result in
    let there = slice_get_read shelves (length shelves) number one refl c.requires.within c.index-shelves-number.is in
    let all = c.count_anew.ensures.all in
    let counts = c.count_anew.ensures.counted in
    let known = (known-at number one counted shelves there c.count_anew.ensures.known counts).known in
    let others = known-except number counted shelves c.count_anew.ensures.known in
    rw c.keep_others.ensures
    (known-with number one (kept_others number _ counted) shelves there
    (record {
      known = record { small = known.small; middle = known.middle; large = known.large };
      beside = λ _. record { small = λ other. absurd (other refl); middle = λ other. absurd (other refl); large = λ other. absurd (other refl) };
    })
    (record { counted = λ _. kept-counted number _ counted shelves all.small all.middle all.large c.if-number-self.true (others.counted counts); steps = others.steps }))
