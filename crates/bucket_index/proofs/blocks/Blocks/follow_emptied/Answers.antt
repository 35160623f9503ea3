use Rattle.std.proofs.Common.{length, ap, refl, arith}
use Rattle.std.proofs.lemmas.Option.{slice_get_read}
use Rattle.bucket_index.specs.Private.Blocks.{KeptShelf}
use Rattle.bucket_index.proofs.KnownBlocks.{known-with}
use Rattle.bucket_index.proofs.NestedBlocks.{known-idle, known-nested}
use Rattle.bucket_index.proofs.blocks.Blocks.follow_emptied.Goals as goal

pub returns-else-not-knows_idle : goal.returns-else-not-knows_idle
returns-else-not-knows_idle c =
    let shelves = c.args.shelves.now in
    let number = c.args.number in
    let old = c.args.self.now in
    let one = c.index-shelves-number.result in
    let knows = c.knows_idle.ensures c.if-not-knows_idle.false in
    known-with number one old shelves (slice_get_read shelves (length shelves) number one refl c.requires.within c.index-shelves-number.is)
    (record {
      known = known-nested number one old knows.within (c.requires.others.counted c.if-not-self.false).nested
          (known-idle number _ one old (ap (λ (kept : KeptShelf). kept.widest_room) c.index-shelves-number.is) knows);
      beside = λ some. absurd (omega (arith, some, c.if-self-lt-MOST_SHELVES.false));
    })
    c.requires.others
