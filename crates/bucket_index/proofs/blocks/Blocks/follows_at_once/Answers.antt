use Rattle.std.proofs.Common.{length, refl}
use Rattle.std.proofs.lemmas.Option.{slice_get_read}
use Rattle.bucket_index.proofs.KnownBlocks.{height-read, known-with}
use Rattle.bucket_index.proofs.OtherShelves.{followed-own, known-late}
use Rattle.bucket_index.proofs.blocks.Blocks.follows_at_once.Goals as goal

pub returns-then-stays_equal-clause-known : goal.returns-then-stays_equal-clause-known
returns-then-stays_equal-clause-known c _ =
    let shelves = c.args.shelves.now in
    let number = c.args.number in
    let one = c.index-shelves-number.result in
    let is = c.stays_equal.ensures c.if-stays_equal.true in
    let there = slice_get_read shelves (length shelves) number one refl c.requires.within c.index-shelves-number.is in
    known-with number one c.args.self.now shelves there (c.requires.before c.if-not-self.false one (height-read shelves number one there) is.0 is.1) c.requires.others

pub returns-clause-known : goal.returns-clause-known
returns-clause-known c _ =
    let shelves = c.args.shelves.now in
    let number = c.args.number in
    let one = c.index-shelves-number.result in
    let old = c.args.self.now in
    let is = c.knows_again.ensures c.if-not-knows_again.false in
    known-late (λ n. Unit {0}) c.knows_more-self.result old shelves
    (known-with number one old shelves (slice_get_read shelves (length shelves) number one refl c.requires.within c.index-shelves-number.is)
    (followed-own number one old is.0 is.1 (c.requires.others.counted c.if-not-self.false).own) c.requires.others)
