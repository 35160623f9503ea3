use Rattle.std.proofs.Common.{rules, ◌≡◌, false, length, ap, refl, arith}
use Rattle.std.proofs.lemmas.Option.{slice_get_read}
use Rattle.bucket_index.specs.Private.Blocks.{KeptShelf}
use Rattle.bucket_index.proofs.KnownBlocks.{known-with}
use Rattle.bucket_index.proofs.NestedBlocks.{known-idle, known-nested, known-without}
use Rattle.bucket_index.proofs.OtherShelves.{known-late}
use Rattle.bucket_index.proofs.blocks.Blocks.follow_emptied_first.Goals as goal

pub returns-then-knows_idle : goal.returns-then-knows_idle
returns-then-knows_idle c =
    let shelves = c.args.shelves.now in
    let number = c.args.number in
    let old = c.args.self.now in
    let one = c.index-shelves-number.result in
    let knows = c.knows_idle.ensures c.if-knows_idle.true in
    let known = known-nested number one old knows.within (c.requires.others.counted c.requires.counted).nested (known-idle number _ one old (ap (λ (kept : KeptShelf). kept.widest_room) c.index-shelves-number.is) knows) in
    known-with number one (record old { is_late = false; others = record old.others { number = 4096 } }) shelves
    (slice_get_read shelves (length shelves) number one refl c.requires.within c.index-shelves-number.is)
    (record { known = record { small = known.small; middle = known.middle; large = known.large }; beside = λ some. absurd (omega (arith, some)) })
    (known-late (λ n. n ≡ number → ⊥) false _ shelves (known-without (λ n. n ≡ number → ⊥) old shelves (search rules) (search rules) (search rules) c.requires.others))
