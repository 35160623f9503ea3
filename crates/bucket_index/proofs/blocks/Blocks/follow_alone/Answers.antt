use Rattle.std.proofs.Common.{◌≡◌, length, refl, subst, sym}
use Rattle.std.proofs.lemmas.Option.{slice_get_read}
use Rattle.bucket_index.specs.declared.blocks.Blocks.{Blocks}
use Rattle.bucket_index.specs.Private.Blocks.{AreKnown, AreOthersKnown}
use Rattle.bucket_index.proofs.OtherShelves.{known-narrower, known-put-off}
use Rattle.bucket_index.proofs.blocks.Blocks.follow_alone.Goals as goal

pub lower-requires-clause-others : goal.lower-requires-clause-others
lower-requires-clause-others c =
    let shelves = c.args.shelves.now in
    let number = c.args.number in
    subst (λ (blocks : Blocks). AreOthersKnown number blocks shelves) (sym c.leaves.ensures.same)
    (known-put-off (λ n. n ≡ number → ⊥) c.leaves.new.self.put_off c.args.self.now shelves c.requires.others)

pub returns-else-not-leaves : goal.returns-else-not-leaves
returns-else-not-leaves c =
    let shelves = c.args.shelves.now in
    let number = c.args.number in
    let old = c.args.self.now in
    let there = slice_get_read shelves (length shelves) number c.index-shelves-number.result refl c.requires.within c.index-shelves-number.is in
    subst (λ (blocks : Blocks). AreKnown blocks shelves) (sym c.leaves.ensures.same)
    (known-put-off (λ n. Unit {0}) c.leaves.new.self.put_off old shelves
    (known-narrower number c.args.before.widest_room _ old shelves there (c.leaves.ensures.known c.if-not-leaves.false) c.requires.before c.requires.others))

pub returns-else-not-stays_known : goal.returns-else-not-stays_known
returns-else-not-stays_known c =
    let shelves = c.args.shelves.now in
    let number = c.args.number in
    let there = slice_get_read shelves (length shelves) number c.index-shelves-number.result refl c.requires.within c.index-shelves-number.is in
    known-narrower number c.args.before.widest_room _ c.args.self.now shelves there (c.stays_known.ensures c.if-not-stays_known.false) c.requires.before c.requires.others
