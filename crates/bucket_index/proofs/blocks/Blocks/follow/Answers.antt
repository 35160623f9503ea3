use Rattle.std.proofs.Common.{length, refl, subst, sym}
use Rattle.std.proofs.lemmas.Option.{slice_get_read}
use Rattle.bucket_index.specs.declared.blocks.Blocks.{Blocks}
use Rattle.bucket_index.specs.Private.Blocks.{AreKnown, putting_off}
use Rattle.bucket_index.proofs.OtherShelves.{known-narrower, known-put-off}
use Rattle.bucket_index.proofs.blocks.Blocks.follow.Goals as goal

pub returns-else-not-leaves_again : goal.returns-else-not-leaves_again
returns-else-not-leaves_again c =
    let shelves = c.args.shelves.now in
    let number = c.args.number in
    let old = c.args.self.now in
    let put_off = c.leaves_again.new.self.put_off in
    let there = slice_get_read shelves (length shelves) number c.index-shelves-number.result refl c.requires.within c.index-shelves-number.is in
    subst (λ (blocks : Blocks). AreKnown blocks shelves) (sym (c.leaves_again.ensures.left c.if-not-leaves_again.false))
    (subst (λ (blocks : Blocks). AreKnown (putting_off put_off blocks) shelves) (sym (c.if-follows_at_once.ensures.same refl))
    (known-put-off (λ n. Unit {0}) put_off old shelves
    (known-narrower number c.args.before.widest_room _ old shelves there (c.leaves_again.ensures.known c.if-not-leaves_again.false) (c.requires.before (c.if-follows_at_once.ensures.counted refl)) c.requires.others)))
