use Rattle.std.proofs.Common.{◌≡◌, Bool, true, false, ap, arith, sym, ◌∙◌}
use Rattle.std.specs.Prelude.{not}
use Rattle.shelf_notes.specs.declared.pending.Standing.{Standing}
use Rattle.shelf_store.proofs.ByHeight.SettledShelves.{gone-holds, in_use-there, listed-within}
use Rattle.shelf_store.proofs.settling.moving.take_out_if_moved.Goals as goal

-- the list has it where it doesn't have it not
listed : (so : Bool) → not so ≡ false → so ≡ true
listed so e = grind arith

pub begins_as_listed-requires-clause-there : goal.begins_as_listed-requires-clause-there
begins_as_listed-requires-clause-there c =
    in_use-there c.requires.list.frame c.args.records.now c.args.pending.now.notes c.args.by_height.now.items c.requires.list.kept c.requires.list.by_height c.args.shelf
    (sym (ap (λ (s : Standing). s.in_use) c.standing-standing.ensures) ∙ c.if-standing.true)

pub begins_as_listed-requires-clause-kept : goal.begins_as_listed-requires-clause-kept
begins_as_listed-requires-clause-kept c =
    listed-within c.requires.list.frame c.args.records.now c.args.pending.now.notes c.args.by_height.now.items c.requires.list.kept c.requires.list.by_height c.args.shelf
    (sym (ap (λ (s : Standing). s.listed) c.standing-standing.ensures) ∙ listed c.standing-standing.result.listed c.if-not-standing.false)

pub returns-clause-by_height : goal.returns-clause-by_height
returns-clause-by_height c frame kept holds =
    rw (c.unlist.ensures.notes, c.take_out.ensures.by_height)
    (gone-holds frame c.args.records.now c.args.pending.now.notes c.args.by_height.now.items kept holds c.args.shelf c.requires.known c.requires.noted)
