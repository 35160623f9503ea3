use Rattle.std.proofs.Common.{◌≡◌, Bool, true, false, ap, arith, sym, ◌∙◌}
use Rattle.std.specs.Prelude.{not}
use Rattle.shelf_notes.specs.declared.pending.Standing.{Standing}
use Rattle.shelf_store.proofs.ByHeight.SettledShelves.{in_use-met, in_use-there, unused-bounded, unused-settled}
use Rattle.shelf_store.proofs.settling.moving.settle_one.Goals as goal

-- a shelf is out of use where it is so that it isn't in use
unused : (so : Bool) → not so ≡ true → so ≡ false
unused so e = grind arith

pub returns-then-not-standing-clause-settled : goal.returns-then-not-standing-clause-settled
returns-then-not-standing-clause-settled c =
    unused-settled c.args.frame.now c.args.records.now c.args.pending.now.notes c.args.by_height.now.items c.requires.kept c.requires.by_height c.args.shelf
    (sym (ap (λ (s : Standing). s.in_use) c.standing-standing.ensures) ∙ unused c.standing-standing.result.in_use c.if-not-standing.true) c.requires.as_listed

pub returns-then-not-standing-clause-bounded : goal.returns-then-not-standing-clause-bounded
returns-then-not-standing-clause-bounded c =
    unused-bounded c.args.frame.now c.args.records.now c.args.pending.now.notes c.args.by_height.now.items c.requires.kept c.requires.by_height c.args.shelf
    (sym (ap (λ (s : Standing). s.in_use) c.standing-standing.ensures) ∙ unused c.standing-standing.result.in_use c.if-not-standing.true) c.requires.as_listed

-- the shelf is in use where it isn't so that it is out of use
used : (so : Bool) → not so ≡ false → so ≡ true
used so e = grind arith

pub leaving_before-requires-clause-within : goal.leaving_before-requires-clause-within
leaving_before-requires-clause-within c =
    in_use-there c.args.frame.now c.args.records.now c.args.pending.now.notes c.args.by_height.now.items c.requires.kept c.requires.by_height c.args.shelf
    (sym (ap (λ (s : Standing). s.in_use) c.standing-standing.ensures) ∙ used c.standing-standing.result.in_use c.if-not-standing.false)

pub leaving_before-requires-clause-in_use : goal.leaving_before-requires-clause-in_use
leaving_before-requires-clause-in_use c = in_use-met c.args.frame.now c.args.records.now c.args.pending.now.notes c.args.by_height.now.items c.requires.kept c.requires.by_height

pub leaving_before-requires-clause-there : goal.leaving_before-requires-clause-there
leaving_before-requires-clause-there c = in_use-there c.args.frame.now c.args.records.now c.args.pending.now.notes c.args.by_height.now.items c.requires.kept c.requires.by_height
