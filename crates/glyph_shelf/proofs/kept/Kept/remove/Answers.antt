use Rattle.std.proofs.Common.{◌≡◌, Some, None, nat_eq, sym, ◌∙◌}
use Rattle.std.specs.Map.{lookup}
use Rattle.glyph_shelf.specs.Private.Kept.{kept_state}
use Rattle.glyph_shelf.proofs.UsedKeys.Entries.{found-among}
use Rattle.glyph_shelf.proofs.FrameUses.{gone-known, gone-unknown}
use Rattle.glyph_shelf.proofs.Keeping.{keeps-key_returned, kept-allocated, without_key-unknown}
use Rattle.glyph_shelf.proofs.kept.Kept.remove.Goals as goal

pub invariant_of-self : goal.invariant_of-self
invariant_of-self c =
    let unknown : lookup (nat_eq c.args.key) c.self.inside.entries.entries ≡ None = sym c.remove.ensures.value ∙ c.in_err-allocation.was in
    rw (c.remove.ensures.removed, gone-unknown c.self.inside.entries c.args.key unknown) c.self.invariant

pub returns-in_err-allocation-clause-removed : goal.returns-in_err-allocation-clause-removed
returns-in_err-allocation-clause-removed c =
    let unknown : lookup (nat_eq c.args.key) c.self.inside.entries.entries ≡ None = sym c.remove.ensures.value ∙ c.in_err-allocation.was in
    rw (c.remove.ensures.removed, gone-unknown c.self.inside.entries c.args.key unknown)
    (c.self.view_is ∙ sym (without_key-unknown c.args.self.now c.args.key (rw (sym c.self.view_is) unknown)))

pub returns-in_err-allocation-clause-promises : goal.returns-in_err-allocation-clause-promises
returns-in_err-allocation-clause-promises c = invariant_of-self c

pub give_back-requires : goal.give_back-requires
give_back-requires c =
    let state = kept_state c.self.inside in
    let found : lookup (nat_eq c.args.key) state.entries ≡ Some c.in_ok-allocation.allocation = sym c.remove.ensures.value ∙ c.in_ok-allocation.was in
    kept-allocated state _ c.in_ok-allocation.allocation c.self.invariant (found-among (nat_eq c.args.key) state.entries _ found)

pub invariant_of-self-2 : goal.invariant_of-self-2
invariant_of-self-2 c =
    let state = kept_state c.self.inside in
    let found : lookup (nat_eq c.args.key) state.entries ≡ Some c.in_ok-allocation.allocation = sym c.remove.ensures.value ∙ c.in_ok-allocation.was in
    rw (c.remove.ensures.removed, gone-known c.self.inside.entries c.args.key c.in_ok-allocation.allocation found, c.give_back.ensures.returned)
    (keeps-key_returned state c.args.key _ c.self.invariant found)

pub returns-clause-promises : goal.returns-clause-promises
returns-clause-promises c = invariant_of-self-2 c
