use Rattle.std.proofs.Common.{◌≡◌, Some, None, nat_eq, sym, ◌∙◌}
use Rattle.std.specs.Map.{lookup}
use Rattle.glyph_shelf.proofs.UsedKeys.Entries.{found-among, removed-unknown}
use Rattle.paged_cache.proofs.Keeping.{held-one, keeps-key, keyed, without_key-unknown}
use Rattle.paged_cache.proofs.keyed.KeyedAllocations.remove.Goals as goal

pub invariant_of-self : goal.invariant_of-self
invariant_of-self g c =
    let unknown : lookup (nat_eq c.args.key) c.self.inside.entries.entries ≡ None = sym c.pop.ensures.value ∙ c.in_default.is in
    rw (c.pop.ensures.entries, removed-unknown (nat_eq c.args.key) c.self.inside.entries.entries unknown) c.self.invariant

pub returns-in_default-clause-removed : goal.returns-in_default-clause-removed
returns-in_default-clause-removed g c =
    let state = keyed c.self.inside.entries.entries c.self.inside.entries.cap c.self.inside.allocator in
    let unknown : lookup (nat_eq c.args.key) state.entries ≡ None = sym c.pop.ensures.value ∙ c.in_default.is in
    rw (c.pop.ensures.entries, removed-unknown (nat_eq c.args.key) state.entries unknown)
    (c.self.view_is ∙ sym (without_key-unknown g.A.Allocates.returned c.args.self.now c.args.key (rw (sym c.self.view_is) unknown)))

pub returns-in_default-clause-promises : goal.returns-in_default-clause-promises
returns-in_default-clause-promises g c = invariant_of-self g c

pub take_back-requires : goal.take_back-requires
take_back-requires g c =
    let state = keyed c.self.inside.entries.entries c.self.inside.entries.cap c.self.inside.allocator in
    let found : lookup (nat_eq c.args.key) state.entries ≡ Some c.in-Some.allocation = sym c.pop.ensures.value ∙ c.in-Some.is in
    held-one g.A.Allocates.keeps g.A.Allocates.are_held g.A.Allocates.is_held g.met.A.Allocates.among state _ c.in-Some.allocation
    c.self.invariant (found-among (nat_eq c.args.key) state.entries _ found)

pub invariant_of-self-2 : goal.invariant_of-self-2
invariant_of-self-2 g c =
    let state = keyed c.self.inside.entries.entries c.self.inside.entries.cap c.self.inside.allocator in
    let found : lookup (nat_eq c.args.key) state.entries ≡ Some c.in-Some.allocation = sym c.pop.ensures.value ∙ c.in-Some.is in
    rw (c.pop.ensures.entries, c.take_back.ensures.returned)
    (keeps-key g.A.Allocates.keeps g.A.Allocates.are_held g.A.Allocates.returned g.met.A.Allocates.one_less g.met.A.Allocates.still_keeps
    state c.args.key c.in-Some.allocation c.self.invariant found)

pub returns-clause-promises : goal.returns-clause-promises
returns-clause-promises g c = invariant_of-self-2 g c
