use Rattle.std.proofs.Common.{◌≡◌, Some, sym, ◌∙◌}
use Rattle.lru.specs.LruCache.{last_entry}
use Rattle.glyph_shelf.proofs.UsedKeys.Entries.{last-among}
use Rattle.paged_cache.proofs.Keeping.{held-one, keeps-last, keyed}
use Rattle.paged_cache.proofs.keyed.KeyedAllocations.drop_last.Goals as goal

pub take_back-requires : goal.take_back-requires
take_back-requires g c =
    let state = keyed c.self.inside.entries.entries c.self.inside.entries.cap c.self.inside.allocator in
    let last : last_entry state.entries ≡ Some (c.in_ok-key.key, c.in_ok-key.allocation) = sym c.pop_lru.ensures.value ∙ c.in_ok-key.was in
    held-one g.A.Allocates.keeps g.A.Allocates.are_held g.A.Allocates.is_held g.met.A.Allocates.among state _ c.in_ok-key.allocation
    c.self.invariant (last-among state.entries _ last)

pub invariant_of-self-2 : goal.invariant_of-self-2
invariant_of-self-2 g c =
    let state = keyed c.self.inside.entries.entries c.self.inside.entries.cap c.self.inside.allocator in
    let last : last_entry state.entries ≡ Some (c.in_ok-key.key, c.in_ok-key.allocation) = sym c.pop_lru.ensures.value ∙ c.in_ok-key.was in
    rw (c.pop_lru.ensures.entries, c.take_back.ensures.returned)
    (keeps-last g.A.Allocates.keeps g.A.Allocates.are_held g.A.Allocates.returned g.met.A.Allocates.one_less g.met.A.Allocates.still_keeps
    state _ c.self.invariant last)

pub returns-clause-promises : goal.returns-clause-promises
returns-clause-promises g c = invariant_of-self-2 g c
