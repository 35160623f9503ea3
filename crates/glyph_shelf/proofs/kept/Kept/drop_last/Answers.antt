use Rattle.std.proofs.Common.{◌≡◌, Some, sym, ◌∙◌}
use Rattle.lru.specs.LruCache.{last_entry}
use Rattle.glyph_shelf.specs.Private.Kept.{kept_state}
use Rattle.glyph_shelf.proofs.UsedKeys.Entries.{last-among}
use Rattle.glyph_shelf.proofs.Keeping.{keeps-last_returned, kept-allocated}
use Rattle.glyph_shelf.proofs.kept.Kept.drop_last.Goals as goal

pub give_back-requires : goal.give_back-requires
give_back-requires c =
    let state = kept_state c.self.inside in
    let last : last_entry state.entries ≡ Some (c.in_ok-key.key, c.in_ok-key.allocation) = sym c.pop_last.ensures.value ∙ c.in_ok-key.was in
    kept-allocated state _ c.in_ok-key.allocation c.self.invariant (last-among state.entries _ last)

pub invariant_of-self-2 : goal.invariant_of-self-2
invariant_of-self-2 c =
    let state = kept_state c.self.inside in
    let last : last_entry state.entries ≡ Some (c.in_ok-key.key, c.in_ok-key.allocation) = sym c.pop_last.ensures.value ∙ c.in_ok-key.was in
    rw (c.pop_last.ensures.popped, c.give_back.ensures.returned) (keeps-last_returned state _ c.self.invariant last)

pub returns-clause-promises : goal.returns-clause-promises
returns-clause-promises c = invariant_of-self-2 c
