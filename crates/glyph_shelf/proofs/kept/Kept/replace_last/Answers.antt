use Rattle.std.proofs.Common.{◌≡◌, ℕ, ◌-◌, ◌<◌, None, Some, length, nat_eq, take, ap, sym, ◌∙◌, subst, arith}
use Rattle.std.proofs.lemmas.List.{length-take}
use Rattle.std.specs.Map.{lookup}
use Rattle.lru.specs.LruCache.{last_entry}
use Rattle.etagere_base.specs.declared.ids.Allocation.{Allocation}
use Rattle.shelf_model.specs.Atlas.{Allocates}
use Rattle.shelf_model.specs.State.{AtlasState}
use Rattle.glyph_shelf.specs.UsedKeys.Keys as keys
use Rattle.glyph_shelf.specs.UsedKeys.Keys.{KeysState, uses_left}
use Rattle.glyph_shelf.proofs.UsedKeys.Entries.{last-among, unknown-take}
use Rattle.glyph_shelf.specs.Cache.{CacheState, without_last}
use Rattle.glyph_shelf.specs.Placing.{SameLayout}
use Rattle.glyph_shelf.specs.Private.Kept.{kept_state}
use Rattle.glyph_shelf.specs.Promises.{KeepsCachePromises}
use Rattle.glyph_shelf.proofs.Evicting.{some_last, without_last-some}
use Rattle.glyph_shelf.proofs.Keeping.{cache, keeps-entered, keeps-last_returned, keeps-refused, kept-allocated}
use Rattle.glyph_shelf.proofs.kept.Kept.replace_last.Goals as goal

-- a cache without its last entry, in an atlas
abbrev left : CacheState → AtlasState → CacheState
left state atlas =
    cache (take (length state.entries - 1) state.entries) state.capacity atlas (uses_left (length state.entries - 1) state.used_in_frame)

-- it has no new key, and room for one
left-unknown : (state : CacheState) (atlas : AtlasState) (key : ℕ) → lookup (nat_eq key) state.entries ≡ None
    → lookup (nat_eq key) (left state atlas).entries ≡ None
left-unknown state atlas key new = unknown-take (nat_eq key) (length state.entries - 1) state.entries new

left-room : (state : CacheState) (atlas : AtlasState) (e : ℕ × Allocation) → KeepsCachePromises state → last_entry state.entries ≡ Some e
    → length (left state atlas).entries < state.capacity
left-room state atlas e promises last =
    omega (arith, some_last state.entries e last, promises.few, length-take (length state.entries - 1) state.entries)

pub give_back-requires : goal.give_back-requires
give_back-requires c =
    let state = kept_state c.self.inside in
    kept-allocated state _ c.in-Some.last c.self.invariant (last-among state.entries _ (sym c.last.ensures ∙ c.in-Some.is))

pub invariant_of-self : goal.invariant_of-self
invariant_of-self c =
    let state = kept_state c.self.inside in
    let last = sym c.last.ensures ∙ c.in-Some.is in
    let new : lookup (nat_eq c.args.key) state.entries ≡ None =
    subst (λ (s : CacheState). lookup (nat_eq c.args.key) s.entries ≡ None) (sym c.self.view_is) c.requires.new in
    let kept : KeepsCachePromises (left state c.give_back.new.atlas) =
    rw c.give_back.ensures.returned (keeps-last_returned state _ c.self.invariant last) in
    rw c.in-Ok.ensures.ok
    (keeps-entered (left state c.give_back.new.atlas) c.args.key c.in-Ok-Some.allocation c.allocate.new.self kept
    (left-unknown state c.give_back.new.atlas c.args.key new) (left-room state c.give_back.new.atlas _ c.self.invariant last)
    c.allocate.ensures.promises (rw c.in-Ok-Some.field-0-is at c.in-Ok-Some.ensures.allocated)
    (rw c.in-Ok-Some.field-0-is at c.in-Ok-Some.ensures.placed).fresh_id)

pub returns-in-Ok-clause-promises : goal.returns-in-Ok-clause-promises
returns-in-Ok-clause-promises c = invariant_of-self c

pub invariant_of-self-in-Err-enter_for_last : goal.invariant_of-self-in-Err-enter_for_last
invariant_of-self-in-Err-enter_for_last c =
    let state = kept_state c.self.inside in
    let kept : KeepsCachePromises (left state c.give_back.new.atlas) =
    rw c.give_back.ensures.returned (keeps-last_returned state _ c.self.invariant (sym c.last.ensures ∙ c.in-Some.is)) in
    rw (c.pop_last.ensures.popped, c.in-Err-enter_for_last.ensures.err)
    (keeps-refused (left state c.give_back.new.atlas) c.in-Ok-Some.allocation c.allocate.new.self c.give_back-in-Err-enter_for_last.new.atlas kept
    c.allocate.ensures.promises c.give_back-in-Err-enter_for_last.ensures.promises (rw c.in-Ok-Some.field-0-is at c.in-Ok-Some.ensures.allocated)
    (rw c.in-Ok-Some.field-0-is at c.in-Ok-Some.ensures.placed).fresh_id c.give_back-in-Err-enter_for_last.ensures.allocated)

pub returns-in-Err-enter_for_last-clause-promises : goal.returns-in-Err-enter_for_last-clause-promises
returns-in-Err-enter_for_last-clause-promises c = invariant_of-self-in-Err-enter_for_last c

pub returns-in-Err-enter_for_last-clause-err : goal.returns-in-Err-enter_for_last-clause-err
returns-in-Err-enter_for_last-clause-err c =
    let state = kept_state c.self.inside in
    let gone : without_last c.args.self.now ≡ left state c.give_back.new.atlas =
    ap without_last (sym c.self.view_is) ∙ without_last-some state _ (sym c.last.ensures ∙ c.in-Some.is)
    ∙ ap (left state) (sym c.give_back.ensures.returned) in
    let popped : c.pop_last.new.self ≡ keys.without_last c.self.inside.entries =
    c.pop_last.ensures.popped ∙ ap keys.without_last c.in-Err-enter_for_last.ensures.err in
    let placed : Allocates c.give_back.new.atlas c.args.size c.in-Ok-Some.allocation c.allocate.new.self =
    rw c.in-Ok-Some.field-0-is at c.in-Ok-Some.ensures.placed in
    subst (λ (s : CacheState). SameLayout s (kept_state (record { entries = c.pop_last.new.self; atlas = c.give_back-in-Err-enter_for_last.new.atlas }))) (sym gone)
    (record {
      entries = ap (λ (s : KeysState). s.entries) popped;
      capacity = ap (λ (s : KeysState). s.cap) popped;
      uses = ap (λ (s : KeysState). s.uses) popped;
      layout = c.give_back-in-Err-enter_for_last.ensures.restores c.give_back.new.atlas c.args.size placed.placement
          c.give_back.ensures.promises.valid placed.placed placed.fresh_id placed.after;
    })

pub invariant_of-self-in-Ok-None : goal.invariant_of-self-in-Ok-None
invariant_of-self-in-Ok-None c =
    let same : c.allocate.new.self ≡ c.give_back.new.atlas = rw c.in-Ok-None.field-0-is at c.in-Ok-None.ensures.none in
    rw (c.pop_last-in-Ok-None.ensures.popped, same, c.give_back.ensures.returned)
    (keeps-last_returned (kept_state c.self.inside) _ c.self.invariant (sym c.last.ensures ∙ c.in-Some.is))

pub returns-in-Ok-None-clause-promises : goal.returns-in-Ok-None-clause-promises
returns-in-Ok-None-clause-promises c = invariant_of-self-in-Ok-None c

pub invariant_of-self-in-Err : goal.invariant_of-self-in-Err
invariant_of-self-in-Err c =
    rw (c.pop_last-in-Err.ensures.popped, c.in-Err.ensures.err, c.give_back.ensures.returned)
    (keeps-last_returned (kept_state c.self.inside) _ c.self.invariant (sym c.last.ensures ∙ c.in-Some.is))

pub returns-in-Err-clause-promises : goal.returns-in-Err-clause-promises
returns-in-Err-clause-promises c = invariant_of-self-in-Err c
