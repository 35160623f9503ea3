use Rattle.std.proofs.Common.{◌≡◌, ◌<◌, None, length, nat_eq, ap, sym, subst, arith}
use Rattle.std.specs.Map.{lookup}
use Rattle.shelf_model.specs.Atlas.{Allocates}
use Rattle.glyph_shelf.specs.Cache.{CacheState}
use Rattle.glyph_shelf.specs.Placing.{SameLayout}
use Rattle.glyph_shelf.specs.Private.Kept.{kept_state}
use Rattle.glyph_shelf.specs.UsedKeys.Keys.{KeysState}
use Rattle.glyph_shelf.proofs.Keeping.{keeps-entered, keeps-refused}
use Rattle.glyph_shelf.proofs.kept.Kept.enter.Goals as goal

pub invariant_of-self-in-Ok : goal.invariant_of-self-in-Ok
invariant_of-self-in-Ok c =
    let state = kept_state c.self.inside in
    let few = c.self.invariant.few in
    let room : length state.entries < state.capacity =
    omega (arith, c.if-len-get.false, c.len.ensures.len, c.get.ensures.value, c.cap.ensures) in
    let new : lookup (nat_eq c.args.key) state.entries ≡ None =
    subst (λ (s : CacheState). lookup (nat_eq c.args.key) s.entries ≡ None) (sym c.self.view_is) c.requires in
    rw c.in-Ok.ensures.ok
    (keeps-entered state c.args.key c.in-Some.allocation c.allocate.new.self c.self.invariant new room c.allocate.ensures.promises
    (rw c.in-Some.is at c.in_ok-allocation.ensures.allocated)
    (rw c.in-Some.is at c.in_ok-allocation.ensures.placed).fresh_id)

pub returns-in-Ok-clause-promises : goal.returns-in-Ok-clause-promises
returns-in-Ok-clause-promises c = invariant_of-self-in-Ok c

pub invariant_of-self-in-Err : goal.invariant_of-self-in-Err
invariant_of-self-in-Err c =
    rw c.in-Err.ensures.err
    (keeps-refused (kept_state c.self.inside) c.in-Some.allocation c.allocate.new.self c.give_back.new.atlas c.self.invariant
    c.allocate.ensures.promises c.give_back.ensures.promises (rw c.in-Some.is at c.in_ok-allocation.ensures.allocated)
    (rw c.in-Some.is at c.in_ok-allocation.ensures.placed).fresh_id c.give_back.ensures.allocated)

pub returns-in-Err-clause-promises : goal.returns-in-Err-clause-promises
returns-in-Err-clause-promises c = invariant_of-self-in-Err c

pub returns-in-Err-clause-err : goal.returns-in-Err-clause-err
returns-in-Err-clause-err c =
    let placed : Allocates c.self.inside.atlas c.args.size c.in-Some.allocation c.allocate.new.self =
    rw c.in-Some.is at c.in_ok-allocation.ensures.placed in
    subst (λ (s : CacheState). SameLayout s (kept_state (record { entries = c.enter.new.self; atlas = c.give_back.new.atlas }))) c.self.view_is
    (record {
      entries = ap (λ (s : KeysState). s.entries) c.in-Err.ensures.err;
      capacity = ap (λ (s : KeysState). s.cap) c.in-Err.ensures.err;
      uses = ap (λ (s : KeysState). s.uses) c.in-Err.ensures.err;
      layout = c.give_back.ensures.restores c.self.inside.atlas c.args.size placed.placement c.self.invariant.atlas.valid placed.placed
          placed.fresh_id placed.after;
    })
