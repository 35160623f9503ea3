use Rattle.std.proofs.Common.{◌≡◌, ◌<◌, [], None, length, nat_eq, sym, subst, arith}
use Rattle.std.specs.Map.{lookup, values_of}
use Rattle.paged_cache.proofs.Keeping.{keeps-entered, keyed}
use Rattle.paged_cache.proofs.keyed.KeyedAllocations.enter.Goals as goal

pub take_back-requires : goal.take_back-requires
take_back-requires g c =
    let state = keyed c.self.inside.entries.entries c.self.inside.entries.cap c.self.inside.allocator in
    let held =
    g.met.A.Allocates.one_more state.allocator c.args.size c.in-Some.allocation c.give.new.self (values_of state.entries) c.self.invariant.allocator
    c.give.ensures.promises (rw c.in-Some.is at c.in_ok-allocation.ensures.given) c.self.invariant.held in
    g.met.A.Allocates.among c.give.new.self [] (values_of state.entries) c.in-Some.allocation held

pub invariant_of-self-in-Err : goal.invariant_of-self-in-Err
invariant_of-self-in-Err g c =
    let state = keyed c.self.inside.entries.entries c.self.inside.entries.cap c.self.inside.allocator in
    let held =
    g.met.A.Allocates.one_more state.allocator c.args.size c.in-Some.allocation c.give.new.self (values_of state.entries) c.self.invariant.allocator
    c.give.ensures.promises (rw c.in-Some.is at c.in_ok-allocation.ensures.given) c.self.invariant.held in
    let left = g.met.A.Allocates.one_less c.give.new.self [] (values_of state.entries) c.in-Some.allocation c.give.ensures.promises held in
    rw c.in-Err.ensures.err
    (record {
      allocator = c.take_back.ensures.promises;
      few = c.self.invariant.few;
      capacity = c.self.invariant.capacity;
      keys = c.self.invariant.keys;
      held = rw c.take_back.ensures.returned left;
    })

pub returns-in-Err-clause-promises : goal.returns-in-Err-clause-promises
returns-in-Err-clause-promises g c = invariant_of-self-in-Err g c

pub invariant_of-self-in-Ok : goal.invariant_of-self-in-Ok
invariant_of-self-in-Ok g c =
    let state = keyed c.self.inside.entries.entries c.self.inside.entries.cap c.self.inside.allocator in
    let few = c.self.invariant.few in
    let room : length state.entries < state.capacity =
    omega (arith, c.if-len-get.false, c.len.ensures.len, c.get.ensures.value, c.cap.ensures) in
    let new : lookup (nat_eq c.args.key) state.entries ≡ None =
    subst (λ s. lookup (nat_eq c.args.key) s.entries ≡ None) (sym c.self.view_is) c.requires in
    let held =
    g.met.A.Allocates.one_more state.allocator c.args.size c.in-Some.allocation c.give.new.self (values_of state.entries) c.self.invariant.allocator
    c.give.ensures.promises (rw c.in-Some.is at c.in_ok-allocation.ensures.given) c.self.invariant.held in
    rw c.in-Ok.ensures.ok
    (keeps-entered g.A.Allocates.keeps g.A.Allocates.are_held state c.args.key c.in-Some.allocation c.give.new.self c.self.invariant new room
    c.give.ensures.promises held)

pub returns-in-Ok-clause-promises : goal.returns-in-Ok-clause-promises
returns-in-Ok-clause-promises g c = invariant_of-self-in-Ok g c
