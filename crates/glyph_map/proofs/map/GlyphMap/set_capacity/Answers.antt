use Rattle.std.proofs.Common.{◌≡◌, ℕ, ◌-◌, ◌≤◌, length, take, reverse, ap, sym, ◌∙◌, subst, arith}
use Rattle.std.specs.NonZero.{non_zero_usize_get}
use Rattle.lru.specs.LruCache.{LruCache}
use Rattle.std.specs.Map.{keys_of}
use Rattle.glyph_shelf.specs.Cache.{CacheState}
use Rattle.glyph_map.specs.Calls.{dropped_pairs, surplus, with_capacity}
use Rattle.glyph_map.specs.Promises.{KeepsMapPromises}
use Rattle.glyph_map.specs.Private.Evicting.{unticketed}
use Rattle.glyph_map.specs.State.{MapState}
use Rattle.glyph_map.specs.declared.ticketed.Ticketed.{Ticketed}
use Rattle.glyph_map.proofs.Joined.{AreInStep, keeps, same-length}
use Rattle.glyph_map.proofs.Shrunk.{on-err, shrunk-listed, shrunk-map, shrunk-step, surplus-map}
use Rattle.glyph_map.proofs.map.GlyphMap.set_capacity.Given.{Over}
use Rattle.glyph_map.proofs.map.GlyphMap.set_capacity.Goals as goal

pub returns-in_err-reserve-clause-surplus : goal.returns-in_err-reserve-clause-surplus
returns-in_err-reserve-clause-surplus g c =
    let full = c.in_err-reserve.ensures.full in
    let nothing = c.new-evicted.ensures.len in
    let asked = c.saturating_sub-surplus.ensures in
    let long = c.len.ensures.len in
    let most = c.get.ensures.value in
    let some : 1 ≤ length c.self.inside.entries.entries - non_zero_usize_get c.args.capacity = omega arith in
    on-err c.from_residual.result
    (subst (λ (s : MapState g.row.K.Denot g.row.V.Denot). 1 ≤ surplus s (non_zero_usize_get c.args.capacity)) c.self.view_is
    (subst (λ (n : ℕ). 1 ≤ n) (sym (surplus-map c.self.inside.entries.entries c.self.inside.cache (non_zero_usize_get c.args.capacity) c.self.invariant.tickets)) some))

pub returns-in_err-reserve-clause-promises : goal.returns-in_err-reserve-clause-promises
returns-in_err-reserve-clause-promises g c =
    subst (KeepsMapPromises g.K.PartialEq.eq) c.self.view_is
    (keeps g.K.PartialEq.eq c.self.inside.entries.entries c.self.inside.cache c.self.invariant.tickets c.self.invariant.promises c.self.invariant.keys)

pub returns-in_err-set_capacity-clause-surplus : goal.returns-in_err-set_capacity-clause-surplus
returns-in_err-set_capacity-clause-surplus g c =
    let more = c.in_err-set_capacity.ensures.surplus in
    let same = same-length c.self.inside.entries.entries c.self.inside.cache.entries c.self.invariant.tickets in
    let some : 1 ≤ length c.self.inside.entries.entries - non_zero_usize_get c.args.capacity = omega arith in
    on-err c.from_residual-in_err-set_capacity.result
    (subst (λ (s : MapState g.row.K.Denot g.row.V.Denot). 1 ≤ surplus s (non_zero_usize_get c.args.capacity)) c.self.view_is
    (subst (λ (n : ℕ). 1 ≤ n) (sym (surplus-map c.self.inside.entries.entries c.self.inside.cache (non_zero_usize_get c.args.capacity) c.self.invariant.tickets)) some))

pub returns-in_err-set_capacity-clause-promises : goal.returns-in_err-set_capacity-clause-promises
returns-in_err-set_capacity-clause-promises g c =
    keeps g.K.PartialEq.eq c.self.inside.entries.entries c.set_capacity.new.self
    (ap (λ (s : CacheState). keys_of s.entries) c.in_err-set_capacity.ensures.err ∙ c.self.invariant.tickets)
    c.set_capacity.ensures.promises c.self.invariant.keys

counted : (g : Over) (c : goal.After-take_last g)
    → c.saturating_sub-surplus.result ≡ length c.self.inside.entries.entries - non_zero_usize_get c.args.capacity
counted g c =
    let asked = c.saturating_sub-surplus.ensures in
    let long = c.len.ensures.len in
    let most = c.get.ensures.value in
    omega arith

left-is : (g : Over) (c : goal.After-take_last g)
    → c.take_last.new.entries.entries
    ≡ take (length c.self.inside.entries.entries - (length c.self.inside.entries.entries - non_zero_usize_get c.args.capacity)) c.self.inside.entries.entries
left-is g c =
    ap (λ (l : LruCache g.row.K.Denot (Ticketed g.row.V.Denot)). l.entries) c.take_last.ensures.left
    ∙ ap (λ (k : ℕ). take (length c.self.inside.entries.entries - k) c.self.inside.entries.entries) (counted g c)

step-is : (g : Over) (c : goal.After-take_last g) → AreInStep c.take_last.new.entries.entries c.set_capacity.new.self.entries
step-is g c =
    shrunk-step c.self.inside.entries.entries c.self.inside.cache (non_zero_usize_get c.args.capacity) c.self.invariant.tickets
    c.take_last.new.entries.entries c.set_capacity.new.self (left-is g c) c.in_ok-set_capacity.ensures.ok

pub invariant_of-self-2 : goal.invariant_of-self-2
invariant_of-self-2 g c =
    record {
      tickets = step-is g c;
      promises = c.set_capacity.ensures.promises;
      keys = c.take_last.ensures.keys;
      unbounded = ap (λ (l : LruCache g.row.K.Denot (Ticketed g.row.V.Denot)). l.cap) c.take_last.ensures.left ∙ c.self.invariant.unbounded;
    }

pub returns-clause-ok : goal.returns-clause-ok
returns-clause-ok g c =
    shrunk-map c.self.inside.entries.entries c.self.inside.cache (non_zero_usize_get c.args.capacity) c.self.invariant.tickets
    c.take_last.new.entries.entries c.set_capacity.new.self (left-is g c) c.in_ok-set_capacity.ensures.ok
    ∙ ap (λ (s : MapState g.row.K.Denot g.row.V.Denot). with_capacity s (non_zero_usize_get c.args.capacity)) c.self.view_is

pub returns-clause-evicted : goal.returns-clause-evicted
returns-clause-evicted g c =
    shrunk-listed c.self.inside.entries.entries c.self.inside.cache (non_zero_usize_get c.args.capacity) c.self.invariant.tickets
    c.take_last.new.taken.items
    (c.take_last.ensures.taken ∙ ap (λ (k : ℕ). take k (reverse (unticketed c.self.inside.entries.entries))) (counted g c))
    ∙ ap (λ (s : MapState g.row.K.Denot g.row.V.Denot). dropped_pairs s (surplus s (non_zero_usize_get c.args.capacity))) c.self.view_is

pub returns-clause-promises : goal.returns-clause-promises
returns-clause-promises g c =
    keeps g.K.PartialEq.eq c.take_last.new.entries.entries c.set_capacity.new.self (step-is g c) c.set_capacity.ensures.promises c.take_last.ensures.keys
