use Rattle.std.proofs.Common.{◌≡◌, Option, Some, None, ◌∷◌, ap, sym, ◌∙◌, subst}
use Rattle.std.specs.Map.{lookup, lookup_entry, remove_entry}
use Rattle.std.specs.Prelude.{option_map}
use Rattle.lru.specs.LruCache.{LruCache}
use Rattle.glyph_map.specs.Calls.{seen, seen_at, used, with_value}
use Rattle.glyph_map.specs.State.{Held, MapState}
use Rattle.glyph_map.specs.declared.ticketed.Ticketed.{Ticketed}
use Rattle.glyph_map.specs.Placing.{IsFrameFull, IsNew}
use Rattle.glyph_map.specs.declared.faults.MapFault.TheVariants.{FrameFull}
use Rattle.glyph_map.specs.declared.faults.Refused.{Refused}
use Rattle.glyph_map.proofs.Entries.{entry-some, put-known}
use Rattle.glyph_map.proofs.Faulted.{if-err}
use Rattle.glyph_map.proofs.Found.{IsFound, found-both, rectangle-is, revalued-map, revalued-step, seen-is}
use Rattle.glyph_map.proofs.Joined.{AreInStep, keeps, none-joined}
use Rattle.glyph_map.proofs.map.GlyphMap.place.Given.{Over}
use Rattle.glyph_map.proofs.map.GlyphMap.place.Goals as goal

some-none : {X : Type 0} (x : X) → Some x ≡ None → ⊥
some-none x h = cc

none-before : (g : Over) (c : goal.After-place_new-arg-1 g) → lookup (g.K.PartialEq.eq c.args.key) c.args.self.now.entries ≡ None
none-before g c =
    subst (λ (s : MapState g.row.K.Denot g.row.V.Denot). lookup (g.K.PartialEq.eq c.args.key) s.entries ≡ None) c.self.view_is
    (none-joined (g.K.PartialEq.eq c.args.key) c.self.inside.entries.entries c.self.inside.cache.entries c.self.invariant.tickets (sym c.in_default.ensures))

pub place_new-requires : goal.place_new-requires
place_new-requires g c =
    none-before g c

none-is : (g : Over) (c : goal.After-place_new g) → lookup (g.K.PartialEq.eq c.args.key) c.args.self.now.entries ≡ None
none-is g c =
    subst (λ (s : MapState g.row.K.Denot g.row.V.Denot). lookup (g.K.PartialEq.eq c.args.key) s.entries ≡ None) c.self.view_is
    (none-joined (g.K.PartialEq.eq c.args.key) c.self.inside.entries.entries c.self.inside.cache.entries c.self.invariant.tickets (sym c.in_default.ensures))

pub returns-in_default-clause-found : goal.returns-in_default-clause-found
returns-in_default-clause-found g c =
    let nothing : seen_at (g.K.PartialEq.eq c.args.key) c.args.self.now ≡ None = ap (λ (x : Option (Held g.row.V.Denot)). option_map seen x) (none-is g c) in
    rw nothing tt

pub returns-in_default-clause-too_large : goal.returns-in_default-clause-too_large
returns-in_default-clause-too_large g c =
    (λ refused. (none-is g c, c.place_new.ensures.too_large.0 refused), λ large. c.place_new.ensures.too_large.1 large.1)

pub returns-in_default-clause-frame_full : goal.returns-in_default-clause-frame_full
returns-in_default-clause-frame_full g c =
    if-err c.place_new.result
    (λ (refused : Refused g.row.K.Denot g.row.V.Denot). refused.fault ≡ FrameFull → IsFrameFull c.args.self.now c.args.size)
    (λ (refused : Refused g.row.K.Denot g.row.V.Denot). refused.fault ≡ FrameFull → IsNew (g.K.PartialEq.eq c.args.key) c.args.self.now × IsFrameFull c.args.self.now c.args.size)
    (λ refused full fault. (none-is g c, full fault))
    c.place_new.ensures.frame_full

entry-lost : (g : Over) (c : goal.In_default-get g) → (key : g.row.K.Denot) × (lookup_entry (g.K.PartialEq.eq c.args.key) c.self.inside.entries.entries ≡ Some (key, c.in-Some.entry.now))
entry-lost g c = entry-some (g.K.PartialEq.eq c.args.key) c.self.inside.entries.entries c.in-Some.entry.now (sym c.in-Some.ensures)

found-lost : (g : Over) (c : goal.In_default-get g) → IsFound (g.K.PartialEq.eq c.args.key) c.self.inside.entries.entries c.self.inside.cache.entries (entry-lost g c).0 c.in-Some.entry.now
found-lost g c =
    found-both (g.K.PartialEq.eq c.args.key) c.self.inside.entries.entries c.self.inside.cache.entries (entry-lost g c).0 c.in-Some.entry.now
    c.self.invariant.tickets c.self.invariant.promises.keys (entry-lost g c).1

pub unreachable-requires : goal.unreachable-requires
unreachable-requires g c =
    some-none (found-lost g c).allocation.rectangle (sym (rectangle-is (g.K.PartialEq.eq c.args.key) c.self.inside.entries.entries c.self.inside.cache c.get.new.self (entry-lost g c).0 c.in-Some.entry.now (found-lost g c) (entry-lost g c).1) ∙ sym c.get.ensures.value ∙ c.in_default-get.is)

entry : (g : Over) (c : goal.After-new-evicted g) → (key : g.row.K.Denot) × (lookup_entry (g.K.PartialEq.eq c.args.key) c.self.inside.entries.entries ≡ Some (key, c.in-Some.entry.now))
entry g c = entry-some (g.K.PartialEq.eq c.args.key) c.self.inside.entries.entries c.in-Some.entry.now (sym c.in-Some.ensures)

found : (g : Over) (c : goal.After-new-evicted g) → IsFound (g.K.PartialEq.eq c.args.key) c.self.inside.entries.entries c.self.inside.cache.entries (entry g c).0 c.in-Some.entry.now
found g c =
    found-both (g.K.PartialEq.eq c.args.key) c.self.inside.entries.entries c.self.inside.cache.entries (entry g c).0 c.in-Some.entry.now
    c.self.invariant.tickets c.self.invariant.promises.keys (entry g c).1

left-is : (g : Over) (c : goal.After-new-evicted g)
    → c.revalue-replaced.new.entries.entries ≡ ((entry g c).0, record { ticket = c.in-Some.entry.now.ticket; value = c.args.value }) ∷ remove_entry (g.K.PartialEq.eq c.args.key) c.self.inside.entries.entries
left-is g c =
    ap (λ (l : LruCache g.row.K.Denot (Ticketed g.row.V.Denot)). l.entries) c.revalue-replaced.ensures.entries
    ∙ put-known g.K.PartialEq.eq c.self.inside.entries c.args.key (record { ticket = c.in-Some.entry.now.ticket; value = c.args.value })
    (entry g c).0 c.in-Some.entry.now (entry g c).1

step : (g : Over) (c : goal.After-new-evicted g) → AreInStep c.revalue-replaced.new.entries.entries c.get.new.self.entries
step g c = revalued-step (g.K.PartialEq.eq c.args.key) c.self.inside.entries.entries c.self.inside.cache c.get.new.self (entry g c).0 c.in-Some.entry.now (found g c) (entry g c).1 c.revalue-replaced.new.entries.entries c.args.value (left-is g c) c.get.ensures.used

seen-there : (g : Over) (c : goal.After-new-evicted g) → seen_at (g.K.PartialEq.eq c.args.key) c.args.self.now ≡ Some ((found g c).allocation.rectangle, c.in-Some.entry.now.value)
seen-there g c =
    sym (ap (λ (s : MapState g.row.K.Denot g.row.V.Denot). seen_at (g.K.PartialEq.eq c.args.key) s) c.self.view_is) ∙ seen-is (g.K.PartialEq.eq c.args.key) c.self.inside.entries.entries c.self.inside.cache c.get.new.self (entry g c).0 c.in-Some.entry.now (found g c) (entry g c).1

not-new : (g : Over) (c : goal.After-new-evicted g) → lookup (g.K.PartialEq.eq c.args.key) c.args.self.now.entries ≡ None → ⊥
not-new g c new =
    some-none ((found g c).allocation.rectangle, c.in-Some.entry.now.value)
    (sym (seen-there g c) ∙ ap (λ (x : Option (Held g.row.V.Denot)). option_map seen x) new)

some-same : {X : Type 0} (x y : X) → Some x ≡ Some y → x ≡ y
some-same x y h = cc

pub invariant_of-self : goal.invariant_of-self
invariant_of-self g c =
    record {
      tickets = step g c;
      promises = c.get.ensures.promises;
      keys = c.revalue-replaced.ensures.keys;
      unbounded = ap (λ (l : LruCache g.row.K.Denot (Ticketed g.row.V.Denot)). l.cap) c.revalue-replaced.ensures.entries ∙ c.self.invariant.unbounded;
    }

pub returns-clause-found : goal.returns-clause-found
returns-clause-found g c =
    let rectangle = some-same c.in-Some-get.rectangle (found g c).allocation.rectangle (sym c.in-Some-get.is ∙ c.get.ensures.value ∙ rectangle-is (g.K.PartialEq.eq c.args.key) c.self.inside.entries.entries c.self.inside.cache c.get.new.self (entry g c).0 c.in-Some.entry.now (found g c) (entry g c).1) in
    let old = c.revalue-replaced.ensures.old
    ∙ ap (option_map (λ (e : Ticketed g.row.V.Denot). let p : g.row.K.Denot × g.row.V.Denot = (c.args.key, e.value) in p)) (sym c.in-Some.ensures) in
    let new = revalued-map (g.K.PartialEq.eq c.args.key) c.self.inside.entries.entries c.self.inside.cache c.get.new.self (entry g c).0 c.in-Some.entry.now (found g c) (entry g c).1 c.revalue-replaced.new.entries.entries c.args.value (left-is g c) c.get.ensures.used
    ∙ ap (λ (s : MapState g.row.K.Denot g.row.V.Denot). with_value (g.K.PartialEq.eq c.args.key) c.args.value (used (g.K.PartialEq.eq c.args.key) s)) c.self.view_is in
    rw (seen-there g c) ((rectangle, old, c.new-evicted.ensures.items), new)

pub returns-clause-placed : goal.returns-clause-placed
returns-clause-placed g c =
    λ new. absurd (not-new g c new)

pub returns-clause-large : goal.returns-clause-large
returns-clause-large g c =
    λ new. absurd (not-new g c new)

pub returns-clause-too_large : goal.returns-clause-too_large
returns-clause-too_large g c =
    (λ never. absurd never, λ large. not-new g c large.0)

pub returns-clause-promises : goal.returns-clause-promises
returns-clause-promises g c =
    keeps g.K.PartialEq.eq c.revalue-replaced.new.entries.entries c.get.new.self (step g c) c.get.ensures.promises c.revalue-replaced.ensures.keys
