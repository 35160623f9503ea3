use Rattle.std.proofs.Common.{◌≡◌, Option, Some, None, List, ap, sym, ◌∙◌, subst}
use Rattle.std.specs.Map.{lookup, lookup_entry}
use Rattle.std.specs.Prelude.{option_map}
use Rattle.etagere_base.specs.declared.geometry.Rectangle.{Rectangle}
use Rattle.lru.specs.LruCache.{LruCache}
use Rattle.glyph_map.specs.Calls.{seen, seen_at, without_key}
use Rattle.glyph_map.specs.Private.Lockstep.{tickets_of}
use Rattle.glyph_map.specs.State.{Held, MapState}
use Rattle.glyph_map.specs.declared.ticketed.Ticketed.{Ticketed}
use Rattle.glyph_map.proofs.Entries.{entry-some}
use Rattle.glyph_shelf.proofs.UsedKeys.Entries.{removed-unknown}
use Rattle.glyph_map.proofs.Found.{IsFound, found-both, rectangle-is, removed-map, removed-step, seen-is, without-none}
use Rattle.glyph_map.proofs.Joined.{AreInStep, keeps, map_of, none-joined}
use Rattle.glyph_map.proofs.map.GlyphMap.remove.Given.{Over}
use Rattle.glyph_map.proofs.map.GlyphMap.remove.Goals as goal

none-is : (g : Over) (c : goal.After-from_residual g) → lookup (g.K.PartialEq.eq c.args.key.now) c.args.self.now.entries ≡ None
none-is g c =
    subst (λ (s : MapState g.row.K.Denot g.row.V.Denot). lookup (g.K.PartialEq.eq c.args.key.now) s.entries ≡ None) c.self.view_is
    (none-joined (g.K.PartialEq.eq c.args.key.now) c.self.inside.entries.entries c.self.inside.cache.entries c.self.invariant.tickets (sym c.in_err-ticket.ensures.value))

same-is : (g : Over) (c : goal.After-from_residual g) → c.take.new.entries.entries ≡ c.self.inside.entries.entries
same-is g c = ap (λ (l : LruCache g.row.K.Denot (Ticketed g.row.V.Denot)). l.entries) c.take.ensures.entries ∙ removed-unknown (g.K.PartialEq.eq c.args.key.now) c.self.inside.entries.entries (sym c.in_err-ticket.ensures.value)

still : (g : Over) (c : goal.After-from_residual g) → AreInStep c.take.new.entries.entries c.self.inside.cache.entries
still g c = c.self.invariant.tickets ∙ ap (λ (l : List (g.row.K.Denot × Ticketed g.row.V.Denot)). tickets_of l) (sym (same-is g c))

pub invariant_of-self : goal.invariant_of-self
invariant_of-self g c =
    record {
      tickets = still g c;
      promises = c.self.invariant.promises;
      keys = c.take.ensures.keys;
      unbounded = ap (λ (l : LruCache g.row.K.Denot (Ticketed g.row.V.Denot)). l.cap) c.take.ensures.entries ∙ c.self.invariant.unbounded;
    }

pub returns-in_err-ticket-clause-value : goal.returns-in_err-ticket-clause-value
returns-in_err-ticket-clause-value g c =
    c.from_residual.ensures ∙ sym (ap (λ (x : Option (Held g.row.V.Denot)). option_map seen x) (none-is g c))

pub returns-in_err-ticket-clause-removed : goal.returns-in_err-ticket-clause-removed
returns-in_err-ticket-clause-removed g c =
    ap (λ (l : List (g.row.K.Denot × Ticketed g.row.V.Denot)). map_of l c.self.inside.cache) (same-is g c)
    ∙ c.self.view_is ∙ sym (without-none (g.K.PartialEq.eq c.args.key.now) c.args.self.now (none-is g c))

pub returns-in_err-ticket-clause-promises : goal.returns-in_err-ticket-clause-promises
returns-in_err-ticket-clause-promises g c =
    keeps g.K.PartialEq.eq c.take.new.entries.entries c.self.inside.cache (still g c) c.self.invariant.promises c.take.ensures.keys

some-none : {X : Type 0} (x : X) → Some x ≡ None → ⊥
some-none x h = cc

entry-lost : (g : Over) (c : goal.In_default g) → (key : g.row.K.Denot) × (lookup_entry (g.K.PartialEq.eq c.args.key.now) c.self.inside.entries.entries ≡ Some (key, c.in_ok-ticket.field-0))
entry-lost g c = entry-some (g.K.PartialEq.eq c.args.key.now) c.self.inside.entries.entries c.in_ok-ticket.field-0 (sym c.in_ok-ticket.ensures.value)

found-lost : (g : Over) (c : goal.In_default g) → IsFound (g.K.PartialEq.eq c.args.key.now) c.self.inside.entries.entries c.self.inside.cache.entries (entry-lost g c).0 c.in_ok-ticket.field-0
found-lost g c =
    found-both (g.K.PartialEq.eq c.args.key.now) c.self.inside.entries.entries c.self.inside.cache.entries (entry-lost g c).0 c.in_ok-ticket.field-0
    c.self.invariant.tickets c.self.invariant.promises.keys (entry-lost g c).1

pub unreachable-requires : goal.unreachable-requires
unreachable-requires g c =
    some-none (found-lost g c).allocation.rectangle (sym (rectangle-is (g.K.PartialEq.eq c.args.key.now) c.self.inside.entries.entries c.self.inside.cache c.remove.new.self (entry-lost g c).0 c.in_ok-ticket.field-0 (found-lost g c) (entry-lost g c).1) ∙ sym c.remove.ensures.value ∙ c.in_default.is)

entry : (g : Over) (c : goal.In-Some g) → (key : g.row.K.Denot) × (lookup_entry (g.K.PartialEq.eq c.args.key.now) c.self.inside.entries.entries ≡ Some (key, c.in_ok-ticket.field-0))
entry g c = entry-some (g.K.PartialEq.eq c.args.key.now) c.self.inside.entries.entries c.in_ok-ticket.field-0 (sym c.in_ok-ticket.ensures.value)

found : (g : Over) (c : goal.In-Some g) → IsFound (g.K.PartialEq.eq c.args.key.now) c.self.inside.entries.entries c.self.inside.cache.entries (entry g c).0 c.in_ok-ticket.field-0
found g c =
    found-both (g.K.PartialEq.eq c.args.key.now) c.self.inside.entries.entries c.self.inside.cache.entries (entry g c).0 c.in_ok-ticket.field-0
    c.self.invariant.tickets c.self.invariant.promises.keys (entry g c).1

step : (g : Over) (c : goal.In-Some g) → AreInStep c.take.new.entries.entries c.remove.new.self.entries
step g c = removed-step (g.K.PartialEq.eq c.args.key.now) c.self.inside.entries.entries c.self.inside.cache c.remove.new.self (entry g c).0 c.in_ok-ticket.field-0 (found g c) (entry g c).1 c.take.new.entries.entries (ap (λ (l : LruCache g.row.K.Denot (Ticketed g.row.V.Denot)). l.entries) c.take.ensures.entries) c.remove.ensures.removed

pub invariant_of-self-2 : goal.invariant_of-self-2
invariant_of-self-2 g c =
    record {
      tickets = step g c;
      promises = c.remove.ensures.promises;
      keys = c.take.ensures.keys;
      unbounded = ap (λ (l : LruCache g.row.K.Denot (Ticketed g.row.V.Denot)). l.cap) c.take.ensures.entries ∙ c.self.invariant.unbounded;
    }

pub returns-clause-value : goal.returns-clause-value
returns-clause-value g c =
    let rectangle = sym c.in-Some.is ∙ c.remove.ensures.value ∙ rectangle-is (g.K.PartialEq.eq c.args.key.now) c.self.inside.entries.entries c.self.inside.cache c.remove.new.self (entry g c).0 c.in_ok-ticket.field-0 (found g c) (entry g c).1 in
    ap (option_map (λ (r : Rectangle). let p : Rectangle × g.row.V.Denot = (r, c.in_ok-ticket.field-0.value) in p)) rectangle
    ∙ sym (seen-is (g.K.PartialEq.eq c.args.key.now) c.self.inside.entries.entries c.self.inside.cache c.remove.new.self (entry g c).0 c.in_ok-ticket.field-0 (found g c) (entry g c).1)
    ∙ ap (λ (s : MapState g.row.K.Denot g.row.V.Denot). seen_at (g.K.PartialEq.eq c.args.key.now) s) c.self.view_is

pub returns-clause-removed : goal.returns-clause-removed
returns-clause-removed g c =
    removed-map (g.K.PartialEq.eq c.args.key.now) c.self.inside.entries.entries c.self.inside.cache c.remove.new.self (entry g c).0 c.in_ok-ticket.field-0 (found g c) (entry g c).1 c.take.new.entries.entries (ap (λ (l : LruCache g.row.K.Denot (Ticketed g.row.V.Denot)). l.entries) c.take.ensures.entries) c.remove.ensures.removed
    ∙ ap (λ (s : MapState g.row.K.Denot g.row.V.Denot). without_key (g.K.PartialEq.eq c.args.key.now) s) c.self.view_is

pub returns-clause-promises : goal.returns-clause-promises
returns-clause-promises g c =
    keeps g.K.PartialEq.eq c.take.new.entries.entries c.remove.new.self (step g c) c.remove.ensures.promises c.take.ensures.keys
