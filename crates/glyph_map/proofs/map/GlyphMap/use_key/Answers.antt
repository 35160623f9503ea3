use Rattle.std.proofs.Common.{◌≡◌, Option, Some, None, ap, sym, ◌∙◌, subst}
use Rattle.std.specs.Map.{lookup, lookup_entry}
use Rattle.std.specs.Prelude.{option_map}
use Rattle.etagere_base.specs.declared.geometry.Rectangle.{Rectangle}
use Rattle.lru.specs.LruCache.{LruCache}
use Rattle.glyph_map.specs.Calls.{seen, seen_at, used}
use Rattle.glyph_map.specs.Promises.{KeepsMapPromises}
use Rattle.glyph_map.specs.State.{Held, MapState}
use Rattle.glyph_map.specs.declared.ticketed.Ticketed.{Ticketed}
use Rattle.glyph_map.proofs.Entries.{entry-some}
use Rattle.glyph_map.proofs.Found.{IsFound, found-both, rectangle-is, seen-is, used-map, used-none, used-step}
use Rattle.glyph_map.proofs.Joined.{AreInStep, keeps, none-joined}
use Rattle.glyph_map.proofs.map.GlyphMap.use_key.Given.{Over}
use Rattle.glyph_map.proofs.map.GlyphMap.use_key.Goals as goal

none-is : (g : Over) (c : goal.After-from_residual g) → lookup (g.K.PartialEq.eq c.args.key.now) c.args.self.now.entries ≡ None
none-is g c =
    subst (λ (s : MapState g.row.K.Denot g.row.V.Denot). lookup (g.K.PartialEq.eq c.args.key.now) s.entries ≡ None) c.self.view_is
    (none-joined (g.K.PartialEq.eq c.args.key.now) c.self.inside.entries.entries c.self.inside.cache.entries c.self.invariant.tickets (sym c.in_err-ticket.ensures))

pub returns-in_err-ticket-clause-value : goal.returns-in_err-ticket-clause-value
returns-in_err-ticket-clause-value g c =
    c.from_residual.ensures
    ∙ sym (ap (λ (x : Option (Held g.row.V.Denot)). option_map (λ (s : Rectangle × g.row.V.Denot). s.0) (option_map seen x)) (none-is g c))

pub returns-in_err-ticket-clause-used : goal.returns-in_err-ticket-clause-used
returns-in_err-ticket-clause-used g c =
    sym (used-none (g.K.PartialEq.eq c.args.key.now) c.args.self.now (none-is g c))

pub returns-in_err-ticket-clause-promises : goal.returns-in_err-ticket-clause-promises
returns-in_err-ticket-clause-promises g c =
    subst (KeepsMapPromises g.K.PartialEq.eq) c.self.view_is
    (keeps g.K.PartialEq.eq c.self.inside.entries.entries c.self.inside.cache c.self.invariant.tickets c.self.invariant.promises c.self.invariant.keys)

entry : (g : Over) (c : goal.After-get g) → (key : g.row.K.Denot) × (lookup_entry (g.K.PartialEq.eq c.args.key.now) c.self.inside.entries.entries ≡ Some (key, c.in_ok-ticket.field-0.now))
entry g c = entry-some (g.K.PartialEq.eq c.args.key.now) c.self.inside.entries.entries c.in_ok-ticket.field-0.now (sym c.in_ok-ticket.ensures)

found : (g : Over) (c : goal.After-get g) → IsFound (g.K.PartialEq.eq c.args.key.now) c.self.inside.entries.entries c.self.inside.cache.entries (entry g c).0 c.in_ok-ticket.field-0.now
found g c =
    found-both (g.K.PartialEq.eq c.args.key.now) c.self.inside.entries.entries c.self.inside.cache.entries (entry g c).0 c.in_ok-ticket.field-0.now
    c.self.invariant.tickets c.self.invariant.promises.keys (entry g c).1

step : (g : Over) (c : goal.After-get g) → AreInStep c.promote.new.entries.entries c.get.new.self.entries
step g c = used-step (g.K.PartialEq.eq c.args.key.now) c.self.inside.entries.entries c.self.inside.cache c.get.new.self (entry g c).0 c.in_ok-ticket.field-0.now (found g c) (entry g c).1 c.promote.new.entries.entries (ap (λ (l : LruCache g.row.K.Denot (Ticketed g.row.V.Denot)). l.entries) c.promote.ensures.entries) c.get.ensures.used

pub invariant_of-self : goal.invariant_of-self
invariant_of-self g c =
    record {
      tickets = step g c;
      promises = c.get.ensures.promises;
      keys = c.promote.ensures.keys;
      unbounded = ap (λ (l : LruCache g.row.K.Denot (Ticketed g.row.V.Denot)). l.cap) c.promote.ensures.entries ∙ c.self.invariant.unbounded;
    }

pub returns-clause-value : goal.returns-clause-value
returns-clause-value g c =
    c.get.ensures.value
    ∙ rectangle-is (g.K.PartialEq.eq c.args.key.now) c.self.inside.entries.entries c.self.inside.cache c.get.new.self (entry g c).0 c.in_ok-ticket.field-0.now (found g c) (entry g c).1
    ∙ sym (ap (option_map (λ (s : Rectangle × g.row.V.Denot). s.0)) (seen-is (g.K.PartialEq.eq c.args.key.now) c.self.inside.entries.entries c.self.inside.cache c.get.new.self (entry g c).0 c.in_ok-ticket.field-0.now (found g c) (entry g c).1))
    ∙ ap (λ (s : MapState g.row.K.Denot g.row.V.Denot). option_map (λ (x : Rectangle × g.row.V.Denot). x.0) (seen_at (g.K.PartialEq.eq c.args.key.now) s)) c.self.view_is

pub returns-clause-used : goal.returns-clause-used
returns-clause-used g c =
    used-map (g.K.PartialEq.eq c.args.key.now) c.self.inside.entries.entries c.self.inside.cache c.get.new.self (entry g c).0 c.in_ok-ticket.field-0.now (found g c) (entry g c).1 c.promote.new.entries.entries (ap (λ (l : LruCache g.row.K.Denot (Ticketed g.row.V.Denot)). l.entries) c.promote.ensures.entries) c.get.ensures.used
    ∙ ap (λ (s : MapState g.row.K.Denot g.row.V.Denot). used (g.K.PartialEq.eq c.args.key.now) s) c.self.view_is

pub returns-clause-promises : goal.returns-clause-promises
returns-clause-promises g c =
    keeps g.K.PartialEq.eq c.promote.new.entries.entries c.get.new.self (step g c) c.get.ensures.promises c.promote.ensures.keys
