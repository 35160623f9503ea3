use Rattle.std.proofs.Common.{◌≡◌, Option, Some, None, Bor, ap, sym, ◌∙◌, subst}
use Rattle.std.specs.Map.{lookup, lookup_entry}
use Rattle.std.specs.Prelude.{option_map}
use Rattle.etagere_base.specs.declared.geometry.Rectangle.{Rectangle}
use Rattle.glyph_map.specs.Calls.{seen, seen_at}
use Rattle.glyph_map.specs.Promises.{KeepsMapPromises}
use Rattle.glyph_map.specs.State.{Held, MapState}
use Rattle.glyph_map.proofs.Entries.{entry-some}
use Rattle.glyph_map.proofs.Found.{IsFound, found-both, rectangle-is, seen-is}
use Rattle.glyph_map.proofs.Joined.{keeps, none-joined}
use Rattle.glyph_map.proofs.map.GlyphMap.peek.Given.{Over}
use Rattle.glyph_map.proofs.map.GlyphMap.peek.Goals as goal

none-is : (g : Over) (c : goal.After-from_residual g) → lookup (g.K.PartialEq.eq c.args.key.now) c.args.self.now.entries ≡ None
none-is g c =
    subst (λ (s : MapState g.row.K.Denot g.row.V.Denot). lookup (g.K.PartialEq.eq c.args.key.now) s.entries ≡ None) c.self.view_is
    (none-joined (g.K.PartialEq.eq c.args.key.now) c.self.inside.entries.entries c.self.inside.cache.entries c.self.invariant.tickets (sym c.in_err-entry.ensures))

pub returns-in_err-entry-clause-value : goal.returns-in_err-entry-clause-value
returns-in_err-entry-clause-value g c =
    ap (option_map (λ (s : Rectangle × Bor g.row.V.Denot). let p : Rectangle × g.row.V.Denot = (s.0, s.1.now) in p)) c.from_residual.ensures
    ∙ sym (ap (λ (x : Option (Held g.row.V.Denot)). option_map seen x) (none-is g c))

pub returns-in_err-entry-clause-promises : goal.returns-in_err-entry-clause-promises
returns-in_err-entry-clause-promises g c =
    subst (KeepsMapPromises g.K.PartialEq.eq) c.self.view_is
    (keeps g.K.PartialEq.eq c.self.inside.entries.entries c.self.inside.cache c.self.invariant.tickets c.self.invariant.promises c.self.invariant.keys)

some-none : {X : Type 0} (x : X) → Some x ≡ None → ⊥
some-none x h = cc

entry-lost : (g : Over) (c : goal.In_default g) → (key : g.row.K.Denot) × (lookup_entry (g.K.PartialEq.eq c.args.key.now) c.self.inside.entries.entries ≡ Some (key, c.in_ok-entry.entry.now))
entry-lost g c = entry-some (g.K.PartialEq.eq c.args.key.now) c.self.inside.entries.entries c.in_ok-entry.entry.now (sym c.in_ok-entry.ensures)

found-lost : (g : Over) (c : goal.In_default g) → IsFound (g.K.PartialEq.eq c.args.key.now) c.self.inside.entries.entries c.self.inside.cache.entries (entry-lost g c).0 c.in_ok-entry.entry.now
found-lost g c =
    found-both (g.K.PartialEq.eq c.args.key.now) c.self.inside.entries.entries c.self.inside.cache.entries (entry-lost g c).0 c.in_ok-entry.entry.now
    c.self.invariant.tickets c.self.invariant.promises.keys (entry-lost g c).1

pub unreachable-requires : goal.unreachable-requires
unreachable-requires g c =
    some-none (found-lost g c).allocation.rectangle (sym (rectangle-is (g.K.PartialEq.eq c.args.key.now) c.self.inside.entries.entries c.self.inside.cache c.self.inside.cache (entry-lost g c).0 c.in_ok-entry.entry.now (found-lost g c) (entry-lost g c).1) ∙ sym c.peek-2.ensures.value ∙ c.in_default.is)

entry : (g : Over) (c : goal.In-Some g) → (key : g.row.K.Denot) × (lookup_entry (g.K.PartialEq.eq c.args.key.now) c.self.inside.entries.entries ≡ Some (key, c.in_ok-entry.entry.now))
entry g c = entry-some (g.K.PartialEq.eq c.args.key.now) c.self.inside.entries.entries c.in_ok-entry.entry.now (sym c.in_ok-entry.ensures)

found : (g : Over) (c : goal.In-Some g) → IsFound (g.K.PartialEq.eq c.args.key.now) c.self.inside.entries.entries c.self.inside.cache.entries (entry g c).0 c.in_ok-entry.entry.now
found g c =
    found-both (g.K.PartialEq.eq c.args.key.now) c.self.inside.entries.entries c.self.inside.cache.entries (entry g c).0 c.in_ok-entry.entry.now
    c.self.invariant.tickets c.self.invariant.promises.keys (entry g c).1

pub returns-clause-value : goal.returns-clause-value
returns-clause-value g c =
    let rectangle = sym c.in-Some.is ∙ c.peek-2.ensures.value ∙ rectangle-is (g.K.PartialEq.eq c.args.key.now) c.self.inside.entries.entries c.self.inside.cache c.self.inside.cache (entry g c).0 c.in_ok-entry.entry.now (found g c) (entry g c).1 in
    ap (option_map (λ (r : Rectangle). let p : Rectangle × g.row.V.Denot = (r, c.in_ok-entry.entry.now.value) in p)) rectangle
    ∙ sym (seen-is (g.K.PartialEq.eq c.args.key.now) c.self.inside.entries.entries c.self.inside.cache c.self.inside.cache (entry g c).0 c.in_ok-entry.entry.now (found g c) (entry g c).1)
    ∙ ap (λ (s : MapState g.row.K.Denot g.row.V.Denot). seen_at (g.K.PartialEq.eq c.args.key.now) s) c.self.view_is

pub returns-clause-promises : goal.returns-clause-promises
returns-clause-promises g c =
    subst (KeepsMapPromises g.K.PartialEq.eq) c.self.view_is
    (keeps g.K.PartialEq.eq c.self.inside.entries.entries c.self.inside.cache c.self.invariant.tickets c.self.invariant.promises c.self.invariant.keys)
