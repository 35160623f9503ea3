use Rattle.std.proofs.Common.{◌≡◌, ℕ, ◌-◌, ◌≤◌, true, Some, None, Result, IfOk, IfErr, List, length, take, drop, refl, ap, sym, ◌∙◌, subst, arith}
use Rattle.std.specs.List.{slice_get}
use Rattle.std.specs.Map.{lookup}
use Rattle.glyph_map.specs.Private.Evicting.{unticketed}
use Rattle.lru.specs.LruCache.{LruCache}
use Rattle.etagere_base.specs.Rectangles.{IsLarge}
use Rattle.glyph_shelf.specs.Cache.{evictable}
use Rattle.glyph_shelf.specs.Placing as cache
use Rattle.glyph_shelf.specs.declared.cache.Placed.{Placed}
use Rattle.glyph_shelf.specs.declared.faults.GlyphFault.{GlyphFault}
use Rattle.glyph_shelf.specs.declared.faults.GlyphFault.TheVariants as below
use Rattle.glyph_map.specs.Placing as placing
use Rattle.glyph_map.specs.Placing.{Places}
use Rattle.glyph_map.specs.Promises.{KeepsMapPromises}
use Rattle.glyph_map.specs.State.{MapState}
use Rattle.std.specs.Prelude.{is_some}
use Rattle.shelf_model.specs.Choice.{placement_of}
use Rattle.shelf_model.specs.Fresh.{fresh}
use Rattle.shelf_model.specs.State.{AtlasState}
use Rattle.glyph_map.specs.Private.Lockstep.{tickets_of}
use Rattle.glyph_map.specs.Private.Outcomes.{went, went_before}
use Rattle.glyph_map.specs.declared.ticketed.Ticketed.{Ticketed}
use Rattle.glyph_map.proofs.Joined.{AreInStep, joined-none, keeps, map_of, same-length}
use Rattle.glyph_map.proofs.Faulted.{evictable-map, fits-not, frame_full-below, full-map, on-ok, refused-map, refused-spares, refused-step, refuses, went-few}
use Rattle.glyph_map.proofs.Settled.{AreOut, are-out, placed-map, placed-step}
use Rattle.glyph_map.proofs.map.GlyphMap.place_new.Given.{Over}
use Rattle.glyph_map.proofs.map.GlyphMap.place_new.Goals as goal

pub returns-then-not-fits_when_empty-clause-promises : goal.returns-then-not-fits_when_empty-clause-promises
returns-then-not-fits_when_empty-clause-promises g c =
    subst (KeepsMapPromises g.K.PartialEq.eq) c.self.view_is
    (keeps g.K.PartialEq.eq c.self.inside.entries.entries c.self.inside.cache c.self.invariant.tickets c.self.invariant.promises c.self.invariant.keys)

pub returns-then-is_err-clause-promises : goal.returns-then-is_err-clause-promises
returns-then-is_err-clause-promises g c =
    subst (KeepsMapPromises g.K.PartialEq.eq) c.self.view_is
    (keeps g.K.PartialEq.eq c.self.inside.entries.entries c.self.inside.cache c.self.invariant.tickets c.self.invariant.promises c.self.invariant.keys)

pub unused_ticket-ticket-requires : goal.unused_ticket-ticket-requires
unused_ticket-ticket-requires g c =
    let same = same-length c.self.inside.entries.entries c.self.inside.cache.entries c.self.invariant.tickets in
    let long = c.len.ensures.len in
    let fits = c.len.ensures.fits in
    omega arith

pub put_first-requires-clause-new : goal.put_first-requires-clause-new
put_first-requires-clause-new g c =
    joined-none (g.K.PartialEq.eq c.args.key) c.self.inside.entries.entries c.self.inside.cache.entries c.self.invariant.tickets
    (subst (λ (s : MapState g.row.K.Denot g.row.V.Denot). lookup (g.K.PartialEq.eq c.args.key) s.entries ≡ None) (sym c.self.view_is) c.requires)

pub returns-in-Err-clause-promises : goal.returns-in-Err-clause-promises
returns-in-Err-clause-promises g c =
    let same = ap (λ (l : LruCache g.row.K.Denot (Ticketed g.row.V.Denot)). l.entries) c.in-Err.ensures.err in
    keeps g.K.PartialEq.eq c.put_first.new.entries.entries c.self.inside.cache
    (c.self.invariant.tickets ∙ ap (λ (l : List (g.row.K.Denot × Ticketed g.row.V.Denot)). tickets_of l) (sym same))
    c.self.invariant.promises c.in-Err.ensures.keys

pub take_last-requires-clause-few : goal.take_last-requires-clause-few
take_last-requires-clause-few g c =
    let few = went-few c.self.inside.cache c.place-outcome.result c.place-outcome.ensures.spared c.place-outcome.ensures.spared_left in
    let same = same-length c.self.inside.entries.entries c.self.inside.cache.entries c.self.invariant.tickets in
    let put = ap (λ (l : LruCache g.row.K.Denot (Ticketed g.row.V.Denot)). length l.entries) c.in_default.ensures.ok in
    let count = c.evictions.ensures in
    omega arith

pub take_last-requires-clause-room : goal.take_last-requires-clause-room
take_last-requires-clause-room g c =
    let few = went-few c.self.inside.cache c.place-outcome.result c.place-outcome.ensures.spared c.place-outcome.ensures.spared_left in
    let same = same-length c.self.inside.entries.entries c.self.inside.cache.entries c.self.invariant.tickets in
    let room = on-ok c.reserve.result (sym c.is_err.ensures.value ∙ c.if-is_err.false) c.reserve.ensures.ok in
    let count = c.evictions.ensures in
    let long = c.len.ensures.len in
    omega arith

few-ok : (g : Over) (c : goal.After-drop-placed g) → c.evictions.result ≤ length c.self.inside.entries.entries
few-ok g c =
    let few = went-few c.self.inside.cache c.place-outcome.result c.place-outcome.ensures.spared c.place-outcome.ensures.spared_left in
    let same = same-length c.self.inside.entries.entries c.self.inside.cache.entries c.self.invariant.tickets in
    let count = c.evictions.ensures in
    omega arith

out-ok : (g : Over) (c : goal.After-drop-placed g)
    → AreOut c.self.inside.entries.entries c.args.key (record { ticket = c.unused_ticket-ticket.result; value = c.args.value })
    (length c.in-Ok.placed.evicted.items) c.take_last.new.taken.items c.take_last.new.entries.entries
out-ok g c =
    subst (λ (k : ℕ). AreOut c.self.inside.entries.entries c.args.key (record { ticket = c.unused_ticket-ticket.result; value = c.args.value })
    k c.take_last.new.taken.items c.take_last.new.entries.entries)
    (c.evictions.ensures ∙ ap (λ (r : Result Placed GlyphFault). length (went r)) c.in-Ok.is)
    (are-out c.self.inside.entries.entries c.args.key (record { ticket = c.unused_ticket-ticket.result; value = c.args.value })
    c.evictions.result c.take_last.new.taken.items c.put_first.new.entries.entries c.take_last.new.entries.entries
    (ap (λ (l : LruCache g.row.K.Denot (Ticketed g.row.V.Denot)). l.entries) c.in_default.ensures.ok)
    (ap (λ (l : LruCache g.row.K.Denot (Ticketed g.row.V.Denot)). l.entries) c.take_last.ensures.left)
    c.take_last.ensures.taken (few-ok g c))

places-ok : (g : Over) (c : goal.After-drop-placed g)
    → cache.Places c.self.inside.cache c.unused_ticket-ticket.result c.args.size c.in-Ok.placed.rectangle c.in-Ok.placed.evicted.items c.place-outcome.new.self
places-ok g c =
    subst (λ (r : Result Placed GlyphFault). IfOk r (λ placed. cache.Places c.self.inside.cache c.unused_ticket-ticket.result c.args.size placed.rectangle placed.evicted.items c.place-outcome.new.self))
    c.in-Ok.is (c.place-outcome.ensures.placed c.unused_ticket-ticket.ensures)

step-ok : (g : Over) (c : goal.After-drop-placed g) → AreInStep c.take_last.new.entries.entries c.place-outcome.new.self.entries
step-ok g c =
    placed-step c.self.inside.entries.entries c.self.inside.cache c.place-outcome.new.self c.args.key
    (record { ticket = c.unused_ticket-ticket.result; value = c.args.value }) c.args.size c.in-Ok.placed.rectangle c.in-Ok.placed.evicted.items
    c.self.invariant.tickets (places-ok g c) c.take_last.new.taken.items c.take_last.new.entries.entries (out-ok g c)

pub invariant_of-self-in-Ok : goal.invariant_of-self-in-Ok
invariant_of-self-in-Ok g c =
    let taken = ap (λ (l : LruCache g.row.K.Denot (Ticketed g.row.V.Denot)). l.cap) c.take_last.ensures.left in
    let put = ap (λ (l : LruCache g.row.K.Denot (Ticketed g.row.V.Denot)). l.cap) c.in_default.ensures.ok in
    record {
      tickets = step-ok g c;
      promises = c.place-outcome.ensures.promises;
      keys = c.take_last.ensures.keys;
      unbounded = taken ∙ put ∙ c.self.invariant.unbounded;
    }

few-first : (g : Over) (c : goal.After-take_first-arg-1 g) → c.evictions.result ≤ length c.self.inside.entries.entries
few-first g c =
    let few = went-few c.self.inside.cache c.place-outcome.result c.place-outcome.ensures.spared c.place-outcome.ensures.spared_left in
    let same = same-length c.self.inside.entries.entries c.self.inside.cache.entries c.self.invariant.tickets in
    let count = c.evictions.ensures in
    omega arith

out-first : (g : Over) (c : goal.After-take_first-arg-1 g)
    → AreOut c.self.inside.entries.entries c.args.key (record { ticket = c.unused_ticket-ticket.result; value = c.args.value })
    (length (went_before c.in-Err-outcome.refused)) c.take_last.new.taken.items c.take_last.new.entries.entries
out-first g c =
    subst (λ (k : ℕ). AreOut c.self.inside.entries.entries c.args.key (record { ticket = c.unused_ticket-ticket.result; value = c.args.value })
    k c.take_last.new.taken.items c.take_last.new.entries.entries)
    (c.evictions.ensures ∙ ap (λ (r : Result Placed GlyphFault). length (went r)) c.in-Err-outcome.is)
    (are-out c.self.inside.entries.entries c.args.key (record { ticket = c.unused_ticket-ticket.result; value = c.args.value })
    c.evictions.result c.take_last.new.taken.items c.put_first.new.entries.entries c.take_last.new.entries.entries
    (ap (λ (l : LruCache g.row.K.Denot (Ticketed g.row.V.Denot)). l.entries) c.in_default.ensures.ok)
    (ap (λ (l : LruCache g.row.K.Denot (Ticketed g.row.V.Denot)). l.entries) c.take_last.ensures.left)
    c.take_last.ensures.taken (few-first g c))

pub take_first-key-requires : goal.take_first-key-requires
take_first-key-requires g c =
    let some = ap (λ (l : List (g.row.K.Denot × Ticketed g.row.V.Denot)). length l) (out-first g c).left in
    omega arith

few-err : (g : Over) (c : goal.After-with_evicted-fault g) → c.evictions.result ≤ length c.self.inside.entries.entries
few-err g c =
    let few = went-few c.self.inside.cache c.place-outcome.result c.place-outcome.ensures.spared c.place-outcome.ensures.spared_left in
    let same = same-length c.self.inside.entries.entries c.self.inside.cache.entries c.self.invariant.tickets in
    let count = c.evictions.ensures in
    omega arith

out-err : (g : Over) (c : goal.After-with_evicted-fault g)
    → AreOut c.self.inside.entries.entries c.args.key (record { ticket = c.unused_ticket-ticket.result; value = c.args.value })
    (length (went_before c.in-Err-outcome.refused)) c.take_last.new.taken.items c.take_last.new.entries.entries
out-err g c =
    subst (λ (k : ℕ). AreOut c.self.inside.entries.entries c.args.key (record { ticket = c.unused_ticket-ticket.result; value = c.args.value })
    k c.take_last.new.taken.items c.take_last.new.entries.entries)
    (c.evictions.ensures ∙ ap (λ (r : Result Placed GlyphFault). length (went r)) c.in-Err-outcome.is)
    (are-out c.self.inside.entries.entries c.args.key (record { ticket = c.unused_ticket-ticket.result; value = c.args.value })
    c.evictions.result c.take_last.new.taken.items c.put_first.new.entries.entries c.take_last.new.entries.entries
    (ap (λ (l : LruCache g.row.K.Denot (Ticketed g.row.V.Denot)). l.entries) c.in_default.ensures.ok)
    (ap (λ (l : LruCache g.row.K.Denot (Ticketed g.row.V.Denot)). l.entries) c.take_last.ensures.left)
    c.take_last.ensures.taken (few-err g c))

rest-err : (g : Over) (c : goal.After-with_evicted-fault g)
    → c.take_first-key.new.entries.entries ≡ take (length c.self.inside.entries.entries - length (went_before c.in-Err-outcome.refused)) c.self.inside.entries.entries
rest-err g c =
    ap (λ (l : LruCache g.row.K.Denot (Ticketed g.row.V.Denot)). l.entries) c.take_first-key.ensures.left
    ∙ ap (λ (l : List (g.row.K.Denot × Ticketed g.row.V.Denot)). drop 1 l) (out-err g c).left

left-err : (g : Over) (c : goal.After-with_evicted-fault g) → cache.IsLeft c.self.inside.cache c.args.size c.in-Err-outcome.refused c.place-outcome.new.self
left-err g c =
    subst (λ (r : Result Placed GlyphFault). IfErr r (λ fault. cache.IsLeft c.self.inside.cache c.args.size fault c.place-outcome.new.self))
    c.in-Err-outcome.is c.place-outcome.ensures.left

step-err : (g : Over) (c : goal.After-with_evicted-fault g) → AreInStep c.take_first-key.new.entries.entries c.place-outcome.new.self.entries
step-err g c =
    refused-step c.self.inside.entries.entries c.self.inside.cache c.place-outcome.new.self c.args.key (record { ticket = c.unused_ticket-ticket.result; value = c.args.value }) c.args.size
    c.self.invariant.tickets c.in-Err-outcome.refused c.take_first-key.new.entries.entries (left-err g c) (rest-err g c)

pub invariant_of-self-in-Err-outcome : goal.invariant_of-self-in-Err-outcome
invariant_of-self-in-Err-outcome g c =
    let first = ap (λ (l : LruCache g.row.K.Denot (Ticketed g.row.V.Denot)). l.cap) c.take_first-key.ensures.left in
    let taken = ap (λ (l : LruCache g.row.K.Denot (Ticketed g.row.V.Denot)). l.cap) c.take_last.ensures.left in
    let put = ap (λ (l : LruCache g.row.K.Denot (Ticketed g.row.V.Denot)). l.cap) c.in_default.ensures.ok in
    record {
      tickets = step-err g c;
      promises = c.place-outcome.ensures.promises;
      keys = c.take_first-key.ensures.keys;
      unbounded = first ∙ taken ∙ put ∙ c.self.invariant.unbounded;
    }

pub returns-in-Ok-clause-placed : goal.returns-in-Ok-clause-placed
returns-in-Ok-clause-placed g c =
    let places = placed-map c.self.inside.entries.entries c.self.inside.cache c.place-outcome.new.self c.args.key
    (record { ticket = c.unused_ticket-ticket.result; value = c.args.value }) c.args.size c.in-Ok.placed.rectangle c.in-Ok.placed.evicted.items
    c.self.invariant.tickets (places-ok g c) c.take_last.new.taken.items c.take_last.new.entries.entries (out-ok g c) in
    let new : MapState g.row.K.Denot g.row.V.Denot = map_of c.take_last.new.entries.entries c.place-outcome.new.self in (
      subst (λ (l : List (g.row.K.Denot × g.row.V.Denot)). Places c.args.self.now c.args.key c.args.value c.args.size c.in-Ok.placed.rectangle l new)
          (sym c.shrink_to_fit.ensures.items)
          (subst (λ (s : MapState g.row.K.Denot g.row.V.Denot). Places s c.args.key c.args.value c.args.size c.in-Ok.placed.rectangle c.take_last.new.taken.items new)
          c.self.view_is places),
      refl,
    )

pub returns-in-Ok-clause-large : goal.returns-in-Ok-clause-large
returns-in-Ok-clause-large g c =
    let large = subst (λ (r : Result Placed GlyphFault). IfOk r (λ placed. IsLarge c.self.inside.cache.atlas.frame c.args.size placed.rectangle)) c.in-Ok.is
    (c.place-outcome.ensures.large c.unused_ticket-ticket.ensures) in
    subst (λ (s : MapState g.row.K.Denot g.row.V.Denot). IsLarge s.atlas.frame c.args.size c.in-Ok.placed.rectangle) c.self.view_is large

pub returns-in-Ok-clause-too_large : goal.returns-in-Ok-clause-too_large
returns-in-Ok-clause-too_large g c = (
  λ never. absurd never,
  λ large. absurd (fits-not (fresh c.self.inside.cache.atlas.frame) c.args.size
      (subst (λ (a : AtlasState). is_some (placement_of (fresh a.frame) c.args.size) ≡ true) c.atlas.ensures (sym c.fits_when_empty.ensures ∙ c.if-not-fits_when_empty.false))
      (subst (λ (s : MapState g.row.K.Denot g.row.V.Denot). placing.IsTooLarge s c.args.size) (sym c.self.view_is) large)),
)

pub returns-in-Ok-clause-spared : goal.returns-in-Ok-clause-spared
returns-in-Ok-clause-spared g c =
    let spared = subst (λ (r : Result Placed GlyphFault). IfOk r (λ placed. length placed.evicted.items ≤ evictable c.self.inside.cache)) c.in-Ok.is c.place-outcome.ensures.spared in
    let counted : length c.shrink_to_fit.new.self.items ≡ length c.in-Ok.placed.evicted.items =
    ap (λ (l : List (g.row.K.Denot × g.row.V.Denot)). length l) c.shrink_to_fit.ensures.items ∙ (out-ok g c).counted in
    subst (λ (s : MapState g.row.K.Denot g.row.V.Denot). length c.shrink_to_fit.new.self.items ≤ placing.evictable s) c.self.view_is
    (subst (λ (k : ℕ). length c.shrink_to_fit.new.self.items ≤ k)
    (sym (evictable-map c.self.inside.entries.entries c.self.inside.cache c.self.inside.cache c.args.key (record { ticket = c.unused_ticket-ticket.result; value = c.args.value }) c.args.size c.self.invariant.tickets))
    (subst (λ (k : ℕ). k ≤ evictable c.self.inside.cache) (sym counted) spared))

pub returns-in-Ok-clause-promises : goal.returns-in-Ok-clause-promises
returns-in-Ok-clause-promises g c =
    keeps g.K.PartialEq.eq c.take_last.new.entries.entries c.place-outcome.new.self (step-ok g c) c.place-outcome.ensures.promises c.take_last.ensures.keys

pair-is : {K V : Type 0} (p q : K × V) → Some p ≡ Some q → (p.0 ≡ q.0) × (p.1 ≡ q.1)
pair-is {K} {V} p q h = let same : p ≡ q = cc in (ap (λ (x : K × V). x.0) same, ap (λ (x : K × V). x.1) same)

pub returns-in-Err-outcome-clause-returned : goal.returns-in-Err-outcome-clause-returned
returns-in-Err-outcome-clause-returned g c =
    pair-is c.take_first-key.result (c.args.key, c.args.value)
    (c.take_first-key.ensures.taken
    ∙ ap (λ (l : List (g.row.K.Denot × Ticketed g.row.V.Denot)). slice_get (unticketed l) 0) (out-err g c).left)

pub returns-in-Err-outcome-clause-left : goal.returns-in-Err-outcome-clause-left
returns-in-Err-outcome-clause-left g c =
    let new : MapState g.row.K.Denot g.row.V.Denot = map_of c.take_first-key.new.entries.entries c.place-outcome.new.self in
    subst (λ (s : MapState g.row.K.Denot g.row.V.Denot). placing.IsLeft s c.args.size c.with_evicted-fault.result new) c.self.view_is
    (refused-map c.self.inside.entries.entries c.self.inside.cache c.place-outcome.new.self c.args.key (record { ticket = c.unused_ticket-ticket.result; value = c.args.value }) c.args.size
    c.self.invariant.tickets c.in-Err-outcome.refused c.with_evicted-fault.result c.take_last.new.taken.items c.take_last.new.entries.entries
    c.take_first-key.new.entries.entries (left-err g c) c.with_evicted-fault.ensures (out-err g c) (rest-err g c))

pub returns-in-Err-outcome-clause-spared_left : goal.returns-in-Err-outcome-clause-spared_left
returns-in-Err-outcome-clause-spared_left g c =
    subst (λ (s : MapState g.row.K.Denot g.row.V.Denot). placing.Spares s c.with_evicted-fault.result) c.self.view_is
    (refused-spares c.self.inside.entries.entries c.self.inside.cache c.place-outcome.new.self c.args.key (record { ticket = c.unused_ticket-ticket.result; value = c.args.value }) c.args.size
    c.self.invariant.tickets c.in-Err-outcome.refused c.with_evicted-fault.result c.take_last.new.taken.items c.take_last.new.entries.entries
    (subst (λ (r : Result Placed GlyphFault). IfErr r (cache.Spares c.self.inside.cache)) c.in-Err-outcome.is c.place-outcome.ensures.spared_left)
    c.with_evicted-fault.ensures (out-err g c))

pub returns-in-Err-outcome-clause-frame_full : goal.returns-in-Err-outcome-clause-frame_full
returns-in-Err-outcome-clause-frame_full g c =
    λ full. subst (λ (s : MapState g.row.K.Denot g.row.V.Denot). placing.IsFrameFull s c.args.size) c.self.view_is
    (full-map c.self.inside.entries.entries c.self.inside.cache c.place-outcome.new.self c.args.key (record { ticket = c.unused_ticket-ticket.result; value = c.args.value }) c.args.size
    c.self.invariant.tickets
    (c.place-outcome.ensures.frame_full
    (refuses c.place-outcome.result c.in-Err-outcome.refused below.FrameFull c.in-Err-outcome.is
    (frame_full-below c.in-Err-outcome.refused c.take_last.new.taken.items c.with_evicted-fault.result c.with_evicted-fault.ensures full))).1)

pub returns-in-Err-outcome-clause-promises : goal.returns-in-Err-outcome-clause-promises
returns-in-Err-outcome-clause-promises g c =
    keeps g.K.PartialEq.eq c.take_first-key.new.entries.entries c.place-outcome.new.self (step-err g c) c.place-outcome.ensures.promises c.take_first-key.ensures.keys
