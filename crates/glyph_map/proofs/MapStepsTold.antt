-- A call changes what a map lists just as its reply tells.
use Rattle.std.proofs.Common.{◌≡◌, ℕ, ◌-◌, Option, Some, None, List, ◌∷◌, inl, inr, length, map, take, reverse, refl, ap, sym, ◌∙◌, arith}
use Rattle.std.proofs.lemmas.List.{length-map, length-reverse, length-take, take-map}
use Rattle.std.specs.Map.{lookup}
use Rattle.std.specs.Option.{option_map_or}
use Rattle.std.specs.NonZero.{non_zero_usize_get}
use Rattle.std.specs.Prelude.{Bool, not, option_map}
use Rattle.lru.specs.LruCache.{promoted}
use Rattle.etagere_base.specs.declared.geometry.Rectangle.{Rectangle}
use Rattle.etagere_base.specs.declared.geometry.Size.{Size}
use Rattle.etagere_base.specs.declared.ids.Allocation.{Allocation}
use Rattle.glyph_shelf.specs.Cache.{after_dropping}
use Rattle.glyph_shelf.proofs.Callers.{entries-after_dropping}
use Rattle.glyph_map.specs.Calls.{dropped_pairs, seen, seen_at, surplus, with_capacity}
use Rattle.glyph_map.specs.Placing.{IsLeft, Places}
use Rattle.glyph_map.specs.State.{Held, MapState, cache_of, pairs_of}
use Rattle.glyph_map.specs.declared.faults.MapFault.{MapFault}
use Rattle.glyph_map.specs.declared.faults.MapFault.TheVariants.{TooLarge, Memory, FrameFull}
use Rattle.glyph_map.specs.declared.map.Placed.{Placed}
use Rattle.glyph_map.specs.declared.runs.calls.MapCall.{MapCall}
use Rattle.glyph_map.specs.declared.runs.calls.MapCall.TheVariants.{Place, UseKey, Remove, Retain, BeginFrame, Grow, SetCapacity, Clear}
use Rattle.glyph_map.specs.declared.runs.calls.MapReply.{MapReply}
use Rattle.glyph_map.specs.declared.runs.calls.MapReply.TheVariants as reply
use Rattle.glyph_shelf.specs.Dropping.{is_one_of}
use Rattle.glyph_map.specs.Runs.{MayAnswer, PlacesAgain, PlacesNew}
use Rattle.glyph_map.specs.Told.{Told, entries_seen, told_after, with_first_value, without_evicted, without_last}
use Rattle.glyph_map.proofs.MapLeft.{left-listed, placed-listed, promoted-shown, removed-shown, revalued-listed, shown}
use Rattle.glyph_shelf.proofs.Shown.{kept-shown}

module _ {K V : Type 0} where
  -- the cache's entries when so many went
  left-marks : (old : MapState K V) (n : ℕ) → (after_dropping (cache_of old) n).entries ≡ take (length old.entries - n) (cache_of old).entries
  left-marks old n =
      entries-after_dropping (cache_of old) n
      ∙ ap (λ (m : ℕ). take (m - n) (cache_of old).entries) (length-map old.entries (λ (e : K × Held V). let m : ℕ × Allocation = (0, e.1.allocation) in m))

  told-fault : (old new : MapState K V) (size : Size) (fault : MapFault K V) → IsLeft old size fault new
      → entries_seen new ≡ without_evicted fault (entries_seen old)
  told-fault old new size TooLarge left = ap entries_seen left
  told-fault old new size (Memory evicted) left =
      let n : ℕ = length evicted.items in
      left-listed old new n left.evicts.kept (left.rest.entries ∙ left-marks old n)
  told-fault old new size FrameFull left = ap entries_seen left

  told-places : (old new : MapState K V) (key : K) (value : V) (size : Size) (rectangle : Rectangle) (evicted : List (K × V))
      → Places old key value size rectangle evicted new
      → entries_seen new ≡ (key, (rectangle, value)) ∷ without_last (length evicted) (entries_seen old)
  told-places old new key value size rectangle evicted places =
      let n : ℕ = length evicted in
      let enters = places.placed.entered in
      let zeros : List ℕ = map (λ (pair : K × V). 0) evicted in
      let marks : (after_dropping (cache_of old) (length zeros)).entries ≡ take (length old.entries - n) (cache_of old).entries =
      ap (λ (m : ℕ). (after_dropping (cache_of old) m).entries) (length-map evicted (λ (pair : K × V). let z : ℕ = 0 in z)) ∙ left-marks old n in
      placed-listed old new n key value places.kept enters.allocation (after_dropping (cache_of old) (length zeros)).entries
      places.pairs enters.entries places.evicts.kept marks
      ∙ ap (λ (r : Rectangle). let l : List (K × (Rectangle × V)) = (key, (r, value)) ∷ without_last n (entries_seen old) in l) enters.given

  told-capacity : (old : MapState K V) (most : ℕ) (evicted : List (K × V)) → evicted ≡ dropped_pairs old (surplus old most)
      → entries_seen (with_capacity old most) ≡ without_last (length evicted) (entries_seen old)
  told-capacity old most evicted out =
      let s : ℕ = surplus old most in
      let back : List (K × V) = reverse (pairs_of old.entries) in
      let mark : K × Held V → ℕ × Allocation = λ e. (0, e.1.allocation) in
      let pair_of : K × Held V → K × V = λ e. (e.0, e.1.value) in
      let counted : length evicted ≡ s =
      omega (arith, ap length out, length-take s back, length-reverse (pairs_of old.entries), length-map old.entries pair_of, length-map old.entries mark) in
      let less : length old.entries - s ≡ length (entries_seen old) - length evicted = omega (arith, counted, length-map old.entries shown) in
      sym (take-map shown (length old.entries - s) old.entries) ∙ ap (λ (k : ℕ). take k (entries_seen old)) less

  module _ (eq : K → K → Bool) where
    there-held : (test : K → Bool) (old : MapState K V) (x : Rectangle × V) → seen_at test old ≡ Some x → (held : Held V) × (lookup test old.entries ≡ Some held)
    there-held test old x there = by_found (lookup test old.entries) refl there
      where
        by_found : (o : Option (Held V)) → lookup test old.entries ≡ o → option_map seen o ≡ Some x → (held : Held V) × (lookup test old.entries ≡ Some held)
        by_found None at h = absurd (cc)
        by_found (Some held) at h = (held, at)

    told-again : (old new : MapState K V) (key : K) (value : V) (size : Size) (placed : Placed K V) → PlacesAgain eq old key value placed new
        → entries_seen new ≡ told_after eq (Place key value size) (reply.Placed placed) (entries_seen old)
    told-again old new key value size placed again =
        let found = there-held (eq key) old (placed.rectangle, again.had) again.there in
        let other : Told K V = (key, (placed.rectangle, value)) ∷ without_last (length placed.evicted.items) (entries_seen old) in
        ap entries_seen again.after ∙ revalued-listed (eq key) old value found.0 found.1
        ∙ sym (ap (λ (o : Option (K × V)). option_map_or (λ replaced. with_first_value value (promoted (eq key) (entries_seen old))) o other) again.replaced)

    told-new : (old new : MapState K V) (key : K) (value : V) (size : Size) (placed : Placed K V) → PlacesNew eq old key value size placed new
        → entries_seen new ≡ told_after eq (Place key value size) (reply.Placed placed) (entries_seen old)
    told-new old new key value size placed first =
        let other : Told K V = (key, (placed.rectangle, value)) ∷ without_last (length placed.evicted.items) (entries_seen old) in
        told-places old new key value size placed.rectangle placed.evicted.items first.places
        ∙ sym (ap (λ (o : Option (K × V)). option_map_or (λ replaced. with_first_value value (promoted (eq key) (entries_seen old))) o other) first.none)

    pub told-step : (old new : MapState K V) (call : MapCall K V) (answer : MapReply K V) → MayAnswer eq old call answer new
        → entries_seen new ≡ told_after eq call answer (entries_seen old)
    told-step old new (Place key value size) (reply.Placed placed) (inl again) = told-again old new key value size placed again
    told-step old new (Place key value size) (reply.Placed placed) (inr first) = told-new old new key value size placed first
    told-step old new (Place key value size) (reply.Refused refused) may = told-fault old new size refused.fault may.left
    told-step old new (UseKey key) (reply.At rectangle) (there, after) = ap entries_seen after ∙ promoted-shown (eq key) old.entries
    told-step old new (UseKey key) reply.NotThere (is_new, same) = ap entries_seen same
    told-step old new (Remove key) (reply.Removed rectangle value) (there, after) = ap entries_seen after ∙ removed-shown (eq key) old.entries
    told-step old new (Remove key) reply.NotThere (is_new, same) = ap entries_seen same
    told-step old new (Retain gone) reply.Retained drops =
        ap (map shown) drops.order ∙ kept-shown seen (λ key. not (is_one_of eq gone.items key)) old.entries
    told-step old new (Retain gone) reply.NoMemory (some, same) = ap entries_seen same
    told-step old new BeginFrame reply.Begun after = ap entries_seen after
    told-step old new (Grow size) reply.Grown (none, after) = ap entries_seen after
    told-step old new (Grow size) (reply.NotGrown fault) (is_fault, same) = ap entries_seen same
    told-step old new (SetCapacity capacity) (reply.Evicted evicted) (out, after) =
        ap entries_seen after ∙ told-capacity old (non_zero_usize_get capacity) evicted.items out
    told-step old new (SetCapacity capacity) reply.NoMemory (more, same) = ap entries_seen same
    told-step old new Clear reply.Cleared after = ap entries_seen after
    told-step old new call answer never = absurd never
