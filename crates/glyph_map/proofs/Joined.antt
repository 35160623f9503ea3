-- Entries that stand in the order of their tickets: what a map has of them, and what it promises.
use Rattle.std.proofs.Common.{◌≡◌, ℕ, Bool, true, false, Option, Some, None, List, [], ◌∷◌, length, map, refl, ap, sym, ◌∙◌, subst, arith}
use Rattle.std.specs.List.{IsDistinct}
use Rattle.std.specs.Map.{keys_of, lookup}
use Rattle.std.specs.Prelude.{option_map, cond}
use Rattle.std.proofs.lemmas.List.{length-map}
use Rattle.etagere_base.specs.declared.ids.Allocation.{Allocation}
use Rattle.glyph_shelf.specs.Cache.{CacheState}
use Rattle.glyph_shelf.specs.Promises.{KeepsCachePromises}
use Rattle.glyph_map.specs.State.{Held, MapState, cache_of, pairs_of}
use Rattle.glyph_map.specs.Promises.{KeepsMapPromises, unkeyed}
use Rattle.glyph_map.specs.Private.Evicting.{unticketed}
use Rattle.glyph_map.specs.Private.Lockstep.{joined, tickets_of}
use Rattle.glyph_map.specs.declared.ticketed.Ticketed.{Ticketed}

module _ {K V : Type 0} where
  -- the map of entries and a cache
  abbrev pub map_of : List (K × Ticketed V) → CacheState → MapState K V
  map_of es c =
      record {
        entries = joined es c.entries;
        capacity = c.capacity;
        atlas = c.atlas;
        used_in_frame = c.used_in_frame;
      }

  -- the same tickets, in the same order
  abbrev pub AreInStep : List (K × Ticketed V) → List (ℕ × Allocation) → Type 0
  AreInStep es cs = keys_of cs ≡ tickets_of es

  pub rest-in_step : (e : K × Ticketed V) (es : List (K × Ticketed V)) (o : ℕ × Allocation) (cs : List (ℕ × Allocation))
      → AreInStep (e ∷ es) (o ∷ cs) → (o.0 ≡ e.1.ticket) × AreInStep es cs
  rest-in_step e es o cs h = (cc, cc)

  pub joined-keys : (es : List (K × Ticketed V)) (cs : List (ℕ × Allocation)) → AreInStep es cs → keys_of (joined es cs) ≡ keys_of es
  joined-keys [] cs h = refl
  joined-keys (e ∷ es) [] h = absurd (cc)
  joined-keys (e ∷ es) (o ∷ cs) h = ap (λ l. e.0 ∷ l) (joined-keys es cs (rest-in_step e es o cs h).1)

  pub joined-pairs : (es : List (K × Ticketed V)) (cs : List (ℕ × Allocation)) → AreInStep es cs → pairs_of (joined es cs) ≡ unticketed es
  joined-pairs [] cs h = refl
  joined-pairs (e ∷ es) [] h = absurd (cc)
  joined-pairs (e ∷ es) (o ∷ cs) h = ap (λ l. (e.0, e.1.value) ∷ l) (joined-pairs es cs (rest-in_step e es o cs h).1)

  joined-unkeyed : (es : List (K × Ticketed V)) (cs : List (ℕ × Allocation)) → AreInStep es cs
      → map {B = ℕ × Allocation} (λ (entry : K × Held V). (0, entry.1.allocation)) (joined es cs) ≡ map {B = ℕ × Allocation} (λ (entry : ℕ × Allocation). (0, entry.1)) cs
  joined-unkeyed [] [] h = refl
  joined-unkeyed [] (o ∷ cs) h = absurd (cc)
  joined-unkeyed (e ∷ es) [] h = absurd (cc)
  joined-unkeyed (e ∷ es) (o ∷ cs) h = ap (λ l. (0, o.1) ∷ l) (joined-unkeyed es cs (rest-in_step e es o cs h).1)

  pub joined-length : (es : List (K × Ticketed V)) (cs : List (ℕ × Allocation)) → AreInStep es cs → length (joined es cs) ≡ length es
  joined-length [] cs h = refl
  joined-length (e ∷ es) [] h = absurd (cc)
  joined-length (e ∷ es) (o ∷ cs) h = let rest = joined-length es cs (rest-in_step e es o cs h).1 in omega arith

  pub same-length : (es : List (K × Ticketed V)) (cs : List (ℕ × Allocation)) → AreInStep es cs → length cs ≡ length es
  same-length es cs h =
      sym (length-map cs (λ (o : ℕ × Allocation). o.0)) ∙ ap length h ∙ length-map es (λ (e : K × Ticketed V). e.1.ticket)

  -- without its keys, the cache is that of the map
  pub joined-cache : (es : List (K × Ticketed V)) (c : CacheState) → AreInStep es c.entries → cache_of (map_of es c) ≡ unkeyed c
  joined-cache es c h =
      ap (λ (l : List (ℕ × Allocation)). let s : CacheState = record { entries = l; capacity = c.capacity; atlas = c.atlas; used_in_frame = c.used_in_frame } in s)
      (joined-unkeyed es c.entries h)

  -- a map promises what its cache does
  pub keeps : (eq : K → K → Bool) (es : List (K × Ticketed V)) (c : CacheState) → AreInStep es c.entries → KeepsCachePromises c
      → IsDistinct eq (keys_of es) → KeepsMapPromises eq (map_of es c)
  keeps eq es c h promises keys =
      record {
        keys = subst (IsDistinct eq) (sym (joined-keys es c.entries h)) keys;
        cache = c;
        is_cache = sym (joined-cache es c h);
        promises = promises;
      }

  -- what stands under a key, or that nothing does
  pub joined-value : (test : K → Bool) (es : List (K × Ticketed V)) (cs : List (ℕ × Allocation)) → AreInStep es cs
      → option_map (λ (h : Held V). h.value) (lookup test (joined es cs)) ≡ option_map (λ (t : Ticketed V). t.value) (lookup test es)
  joined-value test [] cs h = refl
  joined-value test (e ∷ es) [] h = absurd (cc)
  joined-value test (e ∷ es) (o ∷ cs) h = here (test e.0) (joined-value test es cs (rest-in_step e es o cs h).1)
    where
      here : (b : Bool) → option_map (λ (h : Held V). h.value) (lookup test (joined es cs)) ≡ option_map (λ (t : Ticketed V). t.value) (lookup test es)
          → option_map (λ (h : Held V). h.value) (cond b (Some (record { value = e.1.value; allocation = o.1 })) (lookup test (joined es cs)))
          ≡ option_map (λ (t : Ticketed V). t.value) (cond b (Some e.1) (lookup test es))
      here true later = refl
      here false later = later

  pub joined-none : (test : K → Bool) (es : List (K × Ticketed V)) (cs : List (ℕ × Allocation)) → AreInStep es cs
      → lookup test (joined es cs) ≡ None → lookup test es ≡ None
  joined-none test es cs h none = by_value (lookup test es) (sym (joined-value test es cs h) ∙ ap (option_map (λ (h : Held V). h.value)) none)
    where
      by_value : (o : Option (Ticketed V)) → option_map (λ (t : Ticketed V). t.value) o ≡ None → o ≡ None
      by_value None e = refl
      by_value (Some t) e = absurd (cc)

  pub none-joined : (test : K → Bool) (es : List (K × Ticketed V)) (cs : List (ℕ × Allocation)) → AreInStep es cs
      → lookup test es ≡ None → lookup test (joined es cs) ≡ None
  none-joined test es cs h none = by_value (lookup test (joined es cs)) (joined-value test es cs h ∙ ap (option_map (λ (t : Ticketed V). t.value)) none)
    where
      by_value : (o : Option (Held V)) → option_map (λ (h : Held V). h.value) o ≡ None → o ≡ None
      by_value None e = refl
      by_value (Some t) e = absurd (cc)

  -- nothing is in step with nothing
  pub nothing-in_step : (es : List (K × Ticketed V)) (cs : List (ℕ × Allocation)) → es ≡ [] → cs ≡ [] → AreInStep es cs
  nothing-in_step es cs none nothing = ap keys_of nothing ∙ sym (ap tickets_of none)

  pub nothing-twice : (eq : K → K → Bool) (es : List (K × Ticketed V)) → es ≡ [] → IsDistinct eq (keys_of es)
  unfolding IsDistinct
  nothing-twice eq es none = subst (λ (l : List (K × Ticketed V)). IsDistinct eq (keys_of l)) (sym none) tt
