-- Two runs of the same commands on a cache, to which no memory was refused, have the same text: their states are the same
-- but for the numbers of ids, and no reply tells one.
use Rattle.std.proofs.Common.{◌≡◌, ℕ, zero, suc, ◌-◌, Bool, true, false, ◌&&◌, cond, Option, None, Some, List, [], ◌∷◌, length, map, reverse, take, refl, ap, sym, ◌∙◌}
use Rattle.std.proofs.lemmas.List.{length-map, take-map}
use Rattle.std.proofs.lemmas.Option.{slice_get-map}
use Rattle.std.specs.Map.{keys_of, lookup, lookup_entry, remove_entry}
use Rattle.std.specs.Option.{option_map_or}
use Rattle.std.specs.Prelude.{is_some, nat_eq, nat_lt, option_map, slice_get}
use Rattle.etagere_base.proofs.FirstPlace.{is_some-map}
use Rattle.etagere_base.specs.declared.geometry.Size.{Size}
use Rattle.etagere_base.specs.declared.ids.Allocation.{Allocation}
use Rattle.shelf_model.specs.Choice.{placement_of}
use Rattle.shelf_model.specs.Returning.{returned}
use Rattle.shelf_model.specs.State.{AtlasState}
use Rattle.glyph_shelf.specs.UsedKeys.Keys.{stands_first, uses_left, uses_with, uses_without}
use Rattle.glyph_shelf.specs.Cache.{CacheState, after_dropping, dropped_keys, rectangle_at, used, without_key, without_last}
use Rattle.glyph_shelf.specs.Placing.{has_room}
use Rattle.glyph_run.proofs.EntriesTold.{held_by, removed-held}
use Rattle.etagere_run.specs.Answers.Private.Renamed.{renamed, renamed_allocation}
use Rattle.etagere_run.proofs.RunAnswers.Renamed.RenamedChoice.{map-agree, placement_of-renamed}
use Rattle.etagere_run.proofs.RunAnswers.Renamed.RenamedReturns.{returned-renamed}

-- entries and a cache whose ids have other numbers
abbrev pub renamed_entries : (ℕ → ℕ) → List (ℕ × Allocation) → List (ℕ × Allocation)
renamed_entries name entries = map (held_by (renamed_allocation name)) entries

abbrev pub renamed_cache : (ℕ → ℕ) → CacheState → CacheState
renamed_cache name state =
    record {
      entries = renamed_entries name state.entries;
      capacity = state.capacity;
      atlas = renamed name state.atlas;
      used_in_frame = state.used_in_frame;
    }

-- the pair whose key passes goes first
abbrev promoted : (ℕ → Bool) → List (ℕ × Allocation) → List (ℕ × Allocation)
promoted test es = option_map_or (λ e. e ∷ remove_entry test es) (lookup_entry test es) es

-- the last pair
abbrev last_entry : List (ℕ × Allocation) → Option (ℕ × Allocation)
last_entry es = slice_get es (length es - 1)

-- caches with the same parts are the same
pub same-cache : (one other : CacheState) → one.entries ≡ other.entries → one.capacity ≡ other.capacity → one.atlas ≡ other.atlas
    → one.used_in_frame ≡ other.used_in_frame → one ≡ other
same-cache one other entries capacity atlas uses =
    ap (λ (es : List (ℕ × Allocation)). record { entries = es; capacity = one.capacity; atlas = one.atlas; used_in_frame = one.used_in_frame }) entries
    ∙ ap (λ (n : ℕ). record { entries = other.entries; capacity = n; atlas = one.atlas; used_in_frame = one.used_in_frame }) capacity
    ∙ ap (λ (a : AtlasState). record { entries = other.entries; capacity = other.capacity; atlas = a; used_in_frame = one.used_in_frame }) atlas
    ∙ ap (λ (o : Option ℕ). record { entries = other.entries; capacity = other.capacity; atlas = other.atlas; used_in_frame = o }) uses

module _ (name : ℕ → ℕ) where
  -- what a key finds
  pub lookup-renamed : (test : ℕ → Bool) (es : List (ℕ × Allocation)) → lookup test (renamed_entries name es) ≡ option_map (renamed_allocation name) (lookup test es)
  lookup-renamed test [] = refl
  lookup-renamed test (e ∷ es) = here (test e.0) (lookup-renamed test es)
    where
      here : (b : Bool) → lookup test (renamed_entries name es) ≡ option_map (renamed_allocation name) (lookup test es)
          → cond b (Some (renamed_allocation name e.1)) (lookup test (renamed_entries name es)) ≡ option_map (renamed_allocation name) (cond b (Some e.1) (lookup test es))
      here true later = refl
      here false later = later

  -- the entry that a key finds
  entry-renamed : (test : ℕ → Bool) (es : List (ℕ × Allocation)) → lookup_entry test (renamed_entries name es) ≡ option_map (held_by (renamed_allocation name)) (lookup_entry test es)
  entry-renamed test [] = refl
  entry-renamed test (e ∷ es) = here (test e.0) (entry-renamed test es)
    where
      here : (b : Bool) → lookup_entry test (renamed_entries name es) ≡ option_map (held_by (renamed_allocation name)) (lookup_entry test es)
          → cond b (Some (held_by (renamed_allocation name) e)) (lookup_entry test (renamed_entries name es)) ≡ option_map (held_by (renamed_allocation name)) (cond b (Some e) (lookup_entry test es))
      here true later = refl
      here false later = later

  -- a key has the same rectangle
  pub rectangle-renamed : (state : CacheState) (key : ℕ) → rectangle_at (renamed_cache name state) key ≡ rectangle_at state key
  rectangle-renamed state key =
      ap (option_map (λ (a : Allocation). a.rectangle)) (lookup-renamed (nat_eq key) state.entries) ∙ of_found (lookup (nat_eq key) state.entries)
    where
      of_found : (o : Option Allocation) → option_map (λ (a : Allocation). a.rectangle) (option_map (renamed_allocation name) o) ≡ option_map (λ (a : Allocation). a.rectangle) o
      of_found None = refl
      of_found (Some a) = refl

  -- a key goes to the front, and counts as used
  promoted-renamed : (test : ℕ → Bool) (es : List (ℕ × Allocation)) → renamed_entries name (promoted test es) ≡ promoted test (renamed_entries name es)
  promoted-renamed test es = rw (entry-renamed test es) (of_found (lookup_entry test es))
    where
      of_found : (o : Option (ℕ × Allocation)) → renamed_entries name (option_map_or (λ e. e ∷ remove_entry test es) o es)
          ≡ option_map_or (λ e. e ∷ remove_entry test (renamed_entries name es)) (option_map (held_by (renamed_allocation name)) o) (renamed_entries name es)
      of_found None = refl
      of_found (Some e) = ap (λ (l : List (ℕ × Allocation)). held_by (renamed_allocation name) e ∷ l) (removed-held (renamed_allocation name) test es)

  -- a key is there alike
  known-renamed : (test : ℕ → Bool) (es : List (ℕ × Allocation)) → is_some (lookup test (renamed_entries name es)) ≡ is_some (lookup test es)
  known-renamed test es = ap is_some (lookup-renamed test es) ∙ is_some-map (renamed_allocation name) (lookup test es)

  -- a key stands among the first alike
  among-renamed : (key : ℕ) (es : List (ℕ × Allocation)) (n : ℕ) → stands_first key (renamed_entries name es) n ≡ stands_first key es n
  among-renamed key es n =
      ap (λ (l : List (ℕ × Allocation)). is_some (lookup (nat_eq key) l)) (take-map (held_by (renamed_allocation name)) n es) ∙ known-renamed (nat_eq key) (take n es)

  -- the uses of a frame, when a key is used
  with-renamed : (key : ℕ) (es : List (ℕ × Allocation)) (o : Option ℕ) → option_map (uses_with key (renamed_entries name es)) o ≡ option_map (uses_with key es) o
  with-renamed key es None = refl
  with-renamed key es (Some n) = rw (among-renamed key es n, known-renamed (nat_eq key) es) refl

  -- and when one goes
  without-renamed : (key : ℕ) (es : List (ℕ × Allocation)) (o : Option ℕ) → option_map (uses_without key (renamed_entries name es)) o ≡ option_map (uses_without key es) o
  without-renamed key es None = refl
  without-renamed key es (Some n) = rw (among-renamed key es n) refl

  -- a key was used
  pub used-renamed : (state : CacheState) (key : ℕ) → used (renamed_cache name state) key ≡ renamed_cache name (used state key)
  used-renamed state key =
      same-cache (used (renamed_cache name state) key) (renamed_cache name (used state key))
      (sym (promoted-renamed (nat_eq key) state.entries)) refl refl (with-renamed key state.entries state.used_in_frame)

  -- which keys go, and whether there is room
  last-renamed : (es : List (ℕ × Allocation)) → last_entry (renamed_entries name es) ≡ option_map (held_by (renamed_allocation name)) (last_entry es)
  last-renamed es =
      slice_get-map (held_by (renamed_allocation name)) es (length (renamed_entries name es) - 1)
      ∙ ap (λ n. option_map (held_by (renamed_allocation name)) (slice_get es (n - 1))) (length-map es (held_by (renamed_allocation name)))

  -- the keys are the same
  keys-renamed : (es : List (ℕ × Allocation)) → keys_of (renamed_entries name es) ≡ keys_of es
  keys-renamed es = map-agree (held_by (renamed_allocation name)) (λ e. e.0) (λ e. e.0) (λ e. refl) es

  -- the same keys go
  pub dropped-renamed : (state : CacheState) (n : ℕ) → dropped_keys (renamed_cache name state) n ≡ dropped_keys state n
  dropped-renamed state n = ap (λ (keys : List ℕ). take n (reverse keys)) (keys-renamed state.entries)

  -- there is room alike
  pub room-renamed : (state : CacheState) (size : Size) → has_room (renamed_cache name state) size ≡ has_room state size
  room-renamed state size =
      ap (λ n. nat_lt n state.capacity && is_some (placement_of (renamed name state.atlas) size)) (length-map state.entries (held_by (renamed_allocation name)))
      ∙ ap (λ o. nat_lt (length state.entries) state.capacity && is_some o) (placement_of-renamed name state.atlas size)

  module _ (apart : (n m : ℕ) → name n ≡ name m → n ≡ m) where
    -- a key was taken out
    pub without_key-renamed : (state : CacheState) (key : ℕ) → without_key (renamed_cache name state) key ≡ renamed_cache name (without_key state key)
    without_key-renamed state key = rw (lookup-renamed (nat_eq key) state.entries) (of_found (lookup (nat_eq key) state.entries))
      where
        of_found : (o : Option Allocation) → option_map_or
            (λ (a : Allocation). record { entries = remove_entry (nat_eq key) (renamed_entries name state.entries); capacity = state.capacity; atlas = returned (renamed name state.atlas) a.id; used_in_frame = option_map (uses_without key (renamed_entries name state.entries)) state.used_in_frame })
            (option_map (renamed_allocation name) o) (renamed_cache name state)
            ≡ renamed_cache name (option_map_or
            (λ (a : Allocation). record { entries = remove_entry (nat_eq key) state.entries; capacity = state.capacity; atlas = returned state.atlas a.id; used_in_frame = option_map (uses_without key state.entries) state.used_in_frame })
            o state)
        of_found None = refl
        of_found (Some a) =
            same-cache (record { entries = remove_entry (nat_eq key) (renamed_entries name state.entries); capacity = state.capacity; atlas = returned (renamed name state.atlas) (name a.id); used_in_frame = option_map (uses_without key (renamed_entries name state.entries)) state.used_in_frame })
            (record { entries = renamed_entries name (remove_entry (nat_eq key) state.entries); capacity = state.capacity; atlas = renamed name (returned state.atlas a.id); used_in_frame = option_map (uses_without key state.entries) state.used_in_frame })
            (sym (removed-held (renamed_allocation name) (nat_eq key) state.entries)) refl (sym (returned-renamed name apart state.atlas a.id)) (without-renamed key state.entries state.used_in_frame)

    -- the last key was taken out
    without_last-renamed : (state : CacheState) → without_last (renamed_cache name state) ≡ renamed_cache name (without_last state)
    without_last-renamed state = rw (last-renamed state.entries, length-map state.entries (held_by (renamed_allocation name))) (of_last (last_entry state.entries))
      where
        of_last : (o : Option (ℕ × Allocation)) → option_map_or
            (λ (e : ℕ × Allocation). record { entries = take (length state.entries - 1) (renamed_entries name state.entries); capacity = state.capacity; atlas = returned (renamed name state.atlas) e.1.id; used_in_frame = uses_left (length state.entries - 1) state.used_in_frame })
            (option_map (held_by (renamed_allocation name)) o) (renamed_cache name state)
            ≡ renamed_cache name (option_map_or
            (λ (e : ℕ × Allocation). record { entries = take (length state.entries - 1) state.entries; capacity = state.capacity; atlas = returned state.atlas e.1.id; used_in_frame = uses_left (length state.entries - 1) state.used_in_frame })
            o state)
        of_last None = refl
        of_last (Some e) =
            same-cache (record { entries = take (length state.entries - 1) (renamed_entries name state.entries); capacity = state.capacity; atlas = returned (renamed name state.atlas) (name e.1.id); used_in_frame = uses_left (length state.entries - 1) state.used_in_frame })
            (record { entries = renamed_entries name (take (length state.entries - 1) state.entries); capacity = state.capacity; atlas = renamed name (returned state.atlas e.1.id); used_in_frame = uses_left (length state.entries - 1) state.used_in_frame })
            (take-map (held_by (renamed_allocation name)) (length state.entries - 1) state.entries) refl (sym (returned-renamed name apart state.atlas e.1.id)) refl

    -- some keys went
    pub dropping-renamed : (state : CacheState) (n : ℕ) → after_dropping (renamed_cache name state) n ≡ renamed_cache name (after_dropping state n)
    dropping-renamed state zero = refl
    dropping-renamed state (suc n) = ap without_last (dropping-renamed state n) ∙ without_last-renamed (after_dropping state n)
