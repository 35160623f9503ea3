-- What the fields of a map keep, and the state that they stand for: keys and values stand in the order in which the
-- cache has their tickets.
use Rattle.std.specs.Prelude.{◌≡◌, ℕ, ◌-◌, ◌^◌, Bool, List, [], ◌∷◌, map}
use Rattle.std.specs.List.{IsDistinct}
use Rattle.std.specs.Map.{keys_of}
use Rattle.etagere_base.specs.declared.ids.Allocation.{Allocation}
use Rattle.glyph_shelf.specs.Promises.{KeepsCachePromises}
use Rattle.glyph_map.specs.State.{Held, MapState}
use Rattle.glyph_map.specs.declared.ticketed.Ticketed.{Ticketed}
use Rattle.glyph_map.specs.declared.map.GlyphMap.TheInside.{Inside}

module _ {K V : Type 0} where
  -- the tickets of keys, in the same order
  abbrev pub tickets_of : List (K × Ticketed V) → List ℕ
  tickets_of entries = map (λ (entry : K × Ticketed V). entry.1.ticket) entries

  -- keys and values with what is allocated for their tickets
  abbrev pub joined : List (K × Ticketed V) → List (ℕ × Allocation) → List (K × Held V)
  joined [] kept = []
  joined (entry ∷ entries) [] = []
  joined (entry ∷ entries) (one ∷ kept) =
      (entry.0, record { value = entry.1.value; allocation = one.1 }) ∷ joined entries kept

  -- the map that the fields stand for
  abbrev pub map_in : Inside K V → MapState K V
  map_in fields =
      record {
        entries = joined fields.entries.entries fields.cache.entries;
        capacity = fields.cache.capacity;
        atlas = fields.cache.atlas;
        used_in_frame = fields.cache.used_in_frame;
      }

  -- both have the same tickets in the same order, the cache keeps its promises, no key stands twice, and
  -- the entries never push one out
  pub record IsInStep (eq : K → K → Bool) (fields : Inside K V) : Type 0 where
    pub tickets : keys_of fields.cache.entries ≡ tickets_of fields.entries.entries
    pub promises : KeepsCachePromises fields.cache
    pub keys : IsDistinct eq (keys_of fields.entries.entries)
    pub unbounded : fields.entries.cap ≡ 2 ^ 64 - 1
