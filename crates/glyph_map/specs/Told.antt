-- What replies to calls tell of what is there.
use Rattle.std.specs.Prelude.{ℕ, ◌-◌, Bool, not, List, [], ◌∷◌, filter, length, map, take}
use Rattle.std.specs.Map.{remove_entry}
use Rattle.std.specs.Option.{option_map_or}
use Rattle.lru.specs.LruCache.{promoted}
use Rattle.etagere_base.specs.declared.geometry.Rectangle.{Rectangle}
use Rattle.glyph_map.specs.Calls.{seen}
use Rattle.glyph_map.specs.State.{Held, MapState}
use Rattle.glyph_shelf.specs.Dropping.{is_one_of}
use Rattle.glyph_map.specs.declared.runs.calls.MapCall.{MapCall}
use Rattle.glyph_map.specs.declared.runs.calls.MapCall.TheVariants.{Place, UseKey, Remove, Retain}
use Rattle.glyph_map.specs.declared.runs.calls.MapReply.{MapReply}
use Rattle.glyph_map.specs.declared.runs.calls.MapReply.TheVariants.{At, Cleared, Evicted, Placed, Refused, Removed, Retained}
use Rattle.glyph_map.specs.declared.faults.MapFault.{MapFault}
use Rattle.glyph_map.specs.declared.faults.MapFault.TheVariants.{Memory}

-- keys with their rectangles and values, the most recently used first
abbrev pub Told : Type 0 → Type 0 → Type 0
Told K V = List (K × (Rectangle × V))

module _ {K V : Type 0} where
  -- those of a map
  abbrev pub entries_seen : MapState K V → Told K V
  entries_seen state = map (λ (entry : K × Held V). (entry.0, seen entry.1)) state.entries

  -- without the last ones, which were evicted
  abbrev pub without_last : ℕ → Told K V → Told K V
  without_last count told = take (length told - count) told

  abbrev pub without_evicted : MapFault K V → Told K V → Told K V
  without_evicted (Memory evicted) told = without_last (length evicted.items) told
  without_evicted fault told = told

  -- with this value for the first key
  abbrev pub with_first_value : V → Told K V → Told K V
  with_first_value value [] = []
  with_first_value value (first ∷ told) = (first.0, (first.1.0, value)) ∷ told

  module _ (eq : K → K → Bool) where
    -- What one reply changes. A key that is placed or used goes first. A key that is there gets the new value, and what
    -- is evicted for another goes from the end.
    abbrev pub told_after : MapCall K V → MapReply K V → Told K V → Told K V
    told_after (Place key value size) (Placed placed) told =
        option_map_or (λ replaced. with_first_value value (promoted (eq key) told)) placed.replaced
        ((key, (placed.rectangle, value)) ∷ without_last (length placed.evicted.items) told)
    told_after (Place key value size) (Refused refused) told = without_evicted refused.fault told
    told_after (UseKey key) (At rectangle) told = promoted (eq key) told
    told_after (Remove key) (Removed rectangle value) told = remove_entry (eq key) told
    told_after (Retain gone) Retained told =
        filter (λ (entry : K × (Rectangle × V)). not (is_one_of eq gone.items entry.0)) told
    told_after call (Evicted evicted) told = without_last (length evicted.items) told
    told_after call Cleared told = []
    told_after call answer told = told

    -- what the replies to calls change, one after another
    abbrev pub told_from : Told K V → List (MapCall K V) → List (MapReply K V) → Told K V
    told_from told (call ∷ calls) (answer ∷ answers) = told_from (told_after call answer told) calls answers
    told_from told calls answers = told
