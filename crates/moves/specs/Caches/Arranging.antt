-- What becomes of the keys of a cache whose rectangles get places in a new atlas.
use Rattle.std.specs.Prelude.{◌≡◌, ℕ, Option, None, Some, nat_eq, option_map, List, ◌++◌, map}
use Rattle.std.specs.List.{filter_map}
use Rattle.std.specs.Map.{lookup}
use Rattle.etagere_base.specs.declared.geometry.Size.{Size}
use Rattle.etagere_base.specs.declared.ids.Allocation.{Allocation}
use Rattle.shelf_model.specs.State.{AtlasState}
use Rattle.glyph_shelf.specs.Cache.{CacheState, rectangle_at}
use Rattle.moves.specs.Atlases.Arranging.{IsAsLarge, IsRearranged}
use Rattle.moves.specs.declared.atlases.rearrangement.Move.{Move}
use Rattle.moves.specs.declared.caches.rearrangement.KeyMove.{KeyMove}
use Rattle.moves.specs.declared.caches.rearrangement.UnplacedKey.{UnplacedKey}

-- the key of a cache for which something is allocated under an id
abbrev pub key_at : CacheState → ℕ → Option ℕ
key_at state id =
    lookup (nat_eq id) (map (λ (entry : ℕ × Allocation). (entry.1.id, entry.0)) state.entries)

-- the move of a rectangle as that of its key
abbrev pub key_move : CacheState → Move → Option KeyMove
key_move old move =
    option_map
    (λ (key : ℕ). record { key = key; before = move.before.rectangle; after = move.after.rectangle })
    (key_at old move.before.id)

-- the key of a rectangle that was left
abbrev pub key_left : CacheState → Allocation → Option UnplacedKey
key_left old allocation =
    option_map (λ (key : ℕ). record { key = key; rectangle = allocation.rectangle })
    (key_at old allocation.id)

-- what is allocated now for what was allocated under an id, where that has moved
abbrev pub new_allocation : List Move → ℕ → Option Allocation
new_allocation moves id =
    lookup (nat_eq id) (map (λ (move : Move). (move.before.id, move.after)) moves)

-- an entry with what is allocated for it now
abbrev pub moved_entry : List Move → ℕ × Allocation → Option (ℕ × Allocation)
moved_entry moves entry =
    option_map (λ (after : Allocation). (entry.0, after)) (new_allocation moves entry.1.id)

-- a cache in a new atlas, into which these of its rectangles have moved: their keys stay, in the
-- same order of use; no frame has begun
abbrev pub moved_cache : CacheState → List Move → AtlasState → CacheState
moved_cache old moves atlas =
    record {
      entries = filter_map (moved_entry moves) old.entries;
      capacity = old.capacity;
      atlas = atlas;
      used_in_frame = None;
    }

-- the atlas of a cache was rearranged into one of a size, and the keys followed their rectangles
pub record IsRearrangedCache (old : CacheState) (size : Size) (moves : List KeyMove)
    (unplaced : List UnplacedKey) (new : CacheState) : Type 0 where
  pub moved : List Move
  pub refused : List Allocation
  pub rearranged : IsRearranged old.atlas size moved refused new.atlas
  pub moves_are : moves ≡ filter_map (key_move old) moved
  pub unplaced_are : unplaced ≡ filter_map (key_left old) refused
  pub follows : new ≡ moved_cache old moved new.atlas

-- the keys that moved and those that found no place
abbrev pub keys_told : List KeyMove → List UnplacedKey → List ℕ
keys_told moves unplaced =
    map (λ (move : KeyMove). move.key) moves ++ map (λ (left : UnplacedKey). left.key) unplaced

-- a key lies where its move says, before and after, and nothing of it was cut
pub record HasMoved (old new : CacheState) (move : KeyMove) : Type 0 where
  pub before : rectangle_at old move.key ≡ Some move.before
  pub after : rectangle_at new move.key ≡ Some move.after
  pub room : IsAsLarge move.after move.before

-- a key that found no place lay where it says, and is not in the new cache
pub record IsLeftOut (old new : CacheState) (left : UnplacedKey) : Type 0 where
  pub before : rectangle_at old left.key ≡ Some left.rectangle
  pub after : rectangle_at new left.key ≡ None
