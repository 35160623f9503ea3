-- What stands under ids, and what is told of it.
use Rattle.std.specs.Prelude.{ℕ, Option, option_map, List, map}
use Rattle.etagere_base.specs.declared.ids.Allocation.{Allocation}
use Rattle.glyph_shelf.specs.declared.saving.SavedKey.{SavedKey}
use Rattle.moves.specs.declared.atlases.rearrangement.Move.{Move}
use Rattle.moves.specs.declared.caches.rearrangement.KeyMove.{KeyMove}
use Rattle.moves.specs.declared.caches.rearrangement.UnplacedKey.{UnplacedKey}

-- the keys that are saved, each with its id before it
abbrev pub keys_saved : List SavedKey → List (ℕ × ℕ)
keys_saved saved = map (λ (one : SavedKey). (one.id, one.key)) saved

-- the new ids, each with the old one before it
abbrev pub ids_moved : List Move → List (ℕ × ℕ)
ids_moved moves = map (λ (one : Move). (one.before.id, one.after.id)) moves

-- the move of a rectangle as that of its key
abbrev pub keyed_move : (ℕ → Option ℕ) → Move → Option KeyMove
keyed_move key_of one =
    option_map
    (λ (key : ℕ). record { key = key; before = one.before.rectangle; after = one.after.rectangle })
    (key_of one.before.id)

-- the key of a rectangle that was left
abbrev pub keyed_left : (ℕ → Option ℕ) → Allocation → Option UnplacedKey
keyed_left key_of one =
    option_map (λ (key : ℕ). record { key = key; rectangle = one.rectangle }) (key_of one.id)

-- a key that is saved, with its new id
abbrev pub saved_anew : (ℕ → Option ℕ) → SavedKey → Option SavedKey
saved_anew id_of one = option_map (λ (id : ℕ). record { key = one.key; id = id }) (id_of one.id)
