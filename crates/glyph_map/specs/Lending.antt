-- What a map ends as, once a reference into it has ended.
use Rattle.std.specs.Prelude.{◌≡◌, ⊤}
use Rattle.std.specs.Borrow.{Fml, RattleType, MutBor, follows_so}
use Rattle.std.specs.HashMap.Lent.{HashMembers}
use mathlib.Core.Option.{none}
use Rattle.glyph_map.specs.State.{MapState}
use Rattle.glyph_map.specs.contracts.map.GlyphMap.{the_row}

module _ (K V : RattleType) (key : HashMembers K.Denot) where
  -- the map's type, as the logic holds it
  abbrev pub map_row : RattleType
  map_row = the_row K V (record {}) (record { eq = key.eq }) (record { hash_input = key.hash_input })

  -- it ends as this
  abbrev pub ends_as : MutBor (MapState K.Denot V.Denot) → MapState K.Denot V.Denot → Fml
  ends_as map state = follows_so map_row map_row map.ghost_name none (λ _ _. ⊤) (λ n. n ≡ state)
