-- What becomes of a cache when a test says of each key whether it stays.
use Rattle.std.specs.Prelude.{◌≡◌, ℕ, Bool, true, false, List, [], ◌∷◌, length, reverse}
use Rattle.std.specs.List.{items_where_true}
use Rattle.std.specs.List.Retain.{ReturnsInTurn}
use Rattle.std.specs.Map.{keys_of}
use Rattle.etagere_base.specs.declared.geometry.Rectangle.{Rectangle}
use Rattle.glyph_shelf.specs.Cache.{CacheState, listed, without_key}

-- the cache without these keys, which are taken out one after another
abbrev pub without_keys : CacheState → List ℕ → CacheState
without_keys state [] = state
without_keys state (key ∷ keys) = without_keys (without_key state key) keys

-- the keys of which the answer is no, in the same order
abbrev pub refused_keys : List Bool → List ℕ → List ℕ
refused_keys [] keys = []
refused_keys (answer ∷ answers) [] = []
refused_keys (true ∷ answers) (key ∷ keys) = refused_keys answers keys
refused_keys (false ∷ answers) (key ∷ keys) = key ∷ refused_keys answers keys

-- A test was asked once of each key and its rectangle, the least recently used first. The keys of
-- which it said no were taken out in this order; the others stand in the order of use.
pub record Retains {F : Type 0} (says : F → ℕ → Rectangle → Bool → F → Type 0) (test : F)
    (old new : CacheState) : Type 0 where
  pub answers : List Bool
  pub last : F
  pub each : length answers ≡ length old.entries
  pub asked : ReturnsInTurn
      (λ before (entry : ℕ × Rectangle) answer after. says before entry.0 entry.1 answer after)
      test answers (reverse (listed old)) last
  pub left : new ≡ without_keys old (refused_keys answers (reverse (keys_of old.entries)))
  pub order : new.entries ≡ reverse (items_where_true answers (reverse old.entries))
