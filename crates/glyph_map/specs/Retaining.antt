-- What becomes of a map when a test says of each key and value whether they stay.
use Rattle.std.specs.Prelude.{◌≡◌, ◌⊎◌, Bool, true, false, List, [], ◌∷◌, length, reverse}
use Rattle.std.specs.Borrow.{Bor}
use Rattle.std.specs.Fn.{Called, Mut}
use Rattle.std.specs.List.{items_where_true}
use Rattle.std.specs.List.Retain.{ReturnsInTurn}
use Rattle.std.specs.Map.{keys_of}
use Rattle.glyph_map.specs.Calls.{without_key}
use Rattle.glyph_map.specs.State.{MapState, pairs_of}

-- a test gave this answer of a key and its value, and is another test then
pub record Answers {F K V : Type 0} (calls : Mut F (Bor K × (Bor V × Unit {0})) Bool) (test : F) (pair : K × V)
    (answer : Bool) (after : F) : Type 0 where
  pub key : Bor K
  pub value : Bor V
  pub shown : (key.now ≡ pair.0) × (value.now ≡ pair.1)
  pub called : Called calls test (key, (value, tt)) answer after

-- the keys of which the answer is no, in the same order
abbrev pub refused_keys : {K : Type 0} → List Bool → List K → List K
refused_keys [] keys = []
refused_keys (answer ∷ answers) [] = []
refused_keys (true ∷ answers) (key ∷ keys) = refused_keys answers keys
refused_keys (false ∷ answers) (key ∷ keys) = key ∷ refused_keys answers keys

-- a test was asked of these pairs in turn, up to one of which it said no
abbrev pub RefusesSome : {F K V : Type 0} → Mut F (Bor K × (Bor V × Unit {0})) Bool → F → List (K × V) → Type 0
RefusesSome calls test [] = ⊥
RefusesSome {F} calls test (pair ∷ pairs) =
    ((after : F) × Answers calls test pair false after)
    ⊎ ((after : F) × Answers calls test pair true after × RefusesSome calls after pairs)

-- a clone of a key equals it
abbrev pub AreClonesEqual : {K : Type 0} → (K → K → Type 0) → (K → K → Bool) → Type 0
AreClonesEqual {K} is_clone eq = (key clone : K) → is_clone key clone → eq key clone ≡ true

-- the map without these keys, which are taken out one after another
abbrev pub without_keys : {K V : Type 0} → (K → K → Bool) → MapState K V → List K → MapState K V
without_keys eq state [] = state
without_keys eq state (key ∷ keys) = without_keys eq (without_key (eq key) state) keys

-- A test was asked once of each key and its value, the least recently used first. The keys of which it
-- said no were taken out in this order; the others stand in the order of use.
pub record Retains {F K V : Type 0} (calls : Mut F (Bor K × (Bor V × Unit {0})) Bool) (eq : K → K → Bool) (test : F)
    (old new : MapState K V) : Type 0 where
  pub answers : List Bool
  pub last : F
  pub each : length answers ≡ length old.entries
  pub asked : ReturnsInTurn (Answers calls) test answers (reverse (pairs_of old.entries)) last
  pub left : new ≡ without_keys eq old (refused_keys answers (reverse (keys_of old.entries)))
  pub order : new.entries ≡ reverse (items_where_true answers (reverse old.entries))
