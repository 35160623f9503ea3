-- Which keys a test refuses.
use Rattle.std.specs.Prelude.{◌≡◌, Bool, List, length}
use Rattle.std.specs.Borrow.{Bor}
use Rattle.std.specs.Fn.{Mut}
use Rattle.std.specs.List.{AllZip}
use Rattle.std.specs.List.Retain.{ReturnsInTurn}
use Rattle.std.specs.Map.{keys_of}
use Rattle.glyph_map.specs.Retaining.{Answers, refused_keys}

-- a test was asked once of each of these pairs, in this order, and these are clones of the keys that it refused
pub record Refuses {F K V : Type 0} (calls : Mut F (Bor K × (Bor V × Unit {0})) Bool) (is_clone : K → K → Type 0)
    (test : F) (pairs : List (K × V)) (clones : List K) : Type 0 where
  pub answers : List Bool
  pub last : F
  pub each : length answers ≡ length pairs
  pub asked : ReturnsInTurn (Answers calls) test answers pairs last
  pub cloned : AllZip is_clone (refused_keys answers (keys_of pairs)) clones
