-- What is written of a list, each of it as a plain struct of C.
use Rattle.std.specs.Prelude.{◌≡◌, List, drop, length, map, take}

-- the front of a buffer stands for this list, in its order; what is behind stayed
pub record AreWritten {X P : Type 0} (meaning : P → X) (listed : List X) (old new : List P) : Type 0 where
  pub front : map meaning (take (length listed) new) ≡ listed
  pub behind : drop (length listed) new ≡ drop (length listed) old
