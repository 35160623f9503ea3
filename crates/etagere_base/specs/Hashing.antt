-- The hash of a value: what the standard hasher makes of all that the value writes to it.
use Rattle.std.specs.Hash.DefaultHasher as hasher
use Rattle.std.specs.Prelude.{ℕ, List, fold}

-- what the hasher makes of these writes
abbrev pub hash_of_writes : List (List ℕ) → ℕ
hash_of_writes writes = hasher.finish (fold hasher.write hasher.initial writes)
