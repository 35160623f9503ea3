-- How an id spells the number of a record.
use Rattle.std.specs.Prelude.{ℕ}

-- an id modulo this is its index
abbrev pub index_modulus : ℕ
index_modulus = 65536
