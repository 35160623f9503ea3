-- Links by number, as 16 bits.
use Rattle.std.specs.Prelude.{ℕ, Option, None, Some, ◌==◌, if◌then◌else◌}

-- the bits of a link that names no record
abbrev pub no_link : ℕ
no_link = 65535

-- the link that bits stand for: the record that it names, if any
abbrev pub link_of : ℕ → Option ℕ
link_of bits = if bits == no_link then None else Some bits

-- the bits that stand for a link
abbrev pub bits_of : Option ℕ → ℕ
bits_of None = no_link
bits_of (Some number) = number
