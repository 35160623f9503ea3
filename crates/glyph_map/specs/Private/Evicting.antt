-- Keys with their values, as they stand among tickets.
use Rattle.std.specs.Prelude.{List, map}
use Rattle.glyph_map.specs.declared.ticketed.Ticketed.{Ticketed}

-- the keys with their values, without the tickets
abbrev pub unticketed : {K V : Type 0} → List (K × Ticketed V) → List (K × V)
unticketed {K} {V} entries = map (λ (entry : K × Ticketed V). (entry.0, entry.1.value)) entries
