-- Widths that no more than one free item of a shelf passes, by the numbers of shelf records.
use Rattle.std.specs.Prelude.{ℕ, List, get_or, max, nat_lt, if◌then◌else◌}

-- the width of a shelf; of one without an entry nothing is known, and no item is wider than this
abbrev pub second_at : List ℕ → ℕ → ℕ
second_at seconds shelf = get_or seconds shelf 65535

-- the width of a shelf of which this was the bound, once an item as wide as this became free: where that is the widest, no
-- other one passes the bound
abbrev pub second_freed : ℕ → ℕ → ℕ → ℕ
second_freed bound width second = if nat_lt bound width then bound else max second width
