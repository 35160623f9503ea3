-- What the fields of an iterator over a cache with a padding have still to come.
use Rattle.std.specs.Prelude.{ℕ, List, map}
use Rattle.std.specs.List.{AllByRecursion}
use Rattle.etagere_base.specs.declared.geometry.Rectangle.{Rectangle}
use Rattle.padding.specs.Padding.{IsNear}
use Rattle.padding.specs.declared.caches.listing.Iter.TheInside.{Inside}
use Rattle.padding.specs.Caches.Padded.{trimmed_entry}

-- the keys that are left, with their rectangles without their padding
abbrev pub listed_in : Inside → List (ℕ × Rectangle)
listed_in fields = map (trimmed_entry fields.padding) fields.entries

-- none of these rectangles is far from the origin
abbrev pub AreNear : Inside → Type 0
AreNear fields = AllByRecursion (λ (entry : ℕ × Rectangle). IsNear entry.1) fields.entries
