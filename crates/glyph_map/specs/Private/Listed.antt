-- What the fields of an iterator over a map have still to come.
use Rattle.std.specs.Prelude.{◌≡◌, ℕ, List, [], ◌∷◌, length}
use Rattle.std.specs.Borrow.{Bor}
use Rattle.etagere_base.specs.declared.geometry.Rectangle.{Rectangle}
use Rattle.glyph_map.specs.declared.ticketed.Ticketed.{Ticketed}
use Rattle.glyph_map.specs.declared.listing.Iter.TheInside.{Inside}

module _ {K V : Type 0} where
  -- keys with rectangles and values
  abbrev pub seen_both : List (K × Ticketed V) → List (ℕ × Rectangle) → List (K × Rectangle × V)
  seen_both [] rectangles = []
  seen_both (entry ∷ entries) [] = []
  seen_both (entry ∷ entries) (one ∷ rectangles) =
      (entry.0, one.1, entry.1.value) ∷ seen_both entries rectangles

  -- what is left
  abbrev pub left_in : Inside K V → List (K × Rectangle × V)
  left_in fields = seen_both fields.entries fields.rectangles

  -- there is a rectangle for each entry
  abbrev pub AreAsLong : Inside K V → Type 0
  AreAsLong fields = length fields.entries ≡ length fields.rectangles

  -- what an item shows
  abbrev pub deref_seen : Bor K × Rectangle × Bor V → K × Rectangle × V
  deref_seen item = (item.0.now, item.1, item.2.now)
