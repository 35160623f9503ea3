-- The model of an atlas: shelves of items, as callers see it.
use Rattle.std.specs.Prelude.{ℕ, ◌*◌, Bool, false, Option, None, is_none, List, [], ◌∷◌, length}
use Rattle.etagere_base.specs.declared.frames.Frame.{Frame}
use Rattle.etagere_base.specs.Lists.{total}

-- a stretch of a shelf: its width, and the id under which it is allocated; none where it is free
pub record Item : Type 0 where
  pub width : ℕ
  pub id : Option ℕ

-- a strip across a column: its items lie side by side and fill it; the places along of the free
-- ones stand in its free list
pub record Shelf : Type 0 where
  pub column : ℕ
  pub height : ℕ
  pub items : List Item
  pub free_list : List ℕ

-- an atlas: its shelves column after column, in each by their place across; and how many items have
-- been in use at once since it was new or cleared
pub record AtlasState : Type 0 where
  pub frame : Frame
  pub shelves : List Shelf
  pub peak_items : ℕ

abbrev pub is_free : Item → Bool
is_free item = is_none item.id

-- the one item is free
abbrev pub is_one_free : List Item → Bool
is_one_free [] = false
is_one_free (item ∷ []) = is_free item
is_one_free (item ∷ next ∷ items) = false

-- the shelf has one item, and that is free
abbrev pub is_empty : Shelf → Bool
is_empty shelf = is_one_free shelf.items

-- one free item that fills a shelf of this column
abbrev pub empty_shelf : Frame → ℕ → ℕ → Shelf
empty_shelf frame column height =
    record {
      column = column;
      height = height;
      items = record { width = frame.column_width; id = None } ∷ [];
      free_list = column * frame.column_width ∷ [];
    }

-- the widths of items, added up
abbrev pub total_width : List Item → ℕ
total_width items = total (λ item. item.width) items

-- how many items the shelves have
abbrev pub items_in_use : List Shelf → ℕ
items_in_use shelves = total (λ shelf. length shelf.items) shelves
