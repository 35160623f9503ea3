-- Which fields of the records of a shelf atlas are the links of which lists.
use Rattle.shelf_records.specs.Families.{Family}
use Rattle.shelf_records.specs.declared.records.LinkedItem.{LinkedItem}
use Rattle.shelf_records.specs.declared.records.LinkedShelf.{LinkedShelf}

-- the items of a shelf, as they lie side by side
abbrev pub item_chain : Family LinkedItem
item_chain =
    record {
      next = λ item. item.next;
      previous = λ item. item.prev;
      with_next = λ link item. record item { next = link };
      with_previous = λ link item. record item { prev = link };
    }

-- the free items of a shelf, in their order
abbrev pub free_list : Family LinkedItem
free_list =
    record {
      next = λ item. item.next_unallocated;
      previous = λ item. item.prev_unallocated;
      with_next = λ link item. record item { next_unallocated = link };
      with_previous = λ link item. record item { prev_unallocated = link };
    }

-- the shelves of an atlas, column after column
abbrev pub shelf_chain : Family LinkedShelf
shelf_chain =
    record {
      next = λ shelf. shelf.next;
      previous = λ shelf. shelf.prev;
      with_next = λ link shelf. record shelf { next = link };
      with_previous = λ link shelf. record shelf { prev = link };
    }
