-- The definitions alone, with no program, give the reasons and the counts of worked examples.
use Rattle.std.specs.Prelude.{◌≡◌, ℕ, false, true, None, Some, negsuc, pos, refl}
use Rattle.etagere_base.specs.declared.geometry.Size.{Size}
use Rattle.shelf_model.specs.declared.faults.Refusal.TheVariants.{NotPositive, TooLong, WiderThanColumn, TallerThanAtlas, NoRoom}
use Rattle.shelf_model.specs.declared.usage.Usage.{Usage}
use Rattle.shelf_model.specs.Refusal.{refusal}
use Rattle.shelf_model.specs.Returning.{returned}
use Rattle.shelf_model.specs.State.{AtlasState}
use Rattle.shelf_model.specs.Usage.{usage}
use Rattle.shelf_model.proofs.WorkedRows.{allocated, new_atlas, options, plain_atlas, size}

-- sides of a new atlas of 1000x1000, one by one
abbrev page : AtlasState
page = plain_atlas 1000 1000

pub sides-none : refusal page (size 0 5) ≡ Some NotPositive
sides-none = refl

pub sides-negative : refusal page (record { width = negsuc 2; height = pos 5 }) ≡ Some NotPositive
sides-negative = refl

pub sides-none_and_long : refusal page (size 65536 0) ≡ Some NotPositive
sides-none_and_long = refl

pub sides-long : refusal page (size 65536 1) ≡ Some TooLong
sides-long = refl

pub sides-longest : refusal page (size 65535 65535) ≡ Some WiderThanColumn
sides-longest = refl

pub sides-wide : refusal page (size 1001 10) ≡ Some WiderThanColumn
sides-wide = refl

pub sides-tall : refusal page (size 10 1001) ≡ Some TallerThanAtlas
sides-tall = refl

pub sides-whole : refusal page (size 1000 1000) ≡ None
sides-whole = refl

pub sides-least : refusal page (size 1 1) ≡ None
sides-least = refl

-- a page that is full
pub full_page : refusal (allocated page (size 1000 1000) 1) (size 100 100) ≡ Some (NoRoom 0)
full_page = refl

-- what is left beside an item, and below its shelf
abbrev started : AtlasState
started = allocated page (size 100 100) 1

pub started-beside : refusal started (size 900 100) ≡ None
started-beside = refl

pub started-below : refusal started (size 1000 832) ≡ None
started-below = refl

pub started-stepped : refusal started (size 1000 888) ≡ Some (NoRoom 0)
started-stepped = refl

-- in one shelf 40 are left of 100
abbrev strip : AtlasState
strip = allocated (plain_atlas 100 16) (size 60 16) 1

pub strip-fits : refusal strip (size 40 10) ≡ None
strip-fits = refl

pub strip-wider : refusal strip (size 41 10) ≡ Some (NoRoom 40)
strip-wider = refl

pub strip-returned : refusal (returned strip 1) (size 41 10) ≡ None
strip-returned = refl

-- widths and heights are rounded up to 8: a column of 60 has 56
pub aligned-fits : refusal (new_atlas (size 60 60) (options 8 8 false 1)) (size 49 49) ≡ None
aligned-fits = refl

pub aligned-wide : refusal (new_atlas (size 60 60) (options 8 8 false 1)) (size 57 8) ≡ Some WiderThanColumn
aligned-wide = refl

pub aligned-tall : refusal (new_atlas (size 60 60) (options 8 8 false 1)) (size 8 57) ≡ Some TallerThanAtlas
aligned-tall = refl

-- two columns of 20 along the height of 40, shelves across the width of 30
abbrev upright : AtlasState
upright = new_atlas (size 30 40) (options 1 1 true 2)

pub upright-wide : refusal upright (size 10 21) ≡ Some WiderThanColumn
upright-wide = refl

pub upright-tall : refusal upright (size 31 10) ≡ Some TallerThanAtlas
upright-tall = refl

pub upright-whole : refusal upright (size 30 20) ≡ None
upright-whole = refl

abbrev upright_one : AtlasState
upright_one = allocated upright (size 30 8) 1

pub upright-other_column : refusal upright_one (size 30 20) ≡ None
upright-other_column = refl

pub upright-left : refusal (allocated upright_one (size 30 20) 2) (size 30 13) ≡ Some (NoRoom 12)
upright-left = refl

-- counts, and the widest of what is free
abbrev counts : ℕ → ℕ → ℕ → ℕ → ℕ → Size → Usage
counts shelves empty_shelves items free_items unused_records largest_free =
    record {
      shelves = shelves;
      empty_shelves = empty_shelves;
      items = items;
      free_items = free_items;
      unused_records = unused_records;
      largest_free = largest_free;
    }

pub usage-new : usage page ≡ counts 1 1 0 1 65534 (size 1000 1000)
usage-new = refl

pub usage-started : usage started ≡ counts 2 1 1 2 65532 (size 1000 888)
usage-started = refl

pub usage-full : usage (allocated page (size 1000 1000) 1) ≡ counts 1 0 1 0 65534 (size 0 0)
usage-full = refl

pub usage-upright : usage upright_one ≡ counts 2 1 1 2 65532 (size 30 20)
usage-upright = refl

pub usage-upright_left : usage (allocated upright_one (size 30 20) 2) ≡ counts 2 0 2 1 65532 (size 30 12)
usage-upright_left = refl

-- of two that are equally wide the taller one
pub usage-taller : usage (allocated (new_atlas (size 200 100) (options 1 1 false 2)) (size 100 16) 1) ≡ counts 3 2 1 2 65532 (size 100 100)
usage-taller = refl
