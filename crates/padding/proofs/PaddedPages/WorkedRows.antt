-- The definitions alone, with no program, give the rectangles of worked examples: padding is asked for, and not given
-- back.
use Rattle.std.specs.Prelude.{◌≡◌, None, Some, refl}
use Rattle.shelf_model.proofs.WorkedRows.{rectangle, size}
use Rattle.shelf_model.specs.declared.faults.Refusal.TheVariants.{NotPositive, TooLong}
use Rattle.atlas_pages.proofs.WorkedRows.{page_options, placed}
use Rattle.atlas_pages.specs.declared.options.PageChoice.TheVariants.{FirstFit}
use Rattle.atlas_pages.specs.Pages.{no_pages}
use Rattle.padding.specs.declared.sides.Padding.{Padding}
use Rattle.padding.specs.Padding.{padded, padding_refusal}
use Rattle.padding.specs.Pages.Padded.{trimmed_on}

abbrev two_around : Padding
two_around = record { left = 2; top = 2; right = 2; bottom = 2 }

padded-asked : padded two_around (size 26 20) ≡ size 30 24
padded-asked = refl

padded-given : trimmed_on (record { padding = two_around; pages = placed (no_pages (page_options FirstFit 2)) (size 30 24) 0 }) 0 0
    ≡ Some (rectangle 2 2 28 22)
padded-given = refl

padded-longest : padding_refusal two_around (size 65531 1) ≡ None
padded-longest = refl

padded-too_long : padding_refusal two_around (size 65532 1) ≡ Some TooLong
padded-too_long = refl

padded-empty : padding_refusal two_around (size 0 1) ≡ Some NotPositive
padded-empty = refl
