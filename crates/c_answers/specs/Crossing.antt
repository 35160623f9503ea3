-- What the plain structs of C stand for.
use Rattle.std.specs.Prelude.{ℕ, not, ◌==◌}
use Rattle.etagere_base.specs.declared.geometry.Size.{Size}
use Rattle.etagere_base.specs.declared.geometry.Rectangle.{Rectangle}
use Rattle.etagere_base.specs.declared.options.AllocatorOptions.{AllocatorOptions}
use Rattle.etagere_shelves.specs.Plain.{rectangle_in}
use Rattle.c_answers.specs.declared.geometry.EtagereEntry.{EtagereEntry}
use Rattle.c_answers.specs.declared.geometry.EtagereOptions.{EtagereOptions}
use Rattle.c_answers.specs.declared.geometry.EtagereSize.{EtagereSize}

abbrev pub size_in : EtagereSize → Size
size_in size = record { width = size.width; height = size.height }

-- shelves stand upright where the number for it isn't 0
abbrev pub options_in : EtagereOptions → AllocatorOptions
options_in options = record {
  alignment = size_in options.alignment;
  vertical_shelves = not (options.vertical_shelves == 0);
  num_columns = options.num_columns;
}

-- a key with its rectangle
abbrev pub entry_in : EtagereEntry → ℕ × Rectangle
entry_in entry = (entry.key, rectangle_in entry.rectangle)
