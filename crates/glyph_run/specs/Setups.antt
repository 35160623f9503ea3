-- The cache of a header that was read, and what a script that was read asks for.
use Rattle.std.specs.NonZero.{non_zero_usize_get}
use Rattle.glyph_run.specs.declared.words.Header.{Header}
use Rattle.glyph_run.specs.Words.{Setup}

-- with the capacity as a number
abbrev pub setup_in : Header → Setup
setup_in header =
    record { size = header.size; options = header.options; capacity = non_zero_usize_get header.capacity }
