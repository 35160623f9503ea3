-- The options that a new atlas has where none are given.
use Rattle.std.specs.Prelude.{false, pos}
use Rattle.etagere_base.specs.declared.options.AllocatorOptions.{AllocatorOptions}

-- no alignment, horizontal shelves, one column
abbrev pub default_options : AllocatorOptions
default_options =
    record {
      alignment = record { width = pos 1; height = pos 1 };
      vertical_shelves = false;
      num_columns = pos 1;
    }
