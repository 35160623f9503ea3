-- The slots of a table as a code, which a ghost field needs.
use Rattle.std.specs.Prelude.{List}
use Rattle.std.specs.declared.option.Option.{Option}
use Rattle.std.specs.Coded.{Coded, coded_list, coded_option}
use Rattle.etagere_base.specs.contracts.ids.Allocation as Allocation

abbrev pub slots_code : Coded (List (Option Allocation.the_row.Denot))
slots_code = coded_list (coded_option Allocation.the_row.coded)
