-- A valid state has a shelf for each column.
use Rattle.std.proofs.Common.{◌≤◌, length, arith}
use Rattle.shelf_model.specs.State.{AtlasState}
use Rattle.shelf_model.specs.Valid.{IsValid}
use Rattle.etagere_base.proofs.ColumnTotals.{columns-le-length}
use Rattle.etagere_base.proofs.FrameSides.{across-positive}
use Rattle.shelf_model.proofs.Places.Heights.{column_of, height_of}

-- a valid state has a shelf for each column
pub columns-le-shelves : (state : AtlasState) → IsValid state → state.frame.columns ≤ length state.shelves
columns-le-shelves state valid =
    let tall = across-positive 65535 state.frame valid.frame in
    columns-le-length column_of height_of state.frame.columns state.shelves (λ column below. omega (arith, valid.heights column below))
