use Rattle.shelf_search.proofs.ByHeight.SearchedOnes.{fallen}
use Rattle.shelf_search.proofs.choosing.fitting_item.Goals as goal

pub returns-in-Widest-clause-bounded : goal.returns-in-Widest-clause-bounded
returns-in-Widest-clause-bounded c = fallen c.args.records.now c.args.width c.in-Widest.widest c.args.bounded.now c.requires.bounded (rw c.from.ensures at c.in-Widest.ensures)
