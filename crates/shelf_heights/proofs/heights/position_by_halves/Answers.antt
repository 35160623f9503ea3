use Rattle.std.proofs.Common.{ap}
use Rattle.shelf_heights.specs.declared.by_height.BoundedShelf.{BoundedShelf}
use Rattle.shelf_heights.proofs.ByHeight.Positions.{StandsAt, stands-found, stands-within}
use Rattle.shelf_heights.proofs.heights.position_by_halves.Goals as goal

-- the shelf stands where halving finds it
found : (c : goal.After-keep_sought) → StandsAt c.args.shelf c.start_of-index.result.index c.args.by_height.now.items
found c = stands-found c.args.shelves.now c.args.shelf c.start_of-index.result.index c.start_of-index.result.probes c.args.by_height.now.items c.requires.order c.requires.stands c.start_of-index.ensures

pub start_of-index-requires-clause-within : goal.start_of-index-requires-clause-within
start_of-index-requires-clause-within c = stands-within c.args.shelves.now c.args.shelf c.args.by_height.now.items c.requires.order c.requires.stands

pub returns-clause-within : goal.returns-clause-within
returns-clause-within c = (found c).within

pub returns-clause-shelf : goal.returns-clause-shelf
returns-clause-shelf c = ap (λ (one : BoundedShelf). one.shelf) ((found c).read (record { widest = 0; shelf = 0 }))
