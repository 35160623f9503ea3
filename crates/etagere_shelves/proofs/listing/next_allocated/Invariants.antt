use Rattle.std.proofs.Common.{◌≡◌}
use Rattle.shelf_records.specs.Private.Reading.{next_allocated}
use Rattle.etagere_shelves.proofs.listing.next_allocated.Given as goal

-- the first one from here on is the first one of all
abbrev pub invariant-loop-number : goal.invariant-loop-number
invariant-loop-number l = next_allocated l.items l.number ≡ next_allocated l.items l.from
