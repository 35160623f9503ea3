use Rattle.std.proofs.Common.{◌≡◌, ◌+◌, ◌-◌, ◌++◌, drop, length, take}
use Rattle.etagere_links.specs.Private.Positions.{ArePositions, rest_of}
use Rattle.etagere_links.specs.Walks.{walked_from}
use Rattle.etagere_links.proofs.walking.walk_within.Given as goal

abbrev pub invariant-loop-step : goal.invariant-loop-step
invariant-loop-step l = record {
  whole : l.met.items ≡ take l.before l.fn.met.items ++ drop l.before l.met.items;
  rest : walked_from (length l.links - l.step) l.links (drop l.before l.met.items) l.at ≡ rest_of l.links (drop l.before l.fn.met.items) l.start;
  count : length l.met.items ≡ l.before + l.step;
  at_positions : ArePositions l.positions (drop l.before l.met.items);
}
