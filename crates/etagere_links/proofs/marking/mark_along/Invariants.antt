use Rattle.std.proofs.Common.{◌≡◌, ℕ, ◌+◌, ◌-◌, ◌++◌, List, false, drop, get_or, length}
use Rattle.std.specs.Prelude.{◌||◌}
use Rattle.etagere_links.specs.Marks.{IsMarkedBy}
use Rattle.etagere_links.specs.Walks.{walk, walked_from}
use Rattle.etagere_links.proofs.WalkSteps.{has}
use Rattle.etagere_links.proofs.marking.mark_along.Given as goal

abbrev pub invariant-loop : goal.invariant-loop
invariant-loop l = record {
  whole : l.met.items ≡ l.fn.met.items ++ drop (length l.fn.met.items) l.met.items;
  count : length l.met.items ≡ length l.fn.met.items + l.counter;
  rest : walked_from (length l.links - l.counter) l.links (drop (length l.fn.met.items) l.met.items) l.at ≡ walk l.links l.start;
  seen : (k : ℕ) → get_or l.marks k false ≡ (get_or l.fn.marks k false || has k (drop (length l.fn.met.items) l.met.items));
  marked : (numbers : List ℕ) → IsMarkedBy l.fn.marks numbers → IsMarkedBy l.marks (numbers ++ drop (length l.fn.met.items) l.met.items);
}
