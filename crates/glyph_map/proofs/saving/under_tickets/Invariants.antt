use Rattle.std.specs.Prelude.{◌≤◌, length, vec_capacity}
use Rattle.glyph_map.proofs.Saved.{AreEntering}
use Rattle.glyph_map.proofs.saving.under_tickets.Given as goal

abbrev pub invariant-loop-ticket : goal.invariant-loop-ticket
invariant-loop-ticket g l =
    record {
      entering : AreEntering l.fn.pairs.items l.cache l.tickets l.left.items l.entries;
      room : length l.fn.pairs.items ≤ vec_capacity l.left;
    }

abbrev pub decreases-loop-ticket : goal.decreases-loop-ticket
decreases-loop-ticket g l = length l.tickets
