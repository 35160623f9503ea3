use Rattle.std.specs.Prelude.{◌≡◌, ℕ, ◌+◌, ◌<◌, true, is_some, length}
use Rattle.glyph_shelf.specs.Cache.{rectangle_at}
use Rattle.glyph_map.proofs.tickets.unused_ticket.Given as goal

abbrev pub invariant-loop-ticket : goal.invariant-loop-ticket
invariant-loop-ticket l =
    record {
      taken : (key : ℕ) → key < l.ticket → is_some (rectangle_at l.cache key) ≡ true;
      all : l.ticket-end ≡ length l.cache.entries + 1;
    }
