use Rattle.std.proofs.Common.{◌≡◌, ℕ, ◌<◌, ◌≤◌, length, map, take}
use Rattle.std.specs.Prelude.{vec_capacity}
use Rattle.etagere_links.specs.Edits.{link_at}
use Rattle.etagere_links.specs.Links.{bits_of, link_of}
use Rattle.shelf_restoring.proofs.link_bits.next_bits.Given as goal

abbrev pub invariant-loop-number : goal.invariant-loop-number
invariant-loop-number g l = record {
  room : length l.records ≤ vec_capacity l.bits;
  bits : l.bits.items ≡ take l.number (map (λ here. bits_of (g.T.Linked.family.next here)) l.records);
  fit : (k : ℕ) → k < l.number → link_of (bits_of (link_at g.T.Linked.family.next l.records k)) ≡ link_at g.T.Linked.family.next l.records k;
}
