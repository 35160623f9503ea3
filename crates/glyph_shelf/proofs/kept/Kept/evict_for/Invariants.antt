use Rattle.std.specs.Prelude.{◌≡◌, ◌<◌, false, length, vec_capacity, vec_len}
use Rattle.glyph_shelf.specs.Placing.{has_room}
use Rattle.glyph_shelf.proofs.Evicting.{IsEvicting}
use Rattle.glyph_shelf.proofs.kept.Kept.evict_for.Given as goal

abbrev pub invariant-loop-last : goal.invariant-loop-last
invariant-loop-last l =
    IsEvicting l.fn.self l.key l.size l.evicted.items l.self × (has_room l.self l.size ≡ false)
    × (vec_len l.evicted < vec_capacity l.evicted)

abbrev pub decreases-loop-last : goal.decreases-loop-last
decreases-loop-last l = length l.self.entries
