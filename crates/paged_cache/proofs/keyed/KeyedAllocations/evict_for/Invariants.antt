use Rattle.std.specs.Prelude.{◌≡◌, ◌<◌, false, length, vec_capacity, vec_len}
use Rattle.paged_cache.specs.Keyed.{has_room}
use Rattle.paged_cache.proofs.Evicting.{IsEvicting}
use Rattle.paged_cache.proofs.keyed.KeyedAllocations.evict_for.Given as goal

abbrev pub invariant-loop-dropped : goal.invariant-loop-dropped
invariant-loop-dropped g l =
    IsEvicting g.A.Allocates.keeps g.A.Allocates.has_place g.A.Allocates.fits g.A.Allocates.returned g.A.Allocates.are_held l.fn.self l.key l.size l.evicted.items l.self
    × (has_room g.A.Allocates.has_place l.self l.size ≡ false) × (vec_len l.evicted < vec_capacity l.evicted)

abbrev pub decreases-loop-dropped : goal.decreases-loop-dropped
decreases-loop-dropped g l = length l.self.entries
