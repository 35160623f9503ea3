use Rattle.std.proofs.Common.{arith, refl}
use Rattle.c_answers.proofs.Evicted.{placed_fits}
use Rattle.etagere_c.proofs.cache.etagere_cache_place.Goals as goal

pub write_placed-requires : goal.write_placed-requires
write_placed-requires c =
    placed_fits c.in-Some.held.now c.place-placed.new.self c.args.key c.size.result c.args.evicted.now
    (omega (arith, c.if-evicted-len.false, c.len.ensures.len))
    c.place-placed.result _ refl c.place-placed.ensures.found c.place-placed.ensures.placed c.place-placed.ensures.left
