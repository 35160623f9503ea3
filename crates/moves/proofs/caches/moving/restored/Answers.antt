use Rattle.moves.proofs.caches.moving.restored.Goals as goal

pub returns-in-Ok : goal.returns-in-Ok
returns-in-Ok c = λ state stands.
    c.snapshots_stand_for_one_cache.ensures.one c.args.snapshot c.in-Ok.cache state c.in-Ok.ensures.ok stands
