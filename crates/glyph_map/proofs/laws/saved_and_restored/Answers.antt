use Rattle.std.proofs.Common.{◌≡◌, List, subst, sym}
use Rattle.glyph_map.specs.Saved.{IsMapBroken, MapStandsFor, without_frame}
use Rattle.glyph_map.specs.State.{MapState}
use Rattle.glyph_map.specs.declared.faults.MapRestoreFault.TheVariants.{Memory}
use Rattle.glyph_map.specs.declared.faults.NotRestored.{NotRestored}
use Rattle.glyph_map.proofs.SavedLaws.{err-then, map-none, map-one, ok-then}
use Rattle.glyph_map.proofs.laws.saved_and_restored.Goals as goal

pub returns-clause-ok : goal.returns-clause-ok
returns-clause-ok g c = λ same.
    ok-then (MapStandsFor c.in-Ok.snapshot c.args.pairs.items) (λ (s : MapState g.row.K.Denot g.row.V.Denot). s ≡ without_frame c.args.map.now)
    c.restore.result c.restore.ensures.ok
    (λ s stands. map-one c.snapshots_stand_for_one_cache.ensures.one c.in-Ok.snapshot c.args.pairs.items s (without_frame c.args.map.now) stands
    (subst (λ (l : List (g.row.K.Denot × g.row.V.Denot)). MapStandsFor c.in-Ok.snapshot l (without_frame c.args.map.now)) (sym same) c.in-Ok.ensures.stands))

pub returns-clause-memory : goal.returns-clause-memory
returns-clause-memory g c = λ same.
    err-then (λ (refused : NotRestored g.row.K.Denot g.row.V.Denot). IsMapBroken g.K.PartialEq.eq c.in-Ok.snapshot c.args.pairs.items refused.fault)
    (λ (refused : NotRestored g.row.K.Denot g.row.V.Denot). refused.fault ≡ Memory) c.restore.result c.restore.ensures.fault
    (λ refused broken. map-none c.snapshots_stand_for_one_cache.ensures.none g.K.PartialEq.eq c.in-Ok.snapshot c.args.pairs.items (without_frame c.args.map.now) refused.fault broken
    (subst (λ (l : List (g.row.K.Denot × g.row.V.Denot)). MapStandsFor c.in-Ok.snapshot l (without_frame c.args.map.now)) (sym same) c.in-Ok.ensures.stands)
    c.len.ensures.promises.keys)
