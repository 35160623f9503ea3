use Rattle.std.proofs.Common.{rules}
use Rattle.glyph_shelf.specs.Saved.{CacheStandsFor, without_frame}
use Rattle.saved_collections.specs.Caches.Values.{SpellsCache}
use Rattle.c_answers.specs.Saving.{SavesUnframed}
use Rattle.c_answers.proofs.Saving.{ok_is, some_of}
use Rattle.c_answers.proofs.cache_snapshots.cache_text_of.Goals as goal

pub returns : goal.returns
returns c =
    some_of (λ text. SpellsCache text.items c.in_ok-snapshot.snapshot) (λ text. SavesUnframed text.items c.args.cache.now)
    c.write_saved_cache.result c.ok-2.result (search rules) (search rules)
    (λ text spells. record {
      snapshot = c.in_ok-snapshot.snapshot;
      spells = spells;
      stands = ok_is (λ snapshot. CacheStandsFor snapshot (without_frame c.args.cache.now)) c.snapshot.result
          c.in_ok-snapshot.snapshot (search rules) c.snapshot.ensures;
    })
