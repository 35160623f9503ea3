use Rattle.std.proofs.Common.{ap, ◌∙◌}
use Rattle.lru.specs.LruCache.{lru_cache}
use Rattle.glyph_shelf.proofs.UsedKeys.Entries.{put-first}
use Rattle.glyph_map.proofs.ticketed.put_first.Goals as goal

pub returns-in-Ok-clause-ok : goal.returns-in-Ok-clause-ok
returns-in-Ok-clause-ok g c =
    c.in-Ok.ensures.entries
    ∙ ap (λ es. lru_cache es c.args.entries.now.cap)
    (put-first g.K.PartialEq.eq c.args.entries.now c.args.key c.args.entry c.requires.new c.requires.room)
