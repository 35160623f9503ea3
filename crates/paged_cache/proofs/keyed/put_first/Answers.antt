use Rattle.std.proofs.Common.{nat_eq, ap, ◌∙◌}
use Rattle.lru.specs.LruCache.{lru_cache}
use Rattle.glyph_shelf.proofs.UsedKeys.Entries.{put-first}
use Rattle.paged_cache.proofs.keyed.put_first.Goals as goal

pub returns-clause-ok : goal.returns-clause-ok
returns-clause-ok g c =
    c.in_ok-put.ensures.entries
    ∙ ap (λ es. lru_cache es c.args.entries.now.cap) (put-first nat_eq c.args.entries.now c.args.key c.args.allocation c.requires.new c.requires.room)
