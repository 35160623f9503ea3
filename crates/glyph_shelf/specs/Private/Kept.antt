-- What the entries and the atlas of a cache keep, and the state that they stand for.
use Rattle.glyph_shelf.specs.Cache.{CacheState}
use Rattle.glyph_shelf.specs.Promises.{KeepsCachePromises}
use Rattle.glyph_shelf.specs.declared.kept.Kept.TheInside.{Inside}

-- the state of entries in an atlas
abbrev pub kept_state : Inside → CacheState
kept_state kept =
    record {
      entries = kept.entries.entries;
      capacity = kept.entries.cap;
      atlas = kept.atlas;
      used_in_frame = kept.entries.uses;
    }

-- they keep what every cache does
abbrev pub IsKept : Inside → Type 0
IsKept kept = KeepsCachePromises (kept_state kept)
