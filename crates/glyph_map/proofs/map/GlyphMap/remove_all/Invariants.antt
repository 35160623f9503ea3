use Rattle.std.specs.Prelude.{◌≡◌, length}
use Rattle.glyph_map.specs.Promises.{KeepsMapPromises}
use Rattle.glyph_map.specs.Retaining.{without_keys}
use Rattle.glyph_map.proofs.map.GlyphMap.remove_all.Given as goal

abbrev pub invariant-loop-key : goal.invariant-loop-key
invariant-loop-key g l =
    record {
      removed : without_keys g.K.PartialEq.eq l.self l.rest ≡ without_keys g.K.PartialEq.eq l.fn.self l.fn.keys;
      promises : KeepsMapPromises g.K.PartialEq.eq l.self;
    }

abbrev pub decreases-loop-key : goal.decreases-loop-key
decreases-loop-key g l = length l.rest
