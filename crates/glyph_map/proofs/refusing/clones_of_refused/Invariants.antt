use Rattle.std.specs.Prelude.{length}
use Rattle.glyph_map.proofs.Asked.{ComesTo, RefusesThen}
use Rattle.glyph_map.proofs.refusing.clones_of_refused.Given as goal

abbrev pub invariant-loop-key : goal.invariant-loop-key
invariant-loop-key g l =
    record {
      callable : goal.F-IsAlwaysCallable g l.keeps;
      asked : ComesTo g.F.FnMut g.K.Clone.is_clone l.fn.keeps l.fn.entries.entries l.keeps l.rest l.clones.items;
      refused : RefusesThen g.F.FnMut l.fn.keeps l.fn.entries.entries l.keeps l.rest;
    }

abbrev pub decreases-loop-key : goal.decreases-loop-key
decreases-loop-key g l = length l.rest
