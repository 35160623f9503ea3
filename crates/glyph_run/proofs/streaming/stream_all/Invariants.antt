use Rattle.std.proofs.Common.{take}
use Rattle.glyph_run.proofs.StreamsOn.{IsStreaming}
use Rattle.glyph_run.proofs.streaming.stream_all.Given as goal

-- the lines of the replies so far went out
abbrev pub invariant-loop-position : goal.invariant-loop-position
invariant-loop-position g l =
    let contents = g.W.Write.contents in
    IsStreaming l.fn.cache.atlas.frame l.fn.cache.capacity (take l.position l.commands) l.cache (contents l.fn.writer) (contents l.writer)
