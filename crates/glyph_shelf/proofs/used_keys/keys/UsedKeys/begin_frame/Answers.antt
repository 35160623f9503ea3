use Rattle.std.proofs.Common.{ℕ, ◌-◌, ap, ◌∙◌, arith}
use Rattle.glyph_shelf.specs.UsedKeys.Keys.{framed}
use Rattle.glyph_shelf.proofs.UsedKeys.StampLemmas.{falling-weaker}
use Rattle.glyph_shelf.proofs.UsedKeys.StateLemmas.{begun-framed, state_of}
use Rattle.glyph_shelf.proofs.used_keys.keys.UsedKeys.begin_frame.Goals as goal

pub invariant_of-self : goal.invariant_of-self
invariant_of-self c =
    let next = c.next_frame-self-inside in
    falling-weaker (next.result - 1) next.result next.new.entries.entries (omega arith) next.ensures.unused

pub returns : goal.returns
returns c =
    let next = c.next_frame-self-inside in
    let inside = c.self.inside in
    ap (λ (cap : ℕ). state_of next.new.entries.entries cap next.result) next.ensures.cap
    ∙ begun-framed next.result inside.frame inside.entries.cap next.new.entries.entries inside.entries.entries next.ensures.begun
    next.ensures.unused next.ensures.entries
    ∙ ap framed c.self.view_is
