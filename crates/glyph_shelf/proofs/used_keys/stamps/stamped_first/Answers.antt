use Rattle.std.proofs.Common.{ℕ, ◌+◌, ◌<◌, List, length, ap, sym, ◌∙◌, arith}
use Rattle.glyph_shelf.specs.declared.used_keys.stamps.Entry.{Entry}
use Rattle.glyph_shelf.specs.UsedKeys.Private.Stamps.{stamped_first}
use Rattle.glyph_shelf.proofs.UsedKeys.Turning.{counted-more, some-left}
use Rattle.glyph_shelf.proofs.used_keys.stamps.stamped_first.Goals as goal

pub unreachable-requires : goal.unreachable-requires
unreachable-requires c =
    let es = c.args.entries.now.entries in
    let less : c.loop-count.count < length es = let all = c.loop-count.invariant.all in omega arith in
    some-left es c.loop-count.rest c.loop-count.count less c.loop-count.invariant.rest c.in_default.ensures.steps.0

pub loop-count-preserved : goal.loop-count-preserved
loop-count-preserved c =
    let es = c.args.entries.now.entries in
    let rest = c.next.new.self in
    let more = counted-more c.args.frame es rest c.loop-count.count (c.in-Some.field-0-0.now, c.in-Some.entry.now)
    (sym c.loop-count.invariant.rest ∙ c.in-Some.ensures.steps) c.loop-count.invariant.counted c.if-entry-frame.false in
    record {
      rest = sym more.0;
      counted = more.1 ∙ ap (λ (l : List (ℕ × Entry)). c.loop-count.count + 1 + stamped_first c.args.frame l) (sym more.0);
      all = c.loop-count.invariant.all;
    }
