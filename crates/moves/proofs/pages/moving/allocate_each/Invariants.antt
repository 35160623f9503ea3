use Rattle.std.proofs.Common.{take}
use Rattle.moves.specs.Pages.Arranging.{Arranges}
use Rattle.moves.proofs.pages.moving.allocate_each.Given as goal

abbrev pub invariant-loop-before : goal.invariant-loop-before
invariant-loop-before l =
    Arranges l.fn.pages (take l.before-index l.asked) l.done.moves.items l.done.unplaced.items l.done.pages
