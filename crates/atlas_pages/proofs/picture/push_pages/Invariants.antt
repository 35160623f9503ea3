use Rattle.std.proofs.Common.{drop}
use Rattle.std.specs.List.{enumerate_from}
use Rattle.pictures.proofs.GatheringLemmas.{GathersAlong}
use Rattle.atlas_pages.specs.Picture.{page_text}
use Rattle.atlas_pages.proofs.picture.push_pages.Given as goal

-- the pages so far and those that are left make the whole
abbrev pub invariant-loop-number : goal.invariant-loop-number
invariant-loop-number g l =
    GathersAlong page_text (g.W.Write.contents l.fn.writer) l.fn.text (g.W.Write.contents l.writer) l.text
    (enumerate_from l.number (drop l.number l.pages)) (enumerate_from 0 l.pages)
