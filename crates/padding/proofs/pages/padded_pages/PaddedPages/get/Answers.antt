use Rattle.padding.proofs.PaddedPages.PaddedLemmas.{found-near}
use Rattle.padding.proofs.pages.padded_pages.PaddedPages.get.Goals as goal

pub trimmed-requires : goal.trimmed-requires
trimmed-requires c =
    found-near c.self.inside.pages c.args.page c.args.id c.in_ok-rectangle.rectangle c.self.invariant.pages c.in_ok-rectangle.ensures
