use Rattle.glyph_shelf.proofs.Evicting.{unknown-without_last}
use Rattle.glyph_shelf.proofs.kept.Kept.enter_for_last.Goals as goal

pub enter-requires : goal.enter-requires
enter-requires c = rw c.drop_last.ensures.dropped (unknown-without_last c.args.self.now c.args.key c.requires.new)
