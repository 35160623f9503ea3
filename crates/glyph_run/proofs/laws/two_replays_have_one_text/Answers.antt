use Rattle.glyph_run.proofs.TwoRuns.{replays-same}
use Rattle.glyph_run.proofs.laws.two_replays_have_one_text.Goals as goal

pub returns : goal.returns
returns c = replays-same
