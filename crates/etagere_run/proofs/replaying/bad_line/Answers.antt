use Rattle.std.proofs.Common.{◌∙◌}
use Rattle.etagere_run.proofs.replaying.bad_line.Goals as goal

pub returns : goal.returns
returns g c input bad = c.write_line.ensures input (bad, c.as_str.ensures.value ∙ c.in_ok-text.ensures.text)
