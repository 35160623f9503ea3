use Rattle.glyph_map.proofs.MapRunsOn.{every_run}
use Rattle.glyph_map.proofs.runs.every_run_keeps_promises.Goals as goal

pub returns : goal.returns
returns g c = every_run g.row.V.Denot g.K.PartialEq.eq
