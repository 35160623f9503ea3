use Rattle.etagere_base.proofs.AskedSides.{rounded-up}
use Rattle.etagere_base.proofs.sides.up.Goals as goal

pub returns-clause-rounded : goal.returns-clause-rounded
returns-clause-rounded c = rounded-up c.args.length c.args.alignment c.requires.positive
