use Rattle.bucket_index.proofs.MissedShelves.{missed-past}
use Rattle.bucket_index.proofs.missed.Missed.follow_left.Goals as goal

pub returns-else-number-shelves : goal.returns-else-number-shelves
returns-else-number-shelves c = missed-past c.args.number c.args.self.now c.args.shelves.now c.if-number-shelves.false c.requires
