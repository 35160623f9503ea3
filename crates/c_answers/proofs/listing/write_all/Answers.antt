use Rattle.std.proofs.Common.{arith, inl}
use Rattle.c_answers.proofs.Counting.{rise_few}
use Rattle.c_answers.proofs.listing.write_all.Goals as goal

pub count-requires-clause-fits : goal.count-requires-clause-fits
count-requires-clause-fits c = inl (omega (arith, rise_few 0 c.iter.result (omega arith) c.iter.ensures.rising))
