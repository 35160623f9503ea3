use Rattle.std.proofs.Common.{rules, length}
use Rattle.c_answers.specs.Saving.{SavesUnframed}
use Rattle.c_answers.proofs.Saving.{saved_beyond, saved_in}
use Rattle.etagere_c.proofs.cache_snapshots.etagere_cache_snapshot.Goals as goal

pub returns-in-Some-text-clause-written : goal.returns-in-Some-text-clause-written
returns-in-Some-text-clause-written c ok =
    saved_in SavesUnframed c.args.cache.now.state c.in-Some.held.now (search rules) c.in-Some-text.text.items (search rules)
    c.args.buffer.now c.hand_out.new.buffer c.hand_out.new.needed (search rules)

pub returns-in-Some-text-clause-short : goal.returns-in-Some-text-clause-short
returns-in-Some-text-clause-short c short =
    saved_beyond SavesUnframed c.args.cache.now.state c.in-Some.held.now (search rules) c.in-Some-text.text.items (search rules)
    (length c.args.buffer.now) c.hand_out.new.needed (search rules) (search rules)
