use Rattle.paged_cache.proofs.Told.{pages-give, pages-have, pages-have_had}
use Rattle.paged_cache.proofs.on_pages.AtlasPagesAllocates.give.Goals as goal

pub returns-clause-given : goal.returns-clause-given
returns-clause-given c =
    pages-give c.allocate.result c.args.self.now c.allocate.new.self c.args.size c.allocate.ensures.placed c.allocate.ensures.large

pub returns-clause-room : goal.returns-clause-room
returns-clause-room c =
    pages-have c.allocate.result c.args.self.now c.allocate.new.self c.args.size c.allocate.ensures.placed c.allocate.ensures.refused

pub returns-clause-err_room : goal.returns-clause-err_room
returns-clause-err_room c = pages-have_had c.allocate.result c.args.self.now c.args.size c.allocate.ensures.memory
