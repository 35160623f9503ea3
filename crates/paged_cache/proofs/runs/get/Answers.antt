use Rattle.std.proofs.Common.{sym, ◌∙◌}
use Rattle.paged_cache.proofs.Keeping.{used-unknown}
use Rattle.paged_cache.proofs.runs.get.Goals as goal

pub returns-in-None : goal.returns-in-None
returns-in-None c =
    let none = sym c.in-None.ensures.value in
    record {
      answers = (none, c.get.ensures.used ∙ used-unknown c.args.cache.now c.args.key none);
      promises = c.get.ensures.promises;
    }
