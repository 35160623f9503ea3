use Rattle.std.proofs.Common.{◌≡◌, ◌-◌, length, rules}
use Rattle.glyph_map.proofs.Saved.{last-is}
use Rattle.glyph_map.proofs.saving.enter_last.Goals as goal

pub returns-then-contains-clause-fault : goal.returns-then-contains-clause-fault
returns-then-contains-clause-fault g c =
    let index : c.len.result - 1 ≡ length c.args.pairs.now.items - 1 = search rules in (
      (c.in-Some.key, c.in-Some.value),
      index,
      last-is c.args.pairs.now.items c.pop.new.self.items (c.in-Some.key, c.in-Some.value) (c.len.result - 1) c.in-Some.ensures.items index,
      search rules,
    )
