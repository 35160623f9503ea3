use Rattle.padding.proofs.PaddedCaches.PaddedLemmas.{given-near, keeps-padding, placed-now, sized-now}
use Rattle.padding.proofs.caches.padded_cache.PaddedCache.place.Goals.{in-Ok, in-Err}
use Rattle.padding.proofs.caches.padded_cache.PaddedCache.place.Goals as goal

pub trimmed-requires : goal.trimmed-requires
trimmed-requires c =
    given-near c.self.inside.cache c.place.new.self c.args.key c.in_ok-asked.asked c.in-Ok.placed.rectangle c.in-Ok.placed.evicted.items
    c.self.invariant.cache c.place.ensures.promises c.in-Ok.ensures.found c.in-Ok.ensures.placed

pub invariant_of-self : goal.invariant_of-self
invariant_of-self c = keeps-padding c.self.inside.padding c.place.new.self c.place.ensures.promises

pub returns-clause-promises : goal.returns-clause-promises
returns-clause-promises c = keeps-padding c.self.inside.padding c.place.new.self c.place.ensures.promises

pub returns-clause-placed : goal.returns-clause-placed
returns-clause-placed c = λ new.
    elim c.match-place.branch [
      | in-Ok w ↦
          rw w.result-is
          (placed-now c.args.self.now c.self.inside.cache c.place.new.self c.self.inside.padding c.args.key c.args.size c.in_ok-asked.asked
          w.in-Ok.placed.rectangle w.trimmed.result w.in-Ok.placed.evicted.items c.self.view_is new (c.in_ok-asked.ensures.ok new).0
          w.in-Ok.ensures.placed w.trimmed.ensures)
      | in-Err w ↦ rw w.result-is tt
    ]

pub returns-clause-large : goal.returns-clause-large
returns-clause-large c = λ new.
    elim c.match-place.branch [
      | in-Ok w ↦
          rw w.result-is
          (sized-now c.args.self.now c.self.inside.cache c.self.inside.padding c.args.key c.args.size c.in_ok-asked.asked
          w.in-Ok.placed.rectangle w.trimmed.result c.self.invariant.cache c.self.view_is new (c.in_ok-asked.ensures.ok new)
          w.in-Ok.ensures.large w.trimmed.ensures)
      | in-Err w ↦ rw w.result-is tt
    ]
