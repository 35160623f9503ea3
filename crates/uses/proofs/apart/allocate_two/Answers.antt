use Rattle.std.proofs.Common.{subst, sym}
use Rattle.etagere_base.proofs.EachLemmas.{Each-middle, Each-remove_number}
use Rattle.etagere_base.specs.declared.ids.Allocation.{Allocation}
use Rattle.std.specs.List.{AllByRecursion}
use Rattle.etagere_base.specs.Rectangles.{IsInside}
use Rattle.shelf_model.specs.Atlas.{Adds}
use Rattle.shelf_model.specs.Places.{allocations}
use Rattle.uses.proofs.apart.allocate_two.Goals as goal

pub returns-in-Ok-Some-clause-inside : goal.returns-in-Ok-Some-clause-inside
returns-in-Ok-Some-clause-inside c =
    let P : Allocation → Type 0 = λ a. IsInside c.allocate-2.new.self.frame a.rectangle in
    let one = c.in-Some.one in
    let other = c.in-Ok-Some.other in
    let first : Adds (allocations c.args.atlas.now) one (allocations c.allocate.new.self) =
    rw c.in-Some.is at c.in_ok-one.ensures.allocated in
    let second : Adds (allocations c.allocate.new.self) other (allocations c.allocate-2.new.self) =
    rw c.in-Ok-Some.field-0-is at c.in-Ok-Some.ensures.allocated in
    let all = subst (AllByRecursion P) second.after c.in-Ok-Some.ensures.promises.inside in
    let older = subst (AllByRecursion P) (sym second.before) (Each-remove_number P second.front other second.back all) in (
      Each-middle P first.front one first.back (subst (AllByRecursion P) first.after older),
      Each-middle P second.front other second.back all,
    )
