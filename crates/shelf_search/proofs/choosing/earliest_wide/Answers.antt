use Rattle.std.proofs.Common.{◌≡◌, ◌*◌, ◌<◌, ◌∙◌, Some, arith, refl, set, subst}
use Rattle.etagere_base.proofs.EachLemmas.{Each-weaken}
use Rattle.shelf_heights.specs.Private.ByHeight.{IsFirstAsWide, bounded_at, chain_order, numbers_by_height}
use Rattle.shelf_heights.specs.declared.by_height.BoundedShelf.{BoundedShelf}
use Rattle.shelf_search.specs.Private.Opening.{AreSearchable, IsBehind, IsSearchable, bounded_full, earlier_position}
use Rattle.shelf_search.proofs.ByHeight.EarliestChosen.{full-lowered}
use Rattle.shelf_search.proofs.ByHeight.EarliestShelves.{ended-earliest, next-earliest, passed-full}
use Rattle.shelf_search.proofs.ByHeight.Searches.{numbers-set, same-size}
use Rattle.shelf_search.proofs.choosing.earliest_wide.Goals as goal

pub loop-index-preserved-then-lower_if_full : goal.loop-index-preserved-then-lower_if_full
loop-index-preserved-then-lower_if_full c =
    let old = c.loop-index.by_height.items in
    let one : BoundedShelf = bounded_full (bounded_at old c.in-Some.index) in
    let first : IsFirstAsWide c.loop-index.from c.args.width old (Some c.in-Some.index) = c.in-Some.ensures.first in
    let new : c.lower_if_full.new.by_height.items ≡ set old c.in-Some.index one = rw c.first_near_as_wide.ensures.items at (c.lower_if_full.ensures.full c.if-lower_if_full.true) in
    let numbers : numbers_by_height (set old c.in-Some.index one) ≡ numbers_by_height old = numbers-set old c.in-Some.index one refl in
    let searchable : AreSearchable c.args.records.now (set old c.in-Some.index one) = subst (AreSearchable c.args.records.now) new c.lower_if_full.ensures.by_height in
    rw new
    (record {
      same = numbers ∙ c.loop-index.invariant.same;
      searchable = searchable;
      lowered = λ k. omega (arith, full-lowered old c.in-Some.index first.1 k, c.loop-index.invariant.lowered k);
      after = omega (arith, c.loop-index.invariant.after, first.0);
      within = omega (arith, first.1, same-size old (set old c.in-Some.index one) numbers);
      earliest = passed-full c.args.records.now.shelves old c.args.start c.loop-index.from c.in-Some.index c.args.width c.loop-index.first c.requires.wide c.loop-index.invariant.after c.loop-index.invariant.earliest first;
      capacity = omega (arith, c.loop-index.invariant.capacity, c.first_near_as_wide.ensures.capacity, c.lower_if_full.ensures.capacity);
    })

pub behind_height-from-requires-clause-in_chain : goal.behind_height-from-requires-clause-in_chain
behind_height-from-requires-clause-in_chain c =
    rw c.shelves-else-lower_if_full.ensures
    (Each-weaken (IsSearchable c.args.records.now) (λ (one : BoundedShelf). chain_order c.args.records.now.shelves one.shelf < 65536 * 65536) c.lower_if_full.new.by_height.items (λ one is. is.in_chain) c.lower_if_full.ensures.by_height)

pub loop-index-preserved : goal.loop-index-preserved
loop-index-preserved c =
    let old = c.loop-index.by_height.items in
    let shelves = c.args.records.now.shelves in
    let first : IsFirstAsWide c.loop-index.from c.args.width old (Some c.in-Some.index) = c.in-Some.ensures.first in
    let stays : c.lower_if_full.new.by_height.items ≡ old = c.lower_if_full.ensures.same c.if-lower_if_full.false ∙ c.first_near_as_wide.ensures.items in
    let next : IsBehind shelves old c.in-Some.index c.behind_height-from.result = rw (c.shelves-else-lower_if_full.ensures, stays) at c.behind_height-from.ensures.behind in
    let earlier : c.earlier.result ≡ earlier_position shelves old c.loop-index.first c.in-Some.index = rw (c.shelves.ensures, stays) at c.earlier.ensures in
    rw (c.behind_height-from.ensures.same, stays, earlier)
    (record {
      same = c.loop-index.invariant.same;
      searchable = c.loop-index.invariant.searchable;
      lowered = c.loop-index.invariant.lowered;
      after = omega (arith, c.loop-index.invariant.after, first.0, next.after);
      within = next.within;
      earliest = next-earliest shelves old c.args.start c.loop-index.from c.in-Some.index c.behind_height-from.result c.args.width c.loop-index.first c.loop-index.invariant.after c.loop-index.invariant.earliest first next;
      capacity = omega (arith, c.loop-index.invariant.capacity, c.first_near_as_wide.ensures.capacity, c.lower_if_full.ensures.capacity);
    })

pub returns-clause-value : goal.returns-clause-value
returns-clause-value c =
    rw c.first_near_as_wide.ensures.items
    (ended-earliest c.args.records.now.shelves c.loop-index.by_height.items c.args.start c.loop-index.from c.args.width c.loop-index.first c.loop-index.invariant.within c.loop-index.invariant.earliest (rw c.in_default.is at c.first_near_as_wide.ensures.first))
