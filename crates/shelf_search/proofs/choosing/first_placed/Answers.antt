use Rattle.std.proofs.Common.{None, Option, Some, arith, false, length, refl, set, sym, ◌<◌, ◌≡◌, ◌∙◌, ◌≤◌}
use Rattle.std.specs.Option.{is_some}
use Rattle.shelf_records.specs.AtlasRecords.{height_of}
use Rattle.shelf_heights.specs.Private.ByHeight.{bounded_at, numbers_by_height}
use Rattle.shelf_search.specs.Private.Opening.{IsEarliest, IsEarliestWide, looked_into}
use Rattle.shelf_search.specs.Private.Searching.{offered}
use Rattle.shelf_heights.specs.declared.by_height.BoundedShelf.{BoundedShelf}
use Rattle.shelf_search.proofs.ByHeight.EarliestChosen.{count-fallen, count-lowered, looked-low, offer-earliest}
use Rattle.shelf_search.proofs.ByHeight.EarliestShelves.{from-each, number-from}
use Rattle.shelf_search.proofs.ByHeight.Searches.{SearchesFrom, in-order, placed-ended, same-size}
use Rattle.shelf_search.proofs.choosing.first_placed.Goals as goal
use Rattle.shelf_search.proofs.choosing.first_placed.Goals.{After-earliest_wide}

-- after the earliest is looked for, the search goes on over the same shelves
search : (c : After-earliest_wide) → SearchesFrom c.args.records.now c.args.height c.args.start (numbers_by_height c.args.by_height.now.items) c.earliest_wide.new.by_height.items
search c = record {
  same = c.earliest_wide.ensures.numbers ∙ c.loop-index.invariant.search.same;
  searchable = c.earliest_wide.ensures.by_height;
  within = omega (arith, c.loop-index.invariant.search.within, same-size c.loop-index.by_height.items c.earliest_wide.new.by_height.items c.earliest_wide.ensures.numbers);
  tall = c.loop-index.invariant.search.tall;
}

pub earliest_wide-requires-clause-order : goal.earliest_wide-requires-clause-order
earliest_wide-requires-clause-order c = in-order c.args.records.now.shelves c.args.by_height.now.items c.loop-index.by_height.items c.loop-index.invariant.search.same c.requires.order

pub earliest_wide-requires-clause-few : goal.earliest_wide-requires-clause-few
earliest_wide-requires-clause-few c = omega (arith, c.requires.few, same-size c.args.by_height.now.items c.loop-index.by_height.items c.loop-index.invariant.search.same)

pub fit_at-found-requires-clause-tall : goal.fit_at-found-requires-clause-tall
fit_at-found-requires-clause-tall c =
    number-from (λ shelf. c.args.height ≤ height_of c.args.records.now.shelves shelf) c.earliest_wide.new.by_height.items c.args.start c.in-Some.index c.in-Some.ensures.value.after c.in-Some.ensures.value.within
    (rw (c.earliest_wide.ensures.numbers ∙ c.loop-index.invariant.search.same) c.loop-index.invariant.search.tall)

pub returns-then-is_some-clause-value : goal.returns-then-is_some-clause-value
returns-then-is_some-clause-value c =
    offer-earliest c.args.records.now c.args.width c.args.height c.args.start c.in-Some.index (numbers_by_height c.args.by_height.now.items) c.earliest_wide.new.by_height.items c.fit_at-found.result (search (goal.at.returns-then-is_some-clause-value c).After-earliest_wide)
    c.in-Some.ensures.value c.fit_at-found.ensures.value (sym c.is_some.ensures ∙ c.if-is_some.true)

pub returns-then-is_some-clause-numbers : goal.returns-then-is_some-clause-numbers
returns-then-is_some-clause-numbers c = c.fit_at-found.ensures.numbers ∙ c.earliest_wide.ensures.numbers ∙ c.loop-index.invariant.search.same

pub loop-index-preserved : goal.loop-index-preserved
loop-index-preserved c =
    let same : numbers_by_height c.fit_at-found.new.by_height.items ≡ numbers_by_height c.loop-index.by_height.items = c.fit_at-found.ensures.numbers ∙ c.earliest_wide.ensures.numbers in
    record {
      search = record {
        same = same ∙ c.loop-index.invariant.search.same;
        searchable = c.fit_at-found.ensures.by_height;
        within = omega (arith, c.loop-index.invariant.search.within, same-size c.loop-index.by_height.items c.fit_at-found.new.by_height.items same);
        tall = c.loop-index.invariant.search.tall;
      };
      capacity = omega (arith, c.loop-index.invariant.capacity, c.earliest_wide.ensures.capacity, c.fit_at-found.ensures.capacity);
    }

pub loop-index-smaller : goal.loop-index-smaller
loop-index-smaller c =
    let old = c.loop-index.by_height.items in
    let new = c.earliest_wide.new.by_height.items in
    let one : BoundedShelf = bounded_at new c.in-Some.index in
    let is : IsEarliestWide c.args.records.now.shelves new c.args.start (length new) c.args.width c.in-Some.index = c.in-Some.ensures.value in
    let tall : c.args.height ≤ height_of c.args.records.now.shelves one.shelf =
    number-from (λ shelf. c.args.height ≤ height_of c.args.records.now.shelves shelf) new c.args.start c.in-Some.index is.after is.within (rw (c.earliest_wide.ensures.numbers ∙ c.loop-index.invariant.search.same) c.loop-index.invariant.search.tall) in
    let none : offered c.args.records.now c.args.width c.args.height one.shelf ≡ None = sym c.fit_at-found.ensures.value ∙ by_none c.fit_at-found.result (sym c.is_some.ensures ∙ c.if-is_some.false) in
    let looked : c.fit_at-found.new.by_height.items ≡ set new c.in-Some.index (looked_into c.args.records.now c.args.width one) = c.fit_at-found.ensures.items in
    rw looked
    (omega (
      arith,
      count-fallen c.args.width c.in-Some.index new (looked_into c.args.records.now c.args.width one) is.within is.wide (looked-low c.args.records.now c.args.width c.args.height one c.requires.wide tall none),
      count-lowered c.args.width old new (same-size old new c.earliest_wide.ensures.numbers) c.earliest_wide.ensures.lowered,
    ))
  where
    by_none : {X : Type 0} (o : Option X) → is_some o ≡ false → o ≡ None
    by_none None e = refl
    by_none (Some x) e = absurd (cc)

pub returns-clause-value : goal.returns-clause-value
returns-clause-value c =
    let new = c.earliest_wide.new.by_height.items in
    let low : IsEarliest c.args.records.now.shelves new c.args.start (length new) c.args.width None = rw c.in_default.is at c.earliest_wide.ensures.value in
    sym (placed-ended c.args.records.now c.args.width c.args.height c.args.start (numbers_by_height c.args.by_height.now.items) new (search (goal.at.returns-clause-value c).After-earliest_wide)
    (from-each (λ (one : BoundedShelf). one.widest < c.args.width) new c.args.start low))
