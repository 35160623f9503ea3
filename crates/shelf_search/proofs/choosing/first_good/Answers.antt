use Rattle.std.proofs.Common.{Some, ap, arith, drop, length, refl, sym, true, ◌≡◌, ◌+◌, ◌∙◌}
use Rattle.std.proofs.lemmas.List.{length-map}
use Rattle.std.specs.Option.{option_map_or}
use Rattle.shelf_heights.specs.Private.ByHeight.{bounded_at, numbers_by_height}
use Rattle.shelf_search.specs.Private.Searching.{AreTooTall, first_offer, good_offer}
use Rattle.shelf_heights.specs.declared.by_height.BoundedShelf.{BoundedShelf}
use Rattle.shelf_search.proofs.ByHeight.PassedShelves.{good-passed, good-where, passed-ended, passed-vain, started, to-next, too-tall-from}
use Rattle.shelf_search.proofs.ByHeight.Searches.{behind, good-reached, in-order, reached, same-size}
use Rattle.shelf_search.proofs.choosing.first_good.Goals as goal

pub loop-index-init : goal.loop-index-init
loop-index-init c =
    record {
      search = record { same = refl; searchable = c.requires.by_height; within = c.requires.start; tall = c.requires.tall };
      passed = started c.args.records.now c.args.width c.args.height c.args.start (numbers_by_height c.args.by_height.now.items);
      answer = refl;
      capacity = omega arith;
    }

pub is_good-requires-clause-within : goal.is_good-requires-clause-within
is_good-requires-clause-within c =
    let here = reached c.args.records.now c.args.width c.args.height c.loop-index.from c.in-Some.index (numbers_by_height c.args.by_height.now.items) c.loop-index.by_height.items c.loop-index.invariant.search c.in-Some.ensures.first in
    omega (arith, here.searchable.within, rw c.first_as_wide.ensures.items at c.shelf.ensures)

pub returns-then-not-is_good-clause-value : goal.returns-then-not-is_good-clause-value
returns-then-not-is_good-clause-value c =
    let by_height = c.loop-index.by_height.items in
    let numbers = numbers_by_height c.args.by_height.now.items in
    let search = c.loop-index.invariant.search in
    let first = c.in-Some.ensures.first in
    let here = reached c.args.records.now c.args.width c.args.height c.loop-index.from c.in-Some.index numbers by_height search first in
    let at : c.shelf.result ≡ (bounded_at by_height c.in-Some.index).shelf = rw c.first_as_wide.ensures.items at c.shelf.ensures in
    let size : length numbers ≡ length by_height = ap length (sym search.same) ∙ length-map by_height (λ (x : BoundedShelf). x.shelf) in
    let passed = to-next c.args.records.now c.args.width c.args.height c.args.start c.loop-index.from c.in-Some.index numbers by_height search first c.loop-index.invariant.passed in
    let tall : AreTooTall c.args.records.now.shelves c.args.height (drop c.in-Some.index (numbers_by_height by_height)) =
    too-tall-from c.args.records.now c.args.height c.in-Some.index by_height (in-order c.args.records.now.shelves c.args.by_height.now.items by_height search.same c.requires.order) search.searchable first.1 here.searchable.low
    (sym (rw at at c.is_good.ensures) ∙ c.if-not-is_good.true) in
    (omega (arith, c.loop-index.invariant.passed.after, first.0), omega (arith, first.1, size), passed, rw search.same at tall)

pub fit_at-requires-clause-by_height : goal.fit_at-requires-clause-by_height
fit_at-requires-clause-by_height c = rw c.first_as_wide.ensures.items c.loop-index.invariant.search.searchable

pub fit_at-requires-clause-tall : goal.fit_at-requires-clause-tall
fit_at-requires-clause-tall c =
    rw c.first_as_wide.ensures.items (reached c.args.records.now c.args.width c.args.height c.loop-index.from c.in-Some.index (numbers_by_height c.args.by_height.now.items) c.loop-index.by_height.items c.loop-index.invariant.search c.in-Some.ensures.first).tall

pub returns-in-Some-fit_at-clause-value : goal.returns-in-Some-fit_at-clause-value
returns-in-Some-fit_at-clause-value c =
    let here = reached c.args.records.now c.args.width c.args.height c.loop-index.from c.in-Some.index (numbers_by_height c.args.by_height.now.items) c.loop-index.by_height.items c.loop-index.invariant.search c.in-Some.ensures.first in
    sym c.loop-index.invariant.answer
    ∙ good-reached c.args.records.now c.args.width c.args.height c.loop-index.from c.in-Some.index (numbers_by_height c.args.by_height.now.items) (bounded_at c.loop-index.by_height.items c.in-Some.index) here
    ∙ ap (λ o. option_map_or Some o (first_offer (good_offer c.args.records.now c.args.width c.args.height) (drop (c.in-Some.index + 1) (numbers_by_height c.args.by_height.now.items))))
    (good-where c.args.records.now c.args.width c.args.height (bounded_at c.loop-index.by_height.items c.in-Some.index).shelf c.shelf.result c.is_good.result true (rw c.first_as_wide.ensures.items at c.shelf.ensures) c.is_good.ensures c.if-not-is_good.false ∙ sym (rw c.first_as_wide.ensures.items at c.in-Some-fit_at.ensures.value))

pub returns-in-Some-fit_at-clause-numbers : goal.returns-in-Some-fit_at-clause-numbers
returns-in-Some-fit_at-clause-numbers c = c.fit_at.ensures.numbers ∙ ap numbers_by_height c.first_as_wide.ensures.items ∙ c.loop-index.invariant.search.same

pub overflow_add-from : goal.overflow_add-from
overflow_add-from c = omega (arith, c.requires.few, same-size c.args.by_height.now.items c.loop-index.by_height.items c.loop-index.invariant.search.same, c.in-Some.ensures.first.1)

pub loop-index-preserved : goal.loop-index-preserved
loop-index-preserved c =
    let none = sym (rw c.first_as_wide.ensures.items at c.fit_at.ensures.value) ∙ c.in_default-fit_at.is in
    record {
      search = behind c.args.records.now c.args.width c.args.height c.loop-index.from c.in-Some.index (numbers_by_height c.args.by_height.now.items) c.loop-index.by_height.items c.fit_at.new.by_height.items c.loop-index.invariant.search c.in-Some.ensures.first (c.fit_at.ensures.numbers ∙ ap numbers_by_height c.first_as_wide.ensures.items) c.fit_at.ensures.by_height;
      passed = passed-vain c.args.records.now c.args.width c.args.height c.args.start c.loop-index.from c.in-Some.index (numbers_by_height c.args.by_height.now.items) c.loop-index.by_height.items c.loop-index.invariant.search c.in-Some.ensures.first c.loop-index.invariant.passed none;
      answer =
          good-passed c.args.records.now c.args.width c.args.height c.loop-index.from c.in-Some.index (numbers_by_height c.args.by_height.now.items) c.loop-index.by_height.items c.loop-index.invariant.search c.in-Some.ensures.first
          (good-where c.args.records.now c.args.width c.args.height (bounded_at c.loop-index.by_height.items c.in-Some.index).shelf c.shelf.result c.is_good.result true (rw c.first_as_wide.ensures.items at c.shelf.ensures) c.is_good.ensures c.if-not-is_good.false ∙ none)
          ∙ c.loop-index.invariant.answer;
      capacity = omega (arith, c.loop-index.invariant.capacity, c.first_as_wide.ensures.capacity, c.fit_at.ensures.capacity);
    }

pub returns-clause-value : goal.returns-clause-value
returns-clause-value c =
    rw (c.len.ensures, c.first_as_wide.ensures.items)
    (passed-ended c.args.records.now c.args.width c.args.height c.args.start c.loop-index.from (numbers_by_height c.args.by_height.now.items) c.loop-index.by_height.items c.loop-index.invariant.search (rw c.in_default.is at c.first_as_wide.ensures.first) c.loop-index.invariant.passed)
