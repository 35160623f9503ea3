use Rattle.std.proofs.Common.{◌≡◌, ◌≤◌, ◌<◌, List, Some, ap, arith, drop, length, map, subst, sym, take, ◌∙◌, ℕ}
use Rattle.std.proofs.lemmas.List.{length-map}
use Rattle.std.specs.List.{AllByRecursion}
use Rattle.std.specs.Option.{option_map_or}
use Rattle.shelf_records.specs.declared.records.LinkedShelf.{LinkedShelf}
use Rattle.shelf_heights.specs.Private.ByHeight.{IsStart, order_at, order_of, numbers_by_height}
use Rattle.shelf_heights.specs.Private.ListFields.{ListByHeight}
use Rattle.shelf_search.specs.Private.Searching.{AreTooTall, earliest, first_by_height, offered}
use Rattle.shelf_heights.specs.declared.by_height.BoundedShelf.{BoundedShelf}
use Rattle.shelf_search.proofs.ByHeight.PassedShelves.{rest-same}
use Rattle.shelf_search.proofs.ByHeight.Searches.{found-from, in-order, same-size, tall-from}
use Rattle.shelf_search.proofs.choosing.best_candidate.Goals as goal
use Rattle.shelf_search.proofs.choosing.best_candidate.Goals.{In-Rest}

-- those that are tall enough begin there, however many shelves were looked at for it
begins : (shelves : List LinkedShelf) (by_height : List BoundedShelf) (order index : ℕ) → index ≤ length by_height
    → AllByRecursion (λ (one : BoundedShelf). order_of shelves one.shelf < order) (take index by_height)
    → AllByRecursion (λ (one : BoundedShelf). order ≤ order_of shelves one.shelf) (drop index by_height)
    → IsStart shelves by_height order index 0
begins shelves by_height order index within before after = record { within = within; before = before; after = after; few = λ digits enough. omega arith }

pub first_good-requires-clause-tall : goal.first_good-requires-clause-tall
first_good-requires-clause-tall c =
    let start : IsStart c.args.records.now.shelves c.args.by_height.now.items (order_at c.args.height 0) c.first_as_tall-start.result 0 =
    begins c.args.records.now.shelves c.args.by_height.now.items (order_at c.args.height 0) c.first_as_tall-start.result
    c.first_as_tall-start.ensures.within (rw c.shelves.ensures at c.first_as_tall-start.ensures.before) (rw c.shelves.ensures at c.first_as_tall-start.ensures.after) in
    rw c.first_as_tall-start.ensures.same
    (tall-from c.args.records.now c.args.height c.first_as_tall-start.result 0 c.args.by_height.now.items c.requires.by_height start)

pub first_of_rest-requires-clause-order : goal.first_of_rest-requires-clause-order
first_of_rest-requires-clause-order c =
    in-order c.args.records.now.shelves c.args.by_height.now.items c.first_good.new.by_height.items
    (c.first_good.ensures.numbers ∙ ap (λ (value : ListByHeight). numbers_by_height value.items) c.first_as_tall-start.ensures.same) c.requires.order

pub first_of_rest-requires-clause-rest : goal.first_of_rest-requires-clause-rest
first_of_rest-requires-clause-rest c =
    let before : List BoundedShelf = c.first_as_tall-start.new.by_height.items in
    omega (arith, c.in-Rest.ensures.value.1, length-map before (λ (x : BoundedShelf). x.shelf), same-size before c.first_good.new.by_height.items c.first_good.ensures.numbers)

pub first_of_rest-requires-clause-few : goal.first_of_rest-requires-clause-few
first_of_rest-requires-clause-few c =
    omega (
      arith,
      c.first_as_tall-start.ensures.few,
      same-size c.args.by_height.now.items c.first_good.new.by_height.items
          (c.first_good.ensures.numbers ∙ ap (λ (value : ListByHeight). numbers_by_height value.items) c.first_as_tall-start.ensures.same),
    )

pub first_of_rest-requires-clause-tall : goal.first_of_rest-requires-clause-tall
first_of_rest-requires-clause-tall c =
    subst (λ (ns : List ℕ). AreTooTall c.args.records.now.shelves c.args.height (drop c.in-Rest.rest ns)) (sym c.first_good.ensures.numbers) c.in-Rest.ensures.value.3

pub returns-in-Found-clause-value : goal.returns-in-Found-clause-value
returns-in-Found-clause-value c =
    let start : IsStart c.args.records.now.shelves c.args.by_height.now.items (order_at c.args.height 0) c.first_as_tall-start.result 0 =
    begins c.args.records.now.shelves c.args.by_height.now.items (order_at c.args.height 0) c.first_as_tall-start.result
    c.first_as_tall-start.ensures.within (rw c.shelves.ensures at c.first_as_tall-start.ensures.before) (rw c.shelves.ensures at c.first_as_tall-start.ensures.after) in
    sym (ap (λ o. option_map_or Some o (earliest c.args.records.now.shelves (map (offered c.args.records.now c.args.width c.args.height) (drop c.first_as_tall-start.result (numbers_by_height c.args.by_height.now.items)))))
    (rw c.first_as_tall-start.ensures.same at c.in-Found.ensures.value))
    ∙ found-from c.args.records.now c.args.width c.args.height c.first_as_tall-start.result 0 c.args.by_height.now.items start

-- behind the shelves that were passed the same is found as among all
found-in-rest : (c : In-Rest)
    → first_by_height c.args.records.now c.args.width c.args.height (drop c.in-Rest.rest (numbers_by_height c.first_good.new.by_height.items))
    ≡ first_by_height c.args.records.now c.args.width c.args.height (numbers_by_height c.args.by_height.now.items)
found-in-rest c =
    let start : IsStart c.args.records.now.shelves c.args.by_height.now.items (order_at c.args.height 0) c.first_as_tall-start.result 0 =
    begins c.args.records.now.shelves c.args.by_height.now.items (order_at c.args.height 0) c.first_as_tall-start.result
    c.first_as_tall-start.ensures.within (rw c.shelves.ensures at c.first_as_tall-start.ensures.before) (rw c.shelves.ensures at c.first_as_tall-start.ensures.after) in
    ap (λ (ns : List ℕ). first_by_height c.args.records.now c.args.width c.args.height (drop c.in-Rest.rest ns))
    (c.first_good.ensures.numbers ∙ ap (λ (value : ListByHeight). numbers_by_height value.items) c.first_as_tall-start.ensures.same)
    ∙ rest-same c.args.records.now c.args.width c.args.height c.first_as_tall-start.result c.in-Rest.rest (numbers_by_height c.args.by_height.now.items)
    (rw c.first_as_tall-start.ensures.same at c.in-Rest.ensures.value)
    ∙ found-from c.args.records.now c.args.width c.args.height c.first_as_tall-start.result 0 c.args.by_height.now.items start

pub first_of_rest-requires-clause-best : goal.first_of_rest-requires-clause-best
first_of_rest-requires-clause-best c = c.requires.best ∙ sym (found-in-rest (goal.at.first_of_rest-requires-clause-best c).In-Rest)

pub returns-in-Rest-clause-value : goal.returns-in-Rest-clause-value
returns-in-Rest-clause-value c = c.first_of_rest.ensures.value ∙ found-in-rest (goal.at.returns-in-Rest-clause-value c).In-Rest
