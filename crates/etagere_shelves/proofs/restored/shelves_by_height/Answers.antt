use Rattle.std.proofs.Common.{◌≡◌, ℕ, ◌∷◌, ◌++◌, ◌∙◌, [], List, ap, add-one, arith, drop, length, map, subst}
use Rattle.std.proofs.lemmas.List.{drop_all}
use Rattle.std.specs.List.Sorted.{IsNonDecreasingBy, IsPermutation}
use Rattle.shelf_records.specs.declared.records.LinkedShelf.{LinkedShelf}
use Rattle.shelf_heights.specs.Private.ByHeight.{newly_bounded, order_of, numbers_by_height}
use Rattle.shelf_heights.specs.declared.by_height.BoundedShelf.{BoundedShelf}
use Rattle.shelf_store.proofs.ByHeight.CollectedShelves.{in_use}
use Rattle.shelf_store.proofs.ByHeight.MetShelves.{met-done, met-few, met-fewer, met-more, met-within, met_by_height}
use Rattle.shelf_store.proofs.ByHeight.NewByHeight.{sorted-by_height}
use Rattle.shelf_records.proofs.Spelled.StandsKept.{witnesses}
use Rattle.etagere_shelves.proofs.restored.shelves_by_height.Goals as goal

pub loop-number-init : goal.loop-number-init
loop-number-init c = record {
  whole = ap (λ (l : List BoundedShelf). l ++ met_by_height c.args.frame.now c.args.numbers.now) c.in_ok-by_height.ensures.empty;
  room = omega (arith, c.in_ok-by_height.ensures.room, ap length c.shelves.ensures);
}

pub newly_bounded-requires-clause-shelf : goal.newly_bounded-requires-clause-shelf
newly_bounded-requires-clause-shelf c =
    omega (
      arith,
      met-within c.args.frame.now c.args.records.now c.args.numbers.now c.loop-number.number-index c.requires.kept c.requires.met c.loop-number-test.true,
      c.from.ensures,
      (witnesses c.requires.kept).counts.shelves.1,
    )

pub push-requires : goal.push-requires
push-requires c = record {
  room = omega (arith, met-few c.args.frame.now c.args.records.now c.args.numbers.now c.requires.kept c.requires.met, met-fewer c.args.frame.now c.args.numbers.now c.loop-number.number-index c.loop-number.by_height.items c.loop-number-test.true c.loop-number.invariant.whole, c.loop-number.invariant.room);
}

pub loop-number-preserved : goal.loop-number-preserved
loop-number-preserved c =
    let frame = c.args.frame.now in
    record {
      whole = rw add-one
          (met-more frame c.args.numbers.now c.loop-number.number-index c.loop-number.by_height.items c.push.new.self.items c.loop-number-test.true
          (c.push.ensures.items ∙ ap (λ one. c.loop-number.by_height.items ++ one ∷ []) (c.newly_bounded.ensures ∙ ap (newly_bounded frame) c.from.ensures))
          c.loop-number.invariant.whole);
      room = omega (arith, c.loop-number.invariant.room, c.push.ensures.capacity);
    }

pub returns-clause-by_height : goal.returns-clause-by_height
returns-clause-by_height c =
    let frame = c.args.frame.now in
    let numbers = c.args.numbers.now in
    let sorted = c.sort_by_keys.new.self.items in
    let none : drop c.loop-number.number-index numbers ≡ [] = drop_all c.loop-number.number-index numbers c.loop-number-test.false in
    let all : c.loop-number.by_height.items ≡ in_use frame c.args.records.now =
    met-done frame numbers c.loop-number.by_height.items (subst (λ (ns : List ℕ). c.loop-number.by_height.items ++ met_by_height frame ns ≡ met_by_height frame numbers) none c.loop-number.invariant.whole)
    ∙ ap (map (newly_bounded frame)) c.requires.met in
    sorted-by_height frame c.args.records.now sorted c.requires.kept
    (subst (λ (by_height : List BoundedShelf). IsPermutation (numbers_by_height by_height) (numbers_by_height sorted)) all c.in_ok-sort_by_keys.ensures.numbers)
    (subst (λ (shelves : List LinkedShelf). IsNonDecreasingBy (order_of shelves) (numbers_by_height sorted)) c.shelves-2.ensures c.in_ok-sort_by_keys.ensures.sorted)
    (c.in_ok-sort_by_keys.ensures.bounds ∙ ap (map (λ (one : BoundedShelf). one.widest)) all)

pub newly_bounded-requires-clause-frame : goal.newly_bounded-requires-clause-frame
newly_bounded-requires-clause-frame c = (witnesses c.requires.kept).valid.frame
