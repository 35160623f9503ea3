use Rattle.std.proofs.Common.{◌≡◌, ℕ, ◌+◌, ◌≤◌, List, None, Option, Some, arith, drop, false, refl, subst, sym, ◌∙◌}
use Rattle.std.specs.Option.{is_some}
use Rattle.std.specs.Prelude.{◌/◌}
use Rattle.etagere_base.proofs.EachLemmas.{Each-weaken}
use Rattle.shelf_records.specs.AtlasRecords.{height_of}
use Rattle.shelf_heights.specs.Private.ByHeight.{numbers_by_height}
use Rattle.shelf_search.specs.Private.Opening.{AreTall}
use Rattle.shelf_search.proofs.ByHeight.GoodOffers.{bad-only}
use Rattle.shelf_search.proofs.choosing.first_of_rest.Goals as goal

pub walk_bad_fits-requires-clause-bad : goal.walk_bad_fits-requires-clause-bad
walk_bad_fits-requires-clause-bad c =
    bad-only c.args.records.now c.args.width c.args.height (drop c.args.rest (numbers_by_height c.args.by_height.now.items)) c.requires.best
    (sym c.first_empty-empty.ensures.value ∙ nothing c.first_empty-empty.result (sym c.is_some.ensures ∙ c.if-is_some.false))
  where
    nothing : {X : Type 0} (o : Option X) → is_some o ≡ false → o ≡ None
    nothing None e = refl
    nothing (Some x) e = absurd (cc)

pub first_placed-requires-clause-tall : goal.first_placed-requires-clause-tall
first_placed-requires-clause-tall c =
    let shelves = c.args.records.now.shelves in
    let height : ℕ = c.args.height in
    let numbers : List ℕ = numbers_by_height c.args.by_height.now.items in
    subst (λ (ns : List ℕ). AreTall shelves height (drop c.args.rest ns)) (sym c.first_empty-empty.ensures.numbers)
    (Each-weaken (λ (shelf : ℕ). height + height / 2 + 1 ≤ height_of shelves shelf) (λ (shelf : ℕ). height ≤ height_of shelves shelf) (drop c.args.rest numbers)
    (λ shelf is. omega (arith, is)) c.requires.tall)
