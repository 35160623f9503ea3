use Rattle.std.proofs.Common.{◌≡◌, ℕ, Option, Some, ap, arith, subst, sym, ◌∙◌}
use Rattle.std.specs.Option.{option_map_or}
use Rattle.shelf_heights.proofs.ByHeight.FreeBounds.{free-bound}
use Rattle.shelf_store.proofs.ByHeight.NewByHeight.{wide-bound}
use Rattle.shelf_records.proofs.Spelled.StandsKept.{witnesses}
use Rattle.shelf_heights.specs.declared.by_height.BoundedShelf.{BoundedShelf}
use Rattle.shelf_records.specs.Private.Kept.{bare}
use Rattle.shelf_records.specs.RecordLists.{free_walk, walked_lists}
use Rattle.shelf_store.specs.Private.Settling.{IsBoundIn, width_of_only}
use Rattle.shelf_store.proofs.ByHeight.OnlyFree.{only-bound}
use Rattle.shelf_store.proofs.settling.moving.bounded_by_items.Goals as goal

pub width_of_only-requires-clause-linked : goal.width_of_only-requires-clause-linked
width_of_only-requires-clause-linked c = (witnesses c.requires.kept).linked

pub bounded-requires : goal.bounded-requires
bounded-requires c = omega (arith, c.requires.within, c.requires.few)

pub newly_bounded-requires-clause-frame : goal.newly_bounded-requires-clause-frame
newly_bounded-requires-clause-frame c = (witnesses c.requires.kept).valid.frame

pub newly_bounded-requires-clause-shelf : goal.newly_bounded-requires-clause-shelf
newly_bounded-requires-clause-shelf c = omega (arith, c.requires.within, c.requires.few)

pub returns-in-Some-clause-bounded : goal.returns-in-Some-clause-bounded
returns-in-Some-clause-bounded c =
    let records = c.args.records.now in
    let is : width_of_only records.items (free_walk records c.args.shelf).met ≡ Some c.in-Some.widest = sym c.width_of_only.ensures ∙ c.in-Some.is in
    subst (IsBoundIn (bare c.args.frame.now records) (walked_lists records).entries) (sym c.bounded.ensures)
    (free-bound c.args.frame.now records c.requires.kept c.args.shelf c.in-Some.widest c.requires.stands (only-bound records.items (free_walk records c.args.shelf).met c.in-Some.widest is))

pub returns-in-Some-clause-value : goal.returns-in-Some-clause-value
returns-in-Some-clause-value c =
    c.bounded.ensures
    ∙ ap (λ (width : Option ℕ). record { widest = option_map_or (λ (w : ℕ). w) width c.args.frame.now.column_width; shelf = c.args.shelf }) (sym c.in-Some.is ∙ c.width_of_only.ensures)

pub returns-in-None-clause-value : goal.returns-in-None-clause-value
returns-in-None-clause-value c =
    c.newly_bounded.ensures
    ∙ ap (λ (width : Option ℕ). record { widest = option_map_or (λ (w : ℕ). w) width c.args.frame.now.column_width; shelf = c.args.shelf }) (sym c.in-None.is ∙ c.width_of_only.ensures)

pub returns-in-None-clause-bounded : goal.returns-in-None-clause-bounded
returns-in-None-clause-bounded c =
    wide-bound c.args.frame.now c.args.records.now c.newly_bounded.result c.requires.kept (omega (arith, ap (λ (one : BoundedShelf). one.widest) c.newly_bounded.ensures))
