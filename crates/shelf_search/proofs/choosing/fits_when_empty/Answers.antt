use Rattle.std.proofs.Common.{◌≡◌, ℕ, ◌+◌, ◌≤◌, Bool, true, false, nat_lt, refl, sym, ◌∙◌, ap, arith}
use Rattle.std.specs.Prelude.{nat_le, if◌then◌else◌}
use Rattle.std.proofs.lemmas.Bool.{le-leb}
use mir.Val.{bool_byte}
use Rattle.etagere_base.specs.Frames.{across_side}
use Rattle.etagere_base.proofs.FrameSides.{columns-le}
use Rattle.shelf_model.specs.Choice as choice
use Rattle.shelf_model.proofs.Chosen.FreshPlace.{fits-fresh, fresh_splits}
use Rattle.shelf_search.proofs.choosing.fits_when_empty.Goals as goal

-- a split counts one
one_at_most : (b : Bool) → (if b then 1 else 0) ≤ 1
one_at_most true = omega arith
one_at_most false = omega arith

pub overflow_add-result-2 : goal.overflow_add-result-2
overflow_add-result-2 c = grind (arith, columns-le c.args.frame.now c.requires, one_at_most)

-- where two splits may come, so may those of the place
pub returns-then-frame-le-MOST_ITEMS : goal.returns-then-frame-le-MOST_ITEMS
returns-then-frame-le-MOST_ITEMS c =
    let frame = c.args.frame.now in
    let sides = c.in-Some.sides in
    let room : frame.columns + 2 ≤ 65535 = c.if-frame-le-MOST_ITEMS.true in
    let splits_shelf = one_at_most (nat_lt (choice.shelf_height frame sides.across + 8) (across_side frame)) in
    let splits_item = one_at_most (nat_lt (sides.along + 8) frame.column_width) in
    let few : frame.columns + fresh_splits frame sides ≤ 65535 = omega (arith, room, splits_shelf, splits_item) in
    sym (fits-fresh frame c.args.size sides c.requires (sym c.asked.ensures ∙ c.in-Some.is) ∙ le-leb _ _ few)

-- a test as a number counts one where it holds
counts : (b : Bool) → ◌≡◌ {A = ℕ} (bool_byte b) (if b then 1 else 0)
counts true = refl
counts false = refl

-- a test of equal numbers counts the same
same_count : (a b other_a other_b : ℕ) → a ≡ other_a → b ≡ other_b
    → ◌≡◌ {A = ℕ} (if nat_lt a b then 1 else 0) (if nat_lt other_a other_b then 1 else 0)
same_count a b other_a other_b first second = rw (first, second) refl

pub returns : goal.returns
returns c =
    let frame = c.args.frame.now in
    let sides = c.in-Some.sides in
    let shelf : c.from.result ≡ (if nat_lt (choice.shelf_height frame sides.across + 8) (across_side frame) then 1 else 0) =
    c.from.ensures ∙ counts (nat_lt (c.shelf_height.result + 8) c.across_side.result) ∙ same_count (c.shelf_height.result + 8) c.across_side.result _ _ (ap (λ n. n + 8) c.shelf_height.ensures.value) c.across_side.ensures in
    let item : c.from-2.result ≡ (if nat_lt (sides.along + 8) frame.column_width then 1 else 0) =
    c.from-2.ensures ∙ counts (nat_lt (sides.along + 8) frame.column_width) in
    let same : frame.columns + c.from.result + c.from-2.result ≡ frame.columns + fresh_splits frame sides = omega (arith, shelf, item) in
    ap (λ n. nat_le n 65535) same ∙ sym (fits-fresh frame c.args.size sides c.requires (sym c.asked.ensures ∙ c.in-Some.is))
