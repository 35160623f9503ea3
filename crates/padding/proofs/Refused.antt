-- What padding refuses, no atlas has a place for.
use Rattle.std.proofs.Common.{◌≡◌, ℕ, ◌+◌, ◌==◌, Bool, true, false, cond, ℤ, pos, negsuc, ◌+ℤ◌, None, Some, nat_le, nat_lt, refl, ap, ◌∙◌, arith}
use Rattle.std.proofs.lemmas.Bool.Decides.{nat_tests}
use Rattle.std.specs.Prelude.{◌&&◌, ◌||◌, option_and_then}
use Rattle.etagere_base.specs.declared.geometry.Size.{Size}
use Rattle.etagere_base.specs.declared.sides.Sides.{Sides}
use Rattle.etagere_base.specs.Frames.{are_sides, fitting, is_not_positive, is_too_long, longest_side, rounded}
use Rattle.etagere_base.specs.Sides.{side}
use Rattle.shelf_model.specs.declared.faults.Refusal.{Refusal}
use Rattle.shelf_model.specs.declared.faults.Refusal.TheVariants.{NotPositive, TooLong}
use Rattle.shelf_model.specs.Choice.{IsRefused, Placement, chosen, most_items, splits}
use Rattle.shelf_model.specs.Refusal.{refusal}
use Rattle.shelf_model.specs.State.{AtlasState, items_in_use}
use Rattle.padding.specs.declared.sides.Padding.{Padding}
use Rattle.padding.specs.Padding.{padded, padded_side, padding_refusal}

-- a length with its padding is positive exactly where it is without
padded-empty : (before after : ℕ) (length : ℤ) → (side (padded_side before after length) == 0) ≡ (side length == 0)
padded-empty before after length = by_test (side length == 0) refl
  where
    by_length : (l : ℤ) → (side l == 0) ≡ false → (side (l +ℤ pos (before + after)) == 0) ≡ false
    by_length (pos n) some = grind (arith, nat_tests)
    by_length (negsuc n) some = absurd (cc)

    by_test : (b : Bool) → (side length == 0) ≡ b → (side (cond b length (length +ℤ pos (before + after))) == 0) ≡ b
    by_test true is = is
    by_test false is = by_length length is

pub padded-not_positive : (padding : Padding) (size : Size) → is_not_positive (padded padding size) ≡ is_not_positive size
padded-not_positive padding size =
    ap (λ (b : Bool). b || side (padded padding size).height == 0) (padded-empty padding.left padding.right size.width)
    ∙ ap (λ (b : Bool). side size.width == 0 || b) (padded-empty padding.top padding.bottom size.height)

-- a size with a reason is no size of an atlas
no-sides : (size : Size) → (is_not_positive size || is_too_long size) ≡ true → are_sides longest_side size ≡ false
no-sides size reason = by_sides (side size.width) (side size.height) reason
  where
    by_sides : (w h : ℕ) → ((w == 0 || h == 0) || (nat_lt longest_side w || nat_lt longest_side h)) ≡ true
        → ((nat_lt 0 w && nat_le w longest_side) && (nat_lt 0 h && nat_le h longest_side)) ≡ false
    by_sides w h reason = grind (arith, nat_tests)

pub no-place : (state : AtlasState) (size : Size) → (is_not_positive size || is_too_long size) ≡ true → IsRefused state size
no-place state size reason =
    ap (λ (b : Bool). option_and_then
    (λ (sides : Sides). option_and_then
    (λ (placement : Placement). cond (nat_le (items_in_use state.shelves + splits placement) most_items) (Some placement) None)
    (chosen state sides))
    (cond b (fitting state.frame (rounded state.frame size)) None))
    (no-sides size reason)

-- padding's reason is the atlas's
pub refuses : (padding : Padding) (size : Size) (reason : Refusal) (state : AtlasState) → padding_refusal padding size ≡ Some reason
    → (refusal state (padded padding size) ≡ Some reason) × IsRefused state (padded padding size)
refuses padding size reason state is =
    by_tests (is_not_positive size) refl (is_too_long (padded padding size)) refl is
  where
    empty-is : (b : Bool) → is_not_positive size ≡ b → is_not_positive (padded padding size) ≡ b
    empty-is b is = padded-not_positive padding size ∙ is

    by_tests : (a : Bool) → is_not_positive size ≡ a → (b : Bool) → is_too_long (padded padding size) ≡ b
        → cond a (Some NotPositive) (cond b (Some TooLong) None) ≡ Some reason
        → (refusal state (padded padding size) ≡ Some reason) × IsRefused state (padded padding size)
    by_tests true empty b long is = (
      rw (empty-is true empty) is,
      no-place state (padded padding size) (rw (empty-is true empty) refl),
    )
    by_tests false empty true long is = (
      rw (empty-is false empty, long) is,
      no-place state (padded padding size) (rw (empty-is false empty, long) refl),
    )
    by_tests false empty false long is = absurd (cc)

-- where padding refuses nothing, both sides are positive
pub positive-sides : (padding : Padding) (size : Size) → padding_refusal padding size ≡ None
    → ((side size.width == 0) ≡ false) × ((side size.height == 0) ≡ false)
positive-sides padding size none = by_tests (side size.width == 0) (side size.height == 0) none
  where
    by_tests : (a b : Bool) → cond (a || b) (Some NotPositive) (cond (is_too_long (padded padding size)) (Some TooLong) None) ≡ None
        → (a ≡ false) × (b ≡ false)
    by_tests false false none = (refl, refl)
    by_tests true b none = absurd (cc)
    by_tests false true none = absurd (cc)
