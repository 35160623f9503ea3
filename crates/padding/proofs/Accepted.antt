-- A size that padding doesn't refuse: neither side is empty, and with their pixels both are short enough.
use Rattle.std.proofs.Common.{◌≡◌, ◌⊎◌, zero, suc, ◌==◌, Bool, true, false, cond, ℤ, pos, negsuc, ◌≤ℤ◌, inl, inr, None, Some, nat_lt, refl, arith}
use Rattle.std.proofs.lemmas.Bool.Decides.{nat_tests}
use Rattle.std.proofs.lemmas.Int.{ints}
use Rattle.std.specs.Prelude.{◌↔◌, ◌||◌, IsTrue}
use Rattle.etagere_base.specs.declared.geometry.Size.{Size}
use Rattle.etagere_base.specs.Frames.{longest_side}
use Rattle.etagere_base.specs.Sides.{side}
use Rattle.shelf_model.specs.declared.faults.Refusal.TheVariants.{NotPositive, TooLong}
use Rattle.padding.specs.declared.sides.Padding.{Padding}
use Rattle.padding.specs.Padding.{padded, padded_side, padding_refusal}
use Rattle.padding.specs.Private.Sides.{short_side}

positive : (length : ℤ) → (length ≤ℤ pos 0 → ⊥) → (side length == 0) ≡ false
positive (pos zero) some = absurd (some (omega (arith, ints)))
positive (pos (suc n)) some = grind (arith, nat_tests)
positive (negsuc n) some = absurd (some (omega (arith, ints)))

short : (length result : ℤ) → short_side length ≡ Some result
    → (nat_lt longest_side (side length) ≡ false) × (result ≡ length)
short length result is = by_test (nat_lt longest_side (side length)) refl is
  where
    by_test : (b : Bool) → nat_lt longest_side (side length) ≡ b → cond b None (Some length) ≡ Some result
        → (nat_lt longest_side (side length) ≡ false) × (result ≡ length)
    by_test true long is = absurd (cc)
    by_test false fits is = (fits, cc)

pub accepted : (padding : Padding) (size : Size) (empty : Bool) (width height : ℤ)
    → (IsTrue empty ↔ ((size.width ≤ℤ pos 0) ⊎ (size.height ≤ℤ pos 0))) → empty ≡ false
    → short_side (padded_side padding.left padding.right size.width) ≡ Some width
    → short_side (padded_side padding.top padding.bottom size.height) ≡ Some height
    → (padding_refusal padding size ≡ None) × (record { width = width; height = height } ≡ padded padding size)
accepted padding size empty width height tests some wide tall = (
  none (side size.width == 0) (side size.height == 0)
      (nat_lt longest_side (side (padded_side padding.left padding.right size.width)))
      (nat_lt longest_side (side (padded_side padding.top padding.bottom size.height)))
      (positive size.width (λ low. not_both (tests.1 (inl low))))
      (positive size.height (λ low. not_both (tests.1 (inr low))))
      (short (padded_side padding.left padding.right size.width) width wide).0
      (short (padded_side padding.top padding.bottom size.height) height tall).0,
  same (short (padded_side padding.left padding.right size.width) width wide).1
      (short (padded_side padding.top padding.bottom size.height) height tall).1,
)
  where
    not_both : empty ≡ true → ⊥
    not_both is = absurd (cc)

    none : (a b c d : Bool) → a ≡ false → b ≡ false → c ≡ false → d ≡ false
        → cond (a || b) (Some NotPositive) (cond (c || d) (Some TooLong) None) ≡ None
    none false false false false p q r s = refl
    none true b c d p q r s = absurd (cc)
    none false true c d p q r s = absurd (cc)
    none false false true d p q r s = absurd (cc)
    none false false false true p q r s = absurd (cc)

    same : width ≡ padded_side padding.left padding.right size.width → height ≡ padded_side padding.top padding.bottom size.height
        → record { width = width; height = height } ≡ padded padding size
    same wide tall = cc
