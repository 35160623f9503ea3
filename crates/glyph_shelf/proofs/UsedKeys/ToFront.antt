-- One of a list goes to its front: what holds of each holds, and each number stands as often.
use Rattle.std.proofs.Common.{◌≡◌, ℕ, ◌+◌, ◌==◌, cond, List, ◌∷◌, ◌++◌, map, ap, sym, ◌∙◌, subst, arith}
use Rattle.std.proofs.lemmas.List.{map-append}
use Rattle.std.specs.List.{AllByRecursion}
use Rattle.etagere_base.specs.Lists.{times}
use Rattle.etagere_base.proofs.EachLemmas.{Each-middle, Each-remove_number}
use Rattle.etagere_base.proofs.TimesLemmas.{times-append}
use Rattle.glyph_shelf.proofs.UsedKeys.Entries.{Among}

module _ {X : Type 0} (others : List X) (one : X) (all : List X) (among : Among others one all) where
  -- what holds of each
  pub each-front : (P : X → Type 0) → AllByRecursion P all → AllByRecursion P (one ∷ others)
  each-front P each =
      let split = subst (AllByRecursion P) among.after each in (
        Each-middle P among.front one among.back split,
        subst (AllByRecursion P) (sym among.before) (Each-remove_number P among.front one among.back split),
      )

  -- how often a number stands in the numbers of all
  pub times-front : (number : X → ℕ) (n : ℕ) → times n (map number all) ≡ times n (map number (one ∷ others))
  times-front number n =
      ap (λ (l : List X). times n (map number l)) among.after
      ∙ moved
      ∙ ap (λ (l : List X). times n (map number (one ∷ l))) (sym among.before)
    where
      swapped : (front here back : ℕ) → front + (here + back) ≡ here + (front + back)
      swapped front here back = omega arith

      moved : times n (map number (among.front ++ one ∷ among.back)) ≡ times n (map number (one ∷ among.front ++ among.back))
      moved =
          ap (times n) (map-append number among.front (one ∷ among.back))
          ∙ times-append n (map number among.front) (map number (one ∷ among.back))
          ∙ swapped (times n (map number among.front)) (cond (number one == n) 1 0) (times n (map number among.back))
          ∙ ap (λ (m : ℕ). cond (number one == n) 1 0 + m)
          (sym (ap (times n) (map-append number among.front among.back)
          ∙ times-append n (map number among.front) (map number among.back)))
