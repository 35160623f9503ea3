-- What is saved one after the other, of which each stands for the next of a list.
use Rattle.std.proofs.Common.{◌≡◌, ◌∙◌, ℕ, suc, ◌+◌, ◌<◌, List, [], ◌∷◌, ◌++◌, ap, arith, get_or, length, map, sym, take}
use Rattle.std.proofs.lemmas.List.{map-append}
use Rattle.std.proofs.Math.Seq.{take-suc}

-- with one more saved, that stands for the next, what is saved stands for one more
pub saved-next : {X Y : Type 0} (stands : X → Y) (saved : List X) (all : List Y) (i : ℕ) (x : X) (y : Y) → i < length all → y ≡ get_or all i y → stands x ≡ y
    → map stands saved ≡ take i all → map stands (saved ++ x ∷ []) ≡ take (i + 1) all
saved-next stands saved all i x y within here is before =
    let one : i + 1 ≡ suc i = omega arith in
    map-append stands saved (x ∷ []) ∙ ap (λ ys. ys ++ stands x ∷ []) before ∙ ap (λ z. take i all ++ z ∷ []) (is ∙ here)
    ∙ sym (take-suc all i y within) ∙ ap (λ n. take n all) (sym one)
