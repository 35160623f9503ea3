-- Spaces of pages, added up one after another.
use Rattle.std.proofs.Common.{◌≡◌, ℕ, ◌+◌, ◌*◌, ◌<◌, ◌≤◌, List, [], ◌∷◌, ◌++◌, length, get_or, take, refl, ap, ◌∙◌, arith, to_z, of_z, w32}
use Rattle.std.specs.Prelude.{ℤ, pos}
use Rattle.std.proofs.lemmas.Int.{to_z_pos}
use Rattle.shelf_model.specs.State.{AtlasState}
use lib.IntN.{nat_abs}
use lib.Signed.{mag}
use Rattle.std.proofs.lemmas.List.{take_more}
use Rattle.etagere_base.specs.Lists.{total}

-- a total and one more
total-last : {X : Type 0} (measure : X → ℕ) (xs : List X) (x : X) → total measure (xs ++ x ∷ []) ≡ total measure xs + measure x
total-last measure [] x = omega arith
total-last measure (y ∷ xs) x = omega (arith, total-last measure xs x)

-- one element further
pub total-more : {X : Type 0} (measure : X → ℕ) (xs : List X) (n : ℕ) (d : X) → n < length xs
    → total measure (take (n + 1) xs) ≡ total measure (take n xs) + measure (get_or xs n d)
total-more measure xs n d within = ap (total measure) (take_more xs n d within) ∙ total-last measure (take n xs) (get_or xs n d)

-- a space that a call told, as an unsigned number
pub told-back : (n : ℕ) (told : ℤ) → told ≡ pos n → mag told < 2147483648 → nat_abs (to_z w32 (of_z w32 told)) ≡ n
told-back n told is small =
    let here : n < 2147483648 = rw is at small in
    rw (is, to_z_pos w32 n here) refl

-- the space of a page more, which a call told
pub space-more : (measure : AtlasState → ℕ) (pages : List AtlasState) (n : ℕ) (page : AtlasState) (so_far : ℕ) (told : ℤ) → n < length pages
    → page ≡ get_or pages n page → so_far ≡ total measure (take n pages) → so_far ≤ n * 2147483648 → told ≡ pos (measure page) → mag told < 2147483648
    → (so_far + nat_abs (to_z w32 (of_z w32 told)) ≡ total measure (take (n + 1) pages)) × (so_far + nat_abs (to_z w32 (of_z w32 told)) ≤ (n + 1) * 2147483648)
space-more measure pages n page so_far told within at is few told_is small =
    let here : measure page < 2147483648 = rw told_is at small in
    let back : nat_abs (to_z w32 (of_z w32 told)) ≡ measure page = rw (told_is, to_z_pos w32 (measure page) here) refl in
    let sum = total-more measure pages n page within in
    let same : measure page ≡ measure (get_or pages n page) = ap measure at in
    (omega (arith, is, back, sum, same), omega (arith, few, back, here))
