-- Changing one element of a list is writing to its position.
use Rattle.std.proofs.Common.{◌≡◌, ℕ, zero, suc, ◌<◌, ◌≤◌, Some, Option, List, [], ◌∷◌, length, get_or, refl, ap, arith, sym}
use Rattle.std.proofs.Math.ListN.{set}
use Rattle.etagere_links.specs.Edits.{changed_at, changed_by}

-- a write of the changed element to its position
pub set-changed : {T : Type 0} (change : T → T) (xs : List T) (number : ℕ) (d : T) → number < length xs → set xs number (change (get_or xs number d)) ≡ changed_at number change xs
set-changed change [] number d within = absurd (omega arith)
set-changed change (y ∷ ys) zero d within = refl
set-changed change (y ∷ ys) (suc number) d within = ap (λ zs. y ∷ zs) (set-changed change ys number d (omega arith))

-- past the end nothing is changed
changed_at-past : {T : Type 0} (change : T → T) (xs : List T) (number : ℕ) → length xs ≤ number → changed_at number change xs ≡ xs
changed_at-past change [] number past = refl
changed_at-past change (y ∷ ys) zero past = absurd (omega arith)
changed_at-past change (y ∷ ys) (suc number) past = ap (λ zs. y ∷ zs) (changed_at-past change ys number (omega arith))

-- a write of the changed element to the position that a link names
pub set-changed_by : {T : Type 0} (change : T → T) (xs : List T) (link : Option ℕ) (number : ℕ) (y d : T) → link ≡ Some number → number < length xs → y ≡ change (get_or xs number d) → set xs number y ≡ changed_by link change xs
set-changed_by change xs link number y d names within e = rw (names, e) (set-changed change xs number d within)

-- a link past the end changes nothing
pub changed_by-past : {T : Type 0} (change : T → T) (xs : List T) (link : Option ℕ) (number : ℕ) → link ≡ Some number → length xs ≤ number → xs ≡ changed_by link change xs
changed_by-past change xs link number names past = rw names (sym (changed_at-past change xs number past))

-- two changes of the same element are one
pub changed-twice : {T : Type 0} (second first : T → T) (xs : List T) (number : ℕ) → changed_at number second (changed_at number first xs) ≡ changed_at number (λ x. second (first x)) xs
changed-twice second first [] number = refl
changed-twice second first (y ∷ ys) zero = refl
changed-twice second first (y ∷ ys) (suc number) = ap (λ zs. y ∷ zs) (changed-twice second first ys number)
