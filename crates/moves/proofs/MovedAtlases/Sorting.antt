-- What a sort by height and id has put in order.
use Rattle.std.proofs.Common.{◌≡◌, ℕ, suc, Bool, ◌&&◌, ◌||◌, ◌==◌, nat_lt, List, [], ◌∷◌, ◌∙◌, add-one, arith}
use Rattle.std.proofs.Common.{Bor}
use Rattle.std.specs.Fn.{Called, ComputesKey}
use Rattle.std.specs.List.Sorted.{IsSortedBy, IsSortedByKey}
use Rattle.std.specs.Ordering.{is_lt, nat_cmp, ordering_then}
use Rattle.std.specs.declared.cmp.Ordering.{Ordering}
use Rattle.std.specs.declared.cmp.Reverse.{Reverse}
use Rattle.std.proofs.lemmas.Fn.{always_returns_same}
use denote.Param.Members.{Mut}
use Rattle.std.proofs.lemmas.Bool.Decides.{nat_tests}
use Rattle.etagere_base.specs.Lists.{NoNeighbours}
use Rattle.etagere_base.specs.declared.ids.Allocation.{Allocation}
use Rattle.moves.specs.Atlases.Order.{AreTallestFirst, height_across, is_out_of_turn}

-- of what is sorted by a test no two neighbours pass it the other way round
pub sorted-neighbours : {X : Type 0} (lt touch : X → X → Bool) → ((x y : X) → touch x y ≡ lt y x) → (xs : List X)
    → IsSortedBy lt xs → NoNeighbours touch xs
sorted-neighbours lt touch same [] sorted = tt
sorted-neighbours lt touch same (x ∷ []) sorted = tt
sorted-neighbours lt touch same (x ∷ y ∷ ys) sorted = (
  same x y ∙ sorted 0 x (omega arith) (omega arith),
  sorted-neighbours lt touch same (y ∷ ys)
      (λ k d low high. rw add-one (rw add-one at (sorted (suc k) d (omega arith) (omega arith)))),
)

-- the order of the keys of a sort is that of heights and ids
turn-lt : (h k i j : ℕ) → (nat_lt h k || (h == k && nat_lt j i)) ≡ is_lt (ordering_then (nat_cmp h k) (nat_cmp j i))
turn-lt h k i j = grind (arith, nat_tests)

-- the key by which allocations are sorted
abbrev key_of : Bool → Allocation → Reverse ℕ × ℕ
key_of vertical allocation = (record { 0 = height_across vertical allocation.rectangle }, allocation.id)

-- the order of these keys
abbrev key_cmp : Reverse ℕ × ℕ → Reverse ℕ × ℕ → Ordering
key_cmp x y = ordering_then (nat_cmp y.0.0 x.0.0) (nat_cmp x.1 y.1)

-- what was sorted by these keys stands in order
pub sorted-tallest_first : (vertical : Bool) {F : Type 0} {g : Mut F (Bor Allocation × Unit {0}) (Reverse ℕ × ℕ)} {f : F}
    (xs : List Allocation)
    → ((key : Allocation → Reverse ℕ × ℕ) → ComputesKey g key f → IsSortedByKey key key_cmp xs)
    → ((a : Bor Allocation × Unit {0}) (r : Reverse ℕ × ℕ) (f' : F) → Called g f a r f'
    → (r ≡ key_of vertical a.0.now) × (f' ≡ f))
    → AreTallestFirst vertical xs
sorted-tallest_first vertical {g = g} {f = f} xs sorted computes =
    sorted-neighbours (λ x y. is_lt (key_cmp (key_of vertical x) (key_of vertical y))) (is_out_of_turn vertical)
    (λ x y. turn-lt (height_across vertical x.rectangle) (height_across vertical y.rectangle) x.id y.id) xs
    (sorted (key_of vertical) (always_returns_same g (λ a r. r ≡ key_of vertical a.0.now) f computes))
