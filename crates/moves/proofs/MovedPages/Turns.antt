-- What a sort by height, page and id has put in order.
use Rattle.std.proofs.Common.{◌≡◌, ℕ, Bool, ◌&&◌, ◌||◌, ◌==◌, nat_lt, List, arith}
use Rattle.std.proofs.Common.{Bor}
use Rattle.std.specs.Fn.{Called, ComputesKey}
use Rattle.std.specs.List.Sorted.{IsSortedByKey}
use Rattle.std.specs.Ordering.{is_lt, nat_cmp, ordering_then}
use Rattle.std.specs.declared.cmp.Ordering.{Ordering}
use Rattle.std.specs.declared.cmp.Reverse.{Reverse}
use Rattle.std.proofs.lemmas.Fn.{always_returns_same}
use denote.Param.Members.{Mut}
use Rattle.std.proofs.lemmas.Bool.Decides.{nat_tests}
use Rattle.moves.specs.Atlases.Order.{height_across}
use Rattle.moves.proofs.MovedAtlases.Sorting.{sorted-neighbours}
use Rattle.atlas_pages.specs.declared.paged_allocation.PagedAllocation.{PagedAllocation}
use Rattle.moves.specs.Pages.Order.{AreTallestFirst, is_out_of_turn}

-- the order of the keys of a sort is that of heights, pages and ids
turn-lt : (h k p q i j : ℕ)
    → (nat_lt h k || (h == k && (nat_lt q p || (p == q && nat_lt j i))))
    ≡ is_lt (ordering_then (ordering_then (nat_cmp h k) (nat_cmp q p)) (nat_cmp j i))
turn-lt h k p q i j = grind (arith, nat_tests)

-- the key by which places are sorted
abbrev key_of : Bool → PagedAllocation → Reverse ℕ × ℕ × ℕ
key_of vertical paged =
    (record { 0 = height_across vertical paged.allocation.rectangle }, paged.page, paged.allocation.id)

-- the order of these keys
abbrev key_cmp : Reverse ℕ × ℕ × ℕ → Reverse ℕ × ℕ × ℕ → Ordering
key_cmp x y = ordering_then (ordering_then (nat_cmp y.0.0 x.0.0) (nat_cmp x.1 y.1)) (nat_cmp x.2 y.2)

-- what was sorted by these keys stands in order
pub sorted-tallest_first : (vertical : Bool) {F : Type 0} {g : Mut F (Bor PagedAllocation × Unit {0}) (Reverse ℕ × ℕ × ℕ)} {f : F}
    (xs : List PagedAllocation)
    → ((key : PagedAllocation → Reverse ℕ × ℕ × ℕ) → ComputesKey g key f → IsSortedByKey key key_cmp xs)
    → ((a : Bor PagedAllocation × Unit {0}) (r : Reverse ℕ × ℕ × ℕ) (f' : F) → Called g f a r f'
    → (r ≡ key_of vertical a.0.now) × (f' ≡ f))
    → AreTallestFirst vertical xs
sorted-tallest_first vertical {g = g} {f = f} xs sorted computes =
    sorted-neighbours (λ x y. is_lt (key_cmp (key_of vertical x) (key_of vertical y))) (is_out_of_turn vertical)
    (λ x y. turn-lt (height_across vertical x.allocation.rectangle) (height_across vertical y.allocation.rectangle) x.page y.page x.allocation.id y.allocation.id) xs
    (sorted (key_of vertical) (always_returns_same g (λ a r. r ≡ key_of vertical a.0.now) f computes))
