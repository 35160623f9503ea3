-- Who asks: all that an atlas has allocated, in another order, each with sides that can be told.
use Rattle.std.proofs.Common.{◌≡◌, ℕ, ◌==◌, cond, List, map, refl, sym, ◌∙◌, arith}
use Rattle.std.specs.List.{AllByRecursion, sum_by}
use Rattle.std.specs.List.Sorted.{IsPermutation}
use Rattle.std.proofs.lemmas.Int.{ints}
use Rattle.std.proofs.lemmas.List.Elements.{All-from_recursion, recursion_from_All}
use Rattle.std.proofs.lemmas.List.Recursion.{is_sum_by}
use Rattle.std.proofs.lemmas.List.Sorted.{All-permutation, sum_by-IsPermutation}
use Rattle.etagere_base.proofs.EachLemmas.{Each-weaken}
use Rattle.etagere_base.specs.Frames.{IsFrame, longest_side}
use Rattle.etagere_base.specs.Lists.{times}
use Rattle.etagere_base.specs.Rectangles.{IsInside}
use Rattle.etagere_base.specs.declared.frames.Frame.{Frame}
use Rattle.etagere_base.specs.declared.ids.Allocation.{Allocation}
use Rattle.shelf_model.proofs.Callers.{tied-each}
use Rattle.shelf_model.specs.Atlas.{KeepsPromises}
use Rattle.shelf_model.specs.Callers.{AreTied, IsFound}
use Rattle.shelf_model.specs.Places.{allocations}
use Rattle.shelf_model.specs.State.{AtlasState}
use Rattle.moves.specs.Atlases.Private.Sides.{HasSides}

-- how often an id is among allocations, as a sum
ids-sum : (id : ℕ) (xs : List Allocation)
    → times id (map (λ (a : Allocation). a.id) xs) ≡ sum_by (λ (a : Allocation). cond (a.id == id) 1 0) xs
ids-sum id =
    is_sum_by (λ (xs : List Allocation). times id (map (λ (a : Allocation). a.id) xs))
    (λ (a : Allocation). cond (a.id == id) 1 0) refl (λ _ _. refl)

-- what is kept in another order is kept
pub tied-permuted : (kept other all : List Allocation) → AreTied kept all → IsPermutation kept other → AreTied other all
tied-permuted kept other all tied moved =
    record {
      found = recursion_from_All (IsFound all) other
          (All-permutation (IsFound all) kept other moved (All-from_recursion (IsFound all) kept tied.found));
      counted = λ id.
          tied.counted id
          ∙ ids-sum id kept
          ∙ sym (sum_by-IsPermutation (λ (a : Allocation). cond (a.id == id) 1 0) kept other moved)
          ∙ sym (ids-sum id other);
    }

-- what lies inside has sides
pub inside-sides : (frame : Frame) → IsFrame longest_side frame → (allocation : Allocation)
    → IsInside frame allocation.rectangle → HasSides allocation
inside-sides frame is_frame allocation inside =
    record {
      width = omega (arith, ints, inside.left, inside.right, inside.wide, is_frame.width);
      height = omega (arith, ints, inside.top, inside.bottom, inside.tall, is_frame.height);
    }

-- so has all that an atlas allocated
pub tied-sides : (state : AtlasState) (kept : List Allocation) → KeepsPromises state → AreTied kept (allocations state)
    → AllByRecursion HasSides kept
tied-sides state kept promises tied =
    Each-weaken (λ (a : Allocation). IsInside state.frame a.rectangle) HasSides kept
    (inside-sides state.frame promises.valid.frame)
    (tied-each (λ (a : Allocation). IsInside state.frame a.rectangle) kept (allocations state) tied promises.inside)
