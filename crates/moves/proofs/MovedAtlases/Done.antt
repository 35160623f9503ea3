-- What is so once all has asked: each clause of the call.
use Rattle.std.proofs.Common.{◌≡◌, ℕ, ◌≤◌, List, ◌++◌, [], map, ap, ◌∙◌, subst}
use Rattle.std.specs.List.{AllByRecursion}
use Rattle.std.specs.List.Sorted.{IsPermutation}
use Rattle.etagere_base.specs.Frames.{atlas_frame}
use Rattle.etagere_base.specs.Lists.{times}
use Rattle.etagere_base.specs.Rectangles.{AreApart, IsInside}
use Rattle.etagere_base.specs.declared.geometry.Size.{Size}
use Rattle.etagere_base.specs.declared.ids.Allocation.{Allocation}
use Rattle.etagere_base.specs.declared.options.AllocatorOptions.{AllocatorOptions}
use Rattle.shelf_model.proofs.Callers.{fresh-allocated, promises, tied-apart, tied-each, tied-ids}
use Rattle.shelf_model.specs.Atlas.{KeepsPromises}
use Rattle.shelf_model.specs.Callers.{AreTied}
use Rattle.shelf_model.specs.Fresh.{fresh}
use Rattle.shelf_model.specs.Places.{allocations}
use Rattle.shelf_model.specs.State.{AtlasState}
use Rattle.moves.proofs.MovedAtlases.Asking.{tied-permuted}
use Rattle.moves.proofs.MovedAtlases.Laws.{arranges-frame, arranges-once, arranges-room, arranges-tied, arranges-valid}
use Rattle.moves.specs.Atlases.Arranging.{Arranges, HasRoom, IsRearranged, moved_from, moved_to}
use Rattle.moves.specs.Atlases.Options.{options_of}
use Rattle.moves.specs.Atlases.Order.{AreTallestFirst}
use Rattle.moves.specs.declared.atlases.rearrangement.Move.{Move}

-- the clauses
pub record IsDone (old : AtlasState) (size : Size) (moves : List Move) (unplaced : List Allocation) (new : AtlasState)
    : Type 0 where
  pub rearranged : IsRearranged old size moves unplaced new
  pub each : AreTied (moved_from moves ++ unplaced) (allocations old)
  pub once : (id : ℕ) → times id (map (λ (a : Allocation). a.id) (moved_from moves ++ unplaced)) ≤ 1
  pub whole : AreTied (moved_to moves) (allocations new)
  pub inside : AllByRecursion (λ (a : Allocation). IsInside new.frame a.rectangle) (moved_to moves)
  pub apart : AreApart (moved_to moves)
  pub room : AllByRecursion HasRoom moves
  pub frame : new.frame ≡ atlas_frame size (options_of old.frame)
  pub kept : KeepsPromises new

-- they hold where what an atlas lists, in order, has asked a new one
pub arranged-done : (old : AtlasState) (size : Size) (options : AllocatorOptions) (start new : AtlasState)
    (listed asked unplaced : List Allocation) (moves : List Move)
    → KeepsPromises old → options ≡ options_of old.frame → start ≡ fresh (atlas_frame size options) → KeepsPromises start
    → AreTied listed (allocations old) → IsPermutation listed asked → AreTallestFirst options.vertical_shelves asked
    → Arranges start asked moves unplaced new → IsDone old size moves unplaced new
arranged-done old size options start new listed asked unplaced moves old_kept same made start_kept tied moved ordered arranged =
    let made_of : start ≡ fresh (atlas_frame size (options_of old.frame)) =
    made ∙ ap (λ (o : AllocatorOptions). fresh (atlas_frame size o)) same in
    let all = tied-permuted listed asked (allocations old) tied moved in
    let each = arranges-once (allocations old) arranged all in
    let valid = arranges-valid arranged start_kept.valid in
    let kept = promises new valid in
    let none : allocations start ≡ [] =
    ap allocations made_of ∙ fresh-allocated (atlas_frame size (options_of old.frame)) in
    let whole = arranges-tied arranged start_kept.valid none in
    record {
      rearranged = record {
        asked = asked;
        each = all;
        ordered = subst (λ (o : AllocatorOptions). AreTallestFirst o.vertical_shelves asked) same ordered;
        arranged = subst (λ (state : AtlasState). Arranges state asked moves unplaced new) made_of arranged;
      };
      each = each;
      once = tied-ids (moved_from moves ++ unplaced) (allocations old) each old_kept.ids;
      whole = whole;
      inside = tied-each (λ (a : Allocation). IsInside new.frame a.rectangle) (moved_to moves) (allocations new) whole kept.inside;
      apart = tied-apart (moved_to moves) (allocations new) whole kept.apart kept.ids;
      room = arranges-room arranged start_kept.valid;
      frame = arranges-frame arranged ∙ ap (λ (state : AtlasState). state.frame) made_of;
      kept = kept;
    }
