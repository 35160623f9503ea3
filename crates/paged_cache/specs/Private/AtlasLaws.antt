-- An atlas allocates sizes by the laws of what does.
use Rattle.std.proofs.Common.{◌≡◌, true, List, [], ◌∷◌, ◌++◌, refl, ap, ◌∙◌}
use Rattle.std.specs.Prelude.{is_some}
use Rattle.etagere_base.specs.declared.geometry.Size.{Size}
use Rattle.etagere_base.specs.declared.ids.Allocation.{Allocation}
use Rattle.etagere_base.proofs.EachLemmas.{Each-middle}
use Rattle.shelf_model.specs.Atlas.{Adds, Allocates, KeepsPromises}
use Rattle.shelf_model.specs.Callers.{IsFound}
use Rattle.shelf_model.specs.Choice.{placement_of}
use Rattle.shelf_model.specs.Fresh.{fresh, without_peak_items}
use Rattle.shelf_model.specs.Places.{allocations, is_allocated}
use Rattle.shelf_model.specs.Returning.{returned}
use Rattle.shelf_model.specs.State.{AtlasState}
use Rattle.shelf_model.proofs.Callers.{allocates-adds, found-allocated, fresh-allocated, not_allocated-any, promises-returned, returned-allocated, tied-added, tied-empty, tied-none, tied-returned}
use Rattle.paged_cache.specs.Held.{are_all_allocated, fits_atlas, has_place_in}
use Rattle.paged_cache.specs.Private.Tying.{first-added, tied-front}

-- an allocation among others
among : (front back : List Allocation) (a : Allocation) → Adds (front ++ back) a (front ++ a ∷ back)
among front back a = record { front = front; back = back; before = refl; after = refl }

pub one-more : (old : AtlasState) (size : Size) (a : Allocation) (new : AtlasState) (kept : List Allocation) → KeepsPromises old
    → KeepsPromises new → Allocates old size a new → are_all_allocated old kept → are_all_allocated new (a ∷ kept)
one-more old size a new kept was is given tied =
    tied-added kept (a ∷ kept) (allocations old) (allocations new) a tied (first-added a kept)
    (allocates-adds old size a new was.valid given) (not_allocated-any old a.id given.fresh_id)

pub one-less : (state : AtlasState) (front back : List Allocation) (a : Allocation) → KeepsPromises state
    → are_all_allocated state (front ++ a ∷ back) → are_all_allocated (returned state a.id) (front ++ back)
one-less state front back a keeps tied =
    tied-returned (front ++ a ∷ back) (front ++ back) (allocations state) (allocations (returned state a.id)) a tied
    (among front back a) keeps.ids (returned-allocated state a.id keeps.valid)

pub to-front : (state : AtlasState) (front back : List Allocation) (a : Allocation) → are_all_allocated state (front ++ a ∷ back)
    → are_all_allocated state (a ∷ front ++ back)
to-front state front back a tied = tied-front (front ++ back) (front ++ a ∷ back) (allocations state) a (among front back a) tied

pub among-held : (state : AtlasState) (front back : List Allocation) (a : Allocation) → are_all_allocated state (front ++ a ∷ back)
    → is_allocated state a.id ≡ true
among-held state front back a tied = found-allocated state a (Each-middle (IsFound (allocations state)) front a back tied.found)

pub still-keeps : (state : AtlasState) (a : Allocation) → KeepsPromises state → KeepsPromises (returned state a.id)
still-keeps state a keeps = promises-returned state a.id keeps.valid

pub all-cleared : (state : AtlasState) → KeepsPromises state → are_all_allocated (fresh state.frame) []
all-cleared state keeps = tied-none (allocations (fresh state.frame)) (fresh-allocated state.frame)

pub none-held : (state : AtlasState) (size : Size) → KeepsPromises state → are_all_allocated state [] → fits_atlas state size ≡ true
    → has_place_in state size ≡ true
none-held state size keeps tied fits =
    ap is_some (unused state (fresh state.frame) (keeps.empty (tied-empty (allocations state) tied))) ∙ fits
  where
    unused : (one other : AtlasState) → without_peak_items one ≡ without_peak_items other → placement_of one size ≡ placement_of other size
    unused one other same = ap (λ (s : AtlasState). placement_of s size) same

pub fits-given : (old : AtlasState) (size asked : Size) (a : Allocation) (new : AtlasState) → Allocates old asked a new
    → fits_atlas new size ≡ fits_atlas old size
fits-given old size asked a new given = ap (λ (s : AtlasState). fits_atlas s size) given.after
