-- A call changes what is in a cache over pages just as its reply tells.
use Rattle.std.proofs.Common.{◌≡◌, ℕ, zero, suc, ◌-◌, Option, Some, None, List, ◌∷◌, inl, inr, length, take, refl, ap, sym, ◌∙◌, arith}
use Rattle.std.proofs.lemmas.List.{length-take, take-take, take_all}
use Rattle.std.specs.Map.{remove_entry}
use Rattle.std.specs.Option.{option_map_or}
use Rattle.std.specs.Prelude.{nat_eq}
use Rattle.lru.specs.LruCache.{last_entry}
use Rattle.etagere_base.specs.declared.geometry.Size.{Size}
use Rattle.atlas_pages.specs.declared.paged_allocation.PagedAllocation.{PagedAllocation}
use Rattle.glyph_shelf.proofs.UsedKeys.Entries.{last-none, removed-unknown}
use Rattle.paged_cache.specs.Held.{GivesPaged, has_page, paged_returned}
use Rattle.paged_cache.specs.Keyed.{RanOut, after_dropping, allocation_at}
use Rattle.paged_cache.specs.Keyed as keyed
use Rattle.paged_cache.specs.Paged.{PagedCacheState, without_key}
use Rattle.paged_cache.specs.declared.keyed.PlacedKey.{PlacedKey}
use Rattle.paged_cache.specs.declared.runs.calls.PagedCall.{PagedCall}
use Rattle.paged_cache.specs.declared.runs.calls.PagedCall.TheVariants.{Place, Get, Remove, Clear}
use Rattle.paged_cache.specs.declared.runs.calls.PagedReply.{PagedReply}
use Rattle.paged_cache.specs.declared.runs.calls.PagedReply.TheVariants.{Placed, TooLarge, NoMemory, At, Removed, NotThere, Cleared}
use Rattle.glyph_shelf.proofs.Shown.{used-first}
use Rattle.paged_cache.specs.Runs.{MayAnswer, PlacesAgain, PlacesNew, told_after, without_last}

abbrev Entries : Type 0
Entries = List (ℕ × PagedAllocation)

-- without the last entry
entries-without_last : (state : PagedCacheState) → (keyed.without_last paged_returned state).entries ≡ take (length state.entries - 1) state.entries
entries-without_last state = by_last (last_entry state.entries) refl
  where
    by_last : (o : Option (ℕ × PagedAllocation)) → last_entry state.entries ≡ o
        → (option_map_or (λ (entry : ℕ × PagedAllocation). let s : PagedCacheState = record { entries = take (length state.entries - 1) state.entries; capacity = state.capacity; allocator = paged_returned state.allocator entry.1 } in s) o state).entries
        ≡ take (length state.entries - 1) state.entries
    by_last None last = rw (last-none state.entries last) refl
    by_last (Some e) last = refl

length-dropped : (state : PagedCacheState) (n : ℕ) → length (after_dropping paged_returned state n).entries ≡ length state.entries - n
length-dropped state zero = omega arith
length-dropped state (suc n) =
    let before = after_dropping paged_returned state n in
    omega (arith, ap length (entries-without_last before), length-take (length before.entries - 1) before.entries, length-dropped state n)

-- what stood first is left where so many were dropped
entries-dropped : (state : PagedCacheState) (n : ℕ) → (after_dropping paged_returned state n).entries ≡ take (length state.entries - n) state.entries
entries-dropped state zero = sym (take_all (length state.entries - 0) state.entries (omega arith))
entries-dropped state (suc n) =
    let before = after_dropping paged_returned state n in
    let fewer : length before.entries - 1 ≡ length state.entries - suc n = omega (arith, length-dropped state n) in
    entries-without_last before
    ∙ ap (λ (k : ℕ). take k before.entries) fewer
    ∙ ap (take (length state.entries - suc n)) (entries-dropped state n)
    ∙ take-take (length state.entries - suc n) (length state.entries - n) state.entries (omega arith)

told-again : (old new : PagedCacheState) (key : ℕ) (placed : PlacedKey PagedAllocation) → PlacesAgain old key placed new
    → new.entries ≡ (key, placed.allocation) ∷ without_last (length placed.evicted.items) (remove_entry (nat_eq key) old.entries)
told-again old new key placed again =
    let others = remove_entry (nat_eq key) old.entries in
    ap (λ (s : PagedCacheState). s.entries) again.after
    ∙ used-first key old.entries placed.allocation again.there
    ∙ ap (λ (l : Entries). let m : Entries = (key, placed.allocation) ∷ l in m) (sym (take_all (length others - 0) others (omega arith)))
    ∙ ap (λ (l : List ℕ). let m : Entries = (key, placed.allocation) ∷ without_last (length l) others in m) (sym again.none)

told-new : (old new : PagedCacheState) (key : ℕ) (size : Size) (placed : PlacedKey PagedAllocation) → PlacesNew old key size placed new
    → new.entries ≡ (key, placed.allocation) ∷ without_last (length placed.evicted.items) (remove_entry (nat_eq key) old.entries)
told-new old new key size placed first =
    let n = length placed.evicted.items in
    first.places.entered.entries
    ∙ ap (λ (l : Entries). let m : Entries = (key, placed.allocation) ∷ l in m)
    (entries-dropped old n ∙ ap (without_last n) (sym (removed-unknown (nat_eq key) old.entries first.is_new)))

told-ran_out : (old new : PagedCacheState) (size : Size) (evicted : List ℕ) → RanOut paged_returned has_page GivesPaged old size evicted new
    → new.entries ≡ without_last (length evicted) old.entries
told-ran_out old new size evicted ran_out = undone ran_out.rest ∙ entries-dropped old (length evicted)
  where
    undone : keyed.IsUndone paged_returned GivesPaged (after_dropping paged_returned old (length evicted)) size new
        → new.entries ≡ (after_dropping paged_returned old (length evicted)).entries
    undone (inl same) = ap (λ (s : PagedCacheState). s.entries) same
    undone (inr back) = back.entries

told-removed : (old : PagedCacheState) (key : ℕ) (paged : PagedAllocation) → allocation_at old key ≡ Some paged
    → (without_key old key).entries ≡ remove_entry (nat_eq key) old.entries
told-removed old key paged there =
    ap (λ (o : Option PagedAllocation). (option_map_or (λ (p : PagedAllocation). let s : PagedCacheState = record { entries = remove_entry (nat_eq key) old.entries; capacity = old.capacity; allocator = paged_returned old.allocator p } in s) o old).entries) there

pub told-step : (old new : PagedCacheState) (call : PagedCall) (reply : PagedReply) → MayAnswer old call reply new
    → new.entries ≡ told_after call reply old.entries
told-step old new (Place key size) (Placed placed) (inl again) = told-again old new key placed again
told-step old new (Place key size) (Placed placed) (inr first) = told-new old new key size placed first
told-step old new (Place key size) TooLarge (is_new, large, same) = ap (λ (s : PagedCacheState). s.entries) same
told-step old new (Place key size) (NoMemory evicted) (is_new, fits, ran_out) = told-ran_out old new size evicted.items ran_out
told-step old new (Get key) (At paged) (there, after) = ap (λ (s : PagedCacheState). s.entries) after
told-step old new (Get key) NotThere (is_new, same) = ap (λ (s : PagedCacheState). s.entries) same
told-step old new (Remove key) (Removed paged) (there, after) =
    ap (λ (s : PagedCacheState). s.entries) after ∙ told-removed old key paged there
told-step old new (Remove key) NotThere (is_new, same) = ap (λ (s : PagedCacheState). s.entries) same
told-step old new Clear Cleared after = ap (λ (s : PagedCacheState). s.entries) after
told-step old new call reply never = absurd never
