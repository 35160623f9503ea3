-- Keys that are asked in turn whether they stay, from the least recently used one.
use Rattle.std.specs.Prelude.{◌≡◌, ℕ, Bool, true, false, Some, List, [], ◌∷◌, length}
use Rattle.std.specs.Option.{option_map_or}
use Rattle.lru.specs.LruCache.{last_entry}
use Rattle.etagere_base.specs.declared.geometry.Rectangle.{Rectangle}
use Rattle.etagere_base.specs.declared.ids.Allocation.{Allocation}
use Rattle.glyph_shelf.specs.Cache.{CacheState, used, without_last}

-- the cache after the answer about its least recently used key: one that stays is used, another goes
abbrev pub turned : CacheState → Bool → CacheState
turned state true =
    option_map_or (λ (entry : ℕ × Allocation). used state entry.0) (last_entry state.entries) state
turned state false = without_last state

-- a test gave these answers, each about the key that was then the least recently used
abbrev pub AsksInTurn : {F : Type 0} → (F → ℕ → Rectangle → Bool → F → Type 0) → F → CacheState
    → List Bool → F → CacheState → Type 0
AsksInTurn says test state [] last new = (last ≡ test) × (new ≡ state)
AsksInTurn {F} says test state (answer ∷ answers) last new =
    (entry : ℕ × Allocation) × (next : F) × (last_entry state.entries ≡ Some entry)
    × says test entry.0 entry.1.rectangle answer next
    × AsksInTurn says next (turned state answer) answers last new

-- so many keys were asked
pub record Asks {F : Type 0} (says : F → ℕ → Rectangle → Bool → F → Type 0) (count : ℕ) (test : F)
    (old : CacheState) (last : F) (new : CacheState) : Type 0 where
  pub answers : List Bool
  pub counted : length answers ≡ count
  pub asked : AsksInTurn says test old answers last new
