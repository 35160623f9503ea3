-- Entries that are too many go: what has gone after some of them, and what is left in the end.
use Rattle.std.proofs.Common.{◌≡◌, ℕ, ◌+◌, ◌-◌, Some, List, [], ◌∷◌, ◌++◌, length, ap, sym, ◌∙◌, subst}
use Rattle.std.specs.Prelude.{option_map}
use Rattle.std.proofs.lemmas.List.{length-append}
use Rattle.lru.specs.LruCache.{last_entry}
use Rattle.glyph_shelf.specs.Cache.{CacheState, without_last}
use Rattle.glyph_shelf.proofs.Evicting.{HasDropped, dropped-more, entry_of}

-- so many have gone
pub record IsShrinking (old : CacheState) (count : ℕ) (gone : List ℕ) (left : CacheState) : Type 0 where
  pub drops : HasDropped old gone left
  pub counted : length gone ≡ count

-- one more goes
pub shrinking-more : (old : CacheState) {count : ℕ} {gone longer : List ℕ} {left new : CacheState} {key : ℕ}
    → IsShrinking old count gone left → Some key ≡ option_map (λ e. e.0) (last_entry left.entries)
    → longer ≡ gone ++ key ∷ [] → new ≡ without_last left → IsShrinking old (count + 1) longer new
shrinking-more old {count} {gone} {longer} {left} {new} {key} is at listed after =
    let e = entry_of key (last_entry left.entries) at in
    let more : HasDropped old (gone ++ key ∷ []) (without_last left) =
    subst (λ (k : ℕ). HasDropped old (gone ++ k ∷ []) (without_last left)) e.2 (dropped-more old gone left e.0 is.drops e.1) in
    record {
      drops = subst (λ (l : List ℕ). HasDropped old l new) (sym listed)
          (subst (λ (s : CacheState). HasDropped old (gone ++ key ∷ []) s) (sym after) more);
      counted = ap length listed ∙ length-append gone (key ∷ []) ∙ ap (λ (n : ℕ). n + 1) is.counted;
    }
