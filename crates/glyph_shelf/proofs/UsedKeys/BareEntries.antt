-- Entries without their stamps: what a key finds in them, and what becomes of them.
use Rattle.std.proofs.Common.{◌≡◌, ℕ, zero, suc, ◌-◌, Bool, true, false, cond, Option, Some, None, List, [], ◌∷◌, length, take, refl, ap, sym, ◌∙◌}
use Rattle.std.specs.List.{slice_get}
use Rattle.std.specs.Map.{lookup, lookup_entry, remove_entry}
use Rattle.std.specs.Option.{option_map_or}
use Rattle.std.specs.Prelude.{option_map}
use Rattle.lru.specs.LruCache.{last_entry, promoted}
use Rattle.etagere_base.specs.declared.ids.Allocation.{Allocation}
use Rattle.glyph_shelf.specs.declared.used_keys.stamps.Entry.{Entry}
use Rattle.glyph_shelf.specs.UsedKeys.Private.Stamps.{unstamped}

-- an entry without its stamp
abbrev pub bare : ℕ × Entry → ℕ × Allocation
bare e = (e.0, e.1.allocation)

-- what a key finds without stamps
pub lookup-bare : (test : ℕ → Bool) (es : List (ℕ × Entry))
    → lookup test (unstamped es) ≡ option_map (λ (e : Entry). e.allocation) (lookup test es)
lookup-bare test [] = refl
lookup-bare test (e ∷ es) = here (test e.0) (lookup-bare test es)
  where
    here : (b : Bool) → lookup test (unstamped es) ≡ option_map (λ (e : Entry). e.allocation) (lookup test es)
        → cond b (Some e.1.allocation) (lookup test (unstamped es)) ≡ option_map (λ (e : Entry). e.allocation) (cond b (Some e.1) (lookup test es))
    here true later = refl
    here false later = later

-- a key that isn't there isn't there without stamps, and the other way round
pub unknown-bare : (test : ℕ → Bool) (es : List (ℕ × Entry)) → lookup test (unstamped es) ≡ None → lookup test es ≡ None
unknown-bare test es unknown = by_found (lookup test es) (sym (lookup-bare test es) ∙ unknown)
  where
    by_found : (o : Option Entry) → option_map (λ (e : Entry). e.allocation) o ≡ None → o ≡ None
    by_found None h = refl
    by_found (Some e) h = absurd (cc)

entry-bare : (test : ℕ → Bool) (es : List (ℕ × Entry)) → lookup_entry test (unstamped es) ≡ option_map bare (lookup_entry test es)
entry-bare test [] = refl
entry-bare test (e ∷ es) = here (test e.0) (entry-bare test es)
  where
    here : (b : Bool) → lookup_entry test (unstamped es) ≡ option_map bare (lookup_entry test es)
        → cond b (Some (bare e)) (lookup_entry test (unstamped es)) ≡ option_map bare (cond b (Some e) (lookup_entry test es))
    here true later = refl
    here false later = later

-- an entry goes alike with and without stamps
pub removed-bare : (test : ℕ → Bool) (es : List (ℕ × Entry)) → unstamped (remove_entry test es) ≡ remove_entry test (unstamped es)
removed-bare test [] = refl
removed-bare test (e ∷ es) = here (test e.0) (removed-bare test es)
  where
    here : (b : Bool) → unstamped (remove_entry test es) ≡ remove_entry test (unstamped es)
        → unstamped (cond b es (e ∷ remove_entry test es)) ≡ cond b (unstamped es) (bare e ∷ remove_entry test (unstamped es))
    here true later = refl
    here false later = ap (λ l. bare e ∷ l) later

-- and goes to the front alike
pub promoted-bare : (test : ℕ → Bool) (es : List (ℕ × Entry)) (e : ℕ × Entry) → lookup_entry test es ≡ Some e
    → promoted test (unstamped es) ≡ bare e ∷ unstamped (remove_entry test es)
promoted-bare test es e found =
    ap (λ (o : Option (ℕ × Allocation)). option_map_or (λ f. f ∷ remove_entry test (unstamped es)) o (unstamped es))
    (entry-bare test es ∙ ap (option_map bare) found)
    ∙ ap (λ l. bare e ∷ l) (sym (removed-bare test es))

pub take-bare : (n : ℕ) (es : List (ℕ × Entry)) → unstamped (take n es) ≡ take n (unstamped es)
take-bare zero es = refl
take-bare (suc n) [] = refl
take-bare (suc n) (e ∷ es) = ap (λ l. bare e ∷ l) (take-bare n es)

get-bare : (n : ℕ) (es : List (ℕ × Entry)) → slice_get (unstamped es) n ≡ option_map bare (slice_get es n)
get-bare n [] = refl
get-bare zero (e ∷ es) = refl
get-bare (suc n) (e ∷ es) = get-bare n es

pub length-bare : (es : List (ℕ × Entry)) → length (unstamped es) ≡ length es
length-bare [] = refl
length-bare (e ∷ es) = ap suc (length-bare es)

-- what stands last without stamps
pub last-bare : (es : List (ℕ × Entry)) → last_entry (unstamped es) ≡ option_map bare (last_entry es)
last-bare es =
    ap (λ (n : ℕ). slice_get (unstamped es) (n - 1)) (length-bare es) ∙ get-bare (length es - 1) es
