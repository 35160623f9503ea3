-- Lists of entries under keys: what a test finds in them, and what stands first after it.
use Rattle.std.proofs.Common.{◌≡◌, ◌-◌, Bool, true, false, cond, Option, Some, None, List, [], ◌∷◌, take, refl, ap, sym, ◌∙◌}
use Rattle.std.specs.Map.{lookup, lookup_entry, remove_entry}
use Rattle.std.specs.Option.{option_map_or}
use Rattle.std.specs.Prelude.{option_map}
use Rattle.lru.specs.LruCache.{LruCache, put_entries}
use Rattle.glyph_shelf.proofs.UsedKeys.Entries.{lookup-entry}

module _ {K X : Type 0} where
  -- what is found has a key
  pub entry-some : (test : K → Bool) (es : List (K × X)) (x : X) → lookup test es ≡ Some x
      → (key : K) × (lookup_entry test es ≡ Some (key, x))
  entry-some test es x found = by_entry (lookup_entry test es) refl (sym (lookup-entry test es) ∙ found)
    where
      by_entry : (o : Option (K × X)) → lookup_entry test es ≡ o → option_map (λ (f : K × X). f.1) o ≡ Some x
          → (key : K) × (lookup_entry test es ≡ Some (key, x))
      by_entry None at h = absurd (cc)
      by_entry (Some e) at h = let same : e.1 ≡ x = cc in (e.0, at ∙ ap (λ (y : X). let p : K × X = (e.0, y) in Some p) same)

  -- a test that finds an entry holds of its key
  pub entry-passes : (test : K → Bool) (es : List (K × X)) (e : K × X) → lookup_entry test es ≡ Some e → test e.0 ≡ true
  entry-passes test [] e found = absurd (cc)
  entry-passes test (f ∷ es) e found = here (test f.0) refl found (entry-passes test es e)
    where
      here : (b : Bool) → test f.0 ≡ b → cond b (Some f) (lookup_entry test es) ≡ Some e → (lookup_entry test es ≡ Some e → test e.0 ≡ true)
          → test e.0 ≡ true
      here true t h later = let same : f ≡ e = cc in ap (λ (x : K × X). test x.0) (sym same) ∙ t
      here false t h later = later h

  -- a key that is there gets another value in front
  pub put-known : (eq : K → K → Bool) (cache : LruCache K X) (key : K) (x : X) (known : K) (old : X)
      → lookup_entry (eq key) cache.entries ≡ Some (known, old)
      → put_entries eq cache key x ≡ (known, x) ∷ remove_entry (eq key) cache.entries
  put-known eq cache key x known old found =
      ap (λ (o : Option (K × X)). option_map_or (λ (e : K × X). let l : List (K × X) = (e.0, x) ∷ remove_entry (eq key) cache.entries in l) o ((key, x) ∷ take (cache.cap - 1) cache.entries)) found
