-- Entries of which the values are shown otherwise: keys go out and first alike; and what stands first once it is used.
use Rattle.std.proofs.Common.{◌≡◌, ℕ, Bool, true, false, cond, Option, Some, None, List, [], ◌∷◌, map, refl, ap, sym, ◌∙◌, arith}
use Rattle.std.proofs.lemmas.Bool.Decides.{nat_tests}
use Rattle.std.specs.List.{filter}
use Rattle.std.specs.Map.{lookup, lookup_entry, remove_entry}
use Rattle.std.specs.Option.{option_map_or}
use Rattle.std.specs.Prelude.{nat_eq, option_map}
use Rattle.lru.specs.LruCache.{promoted}
use Rattle.glyph_shelf.proofs.UsedKeys.Entries.{lookup-entry}

module _ {K X Y : Type 0} (show : X → Y) where
  abbrev pub shown : K × X → K × Y
  shown entry = (entry.0, show entry.1)

  -- the entries of which the key passes a test
  pub kept-shown : (keeps : K → Bool) (entries : List (K × X))
      → map shown (filter (λ (e : K × X). keeps e.0) entries) ≡ filter (λ (e : K × Y). keeps e.0) (map shown entries)
  kept-shown keeps [] = refl
  kept-shown keeps (e ∷ entries) = here (keeps e.0) (kept-shown keeps entries)
    where
      here : (b : Bool) → map shown (filter (λ (f : K × X). keeps f.0) entries) ≡ filter (λ (f : K × Y). keeps f.0) (map shown entries)
          → map shown (cond b (e ∷ filter (λ (f : K × X). keeps f.0) entries) (filter (λ (f : K × X). keeps f.0) entries))
          ≡ cond b (shown e ∷ filter (λ (f : K × Y). keeps f.0) (map shown entries)) (filter (λ (f : K × Y). keeps f.0) (map shown entries))
      here true later = ap (λ (l : List (K × Y)). shown e ∷ l) later
      here false later = later

  module _ (test : K → Bool) where
    lookup-shown : (entries : List (K × X)) → lookup_entry test (map shown entries) ≡ option_map shown (lookup_entry test entries)
    lookup-shown [] = refl
    lookup-shown (e ∷ entries) = here (test e.0) (lookup-shown entries)
      where
        here : (b : Bool) → lookup_entry test (map shown entries) ≡ option_map shown (lookup_entry test entries)
            → cond b (Some (shown e)) (lookup_entry test (map shown entries)) ≡ option_map shown (cond b (Some e) (lookup_entry test entries))
        here true later = refl
        here false later = later

    -- a key is taken out of what is shown
    pub removed-shown : (entries : List (K × X)) → map shown (remove_entry test entries) ≡ remove_entry test (map shown entries)
    removed-shown [] = refl
    removed-shown (e ∷ entries) = here (test e.0) (removed-shown entries)
      where
        here : (b : Bool) → map shown (remove_entry test entries) ≡ remove_entry test (map shown entries)
            → map shown (cond b entries (e ∷ remove_entry test entries)) ≡ cond b (map shown entries) (shown e ∷ remove_entry test (map shown entries))
        here true later = refl
        here false later = ap (λ (l : List (K × Y)). shown e ∷ l) later

    -- or goes first
    pub promoted-shown : (entries : List (K × X)) → map shown (promoted test entries) ≡ promoted test (map shown entries)
    promoted-shown entries =
        by_found (lookup_entry test entries)
        ∙ ap (λ (o : Option (K × Y)). option_map_or (λ e. e ∷ remove_entry test (map shown entries)) o (map shown entries)) (sym (lookup-shown entries))
      where
        by_found : (o : Option (K × X)) → map shown (option_map_or (λ e. e ∷ remove_entry test entries) o entries)
            ≡ option_map_or (λ e. e ∷ remove_entry test (map shown entries)) (option_map shown o) (map shown entries)
        by_found None = refl
        by_found (Some e) = ap (λ (l : List (K × Y)). shown e ∷ l) (removed-shown entries)

module _ {X : Type 0} (key : ℕ) where
  found-key : (es : List (ℕ × X)) (e : ℕ × X) → lookup_entry (nat_eq key) es ≡ Some e → e.0 ≡ key
  found-key [] e found = absurd (cc)
  found-key (f ∷ es) e found = here (nat_eq key f.0) refl found (found-key es e)
    where
      here : (b : Bool) → nat_eq key f.0 ≡ b → cond b (Some f) (lookup_entry (nat_eq key) es) ≡ Some e
          → (lookup_entry (nat_eq key) es ≡ Some e → e.0 ≡ key) → e.0 ≡ key
      here true is h later =
          let first : f ≡ e = cc in
          let same : f.0 ≡ key = grind (arith, nat_tests, is) in
          sym (ap (λ (x : ℕ × X). x.0) first) ∙ same
      here false is h later = later h

  -- a key that is there stands first once it is used
  pub used-first : (es : List (ℕ × X)) (x : X) → lookup (nat_eq key) es ≡ Some x
      → promoted (nat_eq key) es ≡ (key, x) ∷ remove_entry (nat_eq key) es
  used-first es x there = by_entry (lookup_entry (nat_eq key) es) refl (sym (lookup-entry (nat_eq key) es) ∙ there)
    where
      others : List (ℕ × X)
      others = remove_entry (nat_eq key) es

      by_entry : (o : Option (ℕ × X)) → lookup_entry (nat_eq key) es ≡ o → option_map (λ (e : ℕ × X). e.1) o ≡ Some x
          → option_map_or (λ (e : ℕ × X). let l : List (ℕ × X) = e ∷ others in l) o es ≡ (key, x) ∷ others
      by_entry None at h = absurd (cc)
      by_entry (Some e) at h =
          let value : e.1 ≡ x = cc in
          ap (λ (k : ℕ). let l : List (ℕ × X) = (k, e.1) ∷ others in l) (found-key es e at)
          ∙ ap (λ (y : X). let l : List (ℕ × X) = (key, y) ∷ others in l) value
