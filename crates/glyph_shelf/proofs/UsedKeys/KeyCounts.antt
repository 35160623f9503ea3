-- How often a key stands in a list of entries: never twice, whatever goes, enters or moves to the front.
use Rattle.std.proofs.Common.{◌≡◌, ℕ, ◌+◌, ◌-◌, ◌≤◌, ◌==◌, Bool, true, false, cond, Option, Some, None, List, [], ◌∷◌, length, take, refl, ap, sym, ◌∙◌, subst, arith}
use Rattle.std.proofs.lemmas.Bool.Decides.{nat_tests}
use Rattle.std.proofs.lemmas.List.{map-append}
use Rattle.std.specs.Map.{keys_of, lookup, lookup_entry, remove_entry}
use Rattle.std.specs.Option.{option_map_or}
use Rattle.std.specs.Prelude.{nat_eq}
use Rattle.lru.specs.LruCache.{last_entry, promoted}
use Rattle.etagere_base.specs.Lists.{times}
use Rattle.etagere_base.proofs.TimesLemmas.{times-append}
use Rattle.glyph_shelf.proofs.UsedKeys.Entries.{last-split}

module _ {X : Type 0} where
  -- no key stands more often where an entry went
  pub times-removed : (test : ℕ → Bool) (es : List (ℕ × X)) (key : ℕ)
      → times key (keys_of (remove_entry test es)) ≤ times key (keys_of es)
  times-removed test [] key = omega arith
  times-removed test (e ∷ es) key = here (test e.0) (times-removed test es key)
    where
      here : (b : Bool) → times key (keys_of (remove_entry test es)) ≤ times key (keys_of es)
          → times key (keys_of (cond b es (e ∷ remove_entry test es))) ≤ cond (e.0 == key) 1 0 + times key (keys_of es)
      here true later = omega arith
      here false later = omega arith

  -- nor where the last entry went
  pub times-last : (key : ℕ) (es : List (ℕ × X)) (e : ℕ × X) → last_entry es ≡ Some e
      → times key (keys_of (take (length es - 1) es)) ≤ times key (keys_of es)
  times-last key es e last =
      let front = take (length es - 1) es in
      let whole : times key (keys_of es) ≡ times key (keys_of front) + times key (e.0 ∷ []) =
      ap (λ l. times key (keys_of l)) (last-split es e last)
      ∙ ap (times key) (map-append (λ (f : ℕ × X). f.0) front (e ∷ []))
      ∙ times-append key (keys_of front) (e.0 ∷ []) in
      omega (arith, whole)

  -- what a key finds is counted beside the others
  times-found : (test : ℕ → Bool) (es : List (ℕ × X)) (e : ℕ × X) (key : ℕ) → lookup_entry test es ≡ Some e
      → times key (keys_of es) ≡ cond (e.0 == key) 1 0 + times key (keys_of (remove_entry test es))
  times-found test [] e key found = absurd (cc)
  times-found test (f ∷ es) e key found = here (test f.0) found (times-found test es e key)
    where
      here : (b : Bool) → cond b (Some f) (lookup_entry test es) ≡ Some e
          → (lookup_entry test es ≡ Some e → times key (keys_of es) ≡ cond (e.0 == key) 1 0 + times key (keys_of (remove_entry test es)))
          → cond (f.0 == key) 1 0 + times key (keys_of es)
          ≡ cond (e.0 == key) 1 0 + times key (keys_of (cond b es (f ∷ remove_entry test es)))
      here true h later = let same : f ≡ e = cc in ap (λ (x : ℕ × X). cond (x.0 == key) 1 0 + times key (keys_of es)) same
      here false h later = let rest = later h in omega arith

  -- each key stands as often where one moved to the front
  pub times-promoted : (test : ℕ → Bool) (es : List (ℕ × X)) (key : ℕ)
      → times key (keys_of (promoted test es)) ≡ times key (keys_of es)
  times-promoted test es key = by_entry (lookup_entry test es) refl
    where
      by_entry : (o : Option (ℕ × X)) → lookup_entry test es ≡ o
          → times key (keys_of (option_map_or (λ e. e ∷ remove_entry test es) o es)) ≡ times key (keys_of es)
      by_entry None found = refl
      by_entry (Some e) found = sym (times-found test es e key found)

  -- a key that isn't found stands nowhere
  times-unknown : (key : ℕ) (es : List (ℕ × X)) → lookup (nat_eq key) es ≡ None → times key (keys_of es) ≡ 0
  times-unknown key [] unknown = refl
  times-unknown key (e ∷ es) unknown = here (nat_eq key e.0) refl unknown (times-unknown key es)
    where
      other : nat_eq key e.0 ≡ false → times key (keys_of es) ≡ 0 → cond (e.0 == key) 1 0 + times key (keys_of es) ≡ 0
      other differs none = grind (arith, nat_tests)

      here : (b : Bool) → nat_eq key e.0 ≡ b → cond b (Some e.1) (lookup (nat_eq key) es) ≡ None
          → (lookup (nat_eq key) es ≡ None → times key (keys_of es) ≡ 0) → cond (e.0 == key) 1 0 + times key (keys_of es) ≡ 0
      here true is h later = absurd (cc)
      here false is h later = other is (later h)

  -- no key stands twice where a new one entered
  pub times-entered : (new : ℕ) (a : X) (es : List (ℕ × X)) → lookup (nat_eq new) es ≡ None
      → ((key : ℕ) → times key (keys_of es) ≤ 1) → (key : ℕ) → times key (keys_of ((new, a) ∷ es)) ≤ 1
  times-entered new a es unknown once key = here (new == key) refl
    where
      here : (b : Bool) → (new == key) ≡ b → cond b 1 0 + times key (keys_of es) ≤ 1
      here true is =
          let same : new ≡ key = grind (arith, nat_tests) in
          let none : times key (keys_of es) ≡ 0 = subst (λ (k : ℕ). times k (keys_of es) ≡ 0) same (times-unknown new es unknown) in
          omega arith
      here false is = let rest = once key in omega arith
