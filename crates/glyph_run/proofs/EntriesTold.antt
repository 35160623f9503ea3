-- Entries by keys: what is left without some keys, also of their rectangles alone.
use Rattle.std.proofs.Common.{◌≡◌, ℕ, ◌+◌, ◌≤◌, ◌==◌, Bool, true, false, cond, Some, None, List, [], ◌∷◌, ◌++◌, map, reverse, refl, ap, sym, ◌∙◌, subst, arith}
use Rattle.std.proofs.lemmas.Bool.Decides.{nat_tests}
use Rattle.std.proofs.lemmas.List.{append-nil, append_assoc, map-append, reverse-append}
use Rattle.std.specs.Map.{keys_of, lookup, lookup_entry, remove_entry}
use Rattle.std.specs.Prelude.{nat_eq, option_map}
use Rattle.etagere_base.specs.Lists.{times}
use Rattle.etagere_base.proofs.TimesLemmas.{times-append}
use Rattle.glyph_run.specs.Runs.{without}

module _ {X Y : Type 0} (held : X → Y) where
  -- what entries hold, changed by a function
  abbrev pub held_by : ℕ × X → ℕ × Y
  held_by entry = (entry.0, held entry.1)

  -- an entry goes alike before and after
  pub removed-held : (test : ℕ → Bool) (es : List (ℕ × X)) → map held_by (remove_entry test es) ≡ remove_entry test (map held_by es)
  removed-held test [] = refl
  removed-held test (e ∷ es) = here (test e.0) (removed-held test es)
    where
      here : (b : Bool) → map held_by (remove_entry test es) ≡ remove_entry test (map held_by es)
          → map held_by (cond b es (e ∷ remove_entry test es)) ≡ cond b (map held_by es) (held_by e ∷ remove_entry test (map held_by es))
      here true later = refl
      here false later = ap (λ l. held_by e ∷ l) later

  -- and so do those of some keys
  pub without-held : (keys : List ℕ) (es : List (ℕ × X)) → map held_by (without keys es) ≡ without keys (map held_by es)
  without-held [] es = refl
  without-held (key ∷ keys) es =
      without-held keys (remove_entry (nat_eq key) es) ∙ ap (without keys) (removed-held (nat_eq key) es)

-- an entry that a key finds
pub record Found {X Y : Type 0} (held : X → Y) (key : ℕ) (y : Y) (es : List (ℕ × X)) : Type 0 where
  pub entry : ℕ × X
  pub found : lookup_entry (nat_eq key) es ≡ Some entry
  pub known : lookup (nat_eq key) es ≡ Some entry.1
  pub same_key : entry.0 ≡ key
  pub holds : held entry.1 ≡ y

-- what a key finds, changed by a function, is of an entry
pub entry-found : {X Y : Type 0} (held : X → Y) (key : ℕ) (y : Y) (es : List (ℕ × X))
    → option_map held (lookup (nat_eq key) es) ≡ Some y → Found held key y es
entry-found held key y [] h = absurd (cc)
entry-found {X} {Y} held key y (e ∷ es) h = here (nat_eq key e.0) refl h (entry-found held key y es)
  where
    here : (b : Bool) → nat_eq key e.0 ≡ b → option_map held (cond b (Some e.1) (lookup (nat_eq key) es)) ≡ Some y
        → (option_map held (lookup (nat_eq key) es) ≡ Some y → Found held key y es)
        → Found held key y (e ∷ es)
    here true is h later =
        record {
          entry = e;
          found = rw is refl;
          known = rw is refl;
          same_key = grind (arith, nat_tests);
          holds = cc;
        }
    here false is h later =
        let rest = later h in
        record {
          entry = rest.entry;
          found = rw is rest.found;
          known = rw is rest.known;
          same_key = rest.same_key;
          holds = rest.holds;
        }

module _ {X : Type 0} where
  -- the last entry goes by its key, where that stands nowhere before
  removed-last : (test : ℕ → Bool) (es : List (ℕ × X)) (e : ℕ × X) → lookup test es ≡ None → test e.0 ≡ true
      → remove_entry test (es ++ e ∷ []) ≡ es
  removed-last test [] e unknown is = rw is refl
  removed-last test (f ∷ es) e unknown is = here (test f.0) unknown (λ later. removed-last test es e later is)
    where
      here : (b : Bool) → cond b (Some f.1) (lookup test es) ≡ None → (lookup test es ≡ None → remove_entry test (es ++ e ∷ []) ≡ es)
          → cond b (es ++ e ∷ []) (f ∷ remove_entry test (es ++ e ∷ [])) ≡ f ∷ es
      here true h later = absurd (cc)
      here false h later = ap (λ l. f ∷ l) (later h)

  -- a key that stands nowhere finds nothing
  unknown-times : (key : ℕ) (es : List (ℕ × X)) → times key (keys_of es) ≡ 0 → lookup (nat_eq key) es ≡ None
  unknown-times key [] none = refl
  unknown-times key (e ∷ es) none = here (nat_eq key e.0) refl (λ later. unknown-times key es later)
    where
      stands : (b : Bool) → b ≡ true → cond b 1 0 + times key (keys_of es) ≡ 0 → ⊥
      stands true is h = omega arith
      stands false is h = cc

      here : (b : Bool) → nat_eq key e.0 ≡ b → (times key (keys_of es) ≡ 0 → lookup (nat_eq key) es ≡ None)
          → cond b (Some e.1) (lookup (nat_eq key) es) ≡ None
      here true is later = let same : (e.0 == key) ≡ true = grind (arith, nat_tests) in absurd (stands (e.0 == key) same none)
      here false is later = later (omega arith)

  -- keys one after another
  without-append : (one other : List ℕ) (es : List (ℕ × X)) → without (one ++ other) es ≡ without other (without one es)
  without-append [] other es = refl
  without-append (key ∷ one) other es = without-append one other (remove_entry (nat_eq key) es)

  -- a key that stands at most once, and here, stands nowhere before
  once-before : (left gone : List (ℕ × X)) (e : ℕ × X) → ((key : ℕ) → times key (keys_of (left ++ e ∷ gone)) ≤ 1)
      → times e.0 (keys_of left) ≡ 0
  once-before left gone e once =
      let key : ℕ × X → ℕ = λ x. x.0 in
      let whole : times e.0 (keys_of (left ++ e ∷ gone)) ≡ times e.0 (keys_of left) + (cond (e.0 == e.0) 1 0 + times e.0 (keys_of gone)) =
      ap (times e.0) (map-append key left (e ∷ gone)) ∙ times-append e.0 (keys_of left) (keys_of (e ∷ gone)) in
      let own : (e.0 == e.0) ≡ true = grind (arith, nat_tests) in
      counted (e.0 == e.0) own (times e.0 (keys_of left)) (times e.0 (keys_of gone)) (times e.0 (keys_of (left ++ e ∷ gone))) whole (once e.0)
    where
      counted : (b : Bool) → b ≡ true → (before behind all : ℕ) → all ≡ before + (cond b 1 0 + behind) → all ≤ 1 → before ≡ 0
      counted true is before behind all sum most = omega arith
      counted false is before behind all sum most = absurd (cc)

  -- what stands last goes by its keys, the last one first
  pub without-last : (left gone : List (ℕ × X)) → ((key : ℕ) → times key (keys_of (left ++ gone)) ≤ 1)
      → without (reverse (keys_of gone)) (left ++ gone) ≡ left
  without-last left [] once = append-nil left
  without-last left (e ∷ gone) once =
      let joined : (left ++ e ∷ []) ++ gone ≡ left ++ e ∷ gone = append_assoc left (e ∷ []) gone in
      let unknown = unknown-times e.0 left (once-before left gone e once) in
      let own : nat_eq e.0 e.0 ≡ true = grind (arith, nat_tests) in
      ap (λ (keys : List ℕ). without keys (left ++ e ∷ gone)) (reverse-append (e.0 ∷ []) (keys_of gone))
      ∙ without-append (reverse (keys_of gone)) (e.0 ∷ []) (left ++ e ∷ gone)
      ∙ ap (λ (l : List (ℕ × X)). remove_entry (nat_eq e.0) (without (reverse (keys_of gone)) l)) (sym joined)
      ∙ ap (remove_entry (nat_eq e.0)) (without-last (left ++ e ∷ []) gone (λ key. subst (λ (l : List (ℕ × X)). times key (keys_of l) ≤ 1) (sym joined) (once key)))
      ∙ removed-last (nat_eq e.0) left e unknown own
