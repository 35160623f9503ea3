-- Lists of entries: what a key finds in them, what stands last, and what goes with either.
use Rattle.std.proofs.Common.{◌≡◌, ℕ, zero, suc, ◌-◌, ◌<◌, Bool, true, false, cond, Option, Some, None, List, [], ◌∷◌, ◌++◌, length, take, refl, ap, sym, ◌∙◌, append-nil, arith}
use Rattle.std.proofs.lemmas.List.{map-append, take_all}
use Rattle.std.specs.List.{slice_get}
use Rattle.std.specs.Map.{lookup, lookup_entry, remove_entry, values_of}
use Rattle.std.specs.Option.{option_map_or}
use Rattle.std.specs.Prelude.{option_map}
use Rattle.lru.specs.LruCache.{LruCache, last_entry, promoted, put_entries}

-- one of a list, among the others
pub record Among {X : Type 0} (others : List X) (one : X) (all : List X) : Type 0 where
  pub front : List X
  pub back : List X
  pub before : others ≡ front ++ back
  pub after : all ≡ front ++ one ∷ back

module _ {K X : Type 0} where
  -- an entry that a key finds, before others in which it would be found
  found_here : (b : Bool) (test : K → Bool) (e : K × X) (es : List (K × X)) (a : X)
      → cond b (Some e.1) (lookup test es) ≡ Some a
      → (lookup test es ≡ Some a → Among (values_of (remove_entry test es)) a (values_of es))
      → Among (values_of (cond b es (e ∷ remove_entry test es))) a (values_of (e ∷ es))
  found_here true test e es a found later =
      let same : e.1 ≡ a = cc in
      record { front = []; back = values_of es; before = refl; after = ap (λ x. x ∷ values_of es) same }
  found_here false test e es a found later =
      let rest = later found in
      record {
        front = e.1 ∷ rest.front;
        back = rest.back;
        before = ap (λ l. e.1 ∷ l) rest.before;
        after = ap (λ l. e.1 ∷ l) rest.after;
      }

  -- what a key finds is one of what the entries hold, and goes with the key
  pub found-among : (test : K → Bool) (es : List (K × X)) (a : X)
      → lookup test es ≡ Some a → Among (values_of (remove_entry test es)) a (values_of es)
  found-among test [] a found = absurd (cc)
  found-among test (e ∷ es) a found = found_here (test e.0) test e es a found (found-among test es a)

  -- the length of entries of which one goes
  length_here : (b : Bool) (test : K → Bool) (e : K × X) (es : List (K × X)) (a : X)
      → cond b (Some e.1) (lookup test es) ≡ Some a
      → (lookup test es ≡ Some a → suc (length (remove_entry test es)) ≡ length es)
      → suc (length (cond b es (e ∷ remove_entry test es))) ≡ suc (length es)
  length_here true test e es a found later = refl
  length_here false test e es a found later = ap suc (later found)

  pub length-removed : (test : K → Bool) (es : List (K × X)) (a : X)
      → lookup test es ≡ Some a → suc (length (remove_entry test es)) ≡ length es
  length-removed test [] a found = absurd (cc)
  length-removed test (e ∷ es) a found = length_here (test e.0) test e es a found (length-removed test es a)

  -- what is found is what an entry holds
  entry_here : (b : Bool) (test : K → Bool) (e : K × X) (es : List (K × X))
      → lookup test es ≡ option_map (λ (f : K × X). f.1) (lookup_entry test es)
      → cond b (Some e.1) (lookup test es) ≡ option_map (λ (f : K × X). f.1) (cond b (Some e) (lookup_entry test es))
  entry_here true test e es later = refl
  entry_here false test e es later = later

  pub lookup-entry : (test : K → Bool) (es : List (K × X)) → lookup test es ≡ option_map (λ (f : K × X). f.1) (lookup_entry test es)
  lookup-entry test [] = refl
  lookup-entry test (e ∷ es) = entry_here (test e.0) test e es (lookup-entry test es)

  -- where nothing is found, no entry is
  pub entry-none : (test : K → Bool) (es : List (K × X)) → lookup test es ≡ None → lookup_entry test es ≡ None
  entry-none test es none = by_entry (lookup_entry test es) (sym (lookup-entry test es) ∙ none)
    where
      by_entry : (o : Option (K × X)) → option_map (λ (f : K × X). f.1) o ≡ None → o ≡ None
      by_entry None h = refl
      by_entry (Some e) h = absurd (cc)

  -- a key that isn't there moves nothing
  pub promoted-unknown : (test : K → Bool) (es : List (K × X)) → lookup test es ≡ None → promoted test es ≡ es
  promoted-unknown test es unknown = rw (entry-none test es unknown) refl

  -- a key that is there goes to the front with what it holds
  pub promoted-known : (test : K → Bool) (es : List (K × X)) (a : X) → lookup test es ≡ Some a
      → values_of (promoted test es) ≡ a ∷ values_of (remove_entry test es)
  promoted-known test es a known = by_entry (lookup_entry test es) (sym (lookup-entry test es) ∙ known)
    where
      by_entry : (o : Option (K × X)) → option_map (λ (f : K × X). f.1) o ≡ Some a
          → values_of (option_map_or (λ e. e ∷ remove_entry test es) o es) ≡ a ∷ values_of (remove_entry test es)
      by_entry None h = absurd (cc)
      by_entry (Some e) h = let same : e.1 ≡ a = cc in ap (λ x. x ∷ values_of (remove_entry test es)) same

  -- a list is what stands before its last entry, and that
  before_last : (n : ℕ) (es : List (K × X)) (e : K × X) → length es ≡ suc n
      → slice_get es n ≡ Some e → es ≡ take n es ++ e ∷ []
  before_last n [] e len last = absurd (cc)
  before_last zero (f ∷ []) e len last = let same : f ≡ e = cc in ap (λ x. x ∷ []) same
  before_last zero (f ∷ g ∷ es) e len last = absurd (omega arith)
  before_last (suc n) (f ∷ es) e len last = ap (λ l. f ∷ l) (before_last n es e (omega arith) last)

  pub last-split : (es : List (K × X)) (e : K × X) → last_entry es ≡ Some e
      → es ≡ take (length es - 1) es ++ e ∷ []
  last-split [] e last = absurd (cc)
  last-split (f ∷ es) e last =
      let one_less : length (f ∷ es) - 1 ≡ length es = omega arith in
      before_last (length (f ∷ es) - 1) (f ∷ es) e (omega arith) last

  -- the last entry is one of what the entries hold, and goes with it
  pub last-among : (es : List (K × X)) (e : K × X) → last_entry es ≡ Some e
      → Among (values_of (take (length es - 1) es)) e.1 (values_of es)
  last-among es e last =
      let front = values_of (take (length es - 1) es) in
      record {
        front = front;
        back = [];
        before = sym (append-nil front);
        after = ap values_of (last-split es e last) ∙ map-append (λ (f : K × X). f.1) (take (length es - 1) es) (e ∷ []);
      }

  -- where nothing stands last, there is nothing
  pub last-none : (es : List (K × X)) → last_entry es ≡ None → es ≡ []
  last-none [] none = refl
  last-none (e ∷ es) none = absurd (some (length es) (e ∷ es) refl (rw (less es) at none))
    where
      less : (es : List (K × X)) → suc (length es) - 1 ≡ length es
      less es = omega arith

      some : (n : ℕ) (fs : List (K × X)) → length fs ≡ suc n → slice_get fs n ≡ None → ⊥
      some n [] len none = cc
      some zero (f ∷ fs) len none = cc
      some (suc n) (f ∷ fs) len none = some n fs (omega arith) none

  -- a key that isn't there takes nothing out
  pub removed-unknown : (test : K → Bool) (es : List (K × X)) → lookup test es ≡ None → remove_entry test es ≡ es
  removed-unknown test [] unknown = refl
  removed-unknown test (e ∷ es) unknown = here (test e.0) unknown (removed-unknown test es)
    where
      here : (b : Bool) → cond b (Some e.1) (lookup test es) ≡ None → (lookup test es ≡ None → remove_entry test es ≡ es)
          → cond b es (e ∷ remove_entry test es) ≡ e ∷ es
      here true h later = absurd (cc)
      here false h later = ap (λ l. e ∷ l) (later h)

  -- a key that isn't there is put in front, and the last of as many as there may be goes
  pub put-new : (eq : K → K → Bool) (cache : LruCache K X) (key : K) (a : X) → lookup (eq key) cache.entries ≡ None
      → put_entries eq cache key a ≡ (key, a) ∷ take (cache.cap - 1) cache.entries
  put-new eq cache key a unknown = rw (entry-none (eq key) cache.entries unknown) refl

  -- where there is room for it, nothing goes
  pub put-first : (eq : K → K → Bool) (cache : LruCache K X) (key : K) (a : X) → lookup (eq key) cache.entries ≡ None
      → length cache.entries < cache.cap → put_entries eq cache key a ≡ (key, a) ∷ cache.entries
  put-first eq cache key a unknown room =
      put-new eq cache key a unknown ∙ ap (λ l. (key, a) ∷ l) (take_all (cache.cap - 1) cache.entries (omega arith))

  -- a key that isn't there isn't in what stands first either
  pub unknown-take : (test : K → Bool) (n : ℕ) (es : List (K × X)) → lookup test es ≡ None → lookup test (take n es) ≡ None
  unknown-take test zero es unknown = refl
  unknown-take test (suc n) [] unknown = refl
  unknown-take test (suc n) (e ∷ es) unknown = here (test e.0) unknown (unknown-take test n es)
    where
      here : (b : Bool) → cond b (Some e.1) (lookup test es) ≡ None → (lookup test es ≡ None → lookup test (take n es) ≡ None)
          → cond b (Some e.1) (lookup test (take n es)) ≡ None
      here true h later = absurd (cc)
      here false h later = later h
