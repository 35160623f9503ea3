-- What is left of a map where a test refuses some keys.
use Rattle.std.proofs.Common.{◌≡◌, Bool, true, false, List, [], ◌∷◌, ◌++◌, length, map, reverse, refl, ap, sym, ◌∙◌, subst, arith}
use Rattle.std.specs.Borrow.{Bor}
use Rattle.std.specs.Cmp.{IsEquivalence}
use Rattle.std.specs.Fn.{Mut}
use Rattle.std.specs.List.{AllByRecursion, AllZip, IsDistinct, items_where_true}
use Rattle.std.specs.Map.{keys_of, remove_entry}
use Rattle.std.proofs.lemmas.List.{append_assoc, append-nil, length-map, length-reverse, map-append, reverse-append, reverse-reverse}
use mathlib.Core.Path.{fun_ext}
use Rattle.glyph_map.specs.Calls.{without_key}
use Rattle.glyph_map.specs.Private.Refusing.{Refuses}
use Rattle.glyph_map.specs.Retaining.{AreClonesEqual, Retains, refused_keys, without_keys}
use Rattle.glyph_map.specs.State.{Held, MapState, pairs_of}

-- turned round, a list ends with what stood first
pub first-last : {X : Type 0} (x : X) (xs ys : List X) → reverse (x ∷ xs) ++ ys ≡ reverse xs ++ x ∷ ys
first-last x xs ys = ap (λ l. l ++ ys) (reverse-append (x ∷ []) xs) ∙ append_assoc (reverse xs) (x ∷ []) ys

pub reverse-map : {X Y : Type 0} (f : X → Y) (xs : List X) → reverse (map f xs) ≡ map f (reverse xs)
reverse-map f [] = refl
reverse-map f (x ∷ xs) =
    reverse-append (f x ∷ []) (map f xs) ∙ ap (λ l. l ++ f x ∷ []) (reverse-map f xs)
    ∙ sym (map-append f (reverse xs) (x ∷ [])) ∙ ap (map f) (sym (reverse-append (x ∷ []) xs))

-- a test that each key fails fails at the one in the midst, and at the others
midst-fails : {K X : Type 0} (test : K → Bool) (xs : List (K × X)) (e : K × X) (ys : List (K × X))
    → AllByRecursion (λ (key : K). test key ≡ false) (keys_of (xs ++ e ∷ ys)) → test e.0 ≡ false
midst-fails test [] e ys all = all.0
midst-fails test (x ∷ xs) e ys all = midst-fails test xs e ys all.1

others-fail : {K X : Type 0} (test : K → Bool) (xs : List (K × X)) (e : K × X) (ys : List (K × X))
    → AllByRecursion (λ (key : K). test key ≡ false) (keys_of (xs ++ e ∷ ys)) → AllByRecursion (λ (key : K). test key ≡ false) (keys_of (xs ++ ys))
others-fail test [] e ys all = all.1
others-fail test (x ∷ xs) e ys all = (all.0, others-fail test xs e ys all.1)

module _ {K X : Type 0} (eq : K → K → Bool) (laws : IsEquivalence eq) where
  -- entries without these keys, which are taken out one after another
  abbrev pub without : List (K × X) → List K → List (K × X)
  without entries [] = entries
  without entries (key ∷ keys) = without (remove_entry (eq key) entries) keys

  -- keys that differ still do without one of them
  distinct-without : (xs : List (K × X)) (e : K × X) (ys : List (K × X)) → IsDistinct eq (keys_of (xs ++ e ∷ ys)) → IsDistinct eq (keys_of (xs ++ ys))
  unfolding IsDistinct
  distinct-without [] e ys distinct = distinct.1
  distinct-without (x ∷ xs) e ys distinct = (others-fail (eq x.0) xs e ys distinct.0, distinct-without xs e ys distinct.1)

  -- a key in the midst is taken out there
  midst-removed : (xs : List (K × X)) (e : K × X) (ys : List (K × X)) → IsDistinct eq (keys_of (xs ++ e ∷ ys)) → remove_entry (eq e.0) (xs ++ e ∷ ys) ≡ xs ++ ys
  unfolding IsDistinct
  midst-removed [] e ys distinct = rw (laws.refl e.0) refl
  midst-removed (x ∷ xs) e ys distinct =
      let differs : eq e.0 x.0 ≡ false = laws.symm e.0 x.0 ∙ midst-fails (eq x.0) xs e ys distinct.0 in
      rw differs (ap (λ (l : List (K × X)). x ∷ l) (midst-removed xs e ys distinct.1))

  pub left-in-order : (answers : List Bool) (back kept : List (K × X)) → length answers ≡ length back → IsDistinct eq (keys_of (reverse back ++ kept))
      → without (reverse back ++ kept) (refused_keys answers (keys_of back)) ≡ reverse (items_where_true answers back) ++ kept
  left-in-order [] [] kept long distinct = refl
  left-in-order [] (e ∷ back) kept long distinct = absurd (omega arith)
  left-in-order (b ∷ answers) [] kept long distinct = absurd (omega arith)
  left-in-order (true ∷ answers) (e ∷ back) kept long distinct =
      let turned = first-last e back kept in
      ap (λ (l : List (K × X)). without l (refused_keys answers (keys_of back))) turned
      ∙ left-in-order answers back (e ∷ kept) (omega arith) (subst (λ (l : List (K × X)). IsDistinct eq (keys_of l)) turned distinct)
      ∙ sym (first-last e (items_where_true answers back) kept)
  left-in-order (false ∷ answers) (e ∷ back) kept long distinct =
      let turned = first-last e back kept in
      let still = subst (λ (l : List (K × X)). IsDistinct eq (keys_of l)) turned distinct in
      ap (λ (l : List (K × X)). without (remove_entry (eq e.0) l) (refused_keys answers (keys_of back))) turned
      ∙ ap (λ (l : List (K × X)). without l (refused_keys answers (keys_of back))) (midst-removed (reverse back) e kept still)
      ∙ left-in-order answers back kept (omega arith) (distinct-without (reverse back) e kept still)

-- what equals a key asks as the key does
same-test : {K : Type 0} (eq : K → K → Bool) (key other : K) → IsEquivalence eq → eq key other ≡ true → eq other ≡ eq key
same-test {K} eq key other laws same = fun_ext (λ (z : K). sym (laws.congr key other z same))

module _ {K V : Type 0} (eq : K → K → Bool) (laws : IsEquivalence eq) where
  left-entries : (state : MapState K V) (keys : List K) → (without_keys eq state keys).entries ≡ without eq laws state.entries keys
  left-entries state [] = refl
  left-entries state (key ∷ keys) = left-entries (without_key (eq key) state) keys

  -- clones of keys take out what the keys do
  without-clones : (is_clone : K → K → Type 0) → AreClonesEqual is_clone eq → (keys clones : List K) → AllZip is_clone keys clones
      → (state : MapState K V) → without_keys eq state clones ≡ without_keys eq state keys
  without-clones is_clone equal [] [] cloned state = refl
  without-clones is_clone equal [] (c ∷ clones) cloned state = absurd cloned
  without-clones is_clone equal (k ∷ keys) [] cloned state = absurd cloned
  without-clones is_clone equal (k ∷ keys) (c ∷ clones) cloned state =
      ap (λ (test : K → Bool). without_keys eq (without_key test state) clones) (same-test eq k c laws (equal k c cloned.0))
      ∙ without-clones is_clone equal keys clones cloned.1 (without_key (eq k) state)

  paired-keys : (entries : List (K × Held V)) → keys_of (pairs_of entries) ≡ keys_of entries
  paired-keys [] = refl
  paired-keys (e ∷ entries) = ap (λ (l : List K). e.0 ∷ l) (paired-keys entries)

  pub retained : {F : Type 0} (calls : Mut F (Bor K × (Bor V × Unit {0})) Bool) (is_clone : K → K → Type 0) (test : F) (clones : List K)
      (old new : MapState K V) → IsDistinct eq (keys_of old.entries) → Refuses calls is_clone test (reverse (pairs_of old.entries)) clones
      → AreClonesEqual is_clone eq → new ≡ without_keys eq old clones → Retains calls eq test old new
  retained calls is_clone test clones old new distinct refuses equal is =
      let es = old.entries in
      let back : List (K × Held V) = reverse es in
      let key_of : K × V → K = λ x. x.0 in
      let key_at : K × Held V → K = λ x. x.0 in
      let pair_of : K × Held V → K × V = λ x. (x.0, x.1.value) in
      let long : length refuses.answers ≡ length es =
      omega (arith, refuses.each, length-reverse (pairs_of es), length-map es pair_of) in
      let keys : keys_of (reverse (pairs_of es)) ≡ reverse (keys_of es) = sym (reverse-map key_of (pairs_of es)) ∙ ap reverse (paired-keys es) in
      let left : new ≡ without_keys eq old (refused_keys refuses.answers (reverse (keys_of es))) =
      is ∙ without-clones is_clone equal (refused_keys refuses.answers (keys_of (reverse (pairs_of es)))) clones refuses.cloned old
      ∙ ap (λ (l : List K). without_keys eq old (refused_keys refuses.answers l)) keys in
      let whole : reverse back ++ [] ≡ es = append-nil (reverse back) ∙ reverse-reverse es in
      record {
        answers = refuses.answers;
        last = refuses.last;
        each = long;
        asked = refuses.asked;
        left = left;
        order = ap (λ (s : MapState K V). s.entries) left
            ∙ left-entries old (refused_keys refuses.answers (reverse (keys_of es)))
            ∙ ap (λ (l : List K). without eq laws es (refused_keys refuses.answers l)) (reverse-map key_at es)
            ∙ ap (λ (l : List (K × Held V)). without eq laws l (refused_keys refuses.answers (keys_of back))) (sym whole)
            ∙ left-in-order eq laws refuses.answers back [] (omega (arith, long, length-reverse es))
            (subst (λ (l : List (K × Held V)). IsDistinct eq (keys_of l)) (sym whole) distinct)
            ∙ append-nil (reverse (items_where_true refuses.answers back));
      }
