-- The first element that passes a test: its number, and the list with it changed.
use Rattle.std.proofs.Common.{◌≡◌, ℕ, suc, ◌+◌, Bool, true, false, cond, not, ◌||◌, Option, None, Some, List, [], ◌∷◌, ◌++◌, length, refl, ap, ◌∙◌, subst, sym, arith}
use Rattle.std.proofs.lemmas.Bool.{cond-true, cond-false, or_from, or_parts}
use Rattle.std.proofs.lemmas.List.{set_at}
use Rattle.std.proofs.lemmas.List.Folds.{list_any-append}
use Rattle.std.specs.List.{list_any, position_or_len}
use Rattle.std.specs.Option.{option_or}
use Rattle.std.specs.Prelude.{find, slice_get, slice_set, position, nat_lt, option_map, is_some}
use Rattle.etagere_base.specs.Lists.{at_first}
use Rattle.etagere_base.proofs.ReplacedLists.{IsAt, at-behind, at-start}

-- a number below a length, one further back
one_back : (k n : ℕ) → nat_lt (1 + k) (suc n) ≡ nat_lt k n
one_back k n = grind arith

-- the first number is below the length of a list with an element
zero_below : (n : ℕ) → nat_lt 0 (suc n) ≡ true
zero_below n = grind arith

-- the first place by cases on the first element's test
position_step : (b : Bool) (k n : ℕ) → cond (nat_lt (cond (not b) (1 + k) 0) (suc n)) (Some (cond (not b) (1 + k) 0)) None ≡ cond b (Some 0) (option_map suc (cond (nat_lt k n) (Some k) None))
position_step true k n = cond-true _ _ _ (zero_below n)
position_step false k n = grind (arith, one_back k n)

-- the first element of a list that passes a test, at its number
pub record IsFirst {X : Type 0} (test : X → Bool) (xs : List X) (n : ℕ) : Type 0 where
  pub first : X
  pub at : IsAt xs n first
  pub fails : list_any test at.front ≡ false
  pub passes : test first ≡ true

module _ {X : Type 0} (test : X → Bool) where
  -- the first element is the first one to pass, or one behind it is
  pub position-cons : (x : X) (xs : List X) → position test (x ∷ xs) ≡ cond (test x) (Some 0) (option_map suc (position test xs))
  position-cons x xs = position_step (test x) (position_or_len test xs) (length xs)

  -- there is a first place where the first element passes or one behind it does
  is_some_step : (b : Bool) (o : Option ℕ) (any : Bool) → is_some o ≡ any → is_some (cond b (Some 0) (option_map suc o)) ≡ (b || any)
  is_some_step true o any h = refl
  is_some_step false None any h = h
  is_some_step false (Some n) any h = h

  -- there is a first element that passes where one does
  pub is_some-position : (xs : List X) → is_some (position test xs) ≡ list_any test xs
  is_some-position [] = refl
  is_some-position (x ∷ xs) = ap is_some (position-cons x xs) ∙ is_some_step (test x) (position test xs) (list_any test xs) (is_some-position xs)

  -- the first element that passes is one that does, or the first of the others behind one that fails
  first_step : (x : X) (xs : List X) (b : Bool) (o : Option ℕ) → test x ≡ b → o ≡ position test xs
      → ((m : ℕ) → position test xs ≡ Some m → IsFirst test xs m)
      → (n : ℕ) → cond b (Some 0) (option_map suc o) ≡ Some n → IsFirst test (x ∷ xs) n
  first_step x xs true o t e rest n h =
      let here : 0 ≡ n = cc in
      subst (IsFirst test (x ∷ xs)) here (record { first = x; at = at-start x xs; fails = refl; passes = t })
  first_step x xs false None t e rest n h = absurd (cc)
  first_step x xs false (Some m) t e rest n h =
      let s = rest m (sym e) in
      let here : suc m ≡ n = cc in
      subst (IsFirst test (x ∷ xs)) here
      (record {
        first = s.first;
        at = at-behind s.first x xs m s.at;
        fails = or_from (test x) (list_any test s.at.front) t s.fails;
        passes = s.passes;
      })

  -- what is found is the first element that passes
  pub first-at : (xs : List X) (n : ℕ) → position test xs ≡ Some n → IsFirst test xs n
  first-at [] n h = absurd (cc)
  first-at (x ∷ xs) n h = first_step x xs (test x) (position test xs) refl refl (first-at xs) n (sym (position-cons x xs) ∙ h)

  -- the first element that passes stands behind those that fail
  pub position-behind : (front : List X) (x : X) (back : List X) → list_any test front ≡ false → test x ≡ true
      → position test (front ++ x ∷ back) ≡ Some (length front)
  position-behind [] x back fails passes = position-cons x back ∙ cond-true _ _ _ passes
  position-behind (y ∷ front) x back fails passes =
      let parts = or_parts (test y) (list_any test front) fails in
      position-cons y (front ++ x ∷ back) ∙ cond-false _ _ _ parts.0 ∙ ap (option_map suc) (position-behind front x back parts.1 passes)

  -- where no element passes, none of a front does, nor the one behind it
  pub list_any-parts : (front : List X) (x : X) (back : List X) → list_any test (front ++ x ∷ back) ≡ false
      → (list_any test front ≡ false) × (test x ≡ false)
  list_any-parts front x back none =
      let parts = or_parts (list_any test front) (list_any test (x ∷ back)) (sym (list_any-append test front (x ∷ back)) ∙ none) in
      (parts.0, (or_parts (test x) (list_any test back) parts.1).0)

  -- changing the first element that passes a test, where it is known
  pub at_first-split : (change : X → X) (front : List X) (x : X) (back : List X) → list_any test front ≡ false → test x ≡ true
      → at_first test change (front ++ x ∷ back) ≡ front ++ change x ∷ back
  at_first-split change [] x back fails passes = cond-true _ _ _ passes
  at_first-split change (y ∷ front) x back fails passes =
      let parts = or_parts (test y) (list_any test front) fails in
      cond-false _ _ _ parts.0 ∙ ap (λ (l : List X). y ∷ l) (at_first-split change front x back parts.1 passes)

  -- changing the first element that passes a test is writing it at its number
  pub at_first-set : (change : X → X) (xs : List X) (n : ℕ) (x : X) → position test xs ≡ Some n → slice_get xs n ≡ Some x
      → at_first test change xs ≡ slice_set xs n (change x)
  at_first-set change xs n x p g =
      let s = first-at xs n p in
      let same : s.first ≡ x = cc (s.at.get, g) in
      ap (at_first test change) s.at.whole
      ∙ at_first-split change s.at.front s.first s.at.back s.fails s.passes
      ∙ sym (set_at s.at.front s.first s.at.back (change s.first) n s.at.number)
      ∙ ap (λ (l : List X). slice_set l n (change s.first)) (sym s.at.whole)
      ∙ ap (λ (y : X). slice_set xs n (change y)) same

-- nothing is found where nothing passes
pub find-none : {X : Type 0} (test : X → Bool) (xs : List X) → list_any test xs ≡ false → find test xs ≡ None
find-none test [] h = refl
find-none test (x ∷ xs) h =
    let parts = or_parts (test x) (list_any test xs) h in
    rw (parts.0) (find-none test xs parts.1)

-- what is found first stays the first, whatever stands behind it
pub found_first : {X Y : Type 0} (f : X → Y) (o p : Option X) → is_some (option_map f o) ≡ true → option_map f (option_or o p) ≡ option_map f o
found_first f None p h = absurd (cc)
found_first f (Some x) p h = refl

-- a function gives something of what is there
pub is_some-map : {X Y : Type 0} (f : X → Y) (o : Option X) → is_some (option_map f o) ≡ is_some o
is_some-map f None = refl
is_some-map f (Some x) = refl
