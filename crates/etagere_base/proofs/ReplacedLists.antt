-- Lists with one element in view, which is read or split: what stands before it, the element, and what stands after it.
use Rattle.std.proofs.Common.{◌≡◌, ℕ, suc, Some, List, [], ◌∷◌, ◌++◌, length, refl, ap, arith, zero, subst, take}
use Rattle.std.specs.Prelude.{slice_get}
use Rattle.etagere_base.specs.Lists.{replaced_at}

-- the list has this element at this number, between a front and a back
pub record IsAt {X : Type 0} (xs : List X) (n : ℕ) (x : X) : Type 0 where
  pub front : List X
  pub back : List X
  pub whole : xs ≡ front ++ x ∷ back
  pub number : length front ≡ n
  pub get : slice_get xs n ≡ Some x
  pub before : take n xs ≡ front
  pub split : (pieces : X → List X) → replaced_at n pieces xs ≡ front ++ (pieces x ++ back)

-- the first element stands between nothing and the others
abbrev pub at-start : {X : Type 0} (x : X) (xs : List X) → IsAt (x ∷ xs) zero x
at-start x xs =
    record { front = []; back = xs; whole = refl; number = refl; get = refl; before = refl; split = λ pieces. refl }

-- an element of the others stands one further behind the first
abbrev pub at-behind : {X : Type 0} (x y : X) (ys : List X) (n : ℕ) → IsAt ys n x → IsAt (y ∷ ys) (suc n) x
at-behind x y ys n at =
    record {
      front = y ∷ at.front;
      back = at.back;
      whole = ap (λ zs. y ∷ zs) at.whole;
      number = omega (arith, at.number);
      get = at.get;
      before = ap (λ zs. y ∷ zs) at.before;
      split = λ pieces. ap (λ zs. y ∷ zs) (at.split pieces);
    }

-- an element that is read stands between a front and a back
pub split-at : {X : Type 0} (xs : List X) (n : ℕ) (x : X) → slice_get xs n ≡ Some x → IsAt xs n x
split-at [] n x h = cc
split-at (y ∷ ys) zero x h = let same : y ≡ x = cc in subst (IsAt (y ∷ ys) zero) same (at-start y ys)
split-at (y ∷ ys) (suc n) x h = at-behind x y ys n (split-at ys n x h)

-- the element between a front and a back has the number of those before it
pub slice_get-append : {X : Type 0} (front : List X) (x : X) (back : List X) (n : ℕ) → length front ≡ n → slice_get (front ++ x ∷ back) n ≡ Some x
slice_get-append front x back n h = rw (← h) (at_length front x back)
  where
    at_length : {X : Type 0} (front : List X) (x : X) (back : List X) → slice_get (front ++ x ∷ back) (length front) ≡ Some x
    at_length [] x back = refl
    at_length (y ∷ front) x back = at_length front x back
