-- The first of least rank: what it is, and how a loop over the list comes to it.
use Rattle.std.proofs.Common.{◌≡◌, ℕ, zero, suc, ◌<◌, ◌≤◌, Bool, true, false, cond, leb, ltb, Option, None, Some, option_map, List, [], ◌∷◌, ◌++◌, length, slice_get, refl, ap, ◌∙◌, arith, map, get_or, take}
use Rattle.std.proofs.Math.Seq.{take-suc}
use Rattle.std.proofs.lemmas.Bool.{leb-true, leb-false}
use Rattle.std.proofs.lemmas.Bool.Decides.{nat_tests}
use Rattle.std.proofs.lemmas.List.{map-append, length-map, length-take-le}
use Rattle.std.proofs.lemmas.Option.{slice_get_within}
use Rattle.std.specs.Prelude.{IfSome}
use Rattle.etagere_base.specs.Least.{Found, IsFirstLeast, better, first_least, first_or, one_later}

-- what is the first least of the rest stays so behind an element without a rank
is_first_least-skip : (ranks : List (Option ℕ)) (found : Found) → IsFirstLeast ranks found
    → IsFirstLeast (None ∷ ranks) (one_later found)
is_first_least-skip ranks found p = record { at = p.at; least = least; first = first }
  where
    least : (n r : ℕ) → slice_get (None ∷ ranks) n ≡ Some (Some r) → found.rank ≤ r
    least zero r e = cc
    least (suc n) r e = p.least n r e

    first : (n r : ℕ) → slice_get (None ∷ ranks) n ≡ Some (Some r) → n < suc found.number → found.rank < r
    first zero r e h = cc
    first (suc n) r e h = p.first n r e (omega arith)

-- a rank stands first where nothing after it ranks lower
is_first_least-here : (rank : ℕ) (ranks : List (Option ℕ))
    → ((n r : ℕ) → slice_get ranks n ≡ Some (Some r) → rank ≤ r)
    → IsFirstLeast (Some rank ∷ ranks) (record { number = 0; rank = rank })
is_first_least-here rank ranks above = record { at = refl; least = least; first = λ n r e h. absurd (omega arith) }
  where
    least : (n r : ℕ) → slice_get (Some rank ∷ ranks) n ≡ Some (Some r) → rank ≤ r
    least zero r e = let same : rank ≡ r = cc in omega arith
    least (suc n) r e = above n r e

-- what is the first least of the rest stays so behind a taller rank
is_first_least-later : (rank : ℕ) (ranks : List (Option ℕ)) (found : Found) → found.rank < rank
    → IsFirstLeast ranks found → IsFirstLeast (Some rank ∷ ranks) (one_later found)
is_first_least-later rank ranks found lower p = record { at = p.at; least = least; first = first }
  where
    least : (n r : ℕ) → slice_get (Some rank ∷ ranks) n ≡ Some (Some r) → found.rank ≤ r
    least zero r e = let same : rank ≡ r = cc in omega arith
    least (suc n) r e = p.least n r e

    first : (n r : ℕ) → slice_get (Some rank ∷ ranks) n ≡ Some (Some r) → n < suc found.number → found.rank < r
    first zero r e h = let same : rank ≡ r = cc in omega arith
    first (suc n) r e h = p.first n r e (omega arith)

-- in a list something was found, which is the first of least rank, or nothing was, and nothing has a rank
abbrev IsOutcome : List (Option ℕ) → Option Found → Type 0
IsOutcome ranks None = (n r : ℕ) → slice_get ranks n ≡ Some (Some r) → ⊥
IsOutcome ranks (Some found) = IsFirstLeast ranks found

-- nothing has a rank in a list of none
outcome-end : (n r : ℕ) → slice_get {X = Option ℕ} [] n ≡ Some (Some r) → ⊥
outcome-end n r e = cc

-- nothing has a rank behind an element without one where nothing has in the rest
none-skip : (ranks : List (Option ℕ)) → ((n r : ℕ) → slice_get ranks n ≡ Some (Some r) → ⊥) → (n r : ℕ)
    → slice_get (None ∷ ranks) n ≡ Some (Some r) → ⊥
none-skip ranks none zero r e = cc
none-skip ranks none (suc n) r e = none n r e

-- an element without a rank shifts the outcome of the rest
outcome-skip : (ranks : List (Option ℕ)) (o : Option Found) → IsOutcome ranks o
    → IsOutcome (None ∷ ranks) (option_map one_later o)
outcome-skip ranks None p = none-skip ranks p
outcome-skip ranks (Some found) p = is_first_least-skip ranks found p

-- the lower of a first rank and the one found after it is the first least
outcome-lower : (rank : ℕ) (ranks : List (Option ℕ)) (found : Found) (b : Bool) → leb rank found.rank ≡ b
    → IsFirstLeast ranks found
    → IsFirstLeast (Some rank ∷ ranks) (cond b (record { number = 0; rank = rank }) (one_later found))
outcome-lower rank ranks found true h p =
    let lower : rank ≤ found.rank = leb-true rank found.rank h in
    is_first_least-here rank ranks (λ n r e. let above : found.rank ≤ r = p.least n r e in omega arith)
outcome-lower rank ranks found false h p = is_first_least-later rank ranks found (leb-false rank found.rank h) p

-- an element with a rank in front of the outcome of the rest
outcome-or : (rank : ℕ) (ranks : List (Option ℕ)) (o : Option Found) → IsOutcome ranks o
    → IsFirstLeast (Some rank ∷ ranks) (first_or rank o)
outcome-or rank ranks None p = is_first_least-here rank ranks (λ n r e. absurd (p n r e))
outcome-or rank ranks (Some found) p = outcome-lower rank ranks found (leb rank found.rank) refl p

-- the outcome of a search for the first least
first_least-outcome : (ranks : List (Option ℕ)) → IsOutcome ranks (first_least ranks)
first_least-outcome [] = outcome-end
first_least-outcome (None ∷ ranks) = outcome-skip ranks (first_least ranks) (first_least-outcome ranks)
first_least-outcome (Some rank ∷ ranks) = outcome-or rank ranks (first_least ranks) (first_least-outcome ranks)

-- what is found is the first of least rank
pub first_least-is : (ranks : List (Option ℕ)) (found : Found) → first_least ranks ≡ Some found
    → IsFirstLeast ranks found
first_least-is ranks found e = rw e at (first_least-outcome ranks)

-- where nothing is found, nothing has a rank
pub first_least-none : (ranks : List (Option ℕ)) → first_least ranks ≡ None → (n r : ℕ)
    → slice_get ranks n ≡ Some (Some r) → ⊥
first_least-none ranks e = rw e at (first_least-outcome ranks)

-- an element with its number, where it has a rank
found_at : ℕ → Option ℕ → Option Found
found_at n rank = option_map (λ r. record { number = n; rank = r }) rank

-- one element further to the right
found_at-later : (n : ℕ) (rank : Option ℕ) → option_map one_later (found_at n rank) ≡ found_at (suc n) rank
unfolding found_at
found_at-later n None = refl
found_at-later n (Some r) = refl

-- one of two is the same one, seen from one place further to the left
later_if : (b : Bool) (x y : Found)
    → option_map one_later (cond b (Some y) (Some x)) ≡ cond b (Some (one_later y)) (Some (one_later x))
later_if true x y = refl
later_if false x y = refl

-- one place further to the left, the first of two is the first of the two seen from there
better-later : (a b : Option Found)
    → option_map one_later (better a b) ≡ better (option_map one_later a) (option_map one_later b)
better-later None b = refl
better-later (Some x) None = refl
better-later (Some x) (Some y) = later_if (ltb y.rank x.rank) x y

-- a rank against the first of two is the first of the rank against the one and the other
first_or-one : (rank : ℕ) (y : Found)
    → Some (first_or rank (Some y)) ≡ better (Some (first_or rank None)) (Some (one_later y))
first_or-one rank y = grind (arith, nat_tests)

-- a rank against the first of two, by the tests that decide it
first_or-two : (rank : ℕ) (x y : Found) (b c : Bool) → ltb y.rank x.rank ≡ b → leb rank x.rank ≡ c
    → Some (first_or rank (cond b (Some y) (Some x))) ≡ better (Some (cond c (record { number = 0; rank = rank }) (one_later x))) (Some (one_later y))
first_or-two rank x y true true p q = first_or-one rank y
first_or-two rank x y true false p q = grind (arith, nat_tests)
first_or-two rank x y false true p q = grind (arith, nat_tests)
first_or-two rank x y false false p q = grind (arith, nat_tests)

-- a rank against the first of two, which may be missing
first_or-of : (rank : ℕ) (a b : Option Found)
    → Some (first_or rank (better a b)) ≡ better (Some (first_or rank a)) (option_map one_later b)
first_or-of rank None None = refl
first_or-of rank None (Some y) = first_or-one rank y
first_or-of rank (Some x) None = refl
first_or-of rank (Some x) (Some y) = first_or-two rank x y (ltb y.rank x.rank) (leb rank x.rank) refl refl

-- one more rank at the end of a list stands against what was found before it
first_least-more : (ranks : List (Option ℕ)) (rank : Option ℕ)
    → first_least (ranks ++ rank ∷ []) ≡ better (first_least ranks) (option_map (λ r. record { number = length ranks; rank = r }) rank)
unfolding found_at
first_least-more [] None = refl
first_least-more [] (Some r) = refl
first_least-more (None ∷ ranks) rank =
    ap (option_map one_later) (first_least-more ranks rank)
    ∙ (better-later (first_least ranks) (found_at (length ranks) rank)
    ∙ ap (better (option_map one_later (first_least ranks))) (found_at-later (length ranks) rank))
first_least-more (Some q ∷ ranks) rank =
    ap (λ (o : Option Found). Some (first_or q o)) (first_least-more ranks rank)
    ∙ (first_or-of q (first_least ranks) (found_at (length ranks) rank)
    ∙ ap (better (Some (first_or q (first_least ranks)))) (found_at-later (length ranks) rank))

-- one more element stands against the best of those before it
pub best-more : {X : Type 0} (rank : X → Option ℕ) (xs : List X) (n : ℕ) (d : X) → n < length xs
    → first_least (map rank (take (suc n) xs)) ≡ better (first_least (map rank (take n xs))) (option_map (λ r. record { number = n; rank = r }) (rank (get_or xs n d)))
best-more rank xs n d h =
    let ranks : map rank (take (suc n) xs) ≡ map rank (take n xs) ++ rank (get_or xs n d) ∷ [] = ap (map rank) (take-suc xs n d h) ∙ map-append rank (take n xs) (get_or xs n d ∷ []) in
    let count : length (map rank (take n xs)) ≡ n = length-map (take n xs) rank ∙ length-take-le n xs (omega arith) in
    rw (ranks, first_least-more, count) refl

-- the best of a list stands in it
pub best-within : {X : Type 0} (rank : X → Option ℕ) (xs : List X) → IfSome (option_map (λ found. found.number) (first_least (map rank xs))) (λ n. n < length xs)
best-within rank xs = by_found (first_least (map rank xs)) refl
  where
    by_found : (o : Option Found) → first_least (map rank xs) ≡ o → IfSome (option_map (λ found. found.number) o) (λ n. n < length xs)
    by_found None e = tt
    by_found (Some found) e =
        omega (arith, slice_get_within (map rank xs) found.number (Some found.rank) (first_least-is (map rank xs) found e).at, length-map xs rank)
