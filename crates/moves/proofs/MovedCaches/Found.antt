-- What is found under ids among pairs: where each pair's id stands once among the ids, what is found for them comes to what
-- the pairs do.
use Rattle.std.proofs.Common.{◌≡◌, ℕ, ◌+◌, ◌≤◌, Bool, true, false, cond, Option, Some, None, List, [], ◌∷◌, map, refl, ap, ◌∙◌, arith}
use Rattle.std.proofs.lemmas.Bool.{eqb-true}
use Rattle.std.specs.List.{AllByRecursion, IsDistinct, cons_option, filter_map}
use Rattle.std.specs.Map.{keys_of, lookup}
use Rattle.std.specs.Prelude.{IfSome, nat_eq, option_map}
use Rattle.etagere_base.proofs.EachLemmas.{Each-both, Each-weaken}
use Rattle.etagere_base.proofs.TimesLemmas.{times-here}
use Rattle.etagere_base.specs.Lists.{times, total}

-- a measure of what is found, 0 where nothing is
abbrev pub weigh : {X : Type 0} → (X → ℕ) → Option X → ℕ
weigh measure None = 0
weigh measure (Some x) = measure x

-- what stands under an id
abbrev pub under : {X : Type 0} → List (ℕ × X) → ℕ → Option X
under pairs id = lookup (nat_eq id) pairs

-- a test of equality one way or the other
same_test : (a b : ℕ) → nat_eq a b ≡ nat_eq b a
same_test a b = grind arith

-- under an id that no pair has stands nothing
pub under-absent : {X : Type 0} (id : ℕ) (pairs : List (ℕ × X)) → times id (keys_of pairs) ≡ 0 → under pairs id ≡ None
under-absent id [] none = refl
under-absent id (p ∷ ps) none = absent (nat_eq p.0 id) (nat_eq id p.0) (same_test id p.0) none (under-absent id ps)
  where
    absent : (b c : Bool) → c ≡ b → cond b 1 0 + times id (keys_of ps) ≡ 0 → (times id (keys_of ps) ≡ 0 → under ps id ≡ None)
        → cond c (Some p.1) (under ps id) ≡ None
    absent true c same h later = absurd (omega (arith, h))
    absent false true same h later = absurd (cc)
    absent false false same h later = later (omega (arith, h))

-- where pairs have facts of what stands in them, so has what stands under an id
pub under-each : {X : Type 0} (P : X → Type 0) (id : ℕ) (pairs : List (ℕ × X)) → AllByRecursion (λ (p : ℕ × X). P p.1) pairs
    → IfSome (under pairs id) P
under-each P id [] each = tt
under-each P id (p ∷ ps) each = by_test (nat_eq id p.0) (under-each P id ps each.1)
  where
    by_test : (b : Bool) → IfSome (under ps id) P → IfSome (cond b (Some p.1) (under ps id)) P
    by_test true rest = each.0
    by_test false rest = rest

-- a pair whose id is none of the ids changes nothing
total-without : {X : Type 0} (f : X → ℕ) (p : ℕ × X) (ps : List (ℕ × X)) (ids : List ℕ) → times p.0 ids ≡ 0
    → total (λ (id : ℕ). weigh f (under (p ∷ ps) id)) ids ≡ total (λ (id : ℕ). weigh f (under ps id)) ids
total-without f p ps [] none = refl
total-without f p ps (id ∷ ids) none =
    without (nat_eq id p.0) (total (λ (id : ℕ). weigh f (under (p ∷ ps) id)) ids) (total (λ (id : ℕ). weigh f (under ps id)) ids) none
    (total-without f p ps ids)
  where
    without : (b : Bool) (t u : ℕ) → cond b 1 0 + times p.0 ids ≡ 0 → (times p.0 ids ≡ 0 → t ≡ u)
        → weigh f (cond b (Some p.1) (under ps id)) + t ≡ weigh f (under ps id) + u
    without true t u h later = absurd (omega (arith, h))
    without false t u h later = ap (λ (n : ℕ). weigh f (under ps id) + n) (later (omega (arith, h)))

-- one whose id stands once among them adds what it has
total-with : {X : Type 0} (f : X → ℕ) (p : ℕ × X) (ps : List (ℕ × X)) (ids : List ℕ) → under ps p.0 ≡ None → times p.0 ids ≡ 1
    → total (λ (id : ℕ). weigh f (under (p ∷ ps) id)) ids ≡ f p.1 + total (λ (id : ℕ). weigh f (under ps id)) ids
total-with f p ps [] none once = absurd (omega (arith, once))
total-with f p ps (id ∷ ids) none once =
    with_one (nat_eq id p.0) (total (λ (id : ℕ). weigh f (under (p ∷ ps) id)) ids) (total (λ (id : ℕ). weigh f (under ps id)) ids) once
    (λ same. ap (λ (n : ℕ). weigh f (under ps n)) (eqb-true id p.0 same) ∙ ap (weigh f) none)
    (total-without f p ps ids) (total-with f p ps ids none)
  where
    with_one : (b : Bool) (t u : ℕ) → cond b 1 0 + times p.0 ids ≡ 1 → (b ≡ true → weigh f (under ps id) ≡ 0)
        → (times p.0 ids ≡ 0 → t ≡ u) → (times p.0 ids ≡ 1 → t ≡ f p.1 + u)
        → weigh f (cond b (Some p.1) (under ps id)) + t ≡ f p.1 + (weigh f (under ps id) + u)
    with_one true t u h nothing zero one = omega (arith, nothing refl, zero (omega (arith, h)))
    with_one false t u h nothing zero one = omega (arith, one (omega (arith, h)))

-- nothing stands under any id of no pairs
total-none : (ids : List ℕ) → total (λ (id : ℕ). 0) ids ≡ 0
total-none [] = refl
total-none (id ∷ ids) = omega (arith, total-none ids)

-- each pair's id stands once among the ids, and no two pairs have one id
pub found-total : {X : Type 0} (f : X → ℕ) (pairs : List (ℕ × X)) (ids : List ℕ)
    → AllByRecursion (λ (id : ℕ). times id ids ≡ 1) (keys_of pairs) → ((id : ℕ) → times id (keys_of pairs) ≤ 1)
    → total (λ (id : ℕ). weigh f (under pairs id)) ids ≡ total (λ (p : ℕ × X). f p.1) pairs
found-total f [] ids each once = total-none ids
found-total f (p ∷ ps) ids each once =
    total-with f p ps ids (under-absent p.0 ps (omega (arith, once p.0, times-here p.0 (keys_of ps)))) each.0
    ∙ ap (λ (n : ℕ). f p.1 + n) (found-total f ps ids each.1 (λ id. omega (arith, once id)))

-- numbers stand among themselves
pub present : (xs : List ℕ) → AllByRecursion (λ (x : ℕ). 1 ≤ times x xs) xs
present [] = tt
present (x ∷ xs) =
    (omega (arith, times-here x xs), Each-weaken (λ (y : ℕ). 1 ≤ times y xs) (λ (y : ℕ). 1 ≤ times y (x ∷ xs)) xs (λ y some. omega (arith, some)) (present xs))

-- numbers that stand once at most differ
pub once-distinct : (xs : List ℕ) → ((x : ℕ) → times x xs ≤ 1) → IsDistinct nat_eq xs
unfolding IsDistinct
once-distinct [] once = tt
once-distinct (x ∷ xs) once =
    (others xs (omega (arith, once x, times-here x xs)), once-distinct xs (λ y. omega (arith, once y)))
  where
    others : (ys : List ℕ) → times x ys ≡ 0 → AllByRecursion (λ (y : ℕ). nat_eq x y ≡ false) ys
    others [] none = tt
    others (y ∷ ys) none = (differ (nat_eq y x) (nat_eq x y) (same_test x y) none, others ys (omega (arith, none)))
      where
        differ : (b c : Bool) → c ≡ b → cond b 1 0 + times x ys ≡ 0 → c ≡ false
        differ true c same h = absurd (omega (arith, h))
        differ false c same h = same

-- what holds of the images of elements
pub each-map : {X Y : Type 0} (P : Y → Type 0) (h : X → Y) (xs : List X) → AllByRecursion P (map h xs) → AllByRecursion (λ (x : X). P (h x)) xs
each-map P h [] each = tt
each-map P h (x ∷ xs) each = (each.0, each-map P h xs each.1)

-- where no two pairs have one id, each stands under its own
pub under-own : {X : Type 0} (pairs : List (ℕ × X)) → ((id : ℕ) → times id (keys_of pairs) ≤ 1)
    → AllByRecursion (λ (p : ℕ × X). under pairs p.0 ≡ Some p.1) pairs
under-own [] once = tt
under-own {X = X} (p ∷ ps) once = (
  own (nat_eq p.0 p.0) (reflexive p.0),
  Each-weaken (λ (q : ℕ × X). (1 ≤ times q.0 (keys_of ps)) × (under ps q.0 ≡ Some q.1)) (λ (q : ℕ × X). under (p ∷ ps) q.0 ≡ Some q.1) ps
      (λ q both. later (nat_eq q.0 p.0) (under ps q.0) (Some q.1) (apart q.0 p.0 (times q.0 (keys_of ps)) both.0 (once q.0)) both.1)
      (Each-both (λ (q : ℕ × X). 1 ≤ times q.0 (keys_of ps)) (λ (q : ℕ × X). under ps q.0 ≡ Some q.1) ps
      (each-map (λ (id : ℕ). 1 ≤ times id (keys_of ps)) (λ (q : ℕ × X). q.0) ps (present (keys_of ps)))
      (under-own ps (λ id. omega (arith, once id)))),
)
  where
    own : (b : Bool) → b ≡ true → cond b (Some p.1) (under ps p.0) ≡ Some p.1
    own true h = refl
    own false h = absurd (cc)

    reflexive : (n : ℕ) → nat_eq n n ≡ true
    reflexive n = grind arith

    apart : (m n k : ℕ) → 1 ≤ k → cond (nat_eq n m) 1 0 + k ≤ 1 → nat_eq m n ≡ false
    apart m n k some few = grind arith

    later : (b : Bool) (o r : Option X) → b ≡ false → o ≡ r → cond b (Some p.1) o ≡ r
    later true o r h rest = absurd (cc)
    later false o r h rest = rest

-- what holds of what a test keeps
pub each-filter_map : {X Y : Type 0} (P : X → Type 0) (Q : Y → Type 0) (f : X → Option Y) (xs : List X)
    → ((x : X) (y : Y) → P x → f x ≡ Some y → Q y) → AllByRecursion P xs → AllByRecursion Q (filter_map f xs)
each-filter_map P Q f [] then each = tt
each-filter_map {Y = Y} P Q f (x ∷ xs) then each = by_option (f x) refl (each-filter_map P Q f xs then each.1)
  where
    by_option : (o : Option Y) → f x ≡ o → AllByRecursion Q (filter_map f xs) → AllByRecursion Q (cons_option o (filter_map f xs))
    by_option None is rest = rest
    by_option (Some y) is rest = (then x y each.0 is, rest)

-- what two tests keep that answer alike
pub filter_map-same : {X Y : Type 0} (f g : X → Option Y) → ((x : X) → f x ≡ g x) → (xs : List X) → filter_map f xs ≡ filter_map g xs
filter_map-same f g same [] = refl
filter_map-same f g same (x ∷ xs) = ap (λ o. cons_option o (filter_map f xs)) (same x) ∙ ap (cons_option (g x)) (filter_map-same f g same xs)

-- where something is made of what is found, something is found
pub mapped-some : {X Y : Type 0} (h : X → Y) (o : Option X) (y : Y) → option_map h o ≡ Some y → (x : X) × (o ≡ Some x) × (y ≡ h x)
mapped-some h None y is = absurd (cc)
mapped-some h (Some x) y is = (x, refl, cc)
