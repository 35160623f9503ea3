-- Lists of pages: what is written at a number, and what holds of each.
use Rattle.std.proofs.Common.{◌≡◌, ℕ, zero, suc, ◌+◌, add-one, drop, drop-cons, get_or, subst, take, Result, Ok, Err, OnErr, OnOk, ◌<◌, ◌≤◌, Some, List, [], ◌∷◌, ◌++◌, length, refl, ap, sym, ◌∙◌, arith}
use Rattle.std.specs.Prelude.{slice_get, slice_set, map}
use Rattle.std.proofs.lemmas.List.{drop-set-lt, map-append, take_all, take_more, take_more_set}
use Rattle.std.specs.List.{AllByRecursion}
use Rattle.shelf_model.specs.State.{AtlasState}
use Rattle.atlas_pages.specs.Allocated.{at_page}

-- the last element, written over
pub slice_set-last : {X : Type 0} (xs : List X) (x y : X) (n : ℕ) → n ≡ length xs → slice_set (xs ++ x ∷ []) n y ≡ xs ++ y ∷ []
slice_set-last {X} xs x y n is = rw is (at_end xs)
  where
    at_end : (zs : List X) → slice_set (zs ++ x ∷ []) (length zs) y ≡ zs ++ y ∷ []
    at_end [] = refl
    at_end (z ∷ zs) = ap (λ l. z ∷ l) (at_end zs)

-- a fact of each stays with a fact of what is written
pub Each-set : {X : Type 0} (P : X → Type 0) (xs : List X) (n : ℕ) (x : X) → AllByRecursion P xs → P x → AllByRecursion P (slice_set xs n x)
Each-set P [] n x each here = tt
Each-set P (y ∷ ys) zero x each here = (here, each.1)
Each-set P (y ∷ ys) (suc n) x each here = (each.0, Each-set P ys n x each.1 here)

-- the page of a number changed is written there
pub at_page-set : (change : AtlasState → AtlasState) (pages : List AtlasState) (n : ℕ) (page : AtlasState) → slice_get pages n ≡ Some page
    → at_page n change pages ≡ slice_set pages n (change page)
at_page-set change [] n page at = absurd (cc)
at_page-set change (p ∷ pages) zero page at = let same : p ≡ page = cc in ap (λ z. change z ∷ pages) same
at_page-set change (p ∷ pages) (suc n) page at = ap (λ l. p ∷ l) (at_page-set change pages n page at)

-- a fact of each page is kept where the change keeps it
pub Each-at_page : (P : AtlasState → Type 0) (change : AtlasState → AtlasState) (pages : List AtlasState) (n : ℕ)
    → ((page : AtlasState) → P page → P (change page)) → AllByRecursion P pages → AllByRecursion P (at_page n change pages)
Each-at_page P change [] n keeps each = tt
Each-at_page P change (page ∷ pages) zero keeps each = (keeps page each.0, each.1)
Each-at_page P change (page ∷ pages) (suc n) keeps each = (each.0, Each-at_page P change pages n keeps each.1)

pub length-at_page : (change : AtlasState → AtlasState) (pages : List AtlasState) (n : ℕ) → length (at_page n change pages) ≡ length pages
length-at_page change [] n = refl
length-at_page change (page ∷ pages) zero = refl
length-at_page change (page ∷ pages) (suc n) = ap suc (length-at_page change pages n)

-- a fact of each element after a change of each
pub Each-map : {X Y : Type 0} (P : X → Type 0) (Q : Y → Type 0) (f : X → Y) (xs : List X) → ((x : X) → P x → Q (f x))
    → AllByRecursion P xs → AllByRecursion Q (map f xs)
Each-map P Q f [] keeps each = tt
Each-map P Q f (x ∷ xs) keeps each = (keeps x each.0, Each-map P Q f xs keeps each.1)

-- of all elements, after the last one
pub Each-all_taken : {X : Type 0} (P : X → Type 0) (xs : List X) (n : ℕ) → length xs ≤ n → AllByRecursion P (take n xs) → AllByRecursion P xs
Each-all_taken P xs n all each = subst (AllByRecursion P) (take_all n xs all) each

-- a fact of what an answer says
pub OnOk-then : {A B P Q : Type 0} (r : Result A B) → OnOk r P → (P → Q) → OnOk r Q
OnOk-then (Ok a) holds then = then holds
OnOk-then (Err b) holds then = tt

-- the first elements are mapped and the others stay: one more is mapped
pub mapped-more : {X : Type 0} (f : X → X) (xs olds : List X) (n : ℕ) (x y : X) → length xs ≡ length olds → n < length olds → x ≡ get_or xs n x
    → take n xs ≡ map f (take n olds) → drop n xs ≡ drop n olds → y ≡ f x
    → (take (n + 1) (slice_set xs n y) ≡ map f (take (n + 1) olds)) × (drop (n + 1) (slice_set xs n y) ≡ drop (n + 1) olds)
mapped-more f xs olds n x y long within at front back is =
    let in_xs : n < length xs = omega (arith, long) in
    let rest : get_or olds n x ∷ drop (suc n) olds ≡ get_or xs n x ∷ drop (suc n) xs =
    sym (drop-cons olds n x within) ∙ sym back ∙ drop-cons xs n x in_xs in
    let first : get_or olds n x ≡ x = ap (λ l. get_or l 0 x) rest ∙ sym at in (
      take_more_set xs n y in_xs ∙ ap (λ l. l ++ y ∷ []) front
          ∙ sym (ap (map f) (take_more olds n x within) ∙ map-append f (take n olds) (get_or olds n x ∷ [])
          ∙ ap (λ z. map f (take n olds) ++ z ∷ []) (ap f first ∙ sym is)),
      rw (add-one n) (drop-set-lt (suc n) xs n y (omega arith) ∙ ap (drop 1) (sym rest)),
    )

-- all are
pub mapped-all : {X : Type 0} (f : X → X) (xs olds : List X) (n : ℕ) → length xs ≡ length olds → length olds ≤ n
    → take n xs ≡ map f (take n olds) → xs ≡ map f olds
mapped-all f xs olds n long all front =
    sym (take_all n xs (omega (arith, long))) ∙ front ∙ ap (map f) (take_all n olds all)

pub OnErr-of : {A B P : Type 0} (r : Result A B) → P → OnErr r P
OnErr-of (Ok a) holds = tt
OnErr-of (Err b) holds = holds
