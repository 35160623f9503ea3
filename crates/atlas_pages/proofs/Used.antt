-- Empty pages at the end: taking the last one away, where it is empty, and stopping where it isn't.
use Rattle.std.proofs.Common.{◌≡◌, ℕ, ◌+◌, ◌<◌, ◌≤◌, Bool, true, false, cond, ◌&&◌, ◌==◌, List, [], ◌∷◌, ◌++◌, length, get_or, take, refl, ap, sym, ◌∙◌, arith}
use Rattle.std.proofs.lemmas.List.{take_all, take_more}
use Rattle.std.proofs.lemmas.Bool.Decides.{nat_tests}
use Rattle.std.specs.List.{AllByRecursion}
use Rattle.etagere_base.specs.declared.ids.Allocation.{Allocation}
use Rattle.shelf_model.specs.Places.{allocations}
use Rattle.shelf_model.specs.State.{AtlasState}
use Rattle.atlas_pages.specs.Allocated.{is_unused, used_pages}

-- a page with no allocation is unused, and one with some isn't
pub unused-none : (page : AtlasState) → allocations page ≡ [] → is_unused page ≡ true
unused-none page none = ap (λ (l : List Allocation). length l == 0) none

pub used-some : (page : AtlasState) → (allocations page ≡ [] → ⊥) → is_unused page ≡ false
used-some page some = by_list (allocations page) some
  where
    by_list : (l : List Allocation) → (l ≡ [] → ⊥) → (length l == 0) ≡ false
    by_list [] some = absurd (some refl)
    by_list (a ∷ l) some = grind (arith, nat_tests)

-- an unused page at the end goes
pub used_pages-unused : (pages : List AtlasState) (page : AtlasState) → is_unused page ≡ true → used_pages (pages ++ page ∷ []) ≡ used_pages pages
used_pages-unused [] page unused = rw unused refl
used_pages-unused (p ∷ pages) page unused = rw (used_pages-unused pages page unused) refl

-- where the last page is used, all stay
pub used_pages-used : (pages : List AtlasState) (page : AtlasState) → is_unused page ≡ false → used_pages (pages ++ page ∷ []) ≡ pages ++ page ∷ []
used_pages-used [] page used = rw used refl
used_pages-used (p ∷ pages) page used =
    rw (used_pages-used pages page used) (kept (is_unused p) (length (pages ++ page ∷ []) == 0) (p ∷ pages ++ page ∷ []) (not_none pages))
  where
    not_none : (l : List AtlasState) → (length (l ++ page ∷ []) == 0) ≡ false
    not_none [] = refl
    not_none (x ∷ l) = grind (arith, nat_tests)

    kept : (a b : Bool) (l : List AtlasState) → b ≡ false → cond (a && b) [] l ≡ l
    kept true b l h = ap (λ (c : Bool). cond c [] l) h
    kept false b l h = refl

-- a fact of each page is one of each that stays
pub Each-used_pages : (P : AtlasState → Type 0) (pages : List AtlasState) → AllByRecursion P pages → AllByRecursion P (used_pages pages)
Each-used_pages P [] each = tt
Each-used_pages P (page ∷ pages) each =
    by_test (is_unused page && length (used_pages pages) == 0) (each.0, Each-used_pages P pages each.1)
  where
    by_test : (b : Bool) → AllByRecursion P (page ∷ used_pages pages) → AllByRecursion P (cond b [] (page ∷ used_pages pages))
    by_test true h = tt
    by_test false h = h

-- no more stay than there are
pub length-used_pages : (pages : List AtlasState) → length (used_pages pages) ≤ length pages
length-used_pages [] = omega arith
length-used_pages (page ∷ pages) =
    by_test (is_unused page && length (used_pages pages) == 0) (length-used_pages pages)
  where
    by_test : (b : Bool) → length (used_pages pages) ≤ length pages → length (cond b [] (page ∷ used_pages pages)) ≤ length (page ∷ pages)
    by_test true h = omega arith
    by_test false h = omega arith

-- one page further, on which something is allocated, or nothing
pub used-more : (pages : List AtlasState) (n : ℕ) (d : AtlasState) → n < length pages → (allocations (get_or pages n d) ≡ [] → ⊥)
    → take (n + 1) pages ≡ used_pages (take (n + 1) pages)
used-more pages n d within some =
    take_more pages n d within ∙ sym (used_pages-used (take n pages) (get_or pages n d) (used-some (get_or pages n d) some))
    ∙ sym (ap used_pages (take_more pages n d within))

pub unused-more : (pages : List AtlasState) (n count : ℕ) (d : AtlasState) → n < length pages → allocations (get_or pages n d) ≡ []
    → take count pages ≡ used_pages (take n pages) → take count pages ≡ used_pages (take (n + 1) pages)
unused-more pages n count d within none is =
    is ∙ sym (used_pages-unused (take n pages) (get_or pages n d) (unused-none (get_or pages n d) none))
    ∙ sym (ap used_pages (take_more pages n d within))

-- after the last page
pub used-all : (pages : List AtlasState) (n count : ℕ) → length pages ≤ n → take count pages ≡ used_pages (take n pages)
    → take count pages ≡ used_pages pages
used-all pages n count all is = is ∙ ap used_pages (take_all n pages all)
