-- The page that is chosen: the first of least order, by a loop over the pages; where there is none, each page refuses.
use Rattle.std.proofs.Common.{◌≡◌, ℕ, zero, suc, Bool, true, cond, Option, None, Some, List, [], ◌∷◌, ◌++◌, length, map, refl, ap, ◌∙◌, arith, take}
use Rattle.std.specs.Prelude.{is_some, option_map, slice_get}
use Rattle.std.proofs.lemmas.Bool.Decides.{nat_tests}
use Rattle.std.specs.List.{AllByRecursion}
use Rattle.etagere_base.specs.Least.{Found, first_least, one_later, first_or}
use Rattle.etagere_base.specs.declared.geometry.Size.{Size}
use Rattle.shelf_model.specs.Choice.{IsRefused, Placement, placement_of}
use Rattle.shelf_model.specs.State.{AtlasState}
use Rattle.atlas_pages.specs.declared.options.PageChoice.{PageChoice}
use Rattle.atlas_pages.specs.declared.options.PageChoice.TheVariants.{FirstFit}
use Rattle.atlas_pages.specs.Choosing.{chosen_of, has_place, order_by, page_order}

-- a page that refuses a size has no order
pub order-refused : (choice : PageChoice) (size : Size) (page : AtlasState) → IsRefused page size → page_order choice size page ≡ None
order-refused choice size page refused =
    ap (λ (o : Option Placement). cond (is_some o) (Some (order_by choice page)) None) refused

-- one that has a place has one
pub order-placed : (choice : PageChoice) (size : Size) (page : AtlasState) → has_place size page ≡ true
    → page_order choice size page ≡ Some (order_by choice page)
order-placed choice size page fits = ap (λ (b : Bool). cond b (Some (order_by choice page)) None) fits

-- where each page refuses, none is found
pub none-refused : (choice : PageChoice) (size : Size) (pages : List AtlasState)
    → AllByRecursion (λ (page : AtlasState). IsRefused page size) pages → first_least (map (page_order choice size) pages) ≡ None
none-refused choice size [] each = refl
none-refused choice size (page ∷ pages) each =
    rw (order-refused choice size page each.0, none-refused choice size pages each.1) refl

pub chosen-refused : (choice : PageChoice) (size : Size) (pages : List AtlasState)
    → AllByRecursion (λ (page : AtlasState). IsRefused page size) pages → chosen_of choice size pages ≡ None
chosen-refused choice size pages each = ap (option_map (λ (found : Found). found.number)) (none-refused choice size pages each)

-- where none is found, each page refuses
pub refused-none : (choice : PageChoice) (size : Size) (pages : List AtlasState)
    → first_least (map (page_order choice size) pages) ≡ None → AllByRecursion (λ (page : AtlasState). IsRefused page size) pages
refused-none choice size [] none = tt
refused-none choice size (page ∷ pages) none = by_place (placement_of page size) refl none (refused-none choice size pages)
  where
    later : (o : Option Found) → option_map one_later o ≡ None → o ≡ None
    later None h = refl
    later (Some found) h = absurd (cc)

    by_place : (o : Option Placement) → placement_of page size ≡ o
        → first_least (cond (is_some o) (Some (order_by choice page)) None ∷ map (page_order choice size) pages) ≡ None
        → (first_least (map (page_order choice size) pages) ≡ None → AllByRecursion (λ (p : AtlasState). IsRefused p size) pages)
        → AllByRecursion (λ (p : AtlasState). IsRefused p size) (page ∷ pages)
    by_place None is h rest = (is, rest (later (first_least (map (page_order choice size) pages)) h))
    by_place (Some placement) is h rest = absurd (cc)

pub refused-chosen : (choice : PageChoice) (size : Size) (pages : List AtlasState)
    → chosen_of choice size pages ≡ None → AllByRecursion (λ (page : AtlasState). IsRefused page size) pages
refused-chosen choice size pages none = refused-none choice size pages (unfound (first_least (map (page_order choice size) pages)) none)
  where
    unfound : (o : Option Found) → option_map (λ (found : Found). found.number) o ≡ None → o ≡ None
    unfound None h = refl
    unfound (Some found) h = absurd (cc)

-- by first fit the first page that has a place is chosen
pub chosen-first : (size : Size) (pages : List AtlasState) (n : ℕ) (page : AtlasState)
    → AllByRecursion (λ (earlier : AtlasState). IsRefused earlier size) (take n pages) → slice_get pages n ≡ Some page → has_place size page ≡ true
    → first_least (map (page_order FirstFit size) pages) ≡ Some (record { number = n; rank = 0 })
chosen-first size [] n page earlier at fits = absurd (cc)
chosen-first size (p ∷ pages) zero page earlier at fits =
    let same : p ≡ page = cc in
    rw (order-placed FirstFit size p (ap (has_place size) same ∙ fits)) (least (first_least (map (page_order FirstFit size) pages)))
  where
    least : (o : Option Found) → Some (first_or 0 o) ≡ Some (record { number = 0; rank = 0 })
    least None = refl
    least (Some found) = grind (arith, nat_tests)
chosen-first size (p ∷ pages) (suc n) page earlier at fits =
    rw (order-refused FirstFit size p earlier.0, chosen-first size pages n page earlier.1 at fits) refl

-- behind pages that refuse, one that has a place is chosen
pub chosen-last : (choice : PageChoice) (size : Size) (pages : List AtlasState) (page : AtlasState)
    → AllByRecursion (λ (earlier : AtlasState). IsRefused earlier size) pages → has_place size page ≡ true
    → first_least (map (page_order choice size) (pages ++ page ∷ [])) ≡ Some (record { number = length pages; rank = order_by choice page })
chosen-last choice size [] page earlier fits = rw (order-placed choice size page fits) refl
chosen-last choice size (p ∷ pages) page earlier fits =
    rw (order-refused choice size p earlier.0, chosen-last choice size pages page earlier.1 fits) refl
