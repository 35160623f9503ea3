-- The search for the fullest page: what is the best of the pages so far, one page further.
use Rattle.std.proofs.Common.{◌≡◌, ℕ, suc, ◌+◌, add-one, ◌<◌, ◌≤◌, Bool, true, false, cond, Option, None, Some, List, length, map, get_or, take, refl, ap, sym, ◌∙◌}
use Rattle.std.proofs.lemmas.List.{take_all}
use Rattle.std.specs.Prelude.{is_some, not, IfSome, IsTrue, option_map, slice_get, ◌↔◌}
use Rattle.std.proofs.lemmas.Option.{slice_get-map}
use Rattle.etagere_base.specs.Least.{Found, better, first_least}
use Rattle.etagere_base.specs.declared.geometry.Size.{Size}
use Rattle.etagere_base.proofs.Least.{best-more, best-within, first_least-is}
use Rattle.shelf_model.specs.Atlas.{KeepsPromises}
use Rattle.shelf_model.proofs.Refused.{exact}
use Rattle.shelf_model.specs.Refusal.{refusal}
use Rattle.shelf_model.specs.State.{AtlasState}
use Rattle.shelf_model.specs.declared.faults.Refusal.{Refusal}
use Rattle.atlas_pages.specs.declared.options.PageChoice.TheVariants.{FullestFirst}
use Rattle.atlas_pages.specs.Choosing.{chosen_of, free_space, has_place, page_order}
use Rattle.atlas_pages.specs.Private.Fullest.{found_at, is_fuller}

-- the best of so many pages
abbrev pub best_of : Size → List AtlasState → ℕ → Option Found
best_of size pages n = first_least (map (page_order FullestFirst size) (take n pages))

-- one page further: it is the best where it is fuller and has a place
pub best-page : (size : Size) (pages : List AtlasState) (n : ℕ) (d : AtlasState) → n < length pages
    → best_of size pages (suc n)
    ≡ better (best_of size pages n) (option_map (λ r. record { number = n; rank = r }) (page_order FullestFirst size (get_or pages n d)))
best-page size pages n d within = best-more (page_order FullestFirst size) pages n d within

-- a page with a place that is fuller is better, and no other one is
pub better-fuller : (best : Option Found) (n free : ℕ) → is_fuller free best ≡ true
    → better best (Some (record { number = n; rank = free })) ≡ Some (record { number = n; rank = free })
better-fuller None n free h = refl
better-fuller (Some found) n free h = ap (λ (b : Bool). cond b (Some (record { number = n; rank = free })) (Some found)) h

pub better-emptier : (best : Option Found) (n free : ℕ) → is_fuller free best ≡ false
    → better best (Some (record { number = n; rank = free })) ≡ best
better-emptier None n free h = absurd (cc)
better-emptier (Some found) n free h = ap (λ (b : Bool). cond b (Some (record { number = n; rank = free })) (Some found)) h

pub better-none : (best : Option Found) → better best None ≡ best
better-none None = refl
better-none (Some found) = refl

-- after the last page it is the best of all
pub best-all : (size : Size) (pages : List AtlasState) (n : ℕ) → length pages ≤ n
    → best_of size pages n ≡ first_least (map (page_order FullestFirst size) pages)
best-all size pages n all = ap (λ (l : List AtlasState). first_least (map (page_order FullestFirst size) l)) (take_all n pages all)

-- a page that isn't fuller changes nothing, nor does one without a place
pub fuller-no : (best : Option Found) (n : ℕ) (size : Size) (page : AtlasState) → is_fuller (free_space page) best ≡ false
    → best ≡ better best (found_at n (page_order FullestFirst size page))
fuller-no best n size page emptier = by_place (has_place size page)
  where
    by_place : (b : Bool) → best ≡ better best (found_at n (cond b (Some (free_space page)) None))
    by_place true = sym (better-emptier best n (free_space page) emptier)
    by_place false = sym (better-none best)

pub fuller-placeless : (best : Option Found) (n : ℕ) (size : Size) (page : AtlasState) → has_place size page ≡ false
    → best ≡ better best (found_at n (page_order FullestFirst size page))
fuller-placeless best n size page none =
    sym (better-none best) ∙ sym (ap (λ (b : Bool). better best (found_at n (cond b (Some (free_space page)) None))) none)

-- one that is, and has a place, is the best
pub fuller-yes : (best : Option Found) (n : ℕ) (size : Size) (page : AtlasState) → is_fuller (free_space page) best ≡ true → has_place size page ≡ true
    → Some (record { number = n; rank = free_space page }) ≡ better best (found_at n (page_order FullestFirst size page))
fuller-yes best n size page fuller fits =
    sym (better-fuller best n (free_space page) fuller) ∙ sym (ap (λ (b : Bool). better best (found_at n (cond b (Some (free_space page)) None))) fits)

-- the page that is chosen is open
pub chosen-within : (size : Size) (pages : List AtlasState) (n : ℕ) → chosen_of FullestFirst size pages ≡ Some n → n < length pages
chosen-within size pages n chosen = rw chosen at (best-within (page_order FullestFirst size) pages)

-- and has a place
pub chosen-fits : (size : Size) (pages : List AtlasState) (n : ℕ) → chosen_of FullestFirst size pages ≡ Some n
    → IfSome (slice_get pages n) (λ page. has_place size page ≡ true)
chosen-fits size pages n chosen = by_found (first_least (map (page_order FullestFirst size) pages)) refl chosen
  where
    ordered : (b : Bool) (free r : ℕ) → cond b (Some free) None ≡ Some r → b ≡ true
    ordered true free r h = refl
    ordered false free r h = absurd (cc)

    by_page : (o : Option AtlasState) (r : ℕ) → option_map (page_order FullestFirst size) o ≡ Some (Some r) → IfSome o (λ page. has_place size page ≡ true)
    by_page None r h = absurd (cc)
    by_page (Some page) r h =
        let order : page_order FullestFirst size page ≡ Some r = cc in
        ordered (has_place size page) (free_space page) r order

    by_found : (o : Option Found) → first_least (map (page_order FullestFirst size) pages) ≡ o → option_map (λ (found : Found). found.number) o ≡ Some n
        → IfSome (slice_get pages n) (λ page. has_place size page ≡ true)
    by_found None is h = absurd (cc)
    by_found (Some found) is h =
        let same : found.number ≡ n = cc in
        let at = first_least-is (map (page_order FullestFirst size) pages) found is in
        by_page (slice_get pages n) found.rank (sym (slice_get-map (page_order FullestFirst size) pages n) ∙ ap (slice_get (map (page_order FullestFirst size) pages)) (sym same) ∙ at.at)

pub not-not : (b : Bool) → b ≡ not (not b)
not-not true = refl
not-not false = refl

-- there is no reason for a refusal exactly where a page has a place
pub place-reason : (size : Size) (page : AtlasState) → KeepsPromises page → (told : Option Refusal) → told ≡ refusal page size
    → not (is_some told) ≡ has_place size page
place-reason size page keeps told is = both told (has_place size page) (rw is (exact page keeps.valid size))
  where
    both : (o : Option Refusal) (b : Bool) → (o ≡ None) ↔ IsTrue b → not (is_some o) ≡ b
    both None true h = refl
    both None false h = absurd (let no : false ≡ true = h.0 refl in cc)
    both (Some reason) true h = absurd (let none : Some reason ≡ None = h.1 refl in cc)
    both (Some reason) false h = refl

-- one page further, after a step of the search
pub best-step : (size : Size) (pages : List AtlasState) (n : ℕ) (page : AtlasState) → n < length pages → page ≡ get_or pages n page
    → better (best_of size pages n) (found_at n (page_order FullestFirst size page)) ≡ best_of size pages (n + 1)
best-step size pages n page within at =
    rw (add-one n)
    (ap (λ (p : AtlasState). better (best_of size pages n) (found_at n (page_order FullestFirst size p))) at
    ∙ sym (best-page size pages n page within))
