-- The page that is chosen, by the rule of each choice.
use Rattle.std.proofs.Common.{◌≡◌, ℕ, ◌<◌, ◌≤◌, Bool, true, false, cond, Option, None, Some, List, map, refl, ap, sym, ◌∙◌, arith}
use Rattle.std.specs.Prelude.{is_some, option_map, slice_get}
use Rattle.std.proofs.lemmas.Option.{slice_get-map}
use Rattle.etagere_base.specs.Least.{Found, IsFirstLeast, first_least}
use Rattle.etagere_base.specs.declared.geometry.Size.{Size}
use Rattle.etagere_base.proofs.Least.{first_least-is}
use Rattle.shelf_model.specs.Choice.{IsRefused, Placement, placement_of}
use Rattle.shelf_model.specs.State.{AtlasState}
use Rattle.atlas_pages.specs.declared.options.PageChoice.{PageChoice}
use Rattle.atlas_pages.specs.declared.options.PageChoice.TheVariants.{FirstFit, FullestFirst}
use Rattle.atlas_pages.specs.Choosing.{chosen_of, has_place, order_by, page_order}
use Rattle.atlas_pages.specs.Laws.{IsFirst, IsFullest}
use Rattle.atlas_pages.proofs.Chosen.{order-placed}

-- what is chosen by any choice
record IsChosen (choice : PageChoice) (size : Size) (pages : List AtlasState) (n : ℕ) : Type 0 where
  page : AtlasState
  is_open : slice_get pages n ≡ Some page
  fits : has_place size page ≡ true
  least : (m : ℕ) (other : AtlasState) → slice_get pages m ≡ Some other → has_place size other ≡ true
      → order_by choice page ≤ order_by choice other
  earlier : (m : ℕ) (other : AtlasState) → slice_get pages m ≡ Some other → has_place size other ≡ true → m < n
      → order_by choice page < order_by choice other

-- a page with a place has its order among those of all
ordered : (choice : PageChoice) (size : Size) (pages : List AtlasState) (m : ℕ) (other : AtlasState) → slice_get pages m ≡ Some other
    → has_place size other ≡ true → slice_get (map (page_order choice size) pages) m ≡ Some (Some (order_by choice other))
ordered choice size pages m other at fits =
    slice_get-map (page_order choice size) pages m ∙ ap (option_map (page_order choice size)) at ∙ ap Some (order-placed choice size other fits)

-- an order is that of a page with a place
placed : (b : Bool) (own r : ℕ) → cond b (Some own) None ≡ Some r → (b ≡ true) × (own ≡ r)
placed true own r h = (refl, let same : own ≡ r = cc in same)
placed false own r h = absurd (cc)

chosen-is : (choice : PageChoice) (size : Size) (pages : List AtlasState) (n : ℕ) → chosen_of choice size pages ≡ Some n
    → IsChosen choice size pages n
chosen-is choice size pages n chosen = by_found (first_least (map (page_order choice size) pages)) refl chosen
  where
    by_page : (found : Found) → found.number ≡ n → IsFirstLeast (map (page_order choice size) pages) found
        → (o : Option AtlasState) → slice_get pages n ≡ o → option_map (page_order choice size) o ≡ Some (Some found.rank)
        → IsChosen choice size pages n
    by_page found same is None at h = absurd (cc)
    by_page found same is (Some page) at h =
        let order : page_order choice size page ≡ Some found.rank = cc in
        let own = placed (has_place size page) (order_by choice page) found.rank order in
        record {
          page = page;
          is_open = at;
          fits = own.0;
          least = λ m other there fits.
              let bound : found.rank ≤ order_by choice other = is.least m (order_by choice other) (ordered choice size pages m other there fits) in
              omega (arith, bound, own.1);
          earlier = λ m other there fits before.
              let bound : found.rank < order_by choice other = is.first m (order_by choice other) (ordered choice size pages m other there fits) (omega (arith, before, same)) in
              omega (arith, bound, own.1);
        }

    by_found : (o : Option Found) → first_least (map (page_order choice size) pages) ≡ o → option_map (λ (found : Found). found.number) o ≡ Some n
        → IsChosen choice size pages n
    by_found None is h = absurd (cc)
    by_found (Some found) is h =
        let same : found.number ≡ n = cc in
        let least = first_least-is (map (page_order choice size) pages) found is in
        by_page found same least (slice_get pages n) refl
        (sym (slice_get-map (page_order choice size) pages n) ∙ ap (slice_get (map (page_order choice size) pages)) (sym same) ∙ least.at)

-- a page without a place refuses
refuses : (size : Size) (page : AtlasState) → (has_place size page ≡ true → ⊥) → IsRefused page size
refuses size page never = by_place (placement_of page size) never
  where
    by_place : (o : Option Placement) → (is_some o ≡ true → ⊥) → o ≡ None
    by_place None never = refl
    by_place (Some placement) never = absurd (never refl)

pub first-by_rule : (size : Size) (pages : List AtlasState) (n : ℕ) → chosen_of FirstFit size pages ≡ Some n → IsFirst size pages n
first-by_rule size pages n chosen =
    let is = chosen-is FirstFit size pages n chosen in
    record {
      page = is.page;
      is_open = is.is_open;
      fits = is.fits;
      earlier = λ m other there before.
          refuses size other (λ fits. let less : 0 < 0 = is.earlier m other there fits before in absurd (omega (arith, less)));
    }

pub fullest-by_rule : (size : Size) (pages : List AtlasState) (n : ℕ) → chosen_of FullestFirst size pages ≡ Some n → IsFullest size pages n
fullest-by_rule size pages n chosen =
    let is = chosen-is FullestFirst size pages n chosen in
    record { page = is.page; is_open = is.is_open; fits = is.fits; least = is.least; earlier = is.earlier }
