-- What an added allocation, and one that is taken away, are to a caller who has ids.
use Rattle.std.proofs.Common.{◌≡◌, ◌≢◌, ℕ, ◌==◌, Bool, true, false, cond, Option, Some, List, [], ◌∷◌, ◌++◌, refl, ap, sym, subst, ◌∙◌, eq-eqb}
use Rattle.std.proofs.lemmas.Bool.{eqb-true}
use Rattle.std.proofs.lemmas.List.Elements.{filter-append}
use Rattle.std.specs.List.{AllByRecursion, find}
use Rattle.std.specs.Prelude.{None, is_some, not, option_map}
use Rattle.etagere_base.specs.declared.geometry.Rectangle.{Rectangle}
use Rattle.etagere_base.specs.declared.ids.Allocation.{Allocation}
use Rattle.etagere_base.specs.Rectangles.{AreApart, SharesNone}
use Rattle.etagere_base.proofs.EachLemmas.{Each-middle, Each-weaken}
use Rattle.shelf_model.specs.Atlas.{Adds, without_id}
use Rattle.shelf_model.specs.ById.{IsClear, KeepsRectangles, TakesAway, Undoes}
use Rattle.shelf_model.specs.Places.{allocations, is_allocated, rectangle_of}
use Rattle.shelf_model.specs.State.{AtlasState}
use Rattle.shelf_model.proofs.Callers.{find-filter, find-inserted_other}

-- the rectangle that is found under an id
abbrev found_rectangle : ℕ → List Allocation → Option Rectangle
found_rectangle id all = option_map (λ (a : Allocation). a.rectangle) (find (λ (a : Allocation). a.id == id) all)

-- each id that had a rectangle has it after an allocation
pub keeps-rectangles : (old : AtlasState) (allocation : Allocation) (new : AtlasState)
    → Adds (allocations old) allocation (allocations new) → is_allocated old allocation.id ≡ false → KeepsRectangles old new
keeps-rectangles old allocation new adds fresh id rectangle h = by_test (allocation.id == id) refl
  where
    by_test : (b : Bool) → (allocation.id == id) ≡ b → rectangle_of new id ≡ Some rectangle
    by_test true e =
        let same : allocation.id ≡ id = eqb-true allocation.id id e in
        let none : is_allocated old id ≡ false = subst (λ (n : ℕ). is_allocated old n ≡ false) same fresh in
        let some : is_allocated old id ≡ true = ap is_some h in
        absurd (cc)
    by_test false e =
        ap (found_rectangle id) adds.after
        ∙ ap (option_map (λ (a : Allocation). a.rectangle)) (find-inserted_other (λ (a : Allocation). a.id == id) adds.front allocation adds.back e)
        ∙ sym (ap (found_rectangle id) adds.before)
        ∙ h

-- a fact of each rectangle is one of that of an id
each-rectangle : (P : Rectangle → Type 0) (id : ℕ) (all : List Allocation) (rectangle : Rectangle)
    → AllByRecursion (λ (a : Allocation). P a.rectangle) all → found_rectangle id all ≡ Some rectangle → P rectangle
each-rectangle P id [] rectangle each h = absurd (cc)
each-rectangle P id (a ∷ all) rectangle each h = by_test (a.id == id) h (each-rectangle P id all rectangle each.1)
  where
    by_test : (b : Bool) → option_map (λ (a : Allocation). a.rectangle) (cond b (Some a) (find (λ (a : Allocation). a.id == id) all)) ≡ Some rectangle
        → (found_rectangle id all ≡ Some rectangle → P rectangle) → P rectangle
    by_test true h later = let same : a.rectangle ≡ rectangle = cc in subst P same each.0
    by_test false h later = later h

-- of allocations that lie apart one shares nothing with any other
apart-middle : (front : List Allocation) (allocation : Allocation) (back : List Allocation)
    → AreApart (front ++ allocation ∷ back)
    → AllByRecursion (λ (other : Allocation). SharesNone other.rectangle allocation.rectangle) (front ++ back)
apart-middle [] allocation back apart =
    Each-weaken (λ (other : Allocation). SharesNone allocation.rectangle other.rectangle)
    (λ (other : Allocation). SharesNone other.rectangle allocation.rectangle) back
    (λ other none x y one two. none x y two one) apart.0
apart-middle (first ∷ front) allocation back apart =
    (Each-middle (λ (other : Allocation). SharesNone first.rectangle other.rectangle) front allocation back apart.0, apart-middle front allocation back apart.1)

-- an allocation shares nothing with the rectangle of any older id
pub added-clear : (old : AtlasState) (allocation : Allocation) (new : AtlasState)
    → Adds (allocations old) allocation (allocations new) → AreApart (allocations new) → IsClear old allocation.rectangle
added-clear old allocation new adds apart id other h =
    each-rectangle (λ (r : Rectangle). SharesNone r allocation.rectangle) id (allocations old) other
    (subst (AllByRecursion (λ (a : Allocation). SharesNone a.rectangle allocation.rectangle)) (sym adds.before)
    (apart-middle adds.front allocation adds.back (subst AreApart adds.after apart))) h

-- none is found under an id that was taken away
without-none : (id : ℕ) (all : List Allocation) → find (λ (a : Allocation). a.id == id) (without_id id all) ≡ None
without-none id [] = refl
without-none id (a ∷ all) = by_test (a.id == id) refl (without-none id all)
  where
    by_test : (b : Bool) → (a.id == id) ≡ b → find (λ (a : Allocation). a.id == id) (without_id id all) ≡ None
        → find (λ (a : Allocation). a.id == id) (cond (not b) (a ∷ without_id id all) (without_id id all)) ≡ None
    by_test true e rest = rest
    by_test false e rest = rw e rest

-- another id isn't taken away
other-stays : (id other m : ℕ) → other ≢ id → (m == other) ≡ true → not (m == id) ≡ true
other-stays id other m differ same = by_test (m == id) refl
  where
    by_test : (b : Bool) → (m == id) ≡ b → not b ≡ true
    by_test true e = absurd (differ (sym (eqb-true m other same) ∙ eqb-true m id e))
    by_test false e = refl

-- a return takes its id away and no other
pub takes-away : (old : AtlasState) (id : ℕ) (new : AtlasState) → allocations new ≡ without_id id (allocations old) → TakesAway old id new
takes-away old id new is = record {
  gone = ap (found_rectangle id) is ∙ ap (option_map (λ (a : Allocation). a.rectangle)) (without-none id (allocations old));
  others = λ other differ.
      ap (found_rectangle other) is
      ∙ ap (option_map (λ (a : Allocation). a.rectangle))
      (find-filter (λ (a : Allocation). a.id == other) (λ (a : Allocation). not (a.id == id)) (allocations old) (λ a same. other-stays id other a.id differ same));
}

-- one allocation, kept or not by a test for an id, before others that all are
kept_here : (b : Bool) (here : Allocation) (all kept : List Allocation) (found : Option Allocation)
    → is_some (option_map (λ (a : Allocation). a.rectangle) (cond b (Some here) found)) ≡ false
    → (is_some (option_map (λ (a : Allocation). a.rectangle) found) ≡ false → kept ≡ all)
    → cond (not b) (here ∷ kept) kept ≡ here ∷ all
kept_here true here all kept found unknown later = absurd (cc)
kept_here false here all kept found unknown later = ap (λ l. here ∷ l) (later unknown)

-- nothing goes with an id that no allocation has
without_id-unknown : (id : ℕ) (all : List Allocation) → is_some (found_rectangle id all) ≡ false → without_id id all ≡ all
without_id-unknown id [] unknown = refl
without_id-unknown id (here ∷ all) unknown =
    kept_here (here.id == id) here all (without_id id all) (find (λ (a : Allocation). a.id == id) all) unknown
    (without_id-unknown id all)

-- a return of what was added leaves what was there
pub undoes : (old : AtlasState) (id : ℕ) (new : AtlasState) → allocations new ≡ without_id id (allocations old) → Undoes old id new
undoes old id new is before allocation adds fresh same =
    let own : (allocation.id == allocation.id) ≡ true = eq-eqb allocation.id allocation.id refl in
    is ∙ ap (λ (n : ℕ). without_id n (allocations old)) (sym same)
    ∙ ap (without_id allocation.id) adds.after
    ∙ filter-append _ adds.front (allocation ∷ adds.back)
    ∙ rw own (sym (filter-append _ adds.front adds.back))
    ∙ ap (without_id allocation.id) (sym adds.before)
    ∙ without_id-unknown allocation.id (allocations before) fresh
