-- How often a place is one of the free items', by a front and a back, and while items are freed and merged.
use Rattle.std.proofs.Common.{◌≡◌, ℕ, zero, suc, ◌+◌, ◌<◌, ◌≤◌, Bool, true, false, cond, ◌&&◌, ◌==◌, None, Some, List, [], ◌∷◌, refl, ap, ◌∙◌, arith, ◌++◌}
use Rattle.std.proofs.lemmas.Bool.{eq-eqb, ne_eqb, and_parts, and_right}
use Rattle.std.specs.Prelude.{slice_get}
use Rattle.shelf_model.specs.Merging.{both_free, combined_items}
use Rattle.std.specs.List.{AllByRecursion}
use Rattle.etagere_base.specs.Lists.{times}
use Rattle.etagere_base.specs.MergingAt.{merged_at}
use Rattle.shelf_model.specs.Places.{free_places}
use Rattle.shelf_model.specs.Returning.{is_free_at, place_at, freed}
use Rattle.shelf_model.specs.State.{Item, is_free, total_width}
use Rattle.etagere_base.proofs.GatheredLemmas.{along-append}
use Rattle.etagere_base.proofs.ReplacedLists.{split-at}
use Rattle.shelf_model.proofs.Places.ItemLemmas.{freed-replaced_at}
use Rattle.etagere_base.proofs.TimesLemmas.{hit, times-append}

-- how often a place is one of the free items', the first item here
abbrev pub starts : ℕ → ℕ → List Item → ℕ
starts place here items = times place (free_places here items)

-- 1 where a test passes and two places are one
abbrev pub once : Bool → ℕ → ℕ → ℕ
once b here place = cond b (hit here place) 0

-- a place that is counted where the item is free
starts_step : (b : Bool) (here place : ℕ) → times place (cond b (here ∷ []) []) ≡ once b here place
starts_step true here place = omega arith
starts_step false here place = refl

-- the first item and the others
pub starts-cons : (place here : ℕ) (item : Item) (items : List Item)
    → starts place here (item ∷ items) ≡ once (is_free item) here place + starts place (here + item.width) items
starts-cons place here item items =
    omega (arith, times-append place (cond (is_free item) (here ∷ []) []) (free_places (here + item.width) items), starts_step (is_free item) here place)

-- two places that differ are not one
pub once-other : (b : Bool) (here place : ℕ) → (here == place) ≡ false → once b here place ≡ 0
once-other true here place h = ap (λ (c : Bool). cond c 1 0) h
once-other false here place h = refl

-- equal places are one
once-same : (here place : ℕ) → here ≡ place → once true here place ≡ 1
once-same here place h = ap (λ (c : Bool). cond c 1 0) (eq-eqb here place h)

-- where the item behind the first one begins
pub place_at-cons : (here n : ℕ) (item : Item) (items : List Item) → place_at here (item ∷ items) (suc n) ≡ place_at (here + item.width) items n
place_at-cons here n item items = omega arith

-- a place before the first item is none of theirs
pub starts-before : (place here : ℕ) (items : List Item) → place < here → starts place here items ≡ 0
starts-before place here [] h = refl
starts-before place here (item ∷ items) h =
    let rest : starts place (here + item.width) items ≡ 0 = starts-before place (here + item.width) items (omega arith) in
    let split = starts-cons place here item items in
    let none : once (is_free item) here place ≡ 0 = once-other (is_free item) here place (grind arith) in
    omega arith

-- nor is a place after the last item
pub starts-after : (place here : ℕ) (items : List Item) → AllByRecursion (λ (item : Item). 1 ≤ item.width) items → here + total_width items ≤ place
    → starts place here items ≡ 0
starts-after place here [] wide h = refl
starts-after place here (item ∷ items) wide h =
    let rest : starts place (here + item.width) items ≡ 0 = starts-after place (here + item.width) items wide.1 (omega arith) in
    let none : once (is_free item) here place ≡ 0 = once-other (is_free item) here place (ne_eqb here place (λ e. omega (arith, wide.0))) in
    omega (arith, starts-cons place here item items)

-- the places of a front and of a back
pub starts-append : (place here : ℕ) (front back : List Item)
    → starts place here (front ++ back) ≡ starts place here front + starts place (here + total_width front) back
starts-append place here front back =
    ap (times place) (along-append (λ item. item.width) (λ here item. cond (is_free item) (here ∷ []) []) here front back)
    ∙ times-append place (free_places here front) (free_places (here + total_width front) back)

-- the place of a free item is among the places once
pub starts-free : (here n : ℕ) (items : List Item) → AllByRecursion (λ (item : Item). 1 ≤ item.width) items → is_free_at n items ≡ true
    → starts (place_at here items n) here items ≡ 1
starts-free here n [] wide free = absurd (cc)
starts-free here zero (item ∷ items) wide free =
    let place = place_at here (item ∷ items) zero in
    let split = starts-cons place here item items in
    let one : once (is_free item) here place ≡ 1 =
    ap (λ (b : Bool). once b here place) free ∙ once-same here place (omega arith) in
    let rest : starts place (here + item.width) items ≡ 0 = starts-before place (here + item.width) items (omega (arith, wide.0)) in
    omega arith
starts-free here (suc n) (item ∷ items) wide free =
    let place = place_at here (item ∷ items) (suc n) in
    let split = starts-cons place here item items in
    let none : once (is_free item) here place ≡ 0 =
    once-other (is_free item) here place (ne_eqb here place (λ e. omega (arith, wide.0))) in
    let rest = starts-free (here + item.width) n items wide.1 free in
    let same : starts place (here + item.width) items ≡ starts (place_at (here + item.width) items n) (here + item.width) items =
    ap (λ (p : ℕ). starts p (here + item.width) items) (place_at-cons here n item items) in
    omega arith

-- freeing an allocated item adds its place
pub starts-freed : (place here n : ℕ) (items : List Item) (item : Item) → slice_get items n ≡ Some item → is_free item ≡ false
    → starts place here (freed n items) ≡ once true (place_at here items n) place + starts place here items
starts-freed place here n items item get allocations =
    let at = split-at items n item get in
    let free : Item = record { width = item.width; id = None } in
    let begin = here + total_width at.front in
    let begins : once true (place_at here items n) place ≡ once true begin place = ap (λ (l : List Item). once true (here + total_width l) place) at.before in
    let none : once (is_free item) begin place ≡ 0 = ap (λ (b : Bool). once b begin place) allocations in
    omega (
      arith,
      begins,
      none,
      ap (starts place here) at.whole,
      ap (starts place here) (freed-replaced_at n items ∙ at.split (λ item. record { width = item.width; id = None } ∷ [])),
      starts-append place here at.front (item ∷ at.back),
      starts-append place here at.front (free ∷ at.back),
      starts-cons place begin item at.back,
      starts-cons place begin free at.back,
    )

-- merging an item with the next one takes the next one's place away
pub starts-merged_at : (place here n : ℕ) (items : List Item)
    → starts place here (merged_at both_free combined_items n items)
    + once (is_free_at n items && is_free_at (suc n) items) (place_at here items (suc n)) place
    ≡ starts place here items
starts-merged_at place here n [] = refl
starts-merged_at place here zero (x ∷ []) =
    let none : once (is_free x && false) (place_at here (x ∷ []) 1) place ≡ 0 = ap (λ (b : Bool). once b (place_at here (x ∷ []) 1) place) (and_right (is_free x) false refl) in
    omega arith
starts-merged_at place here zero (x ∷ y ∷ items) = step (is_free x && is_free y) refl
  where
    step : (b : Bool) → (is_free x && is_free y) ≡ b
        → starts place here (cond b (combined_items x y ∷ items) (x ∷ y ∷ items)) + once b (place_at here (x ∷ y ∷ items) 1) place
        ≡ starts place here (x ∷ y ∷ items)
    step false h = omega arith
    step true h =
        let free = and_parts (is_free x) (is_free y) h in
        let split = starts-cons place here x (y ∷ items) in
        let behind = starts-cons place (here + x.width) y items in
        let merged_split = starts-cons place here (combined_items x y) items in
        let first : once (is_free x) here place ≡ once true here place = ap (λ (b : Bool). once b here place) free.0 in
        let second : once (is_free y) (here + x.width) place ≡ once true (here + x.width) place =
        ap (λ (b : Bool). once b (here + x.width) place) free.1 in
        let begins : once true (place_at here (x ∷ y ∷ items) 1) place ≡ once true (here + x.width) place =
        ap (λ (p : ℕ). once true p place) (omega arith) in
        let rest : starts place (here + (x.width + y.width)) items ≡ starts place (here + x.width + y.width) items =
        ap (λ (p : ℕ). starts place p items) (omega arith) in
        omega arith
starts-merged_at place here (suc n) (x ∷ items) =
    let rest = starts-merged_at place (here + x.width) n items in
    let begins : once (is_free_at n items && is_free_at (suc n) items) (place_at here (x ∷ items) (suc (suc n))) place
    ≡ once (is_free_at n items && is_free_at (suc n) items) (place_at (here + x.width) items (suc n)) place =
    ap (λ (p : ℕ). once (is_free_at n items && is_free_at (suc n) items) p place) (place_at-cons here (suc n) x items) in
    let split = starts-cons place here x items in
    let merged_split = starts-cons place here x (merged_at both_free combined_items n items) in
    omega arith
