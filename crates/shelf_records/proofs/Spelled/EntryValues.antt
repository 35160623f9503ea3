-- Items of a shelf by parts: where they lie, whose they are, and which are free.
use Rattle.std.proofs.Common.{◌≡◌, ◌≢◌, ℕ, zero, suc, ◌+◌, ◌<◌, ◌≤◌, Bool, true, false, None, Some, List, [], ◌∷◌, ◌++◌, length, refl, ap, subst, arith, ◌∙◌, ◌*◌}
use Rattle.std.specs.Prelude.{filter, not, ◌==◌}
use Rattle.etagere_base.proofs.TimesLemmas.{times-append}
use Rattle.etagere_base.specs.Lists.{times}
use Rattle.shelf_records.specs.declared.records.LinkedItem.{LinkedItem}
use Rattle.etagere_links.specs.Edits.{changed_by, field_at}
use Rattle.etagere_links.proofs.FieldChanges.{field_at-changed, field_at-kept}
use Rattle.etagere_links.proofs.ListEnds.{times-here, times-other}
use Rattle.etagere_links.proofs.RecordChanges.{get-changed_by-other}
use Rattle.shelf_records.specs.AtlasRecords.{is_allocated_at, item_place_of, shelf_of, item_at, spelled_item}
use Rattle.shelf_records.specs.StandsFor.{LieFrom}
use Rattle.shelf_model.specs.State.{Item}
use Rattle.shelf_records.proofs.Spelled.RecordValues.{SameItem, item-same, filter-agrees, LieFrom-same}

-- the widths of items, added up
abbrev pub widths : List LinkedItem → List ℕ → ℕ
widths items [] = 0
widths items (x ∷ xs) = (item_at items x).width + widths items xs

-- the first items of a shelf lie side by side
pub LieFrom-front : (items : List LinkedItem) (here : ℕ) (xs ys : List ℕ) → LieFrom items here (xs ++ ys) → LieFrom items here xs
LieFrom-front items here [] ys lies = tt
LieFrom-front items here (x ∷ xs) ys lies = (lies.0, LieFrom-front items (here + (item_at items x).width) xs ys lies.1)

-- the other items of a shelf lie side by side after the first
pub LieFrom-back : (items : List LinkedItem) (here : ℕ) (xs ys : List ℕ) → LieFrom items here (xs ++ ys) → LieFrom items (here + widths items xs) ys
LieFrom-back items here [] ys lies = let e : here + 0 ≡ here = omega arith in rw e lies
LieFrom-back items here (x ∷ xs) ys lies =
    let e : here + ((item_at items x).width + widths items xs) ≡ here + (item_at items x).width + widths items xs = omega arith in
    rw e (LieFrom-back items (here + (item_at items x).width) xs ys lies.1)

-- items lie side by side where the others begin at the end of the first
pub LieFrom-append : (items : List LinkedItem) (here : ℕ) (xs ys : List ℕ) → LieFrom items here xs → LieFrom items (here + widths items xs) ys → LieFrom items here (xs ++ ys)
LieFrom-append items here [] ys front back = let e : here ≡ here + 0 = omega arith in rw e back
LieFrom-append items here (x ∷ xs) ys front back =
    let e : here + (item_at items x).width + widths items xs ≡ here + ((item_at items x).width + widths items xs) = omega arith in
    let moved : LieFrom items (here + (item_at items x).width + widths items xs) ys = rw e back in
    (front.0, LieFrom-append items (here + (item_at items x).width) xs ys front.1 moved)

-- the widths of items that say the same
pub widths-same : (items new : List LinkedItem) (xs : List ℕ) → ((k : ℕ) → 1 ≤ times k xs → SameItem items new k) → widths new xs ≡ widths items xs
widths-same items new [] same = refl
widths-same items new (x ∷ xs) same =
    let own : SameItem items new x = same x (omega (arith, times-here x xs)) in
    let rest : widths new xs ≡ widths items xs = widths-same items new xs (λ k stands. same k (omega (arith, stands))) in
    let width : (item_at new x).width ≡ (item_at items x).width = ap (λ (i : Item). i.width) own.item in
    omega (arith, rest, width)

-- how often a number is a free one of these
abbrev pub free_count : List LinkedItem → ℕ → List ℕ → ℕ
free_count items k xs = times k (filter (λ member. not (is_allocated_at items member)) xs)

-- the free ones of two lists
pub free_count-append : (items : List LinkedItem) (k : ℕ) (xs ys : List ℕ) → free_count items k (xs ++ ys) ≡ free_count items k xs + free_count items k ys
free_count-append items k [] ys = omega arith
free_count-append items k (x ∷ xs) ys = by_test (is_allocated_at items x) refl (free_count-append items k xs ys)
  where
    by_test : (b : Bool) → is_allocated_at items x ≡ b → free_count items k (xs ++ ys) ≡ free_count items k xs + free_count items k ys → free_count items k (x ∷ xs ++ ys) ≡ free_count items k (x ∷ xs) + free_count items k ys
    by_test true e later = simp e later
    by_test false e later = simp e (omega (arith, later))

-- a free one counts
pub free_count-free : (items : List LinkedItem) (k x : ℕ) (xs : List ℕ) → is_allocated_at items x ≡ false → free_count items k (x ∷ xs) ≡ times k (x ∷ []) + free_count items k xs
free_count-free items k x xs e = simp e (omega arith)

-- an allocated one does not
pub free_count-allocated : (items : List LinkedItem) (k x : ℕ) (xs : List ℕ) → is_allocated_at items x ≡ true → free_count items k (x ∷ xs) ≡ free_count items k xs
free_count-allocated items k x xs e = simp e refl

-- the free ones of items that say the same
pub free_count-same : (items new : List LinkedItem) (k : ℕ) (xs : List ℕ) → ((n : ℕ) → 1 ≤ times n xs → is_allocated_at new n ≡ is_allocated_at items n) → free_count new k xs ≡ free_count items k xs
free_count-same items new k xs same =
    ap (λ ns. times k ns) (filter-agrees (λ member. not (is_allocated_at new member)) (λ member. not (is_allocated_at items member)) xs (λ n stands. ap not (same n stands)))

-- an item with its width changed
width-changed : (items : List LinkedItem) (label number width : ℕ) → number < length items → field_at (spelled_item label) (record { width = 0; id = None }) (changed_by (Some number) (λ (x : LinkedItem). record x { width = width }) items) number ≡ record { width = width; id = (field_at (spelled_item label) (record { width = 0; id = None }) items number).id }
width-changed [] label number width within = absurd (omega arith)
width-changed (x ∷ xs) label zero width within = refl
width-changed (x ∷ xs) label (suc number) width within = width-changed xs label number width (omega arith)

-- what an item says after it was changed, and that the others say what they said
pub record SaysNow (items new : List LinkedItem) (number : ℕ) (item_ : Item) (allocated_ : Bool) : Type 0 where
  pub item : item_at new number ≡ item_
  pub place : item_place_of new number ≡ item_place_of items number
  pub shelf : shelf_of new number ≡ shelf_of items number
  pub allocated : is_allocated_at new number ≡ allocated_
  pub others : (k : ℕ) → number ≢ k → SameItem items new k

-- an item was changed, and neither its place nor its shelf
says-now : (items : List LinkedItem) (number : ℕ) (change : LinkedItem → LinkedItem) {item : Item} {allocated : Bool} → item_at (changed_by (Some number) change items) number ≡ item → is_allocated_at (changed_by (Some number) change items) number ≡ allocated → ((x : LinkedItem) → (change x).x ≡ x.x) → ((x : LinkedItem) → (change x).shelf ≡ x.shelf) → SaysNow items (changed_by (Some number) change items) number item allocated
says-now items number change is mark place shelf =
    record {
      item = is;
      place = field_at-kept (λ (x : LinkedItem). x.x) 0 change items number number place;
      shelf = field_at-kept (λ (x : LinkedItem). x.shelf) 0 change items number number shelf;
      allocated = mark;
      others = λ k other. item-same items (changed_by (Some number) change items) k
          (get-changed_by-other change items (Some number) k (λ e. let same : number ≡ k = cc in other same));
    }

-- what an item says after its width was changed
abbrev pub IsWidened : List LinkedItem → List LinkedItem → ℕ → ℕ → Type 0
IsWidened items new number width = SaysNow items new number (record { width = width; id = (item_at items number).id }) (is_allocated_at items number)

pub widened : (items : List LinkedItem) (number width : ℕ) → number < length items → IsWidened items (changed_by (Some number) (λ (x : LinkedItem). record x { width = width }) items) number width
widened items number width within =
    let change : LinkedItem → LinkedItem = λ x. record x { width = width } in
    says-now items number change (width-changed items number number width within) (field_at-kept (λ (x : LinkedItem). x.allocated) false change items number number (λ x. refl)) (λ x. refl) (λ x. refl)

-- an allocated one is no free one
pub free_count-none : (items : List LinkedItem) (k : ℕ) (xs : List ℕ) → is_allocated_at items k ≡ true → free_count items k xs ≡ 0
free_count-none items k [] marked = refl
free_count-none items k (x ∷ xs) marked = by_test (is_allocated_at items x) refl (free_count-none items k xs marked)
  where
    by_test : (b : Bool) → is_allocated_at items x ≡ b → free_count items k xs ≡ 0 → free_count items k (x ∷ xs) ≡ 0
    by_test true e later = free_count-allocated items k x xs e ∙ later
    by_test false e later =
        let other : x ≢ k = λ same. let contrary : is_allocated_at items k ≡ false = subst (λ (n : ℕ). is_allocated_at items n ≡ false) same e in cc in
        omega (arith, free_count-free items k x xs e, later, times-other k x [] other)

-- an item with its mark changed
marked-changed : (items : List LinkedItem) (label number : ℕ) → number < length items → field_at (spelled_item label) (record { width = 0; id = None }) (changed_by (Some number) (λ (x : LinkedItem). record x { allocated = false }) items) number ≡ record { width = (field_at (spelled_item label) (record { width = 0; id = None }) items number).width; id = None }
marked-changed [] label number within = absurd (omega arith)
marked-changed (x ∷ xs) label zero within = refl
marked-changed (x ∷ xs) label (suc number) within = marked-changed xs label number (omega arith)

-- what an item says after it became free
abbrev pub IsFreed : List LinkedItem → List LinkedItem → ℕ → Type 0
IsFreed items new number = SaysNow items new number (record { width = (item_at items number).width; id = None }) false

pub unmarked : (items : List LinkedItem) (number : ℕ) → number < length items → IsFreed items (changed_by (Some number) (λ (x : LinkedItem). record x { allocated = false }) items) number
unmarked items number within =
    let change : LinkedItem → LinkedItem = λ x. record x { allocated = false } in
    says-now items number change (marked-changed items number number within) (field_at-changed (λ (x : LinkedItem). x.allocated) false change items number false within (λ x. refl)) (λ x. refl) (λ x. refl)

-- the items of a shelf that stand before one of them begin before it
pub place-before : (items : List LinkedItem) (here : ℕ) (front back : List ℕ) (number k : ℕ) → ((n : ℕ) → 1 ≤ times n (front ++ number ∷ back) → 1 ≤ (item_at items n).width) → LieFrom items here (front ++ number ∷ back) → 1 ≤ times k front → item_place_of items k < item_place_of items number
place-before items here [] back number k wide lies stands = absurd (omega (arith, stands))
place-before items here (x ∷ front) back number k wide lies stands = by_test (x == k) refl (place-before items (here + (item_at items x).width) front back number k (λ n among. wide n (omega (arith, among))) lies.1)
  where
    by_test : (b : Bool) → (x == k) ≡ b → (1 ≤ times k front → item_place_of items k < item_place_of items number) → item_place_of items k < item_place_of items number
    by_test true e later =
        let same : x ≡ k = grind arith in
        let own : item_place_of items k ≡ here = rw (← same) lies.0 in
        let width : 1 ≤ (item_at items x).width = wide x (omega (arith, times-here x (front ++ number ∷ back))) in
        let begins : item_place_of items number ≡ here + (item_at items x).width + widths items front =
        (LieFrom-back items (here + (item_at items x).width) front (number ∷ back) lies.1).0 in
        omega (arith, own, width, begins)
    by_test false e later = let other : x ≢ k = grind arith in later (omega (arith, stands, times-other k x front other))

-- the items of a shelf that stand after its first begin after it
after-first : (items : List LinkedItem) (here : ℕ) (xs : List ℕ) (k : ℕ) → LieFrom items here xs → 1 ≤ times k xs → here ≤ item_place_of items k
after-first items here [] k lies stands = absurd (omega (arith, stands))
after-first items here (x ∷ xs) k lies stands = by_test (x == k) refl (after-first items (here + (item_at items x).width) xs k lies.1)
  where
    by_test : (b : Bool) → (x == k) ≡ b → (1 ≤ times k xs → here + (item_at items x).width ≤ item_place_of items k) → here ≤ item_place_of items k
    by_test true e later = let same : x ≡ k = grind arith in let own : item_place_of items k ≡ here = rw (← same) lies.0 in omega (arith, own)
    by_test false e later = let other : x ≢ k = grind arith in omega (arith, later (omega (arith, stands, times-other k x xs other)))

-- the items of a shelf that stand after one of them begin after it
pub place-after : (items : List LinkedItem) (here : ℕ) (front back : List ℕ) (number k : ℕ) → ((n : ℕ) → 1 ≤ times n (front ++ number ∷ back) → 1 ≤ (item_at items n).width) → LieFrom items here (front ++ number ∷ back) → 1 ≤ times k back → item_place_of items number < item_place_of items k
place-after items here front back number k wide lies stands =
    let rest : LieFrom items (here + widths items front) (number ∷ back) = LieFrom-back items here front (number ∷ back) lies in
    let width : 1 ≤ (item_at items number).width = wide number (omega (arith, times-append number front (number ∷ back), times-here number back)) in
    omega (arith, rest.0, width, after-first items (here + widths items front + (item_at items number).width) back k rest.1 stands)

-- the id of the item of a number
abbrev pub id_at : List LinkedItem → ℕ → ℕ
id_at items number = number + 65536 * field_at (λ (x : LinkedItem). x.generation) 0 items number

-- an item marked allocated
given-changed : (items : List LinkedItem) (label number : ℕ) → number < length items → field_at (spelled_item label) (record { width = 0; id = None }) (changed_by (Some number) (λ (x : LinkedItem). record x { allocated = true }) items) number ≡ record { width = (field_at (spelled_item label) (record { width = 0; id = None }) items number).width; id = Some (label + 65536 * field_at (λ (x : LinkedItem). x.generation) 0 items number) }
given-changed [] label number within = absurd (omega arith)
given-changed (x ∷ xs) label zero within = refl
given-changed (x ∷ xs) label (suc number) within = given-changed xs label number (omega arith)

-- what an item says after it was given whole
abbrev pub IsGiven : List LinkedItem → List LinkedItem → ℕ → Type 0
IsGiven items new number = SaysNow items new number (record { width = (item_at items number).width; id = Some (id_at items number) }) true

pub marked : (items : List LinkedItem) (number : ℕ) → number < length items → IsGiven items (changed_by (Some number) (λ (x : LinkedItem). record x { allocated = true }) items) number
marked items number within =
    let change : LinkedItem → LinkedItem = λ x. record x { allocated = true } in
    says-now items number change (given-changed items number number within) (field_at-changed (λ (x : LinkedItem). x.allocated) false change items number true within (λ x. refl)) (λ x. refl) (λ x. refl)

-- items of which one only changed its mark still lie side by side
pub remarked-places : (items new : List LinkedItem) (here : ℕ) (front back : List ℕ) (number : ℕ) → ((k : ℕ) → 1 ≤ times k front → SameItem items new k) → ((k : ℕ) → 1 ≤ times k back → SameItem items new k) → item_place_of new number ≡ item_place_of items number → (item_at new number).width ≡ (item_at items number).width → LieFrom items here (front ++ number ∷ back) → LieFrom new here (front ++ number ∷ back)
remarked-places items new here front back number same_front same_back place width lies =
    let lie_back : LieFrom items (here + widths items front) (number ∷ back) = LieFrom-back items here front (number ∷ back) lies in
    let moved : LieFrom items (here + widths items front + (item_at new number).width) back = rw width lie_back.1 in
    let same_middle : here + widths new front ≡ here + widths items front = ap (λ w. here + w) (widths-same items new front same_front) in
    let new_back : LieFrom new (here + widths new front) (number ∷ back) =
    rw same_middle (place ∙ lie_back.0, LieFrom-same items new (here + widths items front + (item_at new number).width) back same_back moved) in
    LieFrom-append new here front (number ∷ back) (LieFrom-same items new here front same_front (LieFrom-front items here front (number ∷ back) lies)) new_back
