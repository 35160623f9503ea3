-- What a grow is counted to need on kept records is what it needs of the state that they spell.
use Rattle.std.proofs.Common.{◌≡◌, ℕ, zero, suc, ◌+◌, ◌-◌, ◌*◌, ◌≤◌, Bool, true, false, cond, ◌&&◌, ◌==◌, Option, None, Some, List, [], ◌∷◌, length, map, refl, ap, sym, ◌∙◌, arith}
use Rattle.std.specs.Prelude.{◌/◌, ◌%◌, nat_lt, not}
use Rattle.etagere_base.specs.declared.frames.Frame.{Frame}
use Rattle.etagere_base.specs.declared.geometry.Size.{Size}
use Rattle.etagere_base.specs.Frames.{across_side}
use Rattle.std.specs.List.{AllByRecursion}
use Rattle.etagere_base.specs.Lists.{total}
use Rattle.etagere_base.proofs.AlignedPlaces.{multiple}
use Rattle.shelf_records.specs.declared.records.LinkedItem.{LinkedItem}
use Rattle.etagere_links.specs.Chains.{Leads}
use Rattle.etagere_links.specs.Edits.{link_at}
use Rattle.shelf_records.specs.RecordLists.{Records, first_item_of, item_walk, shelf_walk, walked_entry}
use Rattle.shelf_records.specs.Records.{item_chain, shelf_chain}
use Rattle.shelf_records.specs.AtlasRecords.{along_of, is_allocated_at, is_empty_at, item_at, spelled_shelf}
use Rattle.shelf_model.specs.Growing.{ends_column, ends_free, filled_ends, grown_frame, records_needed}
use Rattle.shelf_records.specs.Private.Kept.{AreKept, atlas_of, bare, state_of}
use Rattle.shelf_records.proofs.Spelled.Witnessed.{HasFlag, IsPlaced}
use Rattle.shelf_store.specs.Private.RecordsGrown.{allocated_ends, counted_from, ends_column_at, ends_free_at, filled_ends_of, is_filled_end, last_from, needed_of}
use Rattle.shelf_model.specs.State.{Shelf, is_empty}
use Rattle.shelf_store.proofs.Grown.GrowSteps.{counted-next, counted-none, last-next, last-none}
use Rattle.shelf_records.proofs.AllLists.Following.{IsLeft}
use Rattle.shelf_records.proofs.AllLists.LinkedParts.{items-left, shelves-left}
use Rattle.shelf_records.proofs.Spelled.SpelledPlaces.{free-spelled}
use Rattle.shelf_records.proofs.Recorded.Members.{Each-times}
use Rattle.shelf_records.proofs.Spelled.StandsKept.{witnesses}

-- the last of these behind one, or that one
abbrev pub last_of : ℕ → List ℕ → ℕ
last_of x [] = x
last_of x (y ∷ ys) = last_of y ys

-- links lead to the last of the list that they spell
pub last-leads : {T : Type 0} (next : T → Option ℕ) (records : List T) (n x : ℕ) (xs : List ℕ) → Leads (link_at next records) (link_at next records x) xs None
    → length xs ≤ n → last_from next records n x ≡ last_of x xs
last-leads next records n x [] leads few = last-none next records n x leads
last-leads next records zero x (y ∷ ys) leads few = absurd (omega (arith, few))
last-leads next records (suc n) x (y ∷ ys) leads few =
    sym (last-next next records (suc n) n x y refl leads.0) ∙ last-leads next records n y ys leads.1 (omega (arith, few))

-- the items of a list end with a free one where its last one is free
ends-last : (items : List LinkedItem) (x : ℕ) (xs : List ℕ) → ends_free (map (item_at items) (x ∷ xs)) ≡ not (is_allocated_at items (last_of x xs))
ends-last items x [] = free-spelled items x
ends-last items x (y ∷ ys) = ends-last items y ys

-- a shelf ends with a free item where its last record is free
ends-spelled : (records : Records) (shelf : ℕ) (numbers : List ℕ) → IsLeft item_chain.next records.items (first_item_of records.shelves shelf) 0 numbers
    → ends_free_at records shelf ≡ ends_free (map (item_at records.items) numbers)
ends-spelled records shelf [] left =
    let none : first_item_of records.shelves shelf ≡ None = left.leads in rw none refl
ends-spelled records shelf (x ∷ xs) left =
    let first : first_item_of records.shelves shelf ≡ Some x = left.leads.0 in
    let last = last-leads item_chain.next records.items (length records.items) x xs left.leads.1 (omega (arith, left.enough)) in
    rw (first, last) (sym (ends-last records.items x xs))

-- places of columns are the same where the columns are
pub same-columns : (a b width : ℕ) → a % width ≡ 0 → b % width ≡ 0 → (a == b) ≡ (a / width == b / width)
same-columns a b width h k = of (a / width) (b / width) refl refl
  where
    of : (m n : ℕ) → a / width ≡ m → b / width ≡ n → (a == b) ≡ (m == n)
    of m n e f = by_test (m == n) refl
      where
        by_test : (c : Bool) → (m == n) ≡ c → (a == b) ≡ c
        by_test true g =
            let same : m ≡ n = grind arith in
            let equal : a ≡ b = multiple a width h ∙ ap (λ (q : ℕ). q * width) (e ∙ same ∙ sym f) ∙ sym (multiple b width k) in
            grind arith
        by_test false g = of_test (a == b) refl
          where
            of_test : (d : Bool) → (a == b) ≡ d → d ≡ false
            of_test false i = refl
            of_test true i =
                let equal : a ≡ b = grind arith in
                let quotients : m ≡ n = sym e ∙ ap (λ (x : ℕ). x / width) equal ∙ f in
                absurd (grind arith)

module _ (frame : Frame) (records : Records) where
  -- the shelf of a number
  abbrev shelf_at : ℕ → Shelf
  shelf_at number = spelled_shelf (bare frame records) (walked_entry records number)

  -- the shelves of numbers
  abbrev shelves_at : List ℕ → List Shelf
  shelves_at numbers = map (spelled_shelf (bare frame records)) (map (walked_entry records) numbers)

  -- the ends that are counted along the shelves
  counted-ends : (n : ℕ) (at : Option ℕ) (numbers : List ℕ) → Leads (link_at shelf_chain.next records.shelves) at numbers None → length numbers ≤ n
      → AllByRecursion (λ k. ends_free_at records k ≡ ends_free (shelf_at k).items) numbers
      → counted_from (λ shelf next. not (ends_free_at records shelf)) records.shelves n at
      ≡ total (λ (shelf : Shelf). cond (ends_free shelf.items) 0 1) (shelves_at numbers)
  counted-ends n at [] leads few same = counted-none (λ shelf next. not (ends_free_at records shelf)) records.shelves n at leads
  counted-ends zero at (x ∷ xs) leads few same = absurd (omega (arith, few))
  counted-ends (suc n) at (x ∷ xs) leads few same =
      omega (
        arith,
        counted-next (λ shelf next. not (ends_free_at records shelf)) records.shelves (suc n) n x at (link_at shelf_chain.next records.shelves x) refl leads.0 refl,
        counted-ends n (link_at shelf_chain.next records.shelves x) xs leads.1 (omega (arith, few)) same.1,
        turned (ends_free_at records x) (ends_free (shelf_at x).items) same.0,
      )
    where
      turned : (a b : Bool) → a ≡ b → cond (not a) 1 0 + 0 ≡ cond b 0 1 + 0
      turned a true h = rw h refl
      turned a false h = rw h refl

  -- what is said of a shelf by its record
  record IsSaid (number : ℕ) : Type 0 where
    along : along_of records.shelves number % frame.column_width ≡ 0
    flag : is_empty_at records.shelves number ≡ is_empty (shelf_at number)

  -- a shelf ends its column where its record does
  column-ends : (x : ℕ) (xs : List ℕ) → Leads (link_at shelf_chain.next records.shelves) (link_at shelf_chain.next records.shelves x) xs None
      → AllByRecursion IsSaid (x ∷ xs) → ends_column_at records.shelves x (link_at shelf_chain.next records.shelves x) ≡ ends_column (shelf_at x) (shelves_at xs)
  column-ends x [] leads said = let none : link_at shelf_chain.next records.shelves x ≡ None = leads in rw none refl
  column-ends x (y ∷ ys) leads said =
      rw leads.0
      (ap not (same-columns (along_of records.shelves x) (along_of records.shelves y) frame.column_width said.0.along said.1.0.along))

  -- the filled ends that are counted along the shelves
  counted-filled : (n : ℕ) (at : Option ℕ) (numbers : List ℕ) → Leads (link_at shelf_chain.next records.shelves) at numbers None → length numbers ≤ n
      → AllByRecursion IsSaid numbers → counted_from (is_filled_end records.shelves) records.shelves n at ≡ filled_ends (shelves_at numbers)
  counted-filled n at [] leads few said = counted-none (is_filled_end records.shelves) records.shelves n at leads
  counted-filled zero at (x ∷ xs) leads few said = absurd (omega (arith, few))
  counted-filled (suc n) at (x ∷ xs) leads few said =
      let ends : is_filled_end records.shelves x (link_at shelf_chain.next records.shelves x) ≡ (ends_column (shelf_at x) (shelves_at xs) && not (is_empty (shelf_at x))) =
      rw (column-ends x xs leads.1 said, said.0.flag) refl in
      omega (
        arith,
        counted-next (is_filled_end records.shelves) records.shelves (suc n) n x at (link_at shelf_chain.next records.shelves x) refl leads.0 refl,
        counted-filled n (link_at shelf_chain.next records.shelves x) xs leads.1 (omega (arith, few)) said.1,
        ap {B = ℕ} (λ (b : Bool). cond b 1 0) ends,
      )

-- a count where something is added
pub where-more : (a b n : ℕ) → cond (nat_lt a b) n 0 ≡ cond (b - a == 0) 0 n
where-more a b n = grind arith

-- what is counted along the shelves of kept records
pub record CountsEnds (frame : Frame) (records : Records) : Type 0 where
  pub ends : allocated_ends records ≡ total (λ (shelf : Shelf). cond (ends_free shelf.items) 0 1) (state_of frame records).shelves
  pub filled : filled_ends_of records ≡ filled_ends (state_of frame records).shelves

pub ends-counted : (frame : Frame) (records : Records) → AreKept frame records → CountsEnds frame records
ends-counted frame records kept =
    let numbers = (shelf_walk records).met in
    let left = shelves-left records (witnesses kept).linked in
    let few : length numbers ≤ length records.shelves = omega (arith, left.enough) in
    let ends = Each-times (λ k. ends_free_at records k ≡ ends_free (shelf_at frame records k).items) numbers
    (λ k stands. ends-spelled records k (item_walk records k).met (items-left records k (witnesses kept).linked stands)) in
    record {
      ends = counted-ends frame records (length records.shelves) records.first_shelf numbers left.leads few ends;
      filled = counted-filled frame records (length records.shelves) records.first_shelf numbers left.leads few (each-said numbers (witnesses kept).placed (witnesses kept).flags);
    }
  where
    each-said : (numbers : List ℕ) → AllByRecursion (IsPlaced (atlas_of frame records)) (map (walked_entry records) numbers)
        → AllByRecursion (HasFlag (atlas_of frame records)) (map (walked_entry records) numbers) → AllByRecursion (IsSaid frame records) numbers
    each-said [] placed flags = tt
    each-said (x ∷ xs) placed flags = (record { along = placed.0.along; flag = flags.0 }, each-said xs placed.1 flags.1)

-- what is counted on kept records is what a grow needs
pub needed-counted : (frame : Frame) (size : Size) (records : Records) → AreKept frame records
    → (needed_of frame (grown_frame frame size) records).items ≡ records_needed (state_of frame records) size
needed-counted frame size records kept =
    let counts : CountsEnds frame records = ends-counted frame records kept in
    omega (
      arith,
      ap {B = ℕ} (λ (n : ℕ). cond (nat_lt frame.column_width (grown_frame frame size).column_width) n 0) counts.ends,
      where-more frame.column_width (grown_frame frame size).column_width
          (total (λ (shelf : Shelf). cond (ends_free shelf.items) 0 1) (state_of frame records).shelves),
      ap {B = ℕ} (λ (n : ℕ). cond (nat_lt (across_side frame) (across_side (grown_frame frame size))) n 0) counts.filled,
      where-more (across_side frame) (across_side (grown_frame frame size)) (filled_ends (state_of frame records).shelves),
    )
