-- Shelves with a height added at the end of each column: the last shelf is taller where it is empty, else an empty one
-- comes after it.
use Rattle.std.proofs.Common.{◌≡◌, ◌≢◌, ℕ, suc, ◌+◌, ◌≤◌, Bool, true, false, cond, ◌&&◌, ◌==◌, List, [], ◌∷◌, ◌++◌, length, map, refl, ap, ◌∙◌, arith, subst}
use Rattle.std.proofs.lemmas.Bool.{cond-false, cond-true, eqb-true}
use Rattle.std.specs.Prelude.{not, nat_lt}
use Rattle.etagere_base.specs.declared.frames.Frame.{Frame}
use Rattle.std.specs.List.{AllByRecursion}
use Rattle.etagere_base.specs.Lists.{NoNeighbours}
use Rattle.etagere_base.specs.Merging.{merged_onto}
use Rattle.etagere_base.proofs.EachLemmas.{Each-weaken}
use Rattle.etagere_base.proofs.NoNeighboursLemmas.{NoNeighbours-tail}
use Rattle.etagere_base.proofs.Totals.{total-append}
use Rattle.shelf_model.specs.Growing.{ends_column, filled_ends, with_ends}
use Rattle.shelf_model.specs.Merging.{both_empty, combined_shelves, merged_shelf, merged_shelves}
use Rattle.shelf_model.specs.Places.{column_height}
use Rattle.shelf_model.specs.State.{Shelf, empty_shelf, is_empty, items_in_use}
use Rattle.shelf_model.specs.Valid.{is_out_of_order}
use Rattle.shelf_model.proofs.Places.Heights.{column_height-none}

module _ (frame : Frame) (height : ℕ) where
  -- the shelf of this column that is added
  abbrev pub end_shelf : Shelf → Shelf
  end_shelf shelf = empty_shelf frame shelf.column height

  -- what becomes of a shelf, before these
  abbrev pub taller_end : Shelf → List Shelf → List Shelf
  taller_end shelf shelves =
      cond (ends_column shelf shelves)
      (cond (is_empty shelf) (combined_shelves shelf (end_shelf shelf) ∷ []) (shelf ∷ end_shelf shelf ∷ []))
      (shelf ∷ [])

  -- the shelves with a height added at the end of each column
  abbrev pub taller_ends : List Shelf → List Shelf
  taller_ends [] = []
  taller_ends (shelf ∷ shelves) = taller_end shelf shelves ++ taller_ends shelves

-- a fact of the first shelf, if any
abbrev pub Heads : (Shelf → Type 0) → List Shelf → Type 0
Heads P [] = Unit {0}
Heads P (shelf ∷ shelves) = P shelf

-- two lists end to end of which no neighbours touch, where the first one of the back touches none of the front
pub NoNeighbours-joined : (touch : Shelf → Shelf → Bool) (shelves new : List Shelf) → NoNeighbours touch shelves → NoNeighbours touch new
    → AllByRecursion (λ (shelf : Shelf). Heads (λ next. touch shelf next ≡ false) new) shelves → NoNeighbours touch (shelves ++ new)
NoNeighbours-joined touch [] new apart others first = others
NoNeighbours-joined touch (shelf ∷ []) new apart others first = joined new first.0 others
  where
    joined : (new : List Shelf) → Heads (λ next. touch shelf next ≡ false) new → NoNeighbours touch new → NoNeighbours touch (shelf ∷ new)
    joined [] h k = tt
    joined (next ∷ new) h k = (h, k)
NoNeighbours-joined touch (shelf ∷ next ∷ shelves) new apart others first =
    (apart.0, NoNeighbours-joined touch (next ∷ shelves) new apart.1 others first.1)

-- a shelf that doesn't touch the first one stands in front as it is
onto-first : (shelf : Shelf) (shelves : List Shelf) → Heads (λ next. both_empty shelf next ≡ false) shelves
    → merged_onto both_empty combined_shelves shelf shelves ≡ shelf ∷ shelves
onto-first shelf [] apart = refl
onto-first shelf (next ∷ shelves) apart = cond-false _ _ _ apart

-- another column is that of no neighbour to merge with
other_column : (a b : ℕ) (c : Bool) → (a == b) ≡ false → (a == b && c) ≡ false
other_column a b c h = grind arith

module _ (frame : Frame) (height : ℕ) (new : List Shelf) where
  -- what doesn't see heights is a fact of the first shelf as before
  first-taller : (P : Shelf → Type 0) → ((shelf next : Shelf) → P shelf → P (combined_shelves shelf next)) → (shelves : List Shelf)
      → Heads P (shelves ++ new) → Heads P (taller_ends frame height shelves ++ new)
  first-taller P keeps [] h = h
  first-taller P keeps (shelf ∷ shelves) h = by_test (ends_column shelf shelves) (is_empty shelf)
    where
      by_test : (b c : Bool) → Heads P ((cond b (cond c (combined_shelves shelf (end_shelf frame height shelf) ∷ []) (shelf ∷ end_shelf frame height shelf ∷ [])) (shelf ∷ []) ++ taller_ends frame height shelves) ++ new)
      by_test true true = keeps shelf (end_shelf frame height shelf) h
      by_test true false = h
      by_test false c = h

  -- merging shelves of which no empty ones are neighbours, with an empty one at the end of each column, and these after them
  pub merged-ends : (shelves : List Shelf) → NoNeighbours both_empty shelves
      → merged_shelves new ≡ new → AllByRecursion (λ (shelf : Shelf). Heads (λ next. (shelf.column == next.column) ≡ false) new) shelves
      → merged_shelves (with_ends frame height shelves ++ new) ≡ taller_ends frame height shelves ++ new
  merged-ends [] apart merged others = merged
  merged-ends (shelf ∷ shelves) apart merged others =
      by_test (ends_column shelf shelves) (is_empty shelf) refl refl
      (merged-ends shelves (NoNeighbours-tail both_empty shelf shelves apart) merged others.1)
    where
      Later : Type 0
      Later = merged_shelves (with_ends frame height shelves ++ new) ≡ taller_ends frame height shelves ++ new

      next_other : ends_column shelf shelves ≡ true → Heads (λ next. (shelf.column == next.column) ≡ false) (taller_ends frame height shelves ++ new)
      next_other e =
          first-taller (λ next. (shelf.column == next.column) ≡ false) (λ one other h. h) shelves (before shelves e)
        where
          before : (shelves : List Shelf) → ends_column shelf shelves ≡ true → Heads (λ next. (shelf.column == next.column) ≡ false) (shelves ++ new)
          before [] e = others.0
          before (next ∷ shelves) e = grind arith

      next_apart : ends_column shelf shelves ≡ false → Heads (λ next. both_empty shelf next ≡ false) (taller_ends frame height shelves ++ new)
      next_apart e = first-taller (λ next. both_empty shelf next ≡ false) (λ one other h. h) shelves (before shelves e apart)
        where
          before : (shelves : List Shelf) → ends_column shelf shelves ≡ false → NoNeighbours both_empty (shelf ∷ shelves)
              → Heads (λ next. both_empty shelf next ≡ false) (shelves ++ new)
          before [] e h = absurd (cc)
          before (next ∷ shelves) e h = h.0

      heads_other : (shelves : List Shelf) → Heads (λ next. (shelf.column == next.column) ≡ false) shelves
          → Heads (λ next. both_empty (end_shelf frame height shelf) next ≡ false) shelves
      heads_other [] h = tt
      heads_other (next ∷ shelves) h = other_column shelf.column next.column (true && is_empty next) h

      own : (a : ℕ) (b : Bool) → (a == a && (b && true)) ≡ b
      own a b = grind arith

      end_first : Later → ends_column shelf shelves ≡ true
          → merged_shelves (shelf ∷ end_shelf frame height shelf ∷ (with_ends frame height shelves ++ new))
          ≡ merged_onto both_empty combined_shelves shelf (end_shelf frame height shelf ∷ (taller_ends frame height shelves ++ new))
      end_first later e =
          ap (merged_onto both_empty combined_shelves shelf)
          (ap (merged_onto both_empty combined_shelves (end_shelf frame height shelf)) later
          ∙ onto-first (end_shelf frame height shelf) (taller_ends frame height shelves ++ new) (heads_other _ (next_other e)))

      by_test : (b c : Bool) → ends_column shelf shelves ≡ b → is_empty shelf ≡ c → Later
          → merged_shelves (with_ends frame height (shelf ∷ shelves) ++ new) ≡ taller_ends frame height (shelf ∷ shelves) ++ new
      by_test true true e f later = rw (e, f) (end_first later e ∙ cond-true _ _ _ (own shelf.column (is_empty shelf) ∙ f))
      by_test true false e f later = rw (e, f) (end_first later e ∙ cond-false _ _ _ (own shelf.column (is_empty shelf) ∙ f))
      by_test false c e f later =
          rw e (ap (merged_onto both_empty combined_shelves shelf) later ∙ onto-first shelf (taller_ends frame height shelves ++ new) (next_apart e))

module _ (frame : Frame) (height : ℕ) where
  -- the shelves with empty ones at the ends stand in order before others that do
  pub ordered-ends : (new shelves : List Shelf) → NoNeighbours is_out_of_order shelves → NoNeighbours is_out_of_order new
      → AllByRecursion (λ (shelf : Shelf). Heads (λ next. nat_lt next.column shelf.column ≡ false) new) shelves
      → NoNeighbours is_out_of_order (with_ends frame height shelves ++ new)
  ordered-ends new [] ordered others later = others
  ordered-ends new (shelf ∷ shelves) ordered others later =
      by_test (ends_column shelf shelves)
      (ordered-ends new shelves (NoNeighbours-tail is_out_of_order shelf shelves ordered) others later.1)
    where
      Rest : Type 0
      Rest = NoNeighbours is_out_of_order (with_ends frame height shelves ++ new)

      in_front : Rest → (column : ℕ) → Heads (λ next. nat_lt next.column column ≡ false) (with_ends frame height shelves ++ new)
          → (first : Shelf) → first.column ≡ column → NoNeighbours is_out_of_order (first ∷ (with_ends frame height shelves ++ new))
      in_front rest column h first same = joined (with_ends frame height shelves ++ new) h rest
        where
          joined : (shelves : List Shelf) → Heads (λ next. nat_lt next.column column ≡ false) shelves → NoNeighbours is_out_of_order shelves
              → NoNeighbours is_out_of_order (first ∷ shelves)
          joined [] h k = tt
          joined (next ∷ shelves) h k = (rw same h, k)

      first_later : Heads (λ next. nat_lt next.column shelf.column ≡ false) (with_ends frame height shelves ++ new)
      first_later = of shelves ordered
        where
          of : (shelves : List Shelf) → NoNeighbours is_out_of_order (shelf ∷ shelves)
              → Heads (λ next. nat_lt next.column shelf.column ≡ false) (with_ends frame height shelves ++ new)
          of [] h = later.0
          of (next ∷ shelves) h = h.0

      same_column : (n : ℕ) → nat_lt n n ≡ false
      same_column n = grind arith

      by_test : (b : Bool) → Rest → NoNeighbours is_out_of_order ((shelf ∷ (cond b (end_shelf frame height shelf ∷ []) [] ++ with_ends frame height shelves)) ++ new)
      by_test true rest = (same_column shelf.column, in_front rest shelf.column first_later (end_shelf frame height shelf) refl)
      by_test false rest = in_front rest shelf.column first_later shelf refl

  -- a fact of each shelf and of each that is added
  pub each-ends : (P : Shelf → Type 0) → ((shelf : Shelf) → P shelf → P (end_shelf frame height shelf)) → (shelves : List Shelf)
      → AllByRecursion P shelves → AllByRecursion P (with_ends frame height shelves)
  each-ends P ends [] each = tt
  each-ends P ends (shelf ∷ shelves) each = (each.0, by_test (ends_column shelf shelves) (each-ends P ends shelves each.1))
    where
      by_test : (b : Bool) → AllByRecursion P (with_ends frame height shelves) → AllByRecursion P (cond b (end_shelf frame height shelf ∷ []) [] ++ with_ends frame height shelves)
      by_test true rest = (ends shelf each.0, rest)
      by_test false rest = rest

-- shelves in order behind one stand in its column or a later one
pub columns-from : (from : ℕ) (shelf : Shelf) (shelves : List Shelf) → from ≤ shelf.column → NoNeighbours is_out_of_order (shelf ∷ shelves)
    → AllByRecursion (λ (s : Shelf). from ≤ s.column) shelves
columns-from from shelf [] h ordered = tt
columns-from from shelf (next ∷ shelves) h ordered =
    let later : from ≤ next.column = omega (arith, h, no-less next.column shelf.column ordered.0) in
    (later, columns-from from next shelves later ordered.1)
  where
    no-less : (a b : ℕ) → nat_lt a b ≡ false → b ≤ a
    no-less a b h = grind arith

-- shelves in order behind the last one of a column stand in later ones
pub columns-after : (shelf : Shelf) (shelves : List Shelf) → ends_column shelf shelves ≡ true → NoNeighbours is_out_of_order (shelf ∷ shelves)
    → AllByRecursion (λ (s : Shelf). suc shelf.column ≤ s.column) shelves
columns-after shelf [] ends ordered = tt
columns-after shelf (next ∷ shelves) ends ordered =
    let later : suc shelf.column ≤ next.column = above shelf.column next.column ends ordered.0 in
    (later, columns-from (suc shelf.column) next shelves later ordered.1)
  where
    above : (a b : ℕ) → not (a == b) ≡ true → nat_lt b a ≡ false → suc a ≤ b
    above a b h k = grind arith

module _ (frame : Frame) (height column : ℕ) where
  -- shelves of later columns add nothing
  ends-later : (shelves : List Shelf) → AllByRecursion (λ (s : Shelf). suc column ≤ s.column) shelves
      → (column_height column (with_ends frame height shelves) ≡ 0) × (column_height column shelves ≡ 0)
  ends-later shelves later = (
    column_height-none column (with_ends frame height shelves)
        (each-ends frame height (λ (s : Shelf). s.column ≢ column) (λ shelf h. h) shelves (others shelves later)),
    column_height-none column shelves (others shelves later),
  )
    where
      others : (shelves : List Shelf) → AllByRecursion (λ (s : Shelf). suc column ≤ s.column) shelves → AllByRecursion (λ (s : Shelf). s.column ≢ column) shelves
      others shelves later =
          Each-weaken (λ (s : Shelf). suc column ≤ s.column) (λ (s : Shelf). s.column ≢ column) shelves
          (λ (s : Shelf) (h : suc column ≤ s.column) (e : s.column ≡ column). omega (arith, h, e)) later

  -- a column with a shelf gets the height once
  pub column_height-ends : (shelves : List Shelf) → NoNeighbours is_out_of_order shelves → AllByRecursion (λ (s : Shelf). 1 ≤ s.height) shelves
      → 1 ≤ column_height column shelves → column_height column (with_ends frame height shelves) ≡ column_height column shelves + height
  column_height-ends [] ordered tall some = absurd (omega (arith, some))
  column_height-ends (shelf ∷ shelves) ordered tall some =
      by_test (shelf.column == column) (ends_column shelf shelves) refl refl
      (column_height-ends shelves (NoNeighbours-tail is_out_of_order shelf shelves ordered) tall.1)
    where
      own : (b : Bool) (n : ℕ) → b ≡ true → cond b n 0 ≡ n
      own b n h = cond-true b n 0 h

      other : (b : Bool) (n : ℕ) → b ≡ false → cond b n 0 ≡ 0
      other b n h = cond-false b n 0 h

      next_in : (shelves : List Shelf) → (shelf.column == column) ≡ true → ends_column shelf shelves ≡ false → AllByRecursion (λ (s : Shelf). 1 ≤ s.height) shelves
          → 1 ≤ column_height column shelves
      next_in [] e f tall = absurd (cc)
      next_in (next ∷ shelves) e f tall =
          omega (arith, tall.0, own (next.column == column) next.height (same shelf.column next.column e f))
        where
          same : (a b : ℕ) → (a == column) ≡ true → not (a == b) ≡ false → (b == column) ≡ true
          same a b e f = grind arith

      by_test : (b c : Bool) → (shelf.column == column) ≡ b → ends_column shelf shelves ≡ c
          → (1 ≤ column_height column shelves → column_height column (with_ends frame height shelves) ≡ column_height column shelves + height)
          → column_height column (shelf ∷ (cond c (end_shelf frame height shelf ∷ []) [] ++ with_ends frame height shelves))
          ≡ column_height column (shelf ∷ shelves) + height
      by_test true true e f later_one =
          let is : shelf.column ≡ column = eqb-true shelf.column column e in
          let none = ends-later shelves (subst (λ (n : ℕ). AllByRecursion (λ (s : Shelf). suc n ≤ s.column) shelves) is (columns-after shelf shelves f ordered)) in
          omega (arith, none.0, none.1, own (shelf.column == column) height e)
      by_test true false e f later_one = omega (arith, later_one (next_in shelves e f tall.1))
      by_test false true e f later_one =
          omega (arith, other (shelf.column == column) height e, later_one (omega (arith, some, other (shelf.column == column) shelf.height e)))
      by_test false false e f later_one = omega (arith, later_one (omega (arith, some, other (shelf.column == column) shelf.height e)))

-- each column that ends with a shelf that isn't empty gets one more item
pub items_in_use-ends : (frame : Frame) (height : ℕ) (shelves : List Shelf)
    → items_in_use (taller_ends frame height shelves) ≡ items_in_use shelves + filled_ends shelves
items_in_use-ends frame height [] = refl
items_in_use-ends frame height (shelf ∷ shelves) =
    omega (
      arith,
      total-append (λ (s : Shelf). length s.items) (taller_end frame height shelf shelves) (taller_ends frame height shelves),
      items_in_use-ends frame height shelves,
      by_test (ends_column shelf shelves) (is_empty shelf),
    )
  where
    by_test : (b c : Bool) → items_in_use (cond b (cond c (combined_shelves shelf (end_shelf frame height shelf) ∷ []) (shelf ∷ end_shelf frame height shelf ∷ [])) (shelf ∷ []))
        ≡ length shelf.items + cond (b && not c) 1 0
    by_test true true = omega arith
    by_test true false = omega arith
    by_test false c = omega arith

-- merging in each shelf with empty ones at the ends
pub map-merged-ends : (frame : Frame) (height : ℕ) (shelves : List Shelf)
    → map merged_shelf (with_ends frame height shelves) ≡ with_ends frame height (map merged_shelf shelves)
map-merged-ends frame height [] = refl
map-merged-ends frame height (shelf ∷ shelves) =
    ap (λ (l : List Shelf). merged_shelf shelf ∷ l) (by_test (ends_column shelf shelves) refl (map-merged-ends frame height shelves))
  where
    same : (shelves : List Shelf) → ends_column (merged_shelf shelf) (map merged_shelf shelves) ≡ ends_column shelf shelves
    same [] = refl
    same (next ∷ shelves) = refl

    by_test : (b : Bool) → ends_column shelf shelves ≡ b
        → map merged_shelf (with_ends frame height shelves) ≡ with_ends frame height (map merged_shelf shelves)
        → map merged_shelf (cond (ends_column shelf shelves) (end_shelf frame height shelf ∷ []) [] ++ with_ends frame height shelves)
        ≡ cond (ends_column (merged_shelf shelf) (map merged_shelf shelves)) (end_shelf frame height (merged_shelf shelf) ∷ []) []
        ++ with_ends frame height (map merged_shelf shelves)
    by_test true e rest = rw (same shelves, e) (ap (λ (l : List Shelf). end_shelf frame height shelf ∷ l) rest)
    by_test false e rest = rw (same shelves, e) rest
