-- The records of merged shelves spell them, and shelves that can be merged are found among records.
use Rattle.std.proofs.Common.{◌≡◌, ℕ, zero, suc, ◌+◌, ◌*◌, ◌<◌, ◌≤◌, Bool, true, false, cond, Option, Some, List, [], ◌∷◌, ◌++◌, length, map, take, drop, refl, ap, arith, sym, ◌∙◌, subst, append_assoc, ◌==◌, ◌⊎◌, inl, inr}
use Rattle.std.proofs.lemmas.Bool.{and_parts, eqb-true}
use Rattle.std.proofs.lemmas.List.{length-take}
use Rattle.std.specs.List.{AllByRecursion, list_all}
use Rattle.std.specs.Prelude.{nat_le, ◌&&◌}
use Rattle.etagere_base.proofs.FrameSides.{columns-apart}
use Rattle.etagere_base.specs.declared.frames.Frame.{Frame}
use Rattle.etagere_base.specs.declared.sides.Sides.{Sides}
use Rattle.etagere_links.specs.Edits.{changed_by}
use Rattle.bucketed_model.specs.Merging.{Group, is_idle_in, merged_shelves, mergeable_shelves, serves, total_height}
use Rattle.bucketed_model.specs.State.{Bucket, BucketShelf, bucket_numbers, column_height, column_place, is_idle, with_height}
use Rattle.bucketed_model.proofs.Shelving.Shelves.{column_height-append, own-height}
use Rattle.bucketed_records.specs.declared.records.LinkedBucket.{LinkedBucket}
use Rattle.bucketed_records.specs.Private.Store.{AreShelvesSpelled, HasUnused, Spells, Stored, kept_shelf, kept_shelves, live_items}
use Rattle.bucketed_records.specs.declared.records.KeptShelf.{KeptShelf}
use Rattle.bucketed_records.proofs.Spelling.KeptShelves.{live-idle, kept-heights, length-kept}
use Rattle.bucketed_store.specs.Private.Placing.{is_kept_idle_in, kept_height, kept_mergeable, kept_serves}
use Rattle.bucketed_store.specs.Private.StoreEdits.{across_of, flattened, kept_merged, to_height}

-- two columns begin at the same place where they are the same
place-equal : (frame : Frame) (a b : ℕ) → 1 ≤ frame.column_width → (column_place frame a == column_place frame b) ≡ (a == b)
place-equal frame a b wide = by_test (a == b) refl
  where
    equal : (n m : ℕ) → n ≡ m → (n == m) ≡ true
    equal n m h = grind arith

    apart : (n m : ℕ) → (n < m) ⊎ (m < n) → (n == m) ≡ false
    apart n m h = grind arith

    places : (n m : ℕ) → (n == m) ≡ false → (n * frame.column_width < m * frame.column_width) ⊎ (m * frame.column_width < n * frame.column_width)
    places n m e = by_order (order n m e)
      where
        order : (n m : ℕ) → (n == m) ≡ false → (n < m) ⊎ (m < n)
        order n m e = grind arith

        by_order : (n < m) ⊎ (m < n) → (n * frame.column_width < m * frame.column_width) ⊎ (m * frame.column_width < n * frame.column_width)
        by_order (inl h) = inl (omega (arith, columns-apart n m frame.column_width h, wide))
        by_order (inr h) = inr (omega (arith, columns-apart m n frame.column_width h, wide))

    by_test : (t : Bool) → (a == b) ≡ t → (column_place frame a == column_place frame b) ≡ t
    by_test true e = equal (column_place frame a) (column_place frame b) (ap (λ (n : ℕ). n * frame.column_width) (eqb-true a b e))
    by_test false e = apart (column_place frame a) (column_place frame b) (places a b e)

-- so many kept shelves are what is kept of so many
kept-take : (frame : Frame) (before ss : List BucketShelf) (n : ℕ) → take n (kept_shelves frame before ss) ≡ kept_shelves frame before (take n ss)
kept-take frame before ss zero = refl
kept-take frame before [] (suc n) = refl
kept-take frame before (s ∷ ss) (suc n) = ap (λ (ks : List KeptShelf). kept_shelf frame before s ∷ ks) (kept-take frame (before ++ s ∷ []) ss n)

-- kept shelves of a column hold nothing where the shelves don't
idle-kept : (frame : Frame) (before ss : List BucketShelf) (column : ℕ) → 1 ≤ frame.column_width
    → list_all (is_kept_idle_in (column_place frame column)) (kept_shelves frame before ss) ≡ list_all (is_idle_in column) ss
idle-kept frame before [] column wide = refl
idle-kept frame before (s ∷ ss) column wide =
    ap (λ (t : Bool). (t && (live_items s.buckets == 0)) && list_all (is_kept_idle_in (column_place frame column)) (kept_shelves frame (before ++ s ∷ []) ss)) (place-equal frame s.column column wide)
    ∙ ap (λ (t : Bool). ((s.column == column) && t) && list_all (is_kept_idle_in (column_place frame column)) (kept_shelves frame (before ++ s ∷ []) ss)) (live-idle s.buckets)
    ∙ ap (λ (t : Bool). ((s.column == column) && is_idle s) && t) (idle-kept frame (before ++ s ∷ []) ss column wide)

-- kept shelves are as tall together
height-kept : (frame : Frame) (before ss : List BucketShelf) → kept_height (kept_shelves frame before ss) ≡ total_height ss
height-kept frame before [] = refl
height-kept frame before (s ∷ ss) = ap (λ (h : ℕ). s.height + h) (height-kept frame (before ++ s ∷ []) ss)

-- kept shelves serve where the shelves do
serves-kept : (sides : Sides) (others : ℕ) (frame : Frame) (before behind : List BucketShelf) (s : BucketShelf) (ss : List BucketShelf) → 1 ≤ frame.column_width
    → kept_serves sides others (kept_shelf frame before s) (kept_shelves frame behind ss) ≡ serves sides others s ss
serves-kept sides others frame before behind s ss wide =
    ap (λ (next : List KeptShelf). tests next) (kept-take frame behind ss others)
    ∙ ap (λ (n : ℕ). by_parts (n == others) (live_items s.buckets == 0) (list_all (is_kept_idle_in (column_place frame s.column)) (kept_shelves frame behind (take others ss))) (kept_height (kept_shelves frame behind (take others ss)))) (length-kept frame behind (take others ss))
    ∙ ap (λ (t : Bool). by_parts (length (take others ss) == others) t (list_all (is_kept_idle_in (column_place frame s.column)) (kept_shelves frame behind (take others ss))) (kept_height (kept_shelves frame behind (take others ss)))) (live-idle s.buckets)
    ∙ ap (λ (t : Bool). by_parts (length (take others ss) == others) (is_idle s) t (kept_height (kept_shelves frame behind (take others ss)))) (idle-kept frame behind (take others ss) s.column wide)
    ∙ ap (λ (h : ℕ). by_parts (length (take others ss) == others) (is_idle s) (list_all (is_idle_in s.column) (take others ss)) h) (height-kept frame behind (take others ss))
  where
    by_parts : Bool → Bool → Bool → ℕ → Bool
    by_parts many own next height = many && (own && next) && (nat_le sides.along s.bucket_width && nat_le sides.across (s.height + height))

    tests : List KeptShelf → Bool
    tests next = by_parts (length next == others) (live_items s.buckets == 0) (list_all (is_kept_idle_in (column_place frame s.column)) next) (kept_height next)

-- shelves that can be merged are found among kept ones
pub mergeable-kept : (sides : Sides) (number : ℕ) (frame : Frame) (before ss : List BucketShelf) → 1 ≤ frame.column_width
    → kept_mergeable sides number (kept_shelves frame before ss) ≡ mergeable_shelves sides number ss
mergeable-kept sides number frame before [] wide = refl
mergeable-kept sides number frame before (s ∷ ss) wide =
    ap (λ (t : Bool). cond t (Some (group 1)) (cond (kept_serves sides 2 (kept_shelf frame before s) (kept_shelves frame (before ++ s ∷ []) ss)) (Some (group 2)) (kept_mergeable sides (suc number) (kept_shelves frame (before ++ s ∷ []) ss)))) (serves-kept sides 1 frame before (before ++ s ∷ []) s ss wide)
    ∙ ap (λ (t : Bool). cond (serves sides 1 s ss) (Some (group 1)) (cond t (Some (group 2)) (kept_mergeable sides (suc number) (kept_shelves frame (before ++ s ∷ []) ss)))) (serves-kept sides 2 frame before (before ++ s ∷ []) s ss wide)
    ∙ ap (λ (later : Option Group). cond (serves sides 1 s ss) (Some (group 1)) (cond (serves sides 2 s ss) (Some (group 2)) later)) (mergeable-kept sides (suc number) frame (before ++ s ∷ []) ss wide)
  where
    group : ℕ → Group
    group others = record { first = number; others = others }

-- a shelf of a number, and so many after it, stand in one column
abbrev pub IsRow : ℕ → ℕ → List BucketShelf → Type 0
IsRow first others [] = ⊥
IsRow zero others (x ∷ xs) = (others ≤ length xs) × AllByRecursion (λ (y : BucketShelf). y.column ≡ x.column) (take others xs)
IsRow (suc first) others (x ∷ xs) = IsRow first others xs

-- shelves that are found to be merged stand in one column, one or two with the first
pub record AreMergeable (number : ℕ) (ss : List BucketShelf) (group : Group) : Type 0 where
  pub first : ℕ
  pub number_is : group.first ≡ number + first
  pub others : (group.others ≡ 1) ⊎ (group.others ≡ 2)
  pub row : IsRow first group.others ss

-- a shelf that serves with others stands in their column
serves-row : (sides : Sides) (others : ℕ) (x : BucketShelf) (xs : List BucketShelf) → serves sides others x xs ≡ true → IsRow zero others (x ∷ xs)
serves-row sides others x xs h =
    let next = take others xs in
    let wide = nat_le sides.along x.bucket_width && nat_le sides.across (x.height + total_height next) in
    let still = is_idle x && list_all (is_idle_in x.column) next in
    let parts = and_parts (length next == others && still) wide h in
    let inner = and_parts (length next == others) still parts.0 in
    let idle = and_parts (is_idle x) (list_all (is_idle_in x.column) next) inner.1 in
    (omega (arith, eqb-true (length (take others xs)) others inner.0, length-take others xs), each (take others xs) idle.1)
  where
    each : (ys : List BucketShelf) → list_all (is_idle_in x.column) ys ≡ true → AllByRecursion (λ (y : BucketShelf). y.column ≡ x.column) ys
    each [] h = tt
    each (y ∷ ys) h =
        let parts = and_parts (is_idle_in x.column y) (list_all (is_idle_in x.column) ys) h in
        let own = and_parts (y.column == x.column) (is_idle y) parts.0 in
        (eqb-true y.column x.column own.0, each ys parts.1)

-- what is found can be merged
pub mergeable-row : (sides : Sides) (number : ℕ) (ss : List BucketShelf) (group : Group) → mergeable_shelves sides number ss ≡ Some group → AreMergeable number ss group
mergeable-row sides number [] group h = absurd (cc)
mergeable-row sides number (x ∷ xs) group h = by_tests (serves sides 1 x xs) (serves sides 2 x xs) refl refl h (mergeable-row sides (suc number) xs group)
  where
    found : (others : ℕ) → (others ≡ 1) ⊎ (others ≡ 2) → IsRow zero others (x ∷ xs) → AreMergeable number (x ∷ xs) (record { first = number; others = others })
    found others few row = record { first = 0; number_is = omega arith; others = few; row = row }

    same : (g : Group) → Some g ≡ Some group → g ≡ group
    same g h = cc

    by_tests : (one two : Bool) → serves sides 1 x xs ≡ one → serves sides 2 x xs ≡ two
        → cond one (Some (record { first = number; others = 1 })) (cond two (Some (record { first = number; others = 2 })) (mergeable_shelves sides (suc number) xs)) ≡ Some group
        → (mergeable_shelves sides (suc number) xs ≡ Some group → AreMergeable (suc number) xs group) → AreMergeable number (x ∷ xs) group
    by_tests true two e k h later = subst (AreMergeable number (x ∷ xs)) (same (record { first = number; others = 1 }) h) (found 1 (inl refl) (serves-row sides 1 x xs e))
    by_tests false true e k h later = subst (AreMergeable number (x ∷ xs)) (same (record { first = number; others = 2 }) h) (found 2 (inr refl) (serves-row sides 2 x xs k))
    by_tests false false e k h later =
        let rest = later h in
        record { first = suc rest.first; number_is = omega (arith, rest.number_is); others = rest.others; row = rest.row }

-- the shelves of a row are some
pub row-within : (first others : ℕ) (ss : List BucketShelf) → IsRow first others ss → first + others < length ss
row-within first others [] row = absurd row
row-within zero others (x ∷ xs) row = omega (arith, row.0)
row-within (suc first) others (x ∷ xs) row = omega (arith, row-within first others xs row)

-- shelves of a column are no taller than it
column-total : (column n : ℕ) (xs : List BucketShelf) → AllByRecursion (λ (y : BucketShelf). y.column ≡ column) (take n xs) → total_height (take n xs) ≤ column_height column xs
column-total column zero xs each = omega arith
column-total column (suc n) [] each = omega arith
column-total column (suc n) (x ∷ xs) each = omega (arith, column-total column n xs each.1, own each.0)
  where
    own : x.column ≡ column → x.height ≤ cond (x.column == column) x.height 0
    own same = grind (arith, same)

-- a row ends within its column
pub row-short : (frame : Frame) (first others : ℕ) (before ss : List BucketShelf) → IsRow first others ss
    → (column : ℕ) × (across_of (kept_shelves frame before ss) first + kept_height (take (suc others) (drop first (kept_shelves frame before ss))) ≤ column_height column (before ++ ss))
row-short frame first others before [] row = absurd row
row-short frame zero others before (x ∷ xs) row =
    let next : kept_height (take others (kept_shelves frame (before ++ x ∷ []) xs)) ≡ total_height (take others xs) =
    ap kept_height (kept-take frame (before ++ x ∷ []) xs others) ∙ height-kept frame (before ++ x ∷ []) (take others xs) in
    (x.column, omega (arith, next, column-total x.column others xs row.1, column_height-append x.column before (x ∷ xs), own))
  where
    own : cond (x.column == x.column) x.height 0 ≡ x.height
    own = grind arith
row-short frame (suc first) others before (x ∷ xs) row =
    let rest = row-short frame first others (before ++ x ∷ []) xs row in
    (rest.0, omega (arith, rest.1, ap (column_height rest.0) (append_assoc before (x ∷ []) xs)))

-- one shelf merged into the one before it
abbrev merged_one : ℕ → List KeptShelf → List KeptShelf
merged_one first shelves =
    let height = kept_height (take 2 (drop first shelves)) in
    changed_by (Some (suc first)) (flattened (across_of shelves first + height)) (changed_by (Some first) (to_height height) shelves)

-- two shelves merged into the one before them
abbrev merged_two : ℕ → List KeptShelf → List KeptShelf
merged_two first shelves =
    let height = kept_height (take 3 (drop first shelves)) in
    changed_by (Some (suc (suc first))) (flattened (across_of shelves first + height))
    (changed_by (Some (suc first)) (flattened (across_of shelves first + height)) (changed_by (Some first) (to_height height) shelves))

-- a shelf that gave its height to one before it, at a place across
abbrev flat_at : Frame → BucketShelf → ℕ → KeptShelf
flat_at frame y across = flattened across (kept_shelf frame [] y)

-- the heights of the column of a shelf that took the height of one after it
heights-one : (before : List BucketShelf) (x y : BucketShelf) (height column : ℕ) → y.column ≡ x.column → height ≡ x.height + (y.height + 0)
    → column_height column ((before ++ x ∷ []) ++ y ∷ []) ≡ column_height column ((before ++ with_height height x ∷ []) ++ with_height 0 y ∷ [])
heights-one before x y height column same sum =
    column_height-append column (before ++ x ∷ []) (y ∷ [])
    ∙ ap (λ (h : ℕ). h + column_height column (y ∷ [])) (column_height-append column before (x ∷ []))
    ∙ by_test (x.column == column) (y.column == column) (ap (λ (c : ℕ). c == column) same)
    ∙ sym (column_height-append column (before ++ with_height height x ∷ []) (with_height 0 y ∷ [])
    ∙ ap (λ (h : ℕ). h + column_height column (with_height 0 y ∷ [])) (column_height-append column before (with_height height x ∷ [])))
  where
    by_test : (a b : Bool) → b ≡ a → column_height column before + (cond a x.height 0 + 0) + (cond b y.height 0 + 0) ≡ column_height column before + (cond a height 0 + 0) + (cond b 0 0 + 0)
    by_test true true e = omega (arith, sum)
    by_test false false e = omega arith
    by_test true false e = absurd (cc)
    by_test false true e = absurd (cc)

-- the records of a shelf merged into the one before it
merge-one : (frame : Frame) (first : ℕ) (before ss : List BucketShelf) → IsRow first 1 ss → merged_one first (kept_shelves frame before ss) ≡ kept_shelves frame before (merged_shelves first 1 ss)
merge-one frame first before [] row = absurd row
merge-one frame zero before (x ∷ []) row = absurd (omega (arith, row.0))
merge-one frame zero before (x ∷ y ∷ back) row =
    let height = x.height + (y.height + 0) in
    let risen = with_height height x in
    let low : column_height x.column before + height ≡ column_height y.column (before ++ risen ∷ []) = sym (ap (λ (c : ℕ). column_height c (before ++ risen ∷ [])) row.1.0 ∙ own-height before risen) in
    ap (λ (a : ℕ). kept_shelf frame before risen ∷ flat_at frame y a ∷ kept_shelves frame ((before ++ x ∷ []) ++ y ∷ []) back) low
    ∙ ap (λ (ks : List KeptShelf). kept_shelf frame before risen ∷ kept_shelf frame (before ++ risen ∷ []) (with_height 0 y) ∷ ks)
    (kept-heights frame ((before ++ x ∷ []) ++ y ∷ []) ((before ++ risen ∷ []) ++ with_height 0 y ∷ []) back (λ column. heights-one before x y height column row.1.0 refl))
merge-one frame (suc first) before (x ∷ ss) row = ap (λ (ks : List KeptShelf). kept_shelf frame before x ∷ ks) (merge-one frame first (before ++ x ∷ []) ss row)

-- the heights of the column of a shelf that took the heights of two after it
heights-two : (before : List BucketShelf) (x y z : BucketShelf) (height column : ℕ) → y.column ≡ x.column → z.column ≡ x.column → height ≡ x.height + (y.height + (z.height + 0))
    → column_height column (((before ++ x ∷ []) ++ y ∷ []) ++ z ∷ []) ≡ column_height column (((before ++ with_height height x ∷ []) ++ with_height 0 y ∷ []) ++ with_height 0 z ∷ [])
heights-two before x y z height column same alike sum =
    column_height-append column ((before ++ x ∷ []) ++ y ∷ []) (z ∷ [])
    ∙ ap (λ (h : ℕ). h + column_height column (z ∷ [])) (column_height-append column (before ++ x ∷ []) (y ∷ []))
    ∙ ap (λ (h : ℕ). h + column_height column (y ∷ []) + column_height column (z ∷ [])) (column_height-append column before (x ∷ []))
    ∙ by_test (x.column == column) (y.column == column) (z.column == column) (ap (λ (c : ℕ). c == column) same) (ap (λ (c : ℕ). c == column) alike)
    ∙ sym (column_height-append column ((before ++ with_height height x ∷ []) ++ with_height 0 y ∷ []) (with_height 0 z ∷ [])
    ∙ ap (λ (h : ℕ). h + column_height column (with_height 0 z ∷ [])) (column_height-append column (before ++ with_height height x ∷ []) (with_height 0 y ∷ []))
    ∙ ap (λ (h : ℕ). h + column_height column (with_height 0 y ∷ []) + column_height column (with_height 0 z ∷ [])) (column_height-append column before (with_height height x ∷ [])))
  where
    by_test : (a b c : Bool) → b ≡ a → c ≡ a
        → column_height column before + (cond a x.height 0 + 0) + (cond b y.height 0 + 0) + (cond c z.height 0 + 0) ≡ column_height column before + (cond a height 0 + 0) + (cond b 0 0 + 0) + (cond c 0 0 + 0)
    by_test true true true e k = omega (arith, sum)
    by_test false false false e k = omega arith
    by_test true false c e k = absurd (cc)
    by_test false true c e k = absurd (cc)
    by_test true true false e k = absurd (cc)
    by_test false false true e k = absurd (cc)

-- the records of two shelves merged into the one before them
merge-two : (frame : Frame) (first : ℕ) (before ss : List BucketShelf) → IsRow first 2 ss → merged_two first (kept_shelves frame before ss) ≡ kept_shelves frame before (merged_shelves first 2 ss)
merge-two frame first before [] row = absurd row
merge-two frame zero before (x ∷ []) row = absurd (omega (arith, row.0))
merge-two frame zero before (x ∷ y ∷ []) row = absurd (omega (arith, row.0))
merge-two frame zero before (x ∷ y ∷ z ∷ back) row =
    let height = x.height + (y.height + (z.height + 0)) in
    let risen = with_height height x in
    let flat = with_height 0 y in
    let low : column_height x.column before + height ≡ column_height y.column (before ++ risen ∷ []) = sym (ap (λ (c : ℕ). column_height c (before ++ risen ∷ [])) row.1.0 ∙ own-height before risen) in
    let lower : column_height x.column before + height ≡ column_height z.column ((before ++ risen ∷ []) ++ flat ∷ []) =
    sym (column_height-append z.column (before ++ risen ∷ []) (flat ∷ []) ∙ none (z.column == z.column) (y.column == z.column) ∙ ap (λ (c : ℕ). column_height c (before ++ risen ∷ [])) row.1.1.0 ∙ own-height before risen) in
    ap (λ (a : ℕ). kept_shelf frame before risen ∷ flat_at frame y a ∷ flat_at frame z (column_height x.column before + height) ∷ kept_shelves frame (((before ++ x ∷ []) ++ y ∷ []) ++ z ∷ []) back) low
    ∙ ap (λ (a : ℕ). kept_shelf frame before risen ∷ kept_shelf frame (before ++ risen ∷ []) flat ∷ flat_at frame z a ∷ kept_shelves frame (((before ++ x ∷ []) ++ y ∷ []) ++ z ∷ []) back) lower
    ∙ ap (λ (ks : List KeptShelf). kept_shelf frame before risen ∷ kept_shelf frame (before ++ risen ∷ []) flat ∷ kept_shelf frame ((before ++ risen ∷ []) ++ flat ∷ []) (with_height 0 z) ∷ ks)
    (kept-heights frame (((before ++ x ∷ []) ++ y ∷ []) ++ z ∷ []) (((before ++ risen ∷ []) ++ flat ∷ []) ++ with_height 0 z ∷ []) back
    (λ column. heights-two before x y z height column row.1.0 row.1.1.0 refl))
  where
    none : (t b : Bool) → column_height z.column (before ++ with_height (x.height + (y.height + (z.height + 0))) x ∷ []) + (cond b 0 0 + 0) ≡ column_height z.column (before ++ with_height (x.height + (y.height + (z.height + 0))) x ∷ [])
    none t true = omega arith
    none t false = omega arith
merge-two frame (suc first) before (x ∷ ss) row = ap (λ (ks : List KeptShelf). kept_shelf frame before x ∷ ks) (merge-two frame first (before ++ x ∷ []) ss row)

-- the records of merged shelves
pub merged-kept : (frame : Frame) (group : Group) (ss : List BucketShelf) → (group.others ≡ 1) ⊎ (group.others ≡ 2) → IsRow group.first group.others ss
    → kept_merged group (kept_shelves frame [] ss) ≡ kept_shelves frame [] (merged_shelves group.first group.others ss)
merged-kept frame group ss (inl e) row =
    let next : group.first + 1 ≡ suc group.first = omega arith in
    subst (λ (others : ℕ). IsRow group.first others ss → kept_merged (record { first = group.first; others = others }) (kept_shelves frame [] ss) ≡ kept_shelves frame [] (merged_shelves group.first others ss)) (sym e)
    (λ r. ap (λ (n : ℕ). changed_by (Some n) (flattened (across_of (kept_shelves frame [] ss) group.first + kept_height (take 2 (drop group.first (kept_shelves frame [] ss)))))
    (changed_by (Some group.first) (to_height (kept_height (take 2 (drop group.first (kept_shelves frame [] ss))))) (kept_shelves frame [] ss))) next
    ∙ merge-one frame group.first [] ss r) row
merged-kept frame group ss (inr e) row =
    let next : group.first + 1 ≡ suc group.first = omega arith in
    let later : group.first + 2 ≡ suc (suc group.first) = omega arith in
    subst (λ (others : ℕ). IsRow group.first others ss → kept_merged (record { first = group.first; others = others }) (kept_shelves frame [] ss) ≡ kept_shelves frame [] (merged_shelves group.first others ss)) (sym e)
    (λ r. ap (λ (n : ℕ). changed_by (Some (group.first + 2)) (flattened (across_of (kept_shelves frame [] ss) group.first + kept_height (take 3 (drop group.first (kept_shelves frame [] ss)))))
    (changed_by (Some n) (flattened (across_of (kept_shelves frame [] ss) group.first + kept_height (take 3 (drop group.first (kept_shelves frame [] ss)))))
    (changed_by (Some group.first) (to_height (kept_height (take 3 (drop group.first (kept_shelves frame [] ss))))) (kept_shelves frame [] ss)))) next
    ∙ ap (λ (n : ℕ). changed_by (Some n) (flattened (across_of (kept_shelves frame [] ss) group.first + kept_height (take 3 (drop group.first (kept_shelves frame [] ss)))))
    (changed_by (Some (suc group.first)) (flattened (across_of (kept_shelves frame [] ss) group.first + kept_height (take 3 (drop group.first (kept_shelves frame [] ss)))))
    (changed_by (Some group.first) (to_height (kept_height (take 3 (drop group.first (kept_shelves frame [] ss))))) (kept_shelves frame [] ss)))) later
    ∙ merge-two frame group.first [] ss r) row

-- shelves without heights have the records that they had
spelled-flat : (records : List LinkedBucket) (number n : ℕ) (ss : List BucketShelf) → AreShelvesSpelled records number ss → AreShelvesSpelled records number (map (with_height 0) (take n ss) ++ drop n ss)
spelled-flat records number zero ss h = h
spelled-flat records number (suc n) [] h = tt
spelled-flat records number (suc n) (s ∷ ss) h = (h.0, spelled-flat records (suc number) n ss h.1)

-- merged shelves have the records that they had
spelled-merged : (records : List LinkedBucket) (number first others : ℕ) (ss : List BucketShelf) → AreShelvesSpelled records number ss → AreShelvesSpelled records number (merged_shelves first others ss)
spelled-merged records number first others [] h = tt
spelled-merged records number zero others (s ∷ ss) h = (h.0, spelled-flat records (suc number) others ss h.1)
spelled-merged records number (suc first) others (s ∷ ss) h = (h.0, spelled-merged records (suc number) first others ss h.1)

-- shelves without heights have the buckets that they had
numbers-flat : (n : ℕ) (ss : List BucketShelf) → bucket_numbers (map (with_height 0) (take n ss) ++ drop n ss) ≡ bucket_numbers ss
numbers-flat zero ss = refl
numbers-flat (suc n) [] = refl
numbers-flat (suc n) (s ∷ ss) = ap (λ (ns : List ℕ). map (λ (bucket : Bucket). bucket.tag.number) s.buckets ++ ns) (numbers-flat n ss)

-- merged shelves have the buckets that they had
pub numbers-merged : (first others : ℕ) (ss : List BucketShelf) → bucket_numbers (merged_shelves first others ss) ≡ bucket_numbers ss
numbers-merged first others [] = refl
numbers-merged zero others (s ∷ ss) = ap (λ (ns : List ℕ). map (λ (bucket : Bucket). bucket.tag.number) s.buckets ++ ns) (numbers-flat others ss)
numbers-merged (suc first) others (s ∷ ss) = ap (λ (ns : List ℕ). map (λ (bucket : Bucket). bucket.tag.number) s.buckets ++ ns) (numbers-merged first others ss)

-- records after shelves were merged
pub spells-merged : (frame : Frame) (stored : Stored) (unused : List ℕ) (ss : List BucketShelf) (group : Group) → (group.others ≡ 1) ⊎ (group.others ≡ 2) → IsRow group.first group.others ss
    → Spells frame stored unused ss → Spells frame (record stored { shelves = kept_merged group stored.shelves }) unused (merged_shelves group.first group.others ss)
spells-merged frame stored unused ss group few row spells = record {
  shelves = ap (kept_merged group) spells.shelves ∙ merged-kept frame group ss few row;
  buckets = spelled-merged stored.buckets 0 group.first group.others ss spells.buckets;
  has_unused = subst (λ (ns : List ℕ). HasUnused stored.buckets stored.unused ns unused) (sym (numbers-merged group.first group.others ss)) spells.has_unused;
}
