-- Shelves that can be merged stand side by side between others, hold nothing live, and serve what is asked.
use Rattle.std.proofs.Common.{◌≡◌, ℕ, zero, suc, ◌+◌, ◌≤◌, Bool, true, false, cond, Some, List, [], ◌∷◌, ◌++◌, length, map, take, drop, refl, ap, arith, sym, subst, ◌==◌, ◌&&◌}
use Rattle.std.proofs.lemmas.Bool.{and_parts, eqb-true}
use Rattle.std.specs.List.{AllByRecursion, list_all}
use Rattle.std.specs.Prelude.{nat_le}
use Rattle.etagere_base.specs.declared.sides.Sides.{Sides}
use Rattle.bucketed_model.specs.Merging.{Group, is_idle_in, merged_front, merged_shelves, mergeable_shelves, serves, total_height}
use Rattle.bucketed_model.specs.State.{BucketShelf, is_idle, with_height}
use Rattle.bucketed_model.proofs.Shelving.Merged.{IsIdleIn}

-- shelves that can be merged stand between a front and a back
pub record Merges (sides : Sides) (number : ℕ) (shelves : List BucketShelf) (group : Group) : Type 0 where
  pub front : List BucketShelf
  pub shelf : BucketShelf
  pub next : List BucketShelf
  pub back : List BucketShelf
  pub whole : shelves ≡ front ++ shelf ∷ (next ++ back)
  pub first : group.first ≡ number + length front
  pub after : merged_front group.others shelf (next ++ back) ≡ with_height (shelf.height + total_height next) shelf ∷ (map (with_height 0) next ++ back)
  pub idle : is_idle shelf ≡ true
  pub others : AllByRecursion (IsIdleIn shelf.column) next
  pub wide : sides.along ≤ shelf.bucket_width
  pub tall : sides.across ≤ shelf.height + total_height next

-- tests that pass for each shelf are facts of each
idle-each : (column : ℕ) (next : List BucketShelf) → list_all (is_idle_in column) next ≡ true → AllByRecursion (IsIdleIn column) next
idle-each column [] h = tt
idle-each column (y ∷ ys) h =
    let parts = and_parts (is_idle_in column y) (list_all (is_idle_in column) ys) h in
    let own = and_parts (y.column == column) (is_idle y) parts.0 in
    (record { column_is = eqb-true y.column column own.0; idle = own.1 }, idle-each column ys parts.1)

-- what is taken and what is dropped are the whole
take-drop : (n : ℕ) (xs : List BucketShelf) → xs ≡ take n xs ++ drop n xs
take-drop zero xs = refl
take-drop (suc n) [] = refl
take-drop (suc n) (x ∷ xs) = ap (λ (ys : List BucketShelf). x ∷ ys) (take-drop n xs)

-- a shelf that serves with some after it stands before them
merges-here : (sides : Sides) (number others : ℕ) (x : BucketShelf) (xs : List BucketShelf) → serves sides others x xs ≡ true
    → Merges sides number (x ∷ xs) (record { first = number; others = others })
merges-here sides number others x xs h =
    let next = take others xs in
    let wide = nat_le sides.along x.bucket_width && nat_le sides.across (x.height + total_height next) in
    let still = is_idle x && list_all (is_idle_in x.column) next in
    let parts = and_parts (length next == others && still) wide h in
    let inner = and_parts (length next == others) still parts.0 in
    let idle = and_parts (is_idle x) (list_all (is_idle_in x.column) next) inner.1 in
    let sizes = and_parts (nat_le sides.along x.bucket_width) (nat_le sides.across (x.height + total_height next)) parts.1 in
    record {
      front = [];
      shelf = x;
      next = next;
      back = drop others xs;
      whole = ap (λ (ys : List BucketShelf). x ∷ ys) (take-drop others xs);
      first = omega arith;
      after = ap (λ (ys : List BucketShelf). merged_front others x ys) (sym (take-drop others xs));
      idle = idle.0;
      others = idle-each x.column next idle.1;
      wide = grind (arith, sizes.0);
      tall = grind (arith, sizes.1);
    }

-- shelves that can be merged behind a shelf
merges-later : (sides : Sides) (number : ℕ) (x : BucketShelf) (xs : List BucketShelf) (group : Group)
    → Merges sides (suc number) xs group → Merges sides number (x ∷ xs) group
merges-later sides number x xs group m = record {
  front = x ∷ m.front;
  shelf = m.shelf;
  next = m.next;
  back = m.back;
  whole = ap (λ (ys : List BucketShelf). x ∷ ys) m.whole;
  first = omega (arith, m.first);
  after = m.after;
  idle = m.idle;
  others = m.others;
  wide = m.wide;
  tall = m.tall;
}

-- what is found can be merged
pub mergeable-merges : (sides : Sides) (number : ℕ) (shelves : List BucketShelf) (group : Group)
    → mergeable_shelves sides number shelves ≡ Some group → Merges sides number shelves group
mergeable-merges sides number [] group h = absurd (cc)
mergeable-merges sides number (x ∷ xs) group h = by_tests (serves sides 1 x xs) (serves sides 2 x xs) refl refl (mergeable-merges sides (suc number) xs group) h
  where
    by_tests : (a b : Bool) → serves sides 1 x xs ≡ a → serves sides 2 x xs ≡ b
        → (mergeable_shelves sides (suc number) xs ≡ Some group → Merges sides (suc number) xs group)
        → cond a (Some (record { first = number; others = 1 })) (cond b (Some (record { first = number; others = 2 })) (mergeable_shelves sides (suc number) xs)) ≡ Some group
        → Merges sides number (x ∷ xs) group
    by_tests true b e k later h = let same : record { first = number; others = 1 } ≡ group = cc in subst (Merges sides number (x ∷ xs)) same (merges-here sides number 1 x xs e)
    by_tests false true e k later h = let same : record { first = number; others = 2 } ≡ group = cc in subst (Merges sides number (x ∷ xs)) same (merges-here sides number 2 x xs k)
    by_tests false false e k later h = merges-later sides number x xs group (later h)

-- merging at a number behind a front
pub merged-behind : (others : ℕ) (front : List BucketShelf) (x : BucketShelf) (rest : List BucketShelf)
    → merged_shelves (length front) others (front ++ x ∷ rest) ≡ front ++ merged_front others x rest
merged-behind others [] x rest = refl
merged-behind others (y ∷ front) x rest = ap (λ (ys : List BucketShelf). y ∷ ys) (merged-behind others front x rest)
