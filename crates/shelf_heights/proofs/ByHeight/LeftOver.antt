-- A list behind some shelves that are left over: what edits of the whole make of it.
use Rattle.std.proofs.Common.{◌≡◌, ℕ, zero, suc, ◌+◌, ◌-◌, ◌<◌, ◌≤◌, Some, List, [], ◌∷◌, ap, arith, drop, insert, length, refl, remove, set, subst, take, ◌∙◌}
use Rattle.std.proofs.lemmas.List.{length-drop}
use Rattle.std.proofs.lemmas.List.Edits.{length-insert, length-remove}
use Rattle.std.specs.List.{AllByRecursion}
use Rattle.shelf_heights.specs.Private.ByHeight.{IsFirstAsWide}
use Rattle.shelf_heights.specs.declared.by_height.BoundedShelf.{BoundedShelf}

-- one is put in behind those that are left over
pub insert-drop : (start index : ℕ) (xs : List BoundedShelf) (one : BoundedShelf) → start ≤ length xs
    → drop start (insert xs (start + index) one) ≡ insert (drop start xs) index one
insert-drop zero index xs one within =
    let none : 0 + index ≡ index = omega arith in
    ap (λ (n : ℕ). insert xs n one) none
insert-drop (suc start) index [] one within = absurd (omega (arith, within))
insert-drop (suc start) index (x ∷ xs) one within =
    let next : suc start + index ≡ suc (start + index) = omega arith in
    ap (λ (n : ℕ). drop (suc start) (insert (x ∷ xs) n one)) next ∙ insert-drop start index xs one (omega (arith, within))

-- one is taken out behind them
pub remove-drop : (start index : ℕ) (xs : List BoundedShelf) → start ≤ length xs
    → drop start (remove xs (start + index)) ≡ remove (drop start xs) index
remove-drop zero index xs within =
    let none : 0 + index ≡ index = omega arith in
    ap (λ (n : ℕ). remove xs n) none
remove-drop (suc start) index [] within = absurd (omega (arith, within))
remove-drop (suc start) index (x ∷ xs) within =
    let next : suc start + index ≡ suc (start + index) = omega arith in
    ap (λ (n : ℕ). drop (suc start) (remove (x ∷ xs) n)) next ∙ remove-drop start index xs (omega (arith, within))

-- one is written behind them
pub set-drop : (start index : ℕ) (xs : List BoundedShelf) (one : BoundedShelf) → start ≤ length xs
    → drop start (set xs (start + index) one) ≡ set (drop start xs) index one
set-drop zero index xs one within =
    let none : 0 + index ≡ index = omega arith in
    ap (λ (n : ℕ). set xs n one) none
set-drop (suc start) index [] one within = absurd (omega (arith, within))
set-drop (suc start) index (x ∷ xs) one within =
    let next : suc start + index ≡ suc (start + index) = omega arith in
    ap (λ (n : ℕ). drop (suc start) (set (x ∷ xs) n one)) next ∙ set-drop start index xs one (omega (arith, within))

-- one is moved behind them
pub shift-drop : (start from to : ℕ) (xs : List BoundedShelf) (one : BoundedShelf) → start + from < length xs
    → drop start (insert (remove xs (start + from)) (start + to) one) ≡ insert (remove (drop start xs) from) to one
shift-drop start from to xs one within =
    insert-drop start to (remove xs (start + from)) one (omega (arith, within, length-remove xs (start + from) within))
    ∙ ap (λ (l : List BoundedShelf). insert l to one) (remove-drop start from xs (omega (arith, within)))

-- what is left over once more is behind one that is put in there
over-insert : (start : ℕ) (xs : List BoundedShelf) (one : BoundedShelf) → start ≤ length xs → drop (suc start) (insert xs start one) ≡ drop start xs
over-insert zero xs one within = refl
over-insert (suc start) [] one within = absurd (omega (arith, within))
over-insert (suc start) (x ∷ xs) one within = over-insert start xs one (omega (arith, within))

-- it does not matter what stands where one is taken out
pub remove-set : (index : ℕ) (xs : List BoundedShelf) (one : BoundedShelf) → remove (set xs index one) index ≡ remove xs index
remove-set index [] one = refl
remove-set zero (x ∷ xs) one = refl
remove-set (suc index) (x ∷ xs) one = ap (λ (l : List BoundedShelf). x ∷ l) (remove-set index xs one)

-- one is moved to those that are left over
pub left-over : (start index : ℕ) (xs : List BoundedShelf) (empty one : BoundedShelf) → start + index < length xs
    → drop (start + 1) (insert (remove (set xs (start + index) empty) (start + index)) start one) ≡ remove (drop start xs) index
left-over start index xs empty one within =
    let next : start + 1 ≡ suc start = omega arith in
    ap (λ (n : ℕ). drop n (insert (remove (set xs (start + index) empty) (start + index)) start one)) next
    ∙ ap (λ (l : List BoundedShelf). drop (suc start) (insert l start one)) (remove-set (start + index) xs empty)
    ∙ over-insert start (remove xs (start + index)) one (omega (arith, within, length-remove xs (start + index) within))
    ∙ remove-drop start index xs (omega (arith, within))

-- behind the one that is taken out
remove-at : (start : ℕ) (xs : List BoundedShelf) → drop start (remove xs start) ≡ drop (suc start) xs
remove-at zero [] = refl
remove-at zero (x ∷ xs) = refl
remove-at (suc start) [] = refl
remove-at (suc start) (x ∷ xs) = remove-at start xs

-- what is put in is what is written over it
set-insert : (index : ℕ) (xs : List BoundedShelf) (other one : BoundedShelf) → index ≤ length xs → set (insert xs index other) index one ≡ insert xs index one
set-insert zero xs other one within = refl
set-insert (suc index) [] other one within = absurd (omega (arith, within))
set-insert (suc index) (x ∷ xs) other one within = ap (λ (l : List BoundedShelf). x ∷ l) (set-insert index xs other one (omega (arith, within)))

-- one that is left over makes a slot
pub made-slot : (start index : ℕ) (xs : List BoundedShelf) (other one : BoundedShelf) → suc start + index ≤ length xs
    → drop start (set (insert (remove xs start) (start + index) other) (start + index) one) ≡ insert (drop (suc start) xs) index one
made-slot start index xs other one within =
    let shorter = length-remove xs start (omega (arith, within)) in
    let size : length (drop (suc start) xs) ≡ length xs - suc start = length-drop (suc start) xs in
    set-drop start index (insert (remove xs start) (start + index) other) one (omega (arith, within, length-insert (remove xs start) (start + index) other (omega (arith, within, shorter)), shorter))
    ∙ ap (λ (l : List BoundedShelf). set l index one) (insert-drop start index (remove xs start) other (omega (arith, within, shorter)) ∙ ap (λ (l : List BoundedShelf). insert l index other) (remove-at start xs))
    ∙ set-insert index (drop (suc start) xs) other one (omega (arith, within, size))

-- the same, where some are left over
pub taken-slot : (start index : ℕ) (xs : List BoundedShelf) (other one : BoundedShelf) → 0 < start → start + index ≤ length xs
    → drop (start - 1) (set (insert (remove xs (start - 1)) (start - 1 + index) other) (start - 1 + index) one) ≡ insert (drop start xs) index one
taken-slot start index xs other one some within =
    let next : suc (start - 1) ≡ start = omega (arith, some) in
    made-slot (start - 1) index xs other one (omega (arith, some, within))
    ∙ ap (λ (n : ℕ). insert (drop n xs) index one) next

-- a list from two positions on
pub drop-both : (start from : ℕ) (xs : List BoundedShelf) → start ≤ length xs → drop (start + from) xs ≡ drop from (drop start xs)
drop-both zero from xs within =
    let none : 0 + from ≡ from = omega arith in
    ap (λ (n : ℕ). drop n xs) none
drop-both (suc start) from [] within = absurd (omega (arith, within))
drop-both (suc start) from (x ∷ xs) within =
    let next : suc start + from ≡ suc (start + from) = omega arith in
    ap (λ (n : ℕ). drop n (x ∷ xs)) next ∙ drop-both start from xs (omega (arith, within))

-- a stretch of it
stretch-both : (start from end : ℕ) (xs : List BoundedShelf) → start ≤ length xs → drop (start + from) (take (start + end) xs) ≡ drop from (take end (drop start xs))
stretch-both zero from end xs within =
    let none : 0 + from ≡ from = omega arith in
    let zero-end : 0 + end ≡ end = omega arith in
    ap (λ (n : ℕ). drop n (take (0 + end) xs)) none ∙ ap (λ (n : ℕ). drop from (take n xs)) zero-end
stretch-both (suc start) from end [] within = absurd (omega (arith, within))
stretch-both (suc start) from end (x ∷ xs) within =
    let next : suc start + from ≡ suc (start + from) = omega arith in
    let next-end : suc start + end ≡ suc (start + end) = omega arith in
    ap (λ (n : ℕ). drop n (take (suc start + end) (x ∷ xs))) next
    ∙ ap (λ (n : ℕ). drop (suc (start + from)) (take n (x ∷ xs))) next-end
    ∙ stretch-both start from end xs (omega (arith, within))

-- the first that is wide enough is the first behind those that are left over
pub first-drop : (start from width position : ℕ) (xs : List BoundedShelf) → start ≤ length xs → IsFirstAsWide (start + from) width xs (Some position)
    → IsFirstAsWide from width (drop start xs) (Some (position - start))
first-drop start from width position xs within first =
    let here : position ≡ start + (position - start) = omega (arith, first.0) in (
      omega (arith, first.0),
      omega (arith, first.0, first.1, length-drop start xs),
      subst (AllByRecursion (λ (one : BoundedShelf). one.widest < width))
          (ap (λ (n : ℕ). drop (start + from) (take n xs)) here ∙ stretch-both start from (position - start) xs within) first.2,
      subst (AllByRecursion (λ (one : BoundedShelf). width ≤ one.widest))
          (ap (take 1) (ap (λ (n : ℕ). drop n xs) here ∙ drop-both start (position - start) xs within)) first.3,
    )
