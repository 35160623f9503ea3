-- Shelves of numbers and bounds: what edits of both make of them.
use Rattle.std.proofs.Common.{◌≡◌, ℕ, zero, suc, ◌+◌, ◌<◌, ◌≤◌, Option, None, Some, List, [], ◌∷◌, ◌++◌, drop, get_or, length, map, set, take, refl, ap, arith, subst, ◌∙◌}
use Rattle.std.proofs.Math.Seq.{take-append_seam}
use Rattle.std.proofs.lemmas.List.{drop-map, length-map, take-map}
use Rattle.std.specs.Prelude.{◌*◌, insert, remove, vec_capacity}
use Rattle.std.specs.List.{AllByRecursion}
use Rattle.shelf_heights.specs.Private.ByHeight.{IsFirstAsWide, numbers_by_height}
use Rattle.shelf_heights.specs.Private.ListFields.{IsCovered, IsFirstWide, ListByHeight, list_in, paired}
use Rattle.shelf_heights.specs.declared.by_height.BoundedShelf.{BoundedShelf}
use Rattle.shelf_heights.specs.declared.bounded_list.BoundedList.TheInside.{Inside}
use Rattle.shelf_records.proofs.Spelled.Witnesses.{Each-unmap}

-- a shelf of this number and bound
abbrev pub shelf_of : ℕ → ℕ → BoundedShelf
shelf_of number bound = record { widest = bound; shelf = number }

-- there are as many as numbers
pub length-paired : (numbers bounds : List ℕ) → length numbers ≡ length bounds → length (paired numbers bounds) ≡ length numbers
length-paired [] bounds same = refl
length-paired (n ∷ ns) [] same = absurd (omega (arith, same))
length-paired (n ∷ ns) (b ∷ bs) same = ap suc (length-paired ns bs (omega (arith, same)))

-- their numbers
pub numbers-paired : (numbers bounds : List ℕ) → length numbers ≡ length bounds → numbers_by_height (paired numbers bounds) ≡ numbers
numbers-paired [] bounds same = refl
numbers-paired (n ∷ ns) [] same = absurd (omega (arith, same))
numbers-paired (n ∷ ns) (b ∷ bs) same = ap (λ (l : List ℕ). n ∷ l) (numbers-paired ns bs (omega (arith, same)))

-- and their bounds
pub bounds-paired : (numbers bounds : List ℕ) → length numbers ≡ length bounds → map (λ (one : BoundedShelf). one.widest) (paired numbers bounds) ≡ bounds
bounds-paired [] [] same = refl
bounds-paired [] (b ∷ bs) same = absurd (omega (arith, same))
bounds-paired (n ∷ ns) [] same = absurd (omega (arith, same))
bounds-paired (n ∷ ns) (b ∷ bs) same = ap (λ (l : List ℕ). b ∷ l) (bounds-paired ns bs (omega (arith, same)))

-- the one at a position
pub paired-at : (numbers bounds : List ℕ) (index k l : ℕ) (other : BoundedShelf) → length numbers ≡ length bounds → index < length numbers
    → get_or (paired numbers bounds) index other ≡ shelf_of (get_or numbers index k) (get_or bounds index l)
paired-at [] bounds index k l other same within = absurd (omega (arith, within))
paired-at (n ∷ ns) [] index k l other same within = absurd (omega (arith, same))
paired-at (n ∷ ns) (b ∷ bs) zero k l other same within = refl
paired-at (n ∷ ns) (b ∷ bs) (suc index) k l other same within = paired-at ns bs index k l other (omega (arith, same)) (omega (arith, within))

-- one is put in
pub paired-insert : (numbers bounds : List ℕ) (index : ℕ) (one : BoundedShelf) → length numbers ≡ length bounds → index ≤ length numbers
    → paired (insert numbers index one.shelf) (insert bounds index one.widest) ≡ insert (paired numbers bounds) index one
paired-insert [] [] zero one same within = refl
paired-insert [] [] (suc index) one same within = absurd (omega (arith, within))
paired-insert [] (b ∷ bs) index one same within = absurd (omega (arith, same))
paired-insert (n ∷ ns) [] index one same within = absurd (omega (arith, same))
paired-insert (n ∷ ns) (b ∷ bs) zero one same within = refl
paired-insert (n ∷ ns) (b ∷ bs) (suc index) one same within =
    ap (λ (l : List BoundedShelf). shelf_of n b ∷ l) (paired-insert ns bs index one (omega (arith, same)) (omega (arith, within)))

-- one is taken out
pub paired-remove : (numbers bounds : List ℕ) (index : ℕ) → length numbers ≡ length bounds → index < length numbers
    → paired (remove numbers index) (remove bounds index) ≡ remove (paired numbers bounds) index
paired-remove [] bounds index same within = absurd (omega (arith, within))
paired-remove (n ∷ ns) [] index same within = absurd (omega (arith, same))
paired-remove (n ∷ ns) (b ∷ bs) zero same within = refl
paired-remove (n ∷ ns) (b ∷ bs) (suc index) same within =
    ap (λ (l : List BoundedShelf). shelf_of n b ∷ l) (paired-remove ns bs index (omega (arith, same)) (omega (arith, within)))

-- those before the last one are the list without it
pub before-last : {X : Type 0} (list : List X) (last : ℕ) → last + 1 ≡ length list → take last list ≡ remove list last
before-last [] last is = absurd (omega (arith, is))
before-last (x ∷ []) zero is = refl
before-last (x ∷ y ∷ others) zero is = absurd (omega (arith, is))
before-last {X} (x ∷ others) (suc last) is = ap (λ (l : List X). x ∷ l) (before-last others last (omega (arith, is)))

-- one is written over another
pub paired-set : (numbers bounds : List ℕ) (index : ℕ) (one : BoundedShelf) → length numbers ≡ length bounds → index < length numbers
    → paired (set numbers index one.shelf) (set bounds index one.widest) ≡ set (paired numbers bounds) index one
paired-set [] bounds index one same within = absurd (omega (arith, within))
paired-set (n ∷ ns) [] index one same within = absurd (omega (arith, same))
paired-set (n ∷ ns) (b ∷ bs) zero one same within = refl
paired-set (n ∷ ns) (b ∷ bs) (suc index) one same within =
    ap (λ (l : List BoundedShelf). shelf_of n b ∷ l) (paired-set ns bs index one (omega (arith, same)) (omega (arith, within)))

-- one put in at the end
pub insert-end : {X : Type 0} (list : List X) (one : X) → insert list (length list) one ≡ list ++ one ∷ []
insert-end [] one = refl
insert-end {X} (other ∷ others) one = ap (λ (l : List X). other ∷ l) (insert-end others one)

-- one goes behind all
pub paired-end : (numbers bounds : List ℕ) (one : BoundedShelf) → length numbers ≡ length bounds
    → paired (numbers ++ one.shelf ∷ []) (bounds ++ one.widest ∷ []) ≡ paired numbers bounds ++ one ∷ []
paired-end [] [] one same = refl
paired-end [] (b ∷ bs) one same = absurd (omega (arith, same))
paired-end (n ∷ ns) [] one same = absurd (omega (arith, same))
paired-end (n ∷ ns) (b ∷ bs) one same =
    ap (λ (l : List BoundedShelf). shelf_of n b ∷ l) (paired-end ns bs one (omega (arith, same)))

-- what a list stands for has as many shelves as there are numbers
pub count-of : (list : Inside) (by_height : ListByHeight) → IsCovered list → list_in list ≡ by_height → length by_height.items ≡ length list.numbers.items
count-of list by_height covered is =
    subst (λ (value : ListByHeight). length value.items ≡ length list.numbers.items) is (length-paired list.numbers.items list.bounds.items covered.equal)

-- the shelf at a position of it
pub read-of : (list : Inside) (by_height : ListByHeight) (index k l : ℕ) (other : BoundedShelf) → IsCovered list → list_in list ≡ by_height → index < length by_height.items
    → get_or by_height.items index other ≡ shelf_of (get_or list.numbers.items index k) (get_or list.bounds.items index l)
read-of list by_height index k l other covered is within =
    subst (λ (value : ListByHeight). get_or value.items index other ≡ shelf_of (get_or list.numbers.items index k) (get_or list.bounds.items index l)) is
    (paired-at list.numbers.items list.bounds.items index k l other covered.equal (omega (arith, within, count-of list by_height covered is)))

-- its numbers and its bounds
pub numbers-of : (list : Inside) (by_height : ListByHeight) → IsCovered list → list_in list ≡ by_height → numbers_by_height by_height.items ≡ list.numbers.items
numbers-of list by_height covered is =
    subst (λ (value : ListByHeight). numbers_by_height value.items ≡ list.numbers.items) is (numbers-paired list.numbers.items list.bounds.items covered.equal)

pub bounds-of : (list : Inside) (by_height : ListByHeight) → IsCovered list → list_in list ≡ by_height → map (λ (one : BoundedShelf). one.widest) by_height.items ≡ list.bounds.items
bounds-of list by_height covered is =
    subst (λ (value : ListByHeight). map (λ (one : BoundedShelf). one.widest) value.items ≡ list.bounds.items) is (bounds-paired list.numbers.items list.bounds.items covered.equal)

-- room for one more is room in each of its lists
pub record HasRoom (list : Inside) : Type 0 where
  pub numbers : length list.numbers.items < vec_capacity list.numbers
  pub bounds : length list.bounds.items < vec_capacity list.bounds
  pub blocks : length list.bounds.items < 64 * length list.widest.items

pub room-of : (list : Inside) (by_height : ListByHeight) → IsCovered list → list_in list ≡ by_height → length by_height.items < by_height.capacity → HasRoom list
room-of list by_height covered is room =
    let count = count-of list by_height covered is in
    let capacity = ap (λ (value : ListByHeight). value.capacity) is in
    record {
      numbers = omega (arith, room, count, capacity);
      bounds = omega (arith, room, count, capacity, covered.equal);
      blocks = omega (arith, room, count, capacity, covered.equal);
    }

-- nothing is taken where nothing is
take-none : (n : ℕ) (l : List ℕ) → length l ≡ 0 → take n l ≡ []
take-none zero l none = refl
take-none (suc n) [] none = refl
take-none (suc n) (x ∷ l) none = absurd (omega (arith, none))

-- what is written over the whole of a list is what stands there
pub written-back : (old new : List ℕ) (len : ℕ) → length new ≡ length old → len ≡ length old → take len (new ++ drop (length new) old) ≡ new
written-back old [] len same is = take-none len old (omega (arith, same))
written-back [] (x ∷ new) len same is = absurd (omega (arith, same))
written-back (y ∷ old) (x ∷ new) zero same is = absurd (omega (arith, is))
written-back (y ∷ old) (x ∷ new) (suc len) same is =
    ap (λ (l : List ℕ). x ∷ l) (written-back old new len (omega (arith, same)) (omega (arith, is)))

-- the first of the bounds is the first of the shelves
pub wide-shelves : (from width : ℕ) (by_height : List BoundedShelf) (result : Option ℕ) → IsFirstWide from width (map (λ (one : BoundedShelf). one.widest) by_height) result → IsFirstAsWide from width by_height result
wide-shelves from width by_height None low =
    Each-unmap (λ bound. bound < width) (λ (one : BoundedShelf). one.widest) (drop from by_height)
    (subst (AllByRecursion (λ bound. bound < width)) (drop-map (λ (one : BoundedShelf). one.widest) from by_height) low)
wide-shelves from width by_height (Some index) first = (
  first.0,
  omega (arith, first.1, length-map by_height (λ (one : BoundedShelf). one.widest)),
  Each-unmap (λ bound. bound < width) (λ (one : BoundedShelf). one.widest) (drop from (take index by_height))
      (subst (AllByRecursion (λ bound. bound < width))
      (ap (drop from) (take-map (λ (one : BoundedShelf). one.widest) index by_height) ∙ drop-map (λ (one : BoundedShelf). one.widest) from (take index by_height)) first.2),
  Each-unmap (λ bound. width ≤ bound) (λ (one : BoundedShelf). one.widest) (take 1 (drop index by_height))
      (subst (AllByRecursion (λ bound. width ≤ bound))
      (ap (take 1) (drop-map (λ (one : BoundedShelf). one.widest) index by_height) ∙ take-map (λ (one : BoundedShelf). one.widest) 1 (drop index by_height)) first.3),
)

-- a list that is written over another as long is what stands there then
pub written : (new old : List ℕ) (len : ℕ) → len ≡ length new → take len (new ++ drop (length new) old) ≡ new
written new old len same = ap (λ (n : ℕ). take n (new ++ drop (length new) old)) same ∙ take-append_seam new (drop (length new) old)
