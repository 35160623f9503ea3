-- The shelf in the first place of those that are wide enough: how it is found height by height, and that what it offers is
-- what the model chooses.
use Rattle.std.proofs.Common.{◌≡◌, ◌≢◌, ℕ, zero, suc, ◌+◌, ◌<◌, ◌≤◌, Bool, true, false, cond, Option, None, Some, List, [], ◌∷◌, drop, get_or-set_other, get_or-set_same, length, map, set, take, refl, ap, arith, sym, subst}
use Rattle.shelf_records.proofs.Spelled.Witnesses.{Each-unmap}
use Rattle.std.proofs.lemmas.List.{drop-map}
use Rattle.std.proofs.Math.Seq.{take-length}
use Rattle.std.proofs.lemmas.Bool.Decides.{nat_tests}
use Rattle.std.specs.Prelude.{◌*◌, ◌==◌, nat_lt}
use Rattle.std.specs.List.{AllByRecursion}
use Rattle.shelf_records.specs.declared.records.LinkedShelf.{LinkedShelf}
use Rattle.shelf_records.specs.AtlasRecords.{height_of}
use Rattle.shelf_model.specs.Listing.{RiseFrom}
use Rattle.shelf_heights.specs.Private.ByHeight.{AreInOrder, IsFirstAsWide, order_at, order_of, chain_order, bounded_at, numbers_by_height}
use Rattle.shelf_search.specs.Private.Opening.{AreInChain, IsBehind, bounded_full, IsEarliest, IsEarliestWide, earlier_position, chain_order_at}
use Rattle.shelf_search.specs.Private.Searching.{earliest}
use Rattle.shelf_heights.specs.declared.by_height.BoundedShelf.{BoundedShelf}
use Rattle.shelf_heights.proofs.ByHeight.Positions.{rise-read}

-- a shelf with no bound and no number
abbrev nothing : BoundedShelf
nothing = record { widest = 0; shelf = 0 }

-- a fact of each between two positions is one of that at a position, and so are those of each up to one, from one on, and
-- of all
each-between : (P : BoundedShelf → Type 0) (ones : List BoundedShelf) (from to k : ℕ) → from ≤ k → k < to → k < length ones → AllByRecursion P (drop from (take to ones)) → P (bounded_at ones k)
each-between P [] from to k after before within each = absurd (omega arith)
each-between P (one ∷ ones) from zero k after before within each = absurd (omega (arith, before))
each-between P (one ∷ ones) zero (suc to) zero after before within each = each.0
each-between P (one ∷ ones) zero (suc to) (suc k) after before within each = each-between P ones zero to k (omega arith) (omega (arith, before)) (omega (arith, within)) each.1
each-between P (one ∷ ones) (suc from) (suc to) zero after before within each = absurd (omega (arith, after))
each-between P (one ∷ ones) (suc from) (suc to) (suc k) after before within each = each-between P ones from to k (omega (arith, after)) (omega (arith, before)) (omega (arith, within)) each

each-to : (P : BoundedShelf → Type 0) (ones : List BoundedShelf) (to k : ℕ) → k < to → k < length ones → AllByRecursion P (take to ones) → P (bounded_at ones k)
each-to P ones to k before within each = each-between P ones 0 to k (omega arith) before within each

each-from : (P : BoundedShelf → Type 0) (ones : List BoundedShelf) (from k : ℕ) → from ≤ k → k < length ones → AllByRecursion P (drop from ones) → P (bounded_at ones k)
each-from P ones from k after within each =
    each-between P ones from (length ones) k after within within (subst (λ (l : List BoundedShelf). AllByRecursion P (drop from l)) (sym (take-length ones)) each)

pub each-at : (P : BoundedShelf → Type 0) (ones : List BoundedShelf) (k : ℕ) → k < length ones → AllByRecursion P ones → P (bounded_at ones k)
each-at P ones k within each = each-from P ones 0 k (omega arith) within each

pub number-from : (P : ℕ → Type 0) (ones : List BoundedShelf) (from k : ℕ) → from ≤ k → k < length ones → AllByRecursion P (drop from (numbers_by_height ones)) → P (bounded_at ones k).shelf
number-from P ones from k after within each =
    each-from (λ (one : BoundedShelf). P one.shelf) ones from k after within
    (Each-unmap P (λ (one : BoundedShelf). one.shelf) (drop from ones) (subst (AllByRecursion P) (drop-map (λ (one : BoundedShelf). one.shelf) from ones) each))

-- and what holds at each position from one on holds of each from there
pub from-each : (P : BoundedShelf → Type 0) (ones : List BoundedShelf) (from : ℕ) → ((k : ℕ) → from ≤ k → k < length ones → P (bounded_at ones k)) → AllByRecursion P (drop from ones)
from-each P [] zero each = tt
from-each P [] (suc from) each = tt
from-each P (one ∷ ones) zero each = (each 0 (omega arith) (omega arith), from-each P ones zero (λ k after within. each (suc k) (omega arith) (omega (arith, within))))
from-each P (one ∷ ones) (suc from) each = from-each P ones from (λ k after within. each (suc k) (omega (arith, after)) (omega (arith, within)))

-- the bound of the shelf that is found is as wide
pub found-wide : (ones : List BoundedShelf) (index width : ℕ) → index < length ones → AllByRecursion (λ (one : BoundedShelf). width ≤ one.widest) (take 1 (drop index ones)) → width ≤ (bounded_at ones index).widest
found-wide [] index width within each = absurd (omega arith)
found-wide (one ∷ ones) zero width within each = each.0
found-wide (one ∷ ones) (suc index) width within each = found-wide ones index width (omega arith) each

-- orders rise from position to position
orders-rise : (shelves : List LinkedShelf) (from : ℕ) (by_height : List BoundedShelf) (k next : ℕ) → k < next → next < length by_height → RiseFrom from (map (order_of shelves) (numbers_by_height by_height))
    → order_of shelves (bounded_at by_height k).shelf < order_of shelves (bounded_at by_height next).shelf
orders-rise shelves from [] k next less within rise = absurd (omega arith)
orders-rise shelves from (one ∷ others) k zero less within rise = absurd (omega arith)
orders-rise shelves from (one ∷ others) zero (suc next) less within rise =
    omega (arith, rise-read shelves (order_of shelves one.shelf + 1) next others nothing (omega arith) rise.1)
orders-rise shelves from (one ∷ others) (suc k) (suc next) less within rise = orders-rise shelves (order_of shelves one.shelf + 1) others k next (omega arith) (omega arith) rise.1

module _ (shelves : List LinkedShelf) (by_height : List BoundedShelf) where
  -- the next shelf that is as wide is found, unless that before it is earlier in the chain
  pub next-earliest : (start from index next width : ℕ) (first : Option ℕ) → start ≤ from → IsEarliest shelves by_height start from width first → IsFirstAsWide from width by_height (Some index) → IsBehind shelves by_height index next
      → IsEarliest shelves by_height start next width (Some (earlier_position shelves by_height first index))
  next-earliest start from index next width first after earliest reached behind = by_first first earliest
    where
      between : (k : ℕ) → from ≤ k → k < index → (bounded_at by_height k).widest < width
      between k beyond before = each-between (λ (one : BoundedShelf). one.widest < width) by_height from index k beyond before (omega (arith, before, reached.1)) reached.2

      new : ((k : ℕ) → start ≤ k → k < from → width ≤ (bounded_at by_height k).widest → chain_order_at shelves by_height index ≤ chain_order_at shelves by_height k) → IsEarliestWide shelves by_height start next width index
      new earlier_ones = record {
        after = omega (arith, after, reached.0);
        within = behind.after;
        wide = found-wide by_height index width reached.1 reached.3;
        before = λ k beyond before wide. by_test k beyond before wide (nat_lt k from) refl;
        behind = λ k beyond before wide. behind.later k beyond before;
      }
        where
          by_test : (k : ℕ) → start ≤ k → k < index → width ≤ (bounded_at by_height k).widest → (b : Bool) → nat_lt k from ≡ b → chain_order_at shelves by_height index ≤ chain_order_at shelves by_height k
          by_test k beyond before wide true e = let here : k < from = grind (arith, nat_tests) in earlier_ones k beyond here wide
          by_test k beyond before wide false e = let here : from ≤ k = grind (arith, nat_tests) in absurd (omega (arith, wide, between k here before))

      kept : (one : ℕ) → IsEarliestWide shelves by_height start from width one → chain_order_at shelves by_height one < chain_order_at shelves by_height index → IsEarliestWide shelves by_height start next width one
      kept one is less = record {
        after = is.after;
        within = omega (arith, is.within, reached.0, behind.after);
        wide = is.wide;
        before = is.before;
        behind = λ k beyond before wide. by_test k beyond before wide (nat_lt k from) (nat_lt k index) (k == index) refl refl refl;
      }
        where
          by_test : (k : ℕ) → one < k → k < next → width ≤ (bounded_at by_height k).widest → (a b c : Bool) → nat_lt k from ≡ a → nat_lt k index ≡ b → (k == index) ≡ c → chain_order_at shelves by_height one < chain_order_at shelves by_height k
          by_test k beyond before wide true b c e f g = let here : k < from = grind (arith, nat_tests) in is.behind k beyond here wide
          by_test k beyond before wide false true c e f g =
              let low : from ≤ k = grind (arith, nat_tests) in
              let high : k < index = grind (arith, nat_tests) in
              absurd (omega (arith, wide, between k low high))
          by_test k beyond before wide false false true e f g =
              let same : k ≡ index = grind arith in
              subst (λ n. chain_order_at shelves by_height one < chain_order_at shelves by_height n) (sym same) less
          by_test k beyond before wide false false false e f g =
              let here : index < k = grind (arith, nat_tests) in
              omega (arith, less, behind.later k here before)

      before_later : (one : ℕ) → IsEarliestWide shelves by_height start from width one → chain_order_at shelves by_height index ≤ chain_order_at shelves by_height one → (k : ℕ) → start ≤ k → k < from → width ≤ (bounded_at by_height k).widest → chain_order_at shelves by_height index ≤ chain_order_at shelves by_height k
      before_later one is less k beyond before wide = by_side (nat_lt k one) (k == one) refl refl
        where
          by_side : (a b : Bool) → nat_lt k one ≡ a → (k == one) ≡ b → chain_order_at shelves by_height index ≤ chain_order_at shelves by_height k
          by_side true b f g = let here : k < one = grind (arith, nat_tests) in omega (arith, less, is.before k beyond here wide)
          by_side false true f g = let same : k ≡ one = grind arith in subst (λ n. chain_order_at shelves by_height index ≤ chain_order_at shelves by_height n) (sym same) less
          by_side false false f g = let here : one < k = grind (arith, nat_tests) in omega (arith, less, is.behind k here before wide)

      by_first : (o : Option ℕ) → IsEarliest shelves by_height start from width o → IsEarliest shelves by_height start next width (Some (earlier_position shelves by_height o index))
      by_first None none = new (λ k beyond before wide. absurd (omega (arith, wide, none k beyond before)))
      by_first (Some one) is = by_test (nat_lt (chain_order_at shelves by_height one) (chain_order_at shelves by_height index)) refl
        where
          by_test : (b : Bool) → nat_lt (chain_order_at shelves by_height one) (chain_order_at shelves by_height index) ≡ b → IsEarliestWide shelves by_height start next width (cond b one index)
          by_test true e = let less : chain_order_at shelves by_height one < chain_order_at shelves by_height index = grind (arith, nat_tests) in kept one is less
          by_test false e =
              let less : chain_order_at shelves by_height index ≤ chain_order_at shelves by_height one = grind (arith, nat_tests) in
              new (before_later one is less)

  -- where a full shelf is found, it is passed with a bound of 0, and what was found stays
  pub passed-full : (start from index width : ℕ) (first : Option ℕ) → 1 ≤ width → start ≤ from → IsEarliest shelves by_height start from width first → IsFirstAsWide from width by_height (Some index)
      → IsEarliest shelves (set by_height index (bounded_full (bounded_at by_height index))) start (index + 1) width first
  passed-full start from index width first some after earliest reached = by_first first earliest
    where
      full : List BoundedShelf
      full = set by_height index (bounded_full (bounded_at by_height index))

      -- another one has the bound that it had
      other : (k : ℕ) → k ≢ index → bounded_at full k ≡ bounded_at by_height k
      other k differs = get_or-set_other by_height index k (bounded_full (bounded_at by_height index)) nothing differs

      here : bounded_at full index ≡ bounded_full (bounded_at by_height index)
      here = get_or-set_same by_height index (bounded_full (bounded_at by_height index)) nothing reached.1

      -- none of those from here on is as wide
      passed : (k : ℕ) → from ≤ k → k < index + 1 → (bounded_at full k).widest < width
      passed k beyond before = by_test (nat_lt k index) refl
        where
          by_test : (b : Bool) → nat_lt k index ≡ b → (bounded_at full k).widest < width
          by_test true e =
              let front : k < index = grind (arith, nat_tests) in
              omega (arith, ap (λ (one : BoundedShelf). one.widest) (other k (λ same. omega (arith, same, front))), each-between (λ (one : BoundedShelf). one.widest < width) by_height from index k beyond front (omega (arith, front, reached.1)) reached.2)
          by_test false e =
              let high : index ≤ k = grind (arith, nat_tests) in
              let same : k ≡ index = omega (arith, high, before) in
              omega (arith, some, ap (λ n. (bounded_at full n).widest) same, ap (λ (one : BoundedShelf). one.widest) here)

      -- those before stay as they are
      stays : (k : ℕ) → k < from → bounded_at full k ≡ bounded_at by_height k
      stays k before = other k (λ same. omega (arith, same, before, reached.0))

      order : (k : ℕ) → k < from → chain_order_at shelves full k ≡ chain_order_at shelves by_height k
      order k before = ap (λ (one : BoundedShelf). chain_order shelves one.shelf) (stays k before)

      by_first : (o : Option ℕ) → IsEarliest shelves by_height start from width o → IsEarliest shelves full start (index + 1) width o
      by_first None none = λ k beyond before. by_test k beyond before (nat_lt k from) refl
        where
          by_test : (k : ℕ) → start ≤ k → k < index + 1 → (b : Bool) → nat_lt k from ≡ b → (bounded_at full k).widest < width
          by_test k beyond before true e =
              let front : k < from = grind (arith, nat_tests) in
              omega (arith, ap (λ (one : BoundedShelf). one.widest) (stays k front), none k beyond front)
          by_test k beyond before false e = let high : from ≤ k = grind (arith, nat_tests) in passed k high before
      by_first (Some one) is = record {
        after = is.after;
        within = omega (arith, is.within, reached.0);
        wide = omega (arith, ap (λ (x : BoundedShelf). x.widest) (stays one is.within), is.wide);
        before = λ k beyond before wide.
            let front : k < from = omega (arith, before, is.within) in
            omega (arith, order one is.within, order k front, is.before k beyond before (omega (arith, wide, ap (λ (x : BoundedShelf). x.widest) (stays k front))));
        behind = λ k beyond before wide. by_test k beyond before wide (nat_lt k from) refl;
      }
        where
          by_test : (k : ℕ) → one < k → k < index + 1 → width ≤ (bounded_at full k).widest → (b : Bool) → nat_lt k from ≡ b → chain_order_at shelves full one < chain_order_at shelves full k
          by_test k beyond before wide true e =
              let front : k < from = grind (arith, nat_tests) in
              omega (arith, order one is.within, order k front, is.behind k beyond front (omega (arith, wide, ap (λ (x : BoundedShelf). x.widest) (stays k front))))
          by_test k beyond before wide false e =
              let high : from ≤ k = grind (arith, nat_tests) in
              absurd (omega (arith, wide, passed k high before))

  -- where no bound behind is as wide, what was found is that of all
  pub ended-earliest : (start from width : ℕ) (first : Option ℕ) → from ≤ length by_height → IsEarliest shelves by_height start from width first → IsFirstAsWide from width by_height None → IsEarliest shelves by_height start (length by_height) width first
  ended-earliest start from width None within none low = λ k beyond before. by_test k beyond before (nat_lt k from) refl
    where
      by_test : (k : ℕ) → start ≤ k → k < length by_height → (b : Bool) → nat_lt k from ≡ b → (bounded_at by_height k).widest < width
      by_test k beyond before true e = let here : k < from = grind (arith, nat_tests) in none k beyond here
      by_test k beyond before false e = let here : from ≤ k = grind (arith, nat_tests) in each-from (λ (one : BoundedShelf). one.widest < width) by_height from k here before low
  ended-earliest start from width (Some one) within is low =
      record {
        after = is.after;
        within = omega (arith, is.within, within);
        wide = is.wide;
        before = is.before;
        behind = λ k beyond before wide. by_test k beyond before wide (nat_lt k from) refl;
      }
    where
      by_test : (k : ℕ) → one < k → k < length by_height → width ≤ (bounded_at by_height k).widest → (b : Bool) → nat_lt k from ≡ b → chain_order_at shelves by_height one < chain_order_at shelves by_height k
      by_test k beyond before wide true e = let here : k < from = grind (arith, nat_tests) in is.behind k beyond here wide
      by_test k beyond before wide false e =
          let here : from ≤ k = grind (arith, nat_tests) in
          absurd (omega (arith, wide, each-from (λ (one : BoundedShelf). one.widest < width) by_height from k here before low))

  pub height-behind : (index next : ℕ) → AreInOrder shelves by_height → AreInChain shelves by_height → index < length by_height → next ≤ length by_height
      → AllByRecursion (λ (one : BoundedShelf). order_of shelves one.shelf < order_at (height_of shelves (bounded_at by_height index).shelf + 1) 0) (take next by_height)
      → AllByRecursion (λ (one : BoundedShelf). order_at (height_of shelves (bounded_at by_height index).shelf + 1) 0 ≤ order_of shelves one.shelf) (drop next by_height)
      → IsBehind shelves by_height index next
  height-behind index next order placed within behind lower taller =
      record {
        after = by_test (nat_lt index next) refl;
        within = behind;
        later = λ k beyond before.
            let inside : k < length by_height = omega (arith, before, behind) in
            let below = each-to (λ (one : BoundedShelf). order_of shelves one.shelf < order_at (height_of shelves (bounded_at by_height index).shelf + 1) 0) by_height next k before inside lower in
            let above = orders-rise shelves 0 by_height index k beyond inside order.rising in
            let here = each-at (λ (one : BoundedShelf). chain_order shelves one.shelf < 65536 * 65536) by_height index within placed in
            let there = each-at (λ (one : BoundedShelf). chain_order shelves one.shelf < 65536 * 65536) by_height k inside placed in
            later (height_of shelves (bounded_at by_height index).shelf) (chain_order_at shelves by_height index) (height_of shelves (bounded_at by_height k).shelf) (chain_order_at shelves by_height k) here there above below;
      }
    where
      later : (height in_chain other behind : ℕ) → in_chain < 65536 * 65536 → behind < 65536 * 65536 → order_at height in_chain < order_at other behind → order_at other behind < order_at (height + 1) 0 → in_chain < behind
      later height in_chain other behind here there above below = omega (arith, here, there, above, below)

      by_test : (b : Bool) → nat_lt index next ≡ b → index < next
      by_test true e = grind (arith, nat_tests)
      by_test false e =
          let low : next ≤ index = grind (arith, nat_tests) in
          let high = each-from (λ (one : BoundedShelf). order_at (height_of shelves (bounded_at by_height index).shelf + 1) 0 ≤ order_of shelves one.shelf) by_height next index low within taller in
          let here = each-at (λ (one : BoundedShelf). chain_order shelves one.shelf < 65536 * 65536) by_height index within placed in
          absurd (too_high (height_of shelves (bounded_at by_height index).shelf) (chain_order_at shelves by_height index) here high)
        where
          too_high : (height in_chain : ℕ) → in_chain < 65536 * 65536 → order_at (height + 1) 0 ≤ order_at height in_chain → ⊥
          too_high height in_chain here high = omega (arith, here, high)
