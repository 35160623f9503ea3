-- Where a shelf stands in the list of shelves by height, as halving finds it, and what an edit there makes of the list.
use Rattle.std.proofs.Common.{◌≡◌, ◌≢◌, ℕ, zero, suc, ◌+◌, ◌<◌, ◌≤◌, Bool, true, false, List, [], ◌∷◌, length, map, get_or, set, take, drop, refl, ap, arith, subst, sym}
use Rattle.std.proofs.Math.Nat.{pow-suc}
use Rattle.std.proofs.Math.ListN.{drop_of_length-le}
use Rattle.std.proofs.lemmas.Bool.Decides.{nat_tests}
use Rattle.std.specs.Prelude.{insert, nat_lt, remove, slice_index_or, ◌*◌, ◌^◌, ◌==◌}
use Rattle.std.specs.List.{AllByRecursion}
use Rattle.etagere_base.specs.Lists.{times}
use Rattle.etagere_links.proofs.ListEnds.{times-other}
use Rattle.shelf_records.specs.declared.records.LinkedShelf.{LinkedShelf}
use Rattle.shelf_model.specs.Listing.{RiseFrom}
use Rattle.shelf_heights.specs.Private.ByHeight.{AreInOrder, IsStart, bound_of, order_at, order_of, put_in, raised, rebounded, bounded_at, numbers_by_height, taken_out}
use Rattle.shelf_heights.specs.declared.by_height.BoundedShelf.{BoundedShelf}
use Rattle.shelf_records.proofs.Recorded.Members.{Each-member}
use Rattle.shelf_records.proofs.Recorded.RecordsOfIds.{field_at-read}
use Rattle.shelf_records.specs.AtlasRecords.{across_of, along_of, height_of}
use Rattle.shelf_heights.proofs.ByHeight.Edited.{bounded_as, rise-above}

-- so many shelves are left after halvings, where a count of digits was enough for all
pub record HasDigits (size probes digits : ℕ) : Type 0 where
  pub left : ℕ
  pub sum : probes + left ≡ digits
  pub small : size < 2 ^ left

-- one more probe leaves half of them at most
pub digits-halved : (size less probes digits : ℕ) → less + less ≤ size → 1 ≤ size → HasDigits size probes digits → HasDigits less (probes + 1) digits
digits-halved size less probes digits half some has = by_left has.left has.sum has.small
  where
    by_left : (left : ℕ) → probes + left ≡ digits → size < 2 ^ left → HasDigits less (probes + 1) digits
    by_left zero sum small = absurd (omega (arith, some, small))
    by_left (suc left) sum small =
        let double : 2 ^ suc left ≡ 2 ^ left * 2 = pow-suc 2 left in
        record { left = left; sum = omega (arith, sum); small = omega (arith, small, half, double) }

-- the order of a shelf that is read is no lower than where those rise from
pub rise-read : (shelves : List LinkedShelf) (from n : ℕ) (by_height : List BoundedShelf) (other : BoundedShelf) → n < length by_height
    → RiseFrom from (map (order_of shelves) (numbers_by_height by_height)) → from ≤ order_of shelves (get_or by_height n other).shelf
rise-read shelves from n [] other within rise = absurd (omega arith)
rise-read shelves from zero (one ∷ others) other within rise = rise.0
rise-read shelves from (suc n) (one ∷ others) other within rise =
    omega (arith, rise.0, rise-read shelves (order_of shelves one.shelf + 1) n others other (omega arith) rise.1)

-- what holds of each number holds of that of a shelf that is read
pub read-number : (P : ℕ → Type 0) (n : ℕ) (by_height : List BoundedShelf) (other : BoundedShelf) → n < length by_height → AllByRecursion P (numbers_by_height by_height) → P (get_or by_height n other).shelf
read-number P n [] other within each = absurd (omega arith)
read-number P zero (one ∷ others) other within each = each.0
read-number P (suc n) (one ∷ others) other within each = read-number P n others other (omega arith) each.1

-- none of those that rise is below where they rise from
rise-each : (shelves : List LinkedShelf) (low from : ℕ) (by_height : List BoundedShelf) → low ≤ from → RiseFrom from (map (order_of shelves) (numbers_by_height by_height))
    → AllByRecursion (λ (one : BoundedShelf). low ≤ order_of shelves one.shelf) by_height
rise-each shelves low from [] less rise = tt
rise-each shelves low from (one ∷ others) less rise =
    (omega (arith, less, rise.0), rise-each shelves low (order_of shelves one.shelf + 1) others (omega (arith, less, rise.0)) rise.1)

-- where a shelf that is read comes before an order, so do those before it
pub before-probed : (shelves : List LinkedShelf) (from order n : ℕ) (by_height : List BoundedShelf) (other : BoundedShelf) → n < length by_height
    → RiseFrom from (map (order_of shelves) (numbers_by_height by_height)) → order_of shelves (get_or by_height n other).shelf < order
    → AllByRecursion (λ (one : BoundedShelf). order_of shelves one.shelf < order) (take (suc n) by_height)
before-probed shelves from order n [] other within rise before = tt
before-probed shelves from order zero (one ∷ others) other within rise before = (before, tt)
before-probed shelves from order (suc n) (one ∷ others) other within rise before = (
  omega (arith, before, rise-read shelves (order_of shelves one.shelf + 1) n others other (omega arith) rise.1),
  before-probed shelves (order_of shelves one.shelf + 1) order n others other (omega arith) rise.1 before,
)

-- where it doesn't, neither do those after it
pub after-probed : (shelves : List LinkedShelf) (from order n : ℕ) (by_height : List BoundedShelf) (other : BoundedShelf) → n < length by_height
    → RiseFrom from (map (order_of shelves) (numbers_by_height by_height)) → order ≤ order_of shelves (get_or by_height n other).shelf
    → AllByRecursion (λ (one : BoundedShelf). order ≤ order_of shelves one.shelf) (drop n by_height)
after-probed shelves from order n [] other within rise after = absurd (omega arith)
after-probed shelves from order zero (one ∷ others) other within rise after =
    (after, rise-each shelves order (order_of shelves one.shelf + 1) others (omega (arith, after)) rise.1)
after-probed shelves from order (suc n) (one ∷ others) other within rise after =
    after-probed shelves (order_of shelves one.shelf + 1) order n others other (omega arith) rise.1 after

-- none is taken out where it doesn't stand
absent-taken_out : (shelf : ℕ) (by_height : List BoundedShelf) → times shelf (numbers_by_height by_height) ≡ 0 → taken_out shelf by_height ≡ by_height
absent-taken_out shelf [] none = refl
absent-taken_out shelf (one ∷ others) none =
    let other : (one.shelf == shelf) ≡ false = grind arith in
    let rest : taken_out shelf others ≡ others = absent-taken_out shelf others (omega (arith, none)) in
    rw (other, rest) refl

-- no bound is raised where it doesn't stand
absent-raised : (shelf width : ℕ) (by_height : List BoundedShelf) → times shelf (numbers_by_height by_height) ≡ 0 → raised shelf width by_height ≡ by_height
absent-raised shelf width [] none = refl
absent-raised shelf width (one ∷ others) none =
    let other : (one.shelf == shelf) ≡ false = grind arith in
    let rest : raised shelf width others ≡ others = absent-raised shelf width others (omega (arith, none)) in
    rw (other, rest) refl

absent-rebounded : (shelf width : ℕ) (by_height : List BoundedShelf) → times shelf (numbers_by_height by_height) ≡ 0 → rebounded shelf width by_height ≡ by_height
absent-rebounded shelf width [] none = refl
absent-rebounded shelf width (one ∷ others) none =
    let other : (one.shelf == shelf) ≡ false = grind arith in
    let rest : rebounded shelf width others ≡ others = absent-rebounded shelf width others (omega (arith, none)) in
    rw (other, rest) refl

-- a shelf that is put in where it was taken out leaves the list as it was
pub put-back : (index : ℕ) (by_height : List BoundedShelf) (other : BoundedShelf) → index < length by_height → by_height ≡ insert (remove by_height index) index (get_or by_height index other)
put-back index [] other within = absurd (omega (arith, within))
put-back zero (one ∷ others) other within = refl
put-back (suc index) (one ∷ others) other within = ap (λ (l : List BoundedShelf). one ∷ l) (put-back index others other (omega (arith, within)))

-- a shelf stands at this index, and what edits of it there make of the list
pub record StandsAt (shelf index : ℕ) (by_height : List BoundedShelf) : Type 0 where
  pub within : index < length by_height
  pub read : (other : BoundedShelf) → get_or by_height index other ≡ bounded_as shelf (bound_of shelf by_height)
  pub taken : remove by_height index ≡ taken_out shelf by_height
  pub higher : (width : ℕ) → nat_lt (bound_of shelf by_height) width ≡ true → set by_height index (bounded_as shelf width) ≡ raised shelf width by_height
  pub same : (width : ℕ) → nat_lt (bound_of shelf by_height) width ≡ false → raised shelf width by_height ≡ by_height
  pub another : (width : ℕ) → set by_height index (bounded_as shelf width) ≡ rebounded shelf width by_height

-- the first shelf stands there, and no other of its number
stands-first : (shelf : ℕ) (one : BoundedShelf) (others : List BoundedShelf) → one.shelf ≡ shelf → times shelf (numbers_by_height others) ≡ 0 → StandsAt shelf 0 (one ∷ others)
stands-first shelf one others own none =
    let is : (one.shelf == shelf) ≡ true = grind arith in
    record {
      within = omega arith;
      read = λ other. rw is (ap (λ (n : ℕ). bounded_as n one.widest) own);
      taken = rw is (sym (absent-taken_out shelf others none));
      higher = λ width less.
          let low : nat_lt one.widest width ≡ true = rw is at less in
          rw (is, low, absent-raised shelf width others none) (ap (λ (n : ℕ). bounded_as n width ∷ others) (sym own));
      same = λ width less.
          let high : nat_lt one.widest width ≡ false = rw is at less in
          rw (is, high, absent-raised shelf width others none) refl;
      another = λ width. rw (is, absent-rebounded shelf width others none) (ap (λ (n : ℕ). bounded_as n width ∷ others) (sym own));
    }

-- a shelf stands one further behind another
stands-behind : (shelf index : ℕ) (one : BoundedShelf) (others : List BoundedShelf) → one.shelf ≢ shelf → StandsAt shelf index others → StandsAt shelf (suc index) (one ∷ others)
stands-behind shelf index one others other at =
    let is : (one.shelf == shelf) ≡ false = grind arith in
    record {
      within = omega (arith, at.within);
      read = λ default. rw is (at.read default);
      taken = rw is (ap (λ (l : List BoundedShelf). one ∷ l) at.taken);
      higher = λ width less. rw is (ap (λ (l : List BoundedShelf). one ∷ l) (at.higher width (rw is at less)));
      same = λ width less. rw is (ap (λ (l : List BoundedShelf). one ∷ l) (at.same width (rw is at less)));
      another = λ width. rw is (ap (λ (l : List BoundedShelf). one ∷ l) (at.another width));
    }

-- a shelf stands where those begin that don't come before its order
pub stands-at : (shelves : List LinkedShelf) (shelf from index : ℕ) (by_height : List BoundedShelf)
    → AllByRecursion (λ (one : BoundedShelf). order_of shelves one.shelf < order_of shelves shelf) (take index by_height)
    → AllByRecursion (λ (one : BoundedShelf). order_of shelves shelf ≤ order_of shelves one.shelf) (drop index by_height)
    → RiseFrom from (map (order_of shelves) (numbers_by_height by_height)) → 1 ≤ times shelf (numbers_by_height by_height) → StandsAt shelf index by_height
stands-at shelves shelf from index [] before after rise stands = absurd (omega (arith, stands))
stands-at shelves shelf from zero (one ∷ others) before after rise stands = by_test (one.shelf == shelf) refl
  where
    above : 1 ≤ times shelf (numbers_by_height others) → order_of shelves one.shelf + 1 ≤ order_of shelves shelf
    above later = rise-above (order_of shelves) shelf (order_of shelves one.shelf + 1) (numbers_by_height others) rise.1 later

    none : (n : ℕ) → times shelf (numbers_by_height others) ≡ n → times shelf (numbers_by_height others) ≡ 0
    none zero e = e
    none (suc n) e = absurd (omega (arith, after.0, above (omega (arith, e))))

    by_test : (b : Bool) → (one.shelf == shelf) ≡ b → StandsAt shelf 0 (one ∷ others)
    by_test true e =
        let own : one.shelf ≡ shelf = grind arith in
        stands-first shelf one others own (none (times shelf (numbers_by_height others)) refl)
    by_test false e =
        let other : one.shelf ≢ shelf = grind arith in
        absurd (omega (arith, after.0, above (omega (arith, stands, times-other shelf one.shelf (numbers_by_height others) other))))
stands-at shelves shelf from (suc index) (one ∷ others) before after rise stands =
    let other : one.shelf ≢ shelf = λ e. apart e before.0 in
    stands-behind shelf index one others other
    (stands-at shelves shelf (order_of shelves one.shelf + 1) index others before.1 after rise.1 (omega (arith, stands, times-other shelf one.shelf (numbers_by_height others) other)))
  where
    apart : one.shelf ≡ shelf → order_of shelves one.shelf < order_of shelves shelf → ⊥
    apart e less = omega (arith, less, ap (order_of shelves) e)

-- a shelf is put in where those begin that don't come before its order
pub put_in-at : (shelves : List LinkedShelf) (one : BoundedShelf) (index : ℕ) (by_height : List BoundedShelf) → index ≤ length by_height
    → AllByRecursion (λ (other : BoundedShelf). order_of shelves other.shelf < order_of shelves one.shelf) (take index by_height)
    → AllByRecursion (λ (other : BoundedShelf). order_of shelves one.shelf ≤ order_of shelves other.shelf) (drop index by_height)
    → insert by_height index one ≡ put_in shelves one by_height
put_in-at shelves one zero [] within before after = refl
put_in-at shelves one (suc index) [] within before after = absurd (omega arith)
put_in-at shelves one zero (other ∷ others) within before after =
    let is : nat_lt (order_of shelves other.shelf) (order_of shelves one.shelf) ≡ false = grind (arith, after.0) in
    rw is refl
put_in-at shelves one (suc index) (other ∷ others) within before after =
    let is : nat_lt (order_of shelves other.shelf) (order_of shelves one.shelf) ≡ true = grind (arith, before.0) in
    let rest : insert others index one ≡ put_in shelves one others = put_in-at shelves one index others (omega arith) before.1 after in
    rw is (ap (λ (l : List BoundedShelf). other ∷ l) rest)

-- a shelf stands where its order was found to begin
pub stands-found : (shelves : List LinkedShelf) (shelf index probes : ℕ) (by_height : List BoundedShelf)
    → AreInOrder shelves by_height → 1 ≤ times shelf (numbers_by_height by_height) → IsStart shelves by_height (order_of shelves shelf) index probes → StandsAt shelf index by_height
stands-found shelves shelf index probes by_height in_order stands start = stands-at shelves shelf 0 index by_height start.before start.after in_order.rising stands

-- one that stands there has a record
pub stands-within : (shelves : List LinkedShelf) (shelf : ℕ) (by_height : List BoundedShelf) → AreInOrder shelves by_height → 1 ≤ times shelf (numbers_by_height by_height) → shelf < length shelves
stands-within shelves shelf by_height in_order stands = Each-member (λ k. k < length shelves) (numbers_by_height by_height) shelf in_order.within stands

-- a shelf that is read stands there
times-read : (shelf index : ℕ) (by_height : List BoundedShelf) → index < length by_height → (bounded_at by_height index).shelf ≡ shelf → 1 ≤ times shelf (numbers_by_height by_height)
times-read shelf index [] within is = absurd (omega (arith, within))
times-read shelf zero (one ∷ others) within is = grind arith
times-read shelf (suc index) (one ∷ others) within is =
    let later : 1 ≤ times shelf (numbers_by_height others) = times-read shelf index others (omega (arith, within)) is in
    grind (arith, later)

-- a shelf that stands once stands where it is read
pub stands-there : (shelf index : ℕ) (by_height : List BoundedShelf) → times shelf (numbers_by_height by_height) ≤ 1 → index < length by_height → (bounded_at by_height index).shelf ≡ shelf → StandsAt shelf index by_height
stands-there shelf index [] once within is = absurd (omega (arith, within))
stands-there shelf zero (one ∷ others) once within is =
    let none : times shelf (numbers_by_height others) ≡ 0 = grind arith in
    stands-first shelf one others is none
stands-there shelf (suc index) (one ∷ others) once within is =
    let later : 1 ≤ times shelf (numbers_by_height others) = times-read shelf index others (omega (arith, within)) is in
    stands-behind shelf index one others (other later)
    (stands-there shelf index others (omega (arith, once, times-other shelf one.shelf (numbers_by_height others) (other later))) (omega (arith, within)) is)
  where
    other : 1 ≤ times shelf (numbers_by_height others) → one.shelf ≢ shelf
    other later same = absurd (grind (arith, later))

-- what the number of a shelf that was read tells of where it comes
pub tells-before : (shelves : List LinkedShelf) (number order : ℕ) (one : BoundedShelf) → number ≡ one.shelf → true ≡ nat_lt (order_of shelves number) order
    → order_of shelves one.shelf < order
tells-before shelves number order one at is =
    let less : order_of shelves number < order = grind (arith, nat_tests) in
    omega (arith, less, ap (order_of shelves) at)

pub tells-after : (shelves : List LinkedShelf) (number order : ℕ) (one : BoundedShelf) → number ≡ one.shelf → false ≡ nat_lt (order_of shelves number) order
    → order ≤ order_of shelves one.shelf
tells-after shelves number order one at is =
    let more : order ≤ order_of shelves number = grind (arith, nat_tests) in
    omega (arith, more, ap (order_of shelves) at)

-- the order of a record that was read
pub order-read : (shelves : List LinkedShelf) (shelf height in_chain : ℕ) (one : LinkedShelf) → shelf < length shelves → one ≡ slice_index_or shelves shelf one
    → height ≡ one.height → in_chain ≡ one.x * 65536 + one.y → order_at height in_chain ≡ order_of shelves shelf
order-read shelves shelf height in_chain one within is high here =
    let own : height_of shelves shelf ≡ one.height = field_at-read (λ (s : LinkedShelf). s.height) 0 shelves shelf one within is in
    let along : along_of shelves shelf ≡ one.x = field_at-read (λ (s : LinkedShelf). s.x) 0 shelves shelf one within is in
    let across : across_of shelves shelf ≡ one.y = field_at-read (λ (s : LinkedShelf). s.y) 0 shelves shelf one within is in
    omega (arith, own, along, across, high, here)

-- none stands behind the end
pub none-behind : (shelves : List LinkedShelf) (order n : ℕ) (by_height : List BoundedShelf) → length by_height ≤ n
    → AllByRecursion (λ (one : BoundedShelf). order ≤ order_of shelves one.shelf) (drop n by_height)
none-behind shelves order n by_height few =
    subst (AllByRecursion (λ (one : BoundedShelf). order ≤ order_of shelves one.shelf)) (sym (drop_of_length-le by_height few)) tt
