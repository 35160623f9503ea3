-- New shelves by height: the width of a column is a bound, those of a new atlas are in order, and those in use are
-- once they were sorted.
use Rattle.std.proofs.Common.{◌≡◌, ℕ, zero, suc, ◌+◌, ◌*◌, ◌<◌, ◌≤◌, true, List, [], ◌∷◌, get_or, length, map, take, refl, ap, arith, subst, sym, ◌∙◌}
use Rattle.std.proofs.lemmas.List.Sorted.{all_adjacent_from_non_decreasing, sum_by-IsPermutation}
use Rattle.std.proofs.lemmas.List.Sums.{sum_by-cons}
use Rattle.std.proofs.lemmas.List.{ext_get_or, length-map}
use Rattle.std.proofs.lemmas.Option.{get_or_from_slice_get}
use Rattle.std.specs.List.{AllAdjacentBelow, AllByRecursion, sum_by}
use Rattle.std.specs.List.Sorted.{IsNonDecreasingBy, IsPermutation}
use Rattle.etagere_base.specs.Frames.{HasAllColumns, IsFrame, across_side}
use Rattle.etagere_base.specs.Lists.{times}
use Rattle.etagere_base.specs.declared.frames.Frame.{Frame}
use Rattle.etagere_base.proofs.EachLemmas.{Each-all, Each-weaken}
use Rattle.etagere_base.proofs.FrameSides.{columns-apart}
use Rattle.etagere_base.proofs.TimesLemmas.{hit}
use Rattle.shelf_records.proofs.AllLists.LinkedWalks.{walked-numbers}
use Rattle.shelf_records.specs.declared.records.LinkedShelf.{LinkedShelf}
use Rattle.shelf_records.specs.RecordLists.{Entry, Records, shelf_numbers, shelf_walk, walked_lists}
use Rattle.shelf_records.specs.AtlasRecords.{height_of, spelled_shelf}
use Rattle.shelf_model.specs.Listing.{RiseFrom}
use Rattle.shelf_heights.specs.Private.ByHeight.{AreBounds, AreByHeight, IsBound, bounded_at, newly_bounded, order_at, order_of, chain_order, numbers_by_height}
use Rattle.shelf_heights.specs.Private.OneBound.{all_bounded}
use Rattle.shelf_store.specs.Private.FreshRecords.{fresh_records, fresh_shelf, numbered}
use Rattle.shelf_records.specs.Private.Kept.{AreKept, bare, state_of}
use Rattle.shelf_model.specs.State.{Item, is_free, total_width}
use Rattle.shelf_model.specs.Valid.{IsShelf}
use Rattle.shelf_heights.specs.declared.by_height.BoundedShelf.{BoundedShelf}
use Rattle.shelf_store.proofs.ByHeight.CollectedShelves.{in_use}
use Rattle.shelf_heights.proofs.ByHeight.OrdersRise.{LiesWithin, kept-within, orders-rise, same-in_chain}
use Rattle.shelf_heights.proofs.ByHeight.RisingNumbers.{rise-same}
use Rattle.shelf_records.proofs.Judged.EqualTimes.{length-fewer}
use Rattle.shelf_model.proofs.Places.ColumnShelves.{columns-le-shelves}
use Rattle.shelf_records.proofs.Recorded.Members.{Each-member}
use Rattle.shelf_records.proofs.AllLists.LinkedParts.{shelves-part}
use Rattle.shelf_store.proofs.Spelled.FreshKept.{fresh-kept, fresh-met}
use Rattle.shelf_store.proofs.Spelled.KeptCounts.{shelf_numbers-length}
use Rattle.shelf_store.proofs.Spelled.NumberedLists.{numbered-at, numbered-each, numbered-field, numbered-length}
use Rattle.shelf_records.proofs.Spelled.Witnesses.{Each-unmap}
use Rattle.shelf_records.proofs.Spelled.StandsKept.{witnesses}

-- items that are no wider altogether are no wider each
pub widths-within : (width : ℕ) (items : List Item) → total_width items ≤ width → AllByRecursion (λ item. is_free item ≡ true → item.width ≤ width) items
widths-within width [] low = tt
widths-within width (item ∷ items) low = (λ _. omega (arith, low), widths-within width items (omega (arith, low)))

-- a width that is no less than that of a column is a bound of each shelf
pub wide-bound : (frame : Frame) (records : Records) (one : BoundedShelf) → AreKept frame records → frame.column_width ≤ one.widest
    → AllByRecursion (λ (entry : Entry). entry.number ≡ one.shelf → IsBound one.widest (spelled_shelf (bare frame records) entry)) (walked_lists records).entries
wide-bound frame records one kept wide =
    Each-weaken (λ (entry : Entry). IsShelf frame (spelled_shelf (bare frame records) entry))
    (λ (entry : Entry). entry.number ≡ one.shelf → IsBound one.widest (spelled_shelf (bare frame records) entry)) (walked_lists records).entries
    (λ entry is _. widths-within one.widest (spelled_shelf (bare frame records) entry).items (omega (arith, is.width, wide)))
    (Each-unmap (IsShelf frame) (spelled_shelf (bare frame records)) (walked_lists records).entries (witnesses kept).valid.shelves)

-- the width of a column is a bound of each shelf
pub column-bounds : (frame : Frame) (records : Records) (by_height : List BoundedShelf) → AreKept frame records → AllByRecursion (λ (one : BoundedShelf). one.widest ≡ frame.column_width) by_height
    → AreBounds (bare frame records) (walked_lists records).entries by_height
column-bounds frame records by_height kept wide =
    Each-weaken (λ (one : BoundedShelf). one.widest ≡ frame.column_width)
    (λ (one : BoundedShelf). AllByRecursion (λ (entry : Entry). entry.number ≡ one.shelf → IsBound one.widest (spelled_shelf (bare frame records) entry)) entries) by_height
    (λ one width. wide-bound frame records one kept (omega (arith, width))) wide
  where
    entries : List Entry
    entries = (walked_lists records).entries

-- the numbers of new shelves by height
numbers-numbered : (frame : Frame) (from n : ℕ) → numbers_by_height (numbered (newly_bounded frame) from n) ≡ numbered (λ number. number) from n
numbers-numbered frame from zero = refl
numbers-numbered frame from (suc n) = ap (λ ns. from ∷ ns) (numbers-numbered frame (suc from) n)

-- where the shelf of a column stands in the order
column-order : (frame : Frame) (column : ℕ) → column < frame.columns → order_of (fresh_records frame).shelves column ≡ order_at (across_side frame) (column * frame.column_width * 65536)
column-order frame column below =
    omega (
      arith,
      numbered-field (λ (s : LinkedShelf). s.height) 0 (fresh_shelf frame) frame.columns column below,
      numbered-field (λ (s : LinkedShelf). s.x) 0 (fresh_shelf frame) frame.columns column below,
      numbered-field (λ (s : LinkedShelf). s.y) 0 (fresh_shelf frame) frame.columns column below,
    )

-- the shelves of the columns from one on are in order
columns-rise : (frame : Frame) (low from n : ℕ) → 1 ≤ frame.column_width → from + n ≤ frame.columns → low ≤ order_at (across_side frame) (from * frame.column_width * 65536)
    → RiseFrom low (map (order_of (fresh_records frame).shelves) (numbered (λ number. number) from n))
columns-rise frame low from zero wide within first = tt
columns-rise frame low from (suc n) wide within first =
    let here : order_of (fresh_records frame).shelves from ≡ order_at (across_side frame) (from * frame.column_width * 65536) = column-order frame from (omega (arith, within)) in
    let later : from * frame.column_width + frame.column_width ≤ suc from * frame.column_width = columns-apart from (suc from) frame.column_width (omega arith) in (
      omega (arith, here, first),
      columns-rise frame (order_of (fresh_records frame).shelves from + 1) (suc from) n wide (omega (arith, within)) (omega (arith, here, later, wide)),
    )

-- the new shelves by height of a new atlas stand by height
pub fresh-by_height : (frame : Frame) → IsFrame 65535 frame → HasAllColumns frame → AreByHeight frame (fresh_records frame) (numbered (newly_bounded frame) 0 frame.columns)
fresh-by_height frame is_frame all =
    record {
      once = λ shelf. ap (times shelf) (numbers-numbered frame 0 frame.columns ∙ sym (fresh-met frame is_frame) ∙ sym (walked-numbers (fresh_records frame) (shelf_walk (fresh_records frame)).met));
      rising = subst (λ (ns : List ℕ). RiseFrom 0 (map (order_of (fresh_records frame).shelves) ns)) (sym (numbers-numbered frame 0 frame.columns)) (columns-rise frame 0 0 frame.columns is_frame.column_width (omega arith) (omega arith));
      bounds = column-bounds frame (fresh_records frame) (numbered (newly_bounded frame) 0 frame.columns) (fresh-kept frame is_frame all).1
          (numbered-each (λ (one : BoundedShelf). one.widest ≡ frame.column_width) (newly_bounded frame) 0 frame.columns (λ k below. refl));
    }

-- how often a number stands in a list, as a sum
times-sum : (k : ℕ) (ns : List ℕ) → times k ns ≡ sum_by (λ n. hit n k) ns
times-sum k [] = refl
times-sum k (n ∷ ns) = ap (λ m. hit n k + m) (times-sum k ns) ∙ sym (sum_by-cons (λ n. hit n k) n ns)

-- numbers that don't fall, none of which stands twice, rise where no two measure the same
sorted-rise : (measure : ℕ → ℕ) (low : ℕ) (ns : List ℕ) → AllAdjacentBelow (λ x y. measure x ≤ measure y) ns (length ns)
    → ((k : ℕ) → times k ns ≤ 1)
    → ((k l : ℕ) → 1 ≤ times k ns → 1 ≤ times l ns → measure k ≡ measure l → k ≡ l)
    → AllByRecursion (λ n. low ≤ measure n) (take 1 ns)
    → RiseFrom low (map measure ns)
sorted-rise measure low [] sorted once apart first = tt
sorted-rise measure low (n ∷ []) sorted once apart first = (first.0, tt)
sorted-rise measure low (n ∷ next ∷ ns) sorted once apart first =
    let no_less : measure n ≤ measure next = sorted 0 n (omega arith) in
    let differ : measure n ≡ measure next → ⊥ =
    λ same.
    let alike : n ≡ next = apart n next (grind arith) (grind arith) same in
    twice n next ns alike (once n) in
    let later : (k d : ℕ) → k + 1 < length (next ∷ ns) → measure (get_or (next ∷ ns) k d) ≤ measure (get_or (next ∷ ns) (k + 1) d) =
    λ k d below.
    let one_more : suc k + 1 ≡ suc (k + 1) = omega arith in
    subst (λ (m : ℕ). measure (get_or (next ∷ ns) k d) ≤ measure (get_or (n ∷ next ∷ ns) m d)) one_more (sorted (suc k) d (omega (arith, below))) in (
      first.0,
      sorted-rise measure (measure n + 1) (next ∷ ns) later
          (λ k. omega (arith, once k))
          (λ k l stands also. apart k l (omega (arith, stands)) (omega (arith, also)))
          (above (measure n) (measure next) no_less differ, tt),
    )
  where
    above : (m n : ℕ) → m ≤ n → (m ≡ n → ⊥) → m + 1 ≤ n
    above m n less differ = omega (arith, less, differ)

    twice : (k l : ℕ) (ns : List ℕ) → k ≡ l → times k (k ∷ l ∷ ns) ≤ 1 → ⊥
    twice k l ns same once = absurd (grind arith)

-- the numbers of the shelves in use
numbers-in_use : (frame : Frame) (numbers : List ℕ) → numbers_by_height (map (newly_bounded frame) numbers) ≡ numbers
numbers-in_use frame [] = refl
numbers-in_use frame (n ∷ ns) = ap (λ ms. n ∷ ms) (numbers-in_use frame ns)

-- and their bounds
bounds-in_use : (frame : Frame) (numbers : List ℕ) → AllByRecursion (λ width. width ≡ frame.column_width) (map (λ (one : BoundedShelf). one.widest) (map (newly_bounded frame) numbers))
bounds-in_use frame [] = tt
bounds-in_use frame (n ∷ ns) = (refl, bounds-in_use frame ns)

-- numbers that are the same but in another order stand as often
pub moved-times : (k : ℕ) (old new : List ℕ) → IsPermutation old new → times k new ≡ times k old
moved-times k old new moved = times-sum k new ∙ sum_by-IsPermutation (λ n. hit n k) old new moved ∙ sym (times-sum k old)

-- a list that has the shelves in use, sorted by their order, with the width of a column for bounds, is that by height
pub ordered-by_height : (frame : Frame) (records : Records) (by_height : List BoundedShelf) → AreKept frame records
    → ((k : ℕ) → times k (numbers_by_height by_height) ≡ times k (shelf_walk records).met)
    → IsNonDecreasingBy (order_of records.shelves) (numbers_by_height by_height)
    → AllByRecursion (λ width. width ≡ frame.column_width) (map (λ (one : BoundedShelf). one.widest) by_height)
    → AreByHeight frame records by_height
ordered-by_height frame records by_height kept same sorted widths =
    record {
      once = λ shelf. same shelf ∙ ap (times shelf) (sym (walked-numbers records chain));
      rising = sorted-rise (order_of records.shelves) 0 (numbers_by_height by_height)
          (all_adjacent_from_non_decreasing (order_of records.shelves) (numbers_by_height by_height) sorted)
          (λ k. omega (arith, same k, (shelves-part records (witnesses kept).linked).once k)) apart low;
      bounds = column-bounds frame records by_height kept
          (Each-unmap (λ width. width ≡ frame.column_width) (λ (one : BoundedShelf). one.widest) by_height widths);
    }
  where
    chain : List ℕ
    chain = (shelf_walk records).met

    apart : (k l : ℕ) → 1 ≤ times k (numbers_by_height by_height) → 1 ≤ times l (numbers_by_height by_height) → order_of records.shelves k ≡ order_of records.shelves l → k ≡ l
    apart k l stands also alike =
        let here : 1 ≤ times k chain = omega (arith, stands, same k) in
        let there : 1 ≤ times l chain = omega (arith, also, same l) in
        let one : LiesWithin frame records.shelves k = Each-member (LiesWithin frame records.shelves) chain k (kept-within frame records kept) here in
        let other : LiesWithin frame records.shelves l = Each-member (LiesWithin frame records.shelves) chain l (kept-within frame records kept) there in
        rise-same (chain_order records.shelves) 0 chain (orders-rise frame records kept) k l here there
        (same-in_chain (height_of records.shelves k) (height_of records.shelves l) (chain_order records.shelves k) (chain_order records.shelves l)
        (omega (arith, one.along, one.across)) (omega (arith, other.along, other.across)) alike)

    low : AllByRecursion (λ n. 0 ≤ order_of records.shelves n) (take 1 (numbers_by_height by_height))
    low = Each-all (λ n. 0 ≤ order_of records.shelves n) (λ n. omega arith) (take 1 (numbers_by_height by_height))

-- shelves by height are no fewer than the columns
pub columns-by_height : (frame : Frame) (records : Records) (by_height : List BoundedShelf) → AreKept frame records → AreByHeight frame records by_height → frame.columns ≤ length by_height
columns-by_height frame records by_height kept are =
    let entries : List Entry = (walked_lists records).entries in
    omega (
      arith,
      columns-le-shelves (state_of frame records) (witnesses kept).valid,
      length-map entries (spelled_shelf (bare frame records)),
      shelf_numbers-length entries,
      length-fewer (shelf_numbers entries) (numbers_by_height by_height) (λ k. omega (arith, are.once k)),
      length-map by_height (λ (one : BoundedShelf). one.shelf),
    )

-- the shelves in use whose numbers were sorted by their order stand by height
pub sorted-by_height : (frame : Frame) (records : Records) (by_height : List BoundedShelf) → AreKept frame records
    → IsPermutation (numbers_by_height (in_use frame records)) (numbers_by_height by_height)
    → IsNonDecreasingBy (order_of records.shelves) (numbers_by_height by_height)
    → map (λ (one : BoundedShelf). one.widest) by_height ≡ map (λ (one : BoundedShelf). one.widest) (in_use frame records)
    → AreByHeight frame records by_height
sorted-by_height frame records by_height kept moved sorted widths =
    ordered-by_height frame records by_height kept
    (λ k. moved-times k (numbers_by_height (in_use frame records)) (numbers_by_height by_height) moved ∙ ap (times k) (numbers-in_use frame chain))
    sorted
    (subst (AllByRecursion (λ width. width ≡ frame.column_width)) (sym widths) (bounds-in_use frame chain))
  where
    chain : List ℕ
    chain = (shelf_walk records).met

-- shelves keep their numbers with other bounds
numbers-bounded : (width : ℕ) (by_height : List BoundedShelf) → numbers_by_height (all_bounded width by_height) ≡ numbers_by_height by_height
numbers-bounded width [] = refl
numbers-bounded width (one ∷ others) = ap (λ (ns : List ℕ). one.shelf ∷ ns) (numbers-bounded width others)

-- which are these
bounds-bounded : (width : ℕ) (by_height : List BoundedShelf) → AllByRecursion (λ bound. bound ≡ width) (map (λ (one : BoundedShelf). one.widest) (all_bounded width by_height))
bounds-bounded width [] = tt
bounds-bounded width (one ∷ others) = (refl, bounds-bounded width others)

-- a list that had the shelves in use stands by height once it was sorted with the width of a column for bounds
pub reordered-by_height : (frame : Frame) (records : Records) (old by_height : List BoundedShelf) (width : ℕ) → AreKept frame records → width ≡ frame.column_width
    → ((k : ℕ) → times k (numbers_by_height old) ≡ times k (shelf_numbers (walked_lists records).entries))
    → IsPermutation (numbers_by_height (all_bounded width old)) (numbers_by_height by_height)
    → IsNonDecreasingBy (order_of records.shelves) (numbers_by_height by_height)
    → map (λ (one : BoundedShelf). one.widest) by_height ≡ map (λ (one : BoundedShelf). one.widest) (all_bounded width old)
    → AreByHeight frame records by_height
reordered-by_height frame records old by_height width kept wide once moved sorted widths =
    ordered-by_height frame records by_height kept
    (λ k.
    moved-times k (numbers_by_height (all_bounded width old)) (numbers_by_height by_height) moved
    ∙ ap (times k) (numbers-bounded width old)
    ∙ once k
    ∙ ap (times k) (walked-numbers records (shelf_walk records).met))
    sorted
    (subst (AllByRecursion (λ bound. bound ≡ frame.column_width)) (sym widths)
    (subst (λ (w : ℕ). AllByRecursion (λ bound. bound ≡ w) (map (λ (one : BoundedShelf). one.widest) (all_bounded width old))) wide (bounds-bounded width old)))

-- shelves numbered from 0 on with the width of a column for bounds are those of a new atlas
pub numbered-by_height : (frame : Frame) (by_height : List BoundedShelf) (width : ℕ) → IsFrame 65535 frame → HasAllColumns frame → width ≡ frame.column_width
    → length by_height ≡ frame.columns
    → ((k : ℕ) → k < frame.columns → bounded_at by_height k ≡ record { widest = width; shelf = k })
    → AreByHeight frame (fresh_records frame) by_height
numbered-by_height frame by_height width is_frame all wide many each =
    subst (λ (l : List BoundedShelf). AreByHeight frame (fresh_records frame) l) (sym same) (fresh-by_height frame is_frame all)
  where
    none : BoundedShelf
    none = record { widest = 0; shelf = 0 }

    wide_at : ℕ → ℕ → BoundedShelf
    wide_at k w = record { widest = w; shelf = k }

    new : List BoundedShelf
    new = numbered (newly_bounded frame) 0 frame.columns

    same : by_height ≡ new
    same =
        ext_get_or none by_height new (many ∙ sym (numbered-length (newly_bounded frame) 0 frame.columns))
        (λ k within.
        let below : k < frame.columns = omega (arith, within, many) in
        each k below
        ∙ ap (wide_at k) wide
        ∙ sym (get_or_from_slice_get new k (newly_bounded frame k) none (numbered-at (newly_bounded frame) frame.columns k below)))
