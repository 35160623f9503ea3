-- The list of shelves by height holds but for those that have changed once a shelf was split.
use Rattle.std.proofs.Common.{◌≡◌, ◌≢◌, ℕ, zero, suc, ◌+◌, ◌-◌, ◌*◌, ◌<◌, ◌≤◌, Bool, true, false, cond, List, [], ◌∷◌, ◌++◌, length, map, max, refl, ap, arith, ◌∙◌, sym, subst}
use Rattle.std.proofs.lemmas.List.{length-append}
use Rattle.std.specs.Prelude.{nat_lt, ◌==◌}
use Rattle.etagere_base.proofs.EachLemmas.{Each-weaken}
use Rattle.etagere_base.proofs.TimesLemmas.{hit, times-append}
use Rattle.etagere_base.specs.Lists.{times}
use Rattle.etagere_base.specs.declared.frames.Frame.{Frame}
use Rattle.etagere_links.specs.Edits.{field_at}
use Rattle.shelf_records.specs.RecordLists.{Records, shelf_numbers, walked_lists}
use Rattle.shelf_records.specs.declared.records.LinkedShelf.{LinkedShelf}
use Rattle.shelf_records.specs.AtlasRecords.{height_of, spelled_shelf}
use Rattle.shelf_heights.specs.Private.ByHeight.{AreByHeight, AreInOrder, IsBound, chain_order, numbers_by_height, order_of}
use Rattle.shelf_notes.specs.Private.Pending.{Notes, is_in_use, is_listed, is_noted, is_parked, noted_as, once_where, with_entry}
use Rattle.shelf_records.specs.Private.Kept.{AreKept, bare}
use Rattle.shelf_store.specs.Private.Settling.{AreByHeightExceptNoted, AreSettled, IsSettled}
use Rattle.shelf_model.specs.State.{Shelf}
use Rattle.shelf_heights.specs.declared.by_height.BoundedShelf.{BoundedShelf}
use Rattle.shelf_notes.specs.declared.pending.Standing.{Standing}
use Rattle.shelf_heights.proofs.ByHeight.Edited.{by_height-in_order, in_order-among}
use Rattle.shelf_heights.proofs.ByHeight.Positions.{stands-within}
use Rattle.shelf_notes.proofs.Noted.{in_use-within, once-true}
use Rattle.shelf_notes.proofs.NotedShelves.{entry-below, entry-known, entry-longer, entry-standing, noted-in_use, noted-known, noted-listed, noted-other, parked-before, parked-differs, unnoted-before, unnoted-differs}
use Rattle.shelf_store.proofs.ByHeight.ParkedShelves.{parked-same}
use Rattle.shelf_store.proofs.ByHeight.NumberedShelves.{BoundsAs, HoldIn, IsBoundOf, hold-numbered, hold-split, numbered-hold}
use Rattle.shelf_store.proofs.ByHeight.SplitOrders.{StandsSame, order-stands}
use Rattle.shelf_records.proofs.Spelled.StandsKept.{witnesses}

-- the numbers of the shelves in use of kept records stand once each, and are those of records
pub record IsUsedOnce (records : Records) : Type 0 where
  pub once : (k : ℕ) → times k (shelf_numbers (walked_lists records).entries) ≤ 1
  pub within : (k : ℕ) → 1 ≤ times k (shelf_numbers (walked_lists records).entries) → k < length records.shelves

pub used-once : (frame : Frame) (records : Records) → AreKept frame records → IsUsedOnce records
used-once frame records kept =
    record {
      once = λ k. omega (arith, counts k, at_most (nat_lt k (length records.shelves)), (witnesses kept).linked.shelves_once k);
      within = λ k stands. below (nat_lt k (length records.shelves)) k (length records.shelves) refl (omega (arith, stands, counts k, (witnesses kept).linked.shelves_once k));
    }
  where
    counts : (k : ℕ) → times k (shelf_numbers (walked_lists records).entries ++ (walked_lists records).unused_shelves ++ [])
        ≡ times k (shelf_numbers (walked_lists records).entries) + times k (walked_lists records).unused_shelves + times k []
    counts k =
        omega (
          arith,
          times-append k (shelf_numbers (walked_lists records).entries ++ (walked_lists records).unused_shelves) [],
          times-append k (shelf_numbers (walked_lists records).entries) (walked_lists records).unused_shelves,
        )

    at_most : (b : Bool) → cond b 1 0 ≤ 1
    at_most true = omega arith
    at_most false = omega arith

    below : (b : Bool) (k count : ℕ) → nat_lt k count ≡ b → 1 ≤ cond b 1 0 → k < count
    below true k count e some = grind arith
    below false k count e some = absurd (omega (arith, some))

-- a shelf in use stands by height as it is listed
listed-once : (frame : Frame) (records : Records) (notes : Notes) (by_height : List BoundedShelf) (k : ℕ) → AreByHeight frame records by_height → AreSettled records notes → times k (numbers_by_height by_height) ≡ once_where (is_listed notes k)
listed-once frame records notes by_height k are settled = are.once k ∙ settled.in_use k ∙ sym (ap once_where (settled.settled k).listed)

-- the list stands in order by the records as they were when it followed them
order-settled : (frame : Frame) (records : Records) (notes : Notes) (by_height : List BoundedShelf) → AreKept frame records → AreByHeight frame records by_height → AreSettled records notes → AreInOrder notes.kept by_height
order-settled frame records notes by_height kept are settled =
    let so : (k : ℕ) → 1 ≤ times k (numbers_by_height by_height) → is_listed notes k ≡ true = λ k stands. once-true (is_listed notes k) (omega (arith, stands, listed-once frame records notes by_height k are settled)) in
    in_order-among records.shelves notes.kept by_height
    (λ k stands. settled.within k (so k stands))
    (λ k stands. ap (λ (h : ℕ). h * (65536 * 65536) + chain_order notes.kept k) ((settled.settled k).height (so k stands)) ∙ ap (λ (in_chain : ℕ). height_of records.shelves k * (65536 * 65536) + in_chain) ((settled.settled k).in_chain (so k stands)))
    (by_height-in_order frame records by_height kept are)

-- what holds of a list that follows the records holds but for those that have changed, of which there are none
pub settled-holds : (frame : Frame) (records : Records) (notes : Notes) (by_height : List BoundedShelf) → AreKept frame records → AreByHeight frame records by_height → AreSettled records notes → AreByHeightExceptNoted frame records notes by_height
settled-holds frame records notes by_height kept are settled =
    record {
      listed = λ k. listed-once frame records notes by_height k are settled;
      in_use = settled.in_use;
      order = order-settled frame records notes by_height kept are settled;
      settled = λ k unnoted. settled.settled k;
      bounds = Each-weaken (IsBoundOf (bare frame records) (walked_lists records).entries) (λ one. is_noted notes one.shelf ≡ false → IsBoundOf (bare frame records) (walked_lists records).entries one) by_height (λ one bounds unnoted. bounds) are.bounds;
      parked = λ k so. let none : is_parked notes k ≡ false = settled.unparked k in absurd (cc);
      known = settled.known;
      few = (witnesses kept).counts.shelves.1;
    }

-- a field of a record before one that was added
field-before : {X : Type 0} (field : LinkedShelf → X) (other : X) (shelves : List LinkedShelf) (any : LinkedShelf) (k : ℕ) → k < length shelves → field_at field other (shelves ++ any ∷ []) k ≡ field_at field other shelves k
field-before field other [] any k below = absurd (omega (arith, below))
field-before field other (x ∷ xs) any zero below = refl
field-before field other (x ∷ xs) any (suc k) below = field-before field other xs any k (omega (arith, below))

-- no record is lost as an entry is added
entry-kept : (notes : Notes) (rest : ℕ) (any : LinkedShelf) → length notes.kept ≤ length (with_entry rest any notes).kept
entry-kept notes rest any = by_test (rest == length notes.standing) refl
  where
    by_test : (b : Bool) → (rest == length notes.standing) ≡ b → length notes.kept ≤ length (with_entry rest any notes).kept
    by_test true e = rw e (omega (arith, length-append notes.kept (any ∷ [])))
    by_test false e = rw e (omega arith)

-- a shelf with an entry stands where it stood once one was added
entry-stands : (notes : Notes) (rest : ℕ) (any : LinkedShelf) (k : ℕ) → k < length notes.kept → StandsSame notes.kept (with_entry rest any notes).kept k
entry-stands notes rest any k below = by_test (rest == length notes.standing) refl
  where
    by_test : (b : Bool) → (rest == length notes.standing) ≡ b → StandsSame notes.kept (with_entry rest any notes).kept k
    by_test true e =
        rw e
        (record {
          in_chain = omega (arith, field-before (λ (s : LinkedShelf). s.x) 0 notes.kept any k below, field-before (λ (s : LinkedShelf). s.y) 0 notes.kept any k below);
          height = field-before (λ (s : LinkedShelf). s.height) 0 notes.kept any k below;
        })
    by_test false e = rw e (record { in_chain = refl; height = refl })

-- a shelf was split, by the numbers of the shelves and where they begin
pub record IsSplitByHeight (frame : Frame) (records new : Records) (notes : Notes) (by_height : List BoundedShelf) (shelf rest : ℕ) (front back : List ℕ) : Type 0 where
  pub new_kept : AreKept frame new
  pub holds : AreByHeightExceptNoted frame records notes by_height
  pub numbers : shelf_numbers (walked_lists records).entries ≡ front ++ shelf ∷ back
  pub new_numbers : shelf_numbers (walked_lists new).entries ≡ front ++ shelf ∷ rest ∷ back
  pub others : (k : ℕ) → shelf ≢ k → rest ≢ k → StandsSame records.shelves new.shelves k
  pub next : rest ≤ length notes.standing
  pub few : length new.shelves ≤ max (length records.shelves) (rest + 1)

module _ (frame : Frame) (records new : Records) (notes : Notes) (by_height : List BoundedShelf) (shelf rest column_width : ℕ) (any : LinkedShelf) (front back : List ℕ)
    (is : IsSplitByHeight frame records new notes by_height shelf rest front back) where
  abbrev one : Notes
  one = noted_as shelf true notes

  abbrev two : Notes
  two = with_entry rest any one

  abbrev three : Notes
  three = noted_as rest true two

  -- how often a number stands before and after
  count-old : (k : ℕ) → once_where (is_in_use notes k) ≡ times k front + (hit shelf k + times k back)
  count-old k = sym (is.holds.in_use k) ∙ ap (times k) is.numbers ∙ times-append k front (shelf ∷ back)

  count-new : (k : ℕ) → times k (shelf_numbers (walked_lists new).entries) ≡ times k front + (hit shelf k + (hit rest k + times k back))
  count-new k = ap (times k) is.new_numbers ∙ times-append k front (shelf ∷ rest ∷ back)

  -- one's own number counts
  own-hit : (n : ℕ) → hit n n ≡ 1
  own-hit n = grind arith

  -- the shelves have entries
  known : shelf < length notes.standing
  known = in_use-within notes.standing shelf (once-true (is_in_use notes shelf) (omega (arith, count-old shelf, own-hit shelf)))

  next : rest ≤ length one.standing
  next = omega (arith, is.next, noted-known notes shelf true known)

  rest-known : rest < length two.standing
  rest-known = entry-known one rest any next

  -- what is known of each
  standing-other : (k : ℕ) → k ≢ rest → k ≢ shelf → is_in_use three k ≡ is_in_use notes k
  standing-other k other other_too =
      ap (λ (s : Standing). s.in_use) (noted-other two rest true rest-known k other)
      ∙ ap (λ (s : Standing). s.in_use) (entry-standing one rest any next k)
      ∙ ap (λ (s : Standing). s.in_use) (noted-other notes shelf true known k other_too)

  listed-same : (k : ℕ) → is_listed three k ≡ is_listed notes k
  listed-same k =
      noted-listed two rest true rest-known k
      ∙ ap (λ (s : Standing). s.listed) (entry-standing one rest any next k)
      ∙ noted-listed notes shelf true known k

  in_use-after : (k : ℕ) → times k (shelf_numbers (walked_lists new).entries) ≡ once_where (is_in_use three k)
  in_use-after k = by_test (k == rest) (k == shelf) refl refl
    where
      once : times k (shelf_numbers (walked_lists new).entries) ≤ 1
      once = (used-once frame new is.new_kept).once k

      by_test : (b c : Bool) → (k == rest) ≡ b → (k == shelf) ≡ c → times k (shelf_numbers (walked_lists new).entries) ≡ once_where (is_in_use three k)
      by_test true c e f =
          let own : k ≡ rest = grind arith in
          let here : hit rest k ≡ 1 = grind (arith, own) in
          let so : once_where (is_in_use three k) ≡ 1 = rw own (ap once_where (noted-in_use two rest true rest-known)) in
          omega (arith, once, count-new k, here, so)
      by_test false true e f =
          let other : k ≢ rest = grind arith in
          let own : k ≡ shelf = grind arith in
          let here : hit shelf k ≡ 1 = grind (arith, own) in
          let so : once_where (is_in_use three k) ≡ 1 =
          ap (λ (s : Standing). once_where s.in_use) (noted-other two rest true rest-known k other)
          ∙ ap (λ (s : Standing). once_where s.in_use) (entry-standing one rest any next k)
          ∙ rw own (ap once_where (noted-in_use notes shelf true known)) in
          omega (arith, once, count-new k, here, so)
      by_test false false e f =
          let other : k ≢ rest = grind arith in
          let other_too : k ≢ shelf = grind arith in
          let none : hit rest k ≡ 0 = grind (arith, other) in
          omega (arith, count-new k, count-old k, none, ap once_where (standing-other k other other_too))

  -- one that has not changed is another one
  unnoted-one : (k : ℕ) → is_noted three k ≡ false → is_noted one k ≡ false
  unnoted-one k unnoted = sym (ap (λ (s : Standing). s.noted) (entry-standing one rest any next k)) ∙ unnoted-before two rest true rest-known k unnoted

  not-rest : (k : ℕ) → is_noted three k ≡ false → k ≢ rest
  not-rest k unnoted = unnoted-differs two rest true rest-known k unnoted

  not-shelf : (k : ℕ) → is_noted three k ≡ false → k ≢ shelf
  not-shelf k unnoted = unnoted-differs notes shelf true known k (unnoted-one k unnoted)

  -- nor had that changed before
  unnoted-old : (k : ℕ) → is_noted three k ≡ false → is_noted notes k ≡ false
  unnoted-old k unnoted = unnoted-before notes shelf true known k (unnoted-one k unnoted)

  -- a listed shelf has a record that was kept
  stood-within : (k : ℕ) → 1 ≤ times k (numbers_by_height by_height) → k < length notes.kept
  stood-within k stands = stands-within notes.kept k by_height is.holds.order stands

  listed-within : (k : ℕ) → is_listed notes k ≡ true → k < length notes.kept
  listed-within k so = stood-within k (omega (arith, is.holds.listed k, ap once_where so))

  settled-after : (k : ℕ) → is_noted three k ≡ false → IsSettled new.shelves three k
  settled-after k unnoted =
      let before = is.holds.settled k (unnoted-old k unnoted) in
      let same : StandsSame records.shelves new.shelves k = is.others k (λ e. not-shelf k unnoted (sym e)) (λ e. not-rest k unnoted (sym e)) in
      record {
        listed = listed-same k ∙ before.listed ∙ sym (standing-other k (not-rest k unnoted) (not-shelf k unnoted));
        in_chain = λ stands.
            let there : is_listed notes k ≡ true = sym (listed-same k) ∙ stands in
            (entry-stands one rest any k (listed-within k there)).in_chain ∙ before.in_chain there ∙ sym same.in_chain;
        height = λ stands.
            let there : is_listed notes k ≡ true = sym (listed-same k) ∙ stands in
            (entry-stands one rest any k (listed-within k there)).height ∙ before.height there ∙ sym same.height;
      }

  -- the list stands in order by the records that it followed, with one more or not
  order-after : AreInOrder three.kept by_height
  order-after =
      in_order-among notes.kept three.kept by_height
      (λ k stands. omega (arith, stood-within k stands, entry-kept one rest any))
      (λ k stands. order-entry k (stood-within k stands))
      is.holds.order
    where
      order-entry : (k : ℕ) → k < length notes.kept → order_of three.kept k ≡ order_of notes.kept k
      order-entry k below = order-stands notes.kept three.kept k (entry-stands one rest any k below)

  known-after : length new.shelves ≤ length three.standing
  known-after =
      omega (
        arith,
        is.few,
        is.holds.known,
        rest-known,
        noted-known notes shelf true known,
        entry-longer one rest any next,
        noted-known two rest true rest-known,
      )

  -- the list holds but for both, where the bounds are those of the shelves as they are spelled before and after
  pub split-holds : (fronts backs : List Shelf) (whole taken added : Shelf) → length front ≡ length fronts
      → map (spelled_shelf (bare frame records)) (walked_lists records).entries ≡ fronts ++ whole ∷ backs
      → map (spelled_shelf (bare frame new)) (walked_lists new).entries ≡ fronts ++ taken ∷ added ∷ backs
      → ((widest : ℕ) → IsBound widest whole → IsBound widest taken)
      → AreByHeightExceptNoted frame new three by_height
  split-holds fronts backs whole taken added long shelves new_shelves change =
      record {
        listed = λ k. is.holds.listed k ∙ sym (ap once_where (listed-same k));
        in_use = in_use-after;
        order = order-after;
        settled = settled-after;
        bounds = Each-weaken Before New by_height (λ bounded bounds unnoted. after bounded (bounds (unnoted-old bounded.shelf unnoted)) (not-rest bounded.shelf unnoted)) is.holds.bounds;
        parked = λ k so.
            let before : is_parked one k ≡ true = sym (ap (λ (s : Standing). s.parked) (entry-standing one rest any next k)) ∙ parked-before two rest true rest-known k so in
            parked-same (bare frame records) (bare frame new) (walked_lists records).entries (walked_lists new).entries notes three k (listed-same k) (entry-below one rest any next)
            (λ bounds. after (record { widest = notes.parked_below - 1; shelf = k }) bounds (parked-differs two rest true rest-known k so))
            (is.holds.parked k (parked-before notes shelf true known k before));
        known = known-after;
        few = (witnesses is.new_kept).counts.shelves.1;
      }
    where
      Old : BoundedShelf → Type 0
      Old bounded = IsBoundOf (bare frame records) (walked_lists records).entries bounded

      Before : BoundedShelf → Type 0
      Before bounded = is_noted notes bounded.shelf ≡ false → Old bounded

      New : BoundedShelf → Type 0
      New bounded = is_noted three bounded.shelf ≡ false → IsBoundOf (bare frame new) (walked_lists new).entries bounded

      old : (bounded : BoundedShelf) → Old bounded → HoldIn (BoundsAs bounded) (front ++ shelf ∷ back) (fronts ++ whole ∷ backs)
      old bounded bounds =
          subst (λ (ns : List ℕ). HoldIn (BoundsAs bounded) ns (fronts ++ whole ∷ backs)) is.numbers
          (subst (λ (ss : List Shelf). HoldIn (BoundsAs bounded) (shelf_numbers (walked_lists records).entries) ss) shelves
          (hold-numbered (BoundsAs bounded) (bare frame records) (walked_lists records).entries bounds))

      after : (bounded : BoundedShelf) → Old bounded → bounded.shelf ≢ rest → IsBoundOf (bare frame new) (walked_lists new).entries bounded
      after bounded bounds other =
          numbered-hold (BoundsAs bounded) (bare frame new) (walked_lists new).entries
          (subst (λ (ns : List ℕ). HoldIn (BoundsAs bounded) ns (map (spelled_shelf (bare frame new)) (walked_lists new).entries)) (sym is.new_numbers)
          (subst (λ (ss : List Shelf). HoldIn (BoundsAs bounded) (front ++ shelf ∷ rest ∷ back) ss) (sym new_shelves)
          (hold-split (BoundsAs bounded) shelf rest front back fronts backs whole taken added long (λ bounds same. change bounded.widest (bounds same)) (λ same. absurd (other (sym same))) (old bounded bounds))))
