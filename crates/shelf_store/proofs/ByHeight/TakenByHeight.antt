-- The list of shelves by height holds but for those that have changed when a placement is taken.
use Rattle.std.proofs.Common.{◌≡◌, ℕ, ◌+◌, ◌-◌, ◌≤◌, Bool, true, false, cond, Option, None, Some, List, [], ◌∷◌, ◌++◌, length, map, max, refl, ap, arith, ◌∙◌, sym, subst}
use Rattle.std.proofs.lemmas.List.{length-append}
use Rattle.etagere_base.proofs.EachLemmas.{Each-weaken}
use Rattle.etagere_base.specs.Lists.{times}
use Rattle.etagere_base.specs.declared.frames.Frame.{Frame}
use Rattle.shelf_records.specs.RecordLists.{Records, shelf_numbers, walked_lists}
use Rattle.shelf_records.specs.RecordUses.{new_shelf, number_used, shelves_used}
use Rattle.shelf_records.specs.declared.records.LinkedShelf.{LinkedShelf}
use Rattle.shelf_records.specs.AtlasRecords.{spelled_shelf}
use Rattle.shelf_model.specs.Choice.{Placement}
use Rattle.shelf_heights.specs.Private.ByHeight.{IsBound}
use Rattle.shelf_notes.specs.Private.Pending.{Notes, is_noted}
use Rattle.shelf_records.specs.Private.Kept.{AreKept, bare}
use Rattle.shelf_store.specs.Private.PlacementTaken.{free_item, id_of, item_record, placement_taken, rest_shelf, rests_used_for, shelf_record, taken_notes, with_rest_notes, with_shelf_rest}
use Rattle.shelf_store.specs.Private.Settling.{AreByHeightExceptNoted}
use Rattle.shelf_model.specs.State.{Shelf, empty_shelf}
use Rattle.shelf_model.specs.Taking.{taken_shelf}
use Rattle.shelf_heights.specs.declared.by_height.BoundedShelf.{BoundedShelf}
use Rattle.shelf_store.proofs.ByHeight.NumberedShelves.{BoundsAs, HoldIn, IsBoundOf, hold-changed, hold-numbered, numbered-hold}
use Rattle.shelf_store.proofs.ByHeight.SplitOrders.{StandsSame, length-split, length-taken, same-split, same-used, stands-same, stands-taken, stands-then}
use Rattle.shelf_store.proofs.ByHeight.ParkedShelves.{parked-same}
use Rattle.shelf_store.proofs.ByHeight.SplitByHeight.{IsSplitByHeight, split-holds}
use Rattle.shelf_store.proofs.ByHeight.TakenBounds.{bound-taken}
use Rattle.shelf_store.proofs.Spelled.TakenKept.{KeepsTaken, SpellsTaken}
use Rattle.shelf_store.proofs.Spelled.TakenRests.{link_where, list_where}
use Rattle.shelf_records.proofs.Spelled.StandsKept.{witnesses}

-- where none is split
unsplit-holds : (frame : Frame) (records new : Records) (notes : Notes) (by_height : List BoundedShelf) (shelf : ℕ) (front back : List ℕ) (fronts backs : List Shelf) (whole taken : Shelf)
    → AreKept frame new → AreByHeightExceptNoted frame records notes by_height
    → shelf_numbers (walked_lists records).entries ≡ front ++ shelf ∷ back → shelf_numbers (walked_lists new).entries ≡ front ++ shelf ∷ back
    → length front ≡ length fronts
    → map (spelled_shelf (bare frame records)) (walked_lists records).entries ≡ fronts ++ whole ∷ backs
    → map (spelled_shelf (bare frame new)) (walked_lists new).entries ≡ fronts ++ taken ∷ backs
    → ((widest : ℕ) → IsBound widest whole → IsBound widest taken)
    → ((k : ℕ) → StandsSame records.shelves new.shelves k) → length new.shelves ≤ length records.shelves → AreByHeightExceptNoted frame new notes by_height
unsplit-holds frame records new notes by_height shelf front back fronts backs whole taken new_kept holds numbers new_numbers long shelves new_shelves change stands few =
    record {
      listed = holds.listed;
      in_use = λ k. ap (times k) (new_numbers ∙ sym numbers) ∙ holds.in_use k;
      order = holds.order;
      settled = λ k unnoted.
          let is = holds.settled k unnoted in
          record { listed = is.listed; in_chain = λ there. is.in_chain there ∙ sym (stands k).in_chain; height = λ there. is.height there ∙ sym (stands k).height };
      bounds = Each-weaken (λ one. is_noted notes one.shelf ≡ false → Old one) (λ one. is_noted notes one.shelf ≡ false → New one) by_height (λ one bounds unnoted. after one (bounds unnoted)) holds.bounds;
      parked = λ k so.
          parked-same (bare frame records) (bare frame new) (walked_lists records).entries (walked_lists new).entries notes notes k refl refl
          (after (record { widest = notes.parked_below - 1; shelf = k })) (holds.parked k so);
      known = omega (arith, few, holds.known);
      few = (witnesses new_kept).counts.shelves.1;
    }
  where
    Old : BoundedShelf → Type 0
    Old one = IsBoundOf (bare frame records) (walked_lists records).entries one

    New : BoundedShelf → Type 0
    New one = IsBoundOf (bare frame new) (walked_lists new).entries one

    after : (one : BoundedShelf) → Old one → New one
    after one bounds =
        let old : HoldIn (BoundsAs one) (front ++ shelf ∷ back) (fronts ++ whole ∷ backs) =
        subst (λ (ns : List ℕ). HoldIn (BoundsAs one) ns (fronts ++ whole ∷ backs)) numbers
        (subst (λ (ss : List Shelf). HoldIn (BoundsAs one) (shelf_numbers (walked_lists records).entries) ss) shelves
        (hold-numbered (BoundsAs one) (bare frame records) (walked_lists records).entries bounds)) in
        numbered-hold (BoundsAs one) (bare frame new) (walked_lists new).entries
        (subst (λ (ns : List ℕ). HoldIn (BoundsAs one) ns (map (spelled_shelf (bare frame new)) (walked_lists new).entries)) (sym new_numbers)
        (subst (λ (ss : List Shelf). HoldIn (BoundsAs one) (front ++ shelf ∷ back) ss) (sym new_shelves)
        (hold-changed (BoundsAs one) shelf front back fronts backs whole taken long (λ bounds same. change one.widest (bounds same)) old)))

-- the record of a rest is the last, or there are no more
rest-last : (unused : Option ℕ) (shelves : List LinkedShelf) (rest : ℕ) → number_used true unused shelves ≡ Some rest → length (shelves_used true unused shelves) ≤ max (length shelves) (rest + 1)
rest-last None shelves rest names =
    let last : length shelves ≡ rest = cc in
    omega (arith, last, length-append shelves (new_shelf ∷ []))
rest-last (Some number) shelves rest names = omega arith

-- when a placement that was found in kept records is taken
pub taken-holds : (frame : Frame) (records : Records) (placement found : Placement) (notes : Notes) (by_height : List BoundedShelf) → AreKept frame records → KeepsTaken frame records placement found
    → found.splits_shelf ≡ placement.splits_shelf → AreByHeightExceptNoted frame records notes by_height
    → ((rest : ℕ) → number_used found.splits_shelf records.unused_shelves records.shelves ≡ Some rest → rest ≤ length records.shelves)
    → AreByHeightExceptNoted frame (placement_taken frame.column_width found records) (taken_notes found records notes) by_height
taken-holds frame records placement found notes by_height kept made split_same holds next = by_split placement.splits_shelf refl
  where
    new : Records
    new = placement_taken frame.column_width found records

    used : Records
    used = rests_used_for found records

    spells : SpellsTaken frame records new placement found
    spells = made.spells

    -- what taking makes of the shelf
    given : Shelf
    given = taken_shelf placement (id_of records.items found.item) made.spells.whole

    added : Shelf
    added = empty_shelf frame made.spells.whole.column (made.spells.whole.height - placement.height)

    -- where the records stand that were put to use
    used-stands : (k : ℕ) → StandsSame records.shelves used.shelves k
    used-stands k = stands-same records.shelves used.shelves k (same-used found.splits_shelf found.splits_item records k)

    change : (widest : ℕ) → IsBound widest made.spells.whole → IsBound widest given
    change widest = bound-taken frame widest placement (id_of records.items found.item) made.spells.whole made.spells.takes

    -- the numbers of the records for the rest, where this says whether the shelf is split
    shelf_used : (b : Bool) → placement.splits_shelf ≡ b → number_used found.splits_shelf records.unused_shelves records.shelves ≡ link_where b made.spells.rest
    shelf_used b e =
        ap (λ (s : Bool). number_used s records.unused_shelves records.shelves) split_same ∙ made.spells.rest_is ∙ ap (λ (s : Bool). link_where s made.spells.rest) e

    item_used : (b : Bool) → placement.splits_shelf ≡ b → number_used found.splits_shelf records.unused_items records.items ≡ link_where b made.spells.item
    item_used b e =
        ap (λ (s : Bool). number_used s records.unused_items records.items) split_same ∙ made.spells.item_is ∙ ap (λ (s : Bool). link_where s made.spells.item) e

    numbers : (b : Bool) → placement.splits_shelf ≡ b → shelf_numbers (walked_lists new).entries ≡ made.spells.front ++ found.shelf ∷ (list_where b made.spells.rest ++ made.spells.back)
    numbers b e = made.spells.new_numbers ∙ ap (λ (s : Bool). made.spells.front ++ found.shelf ∷ (list_where s made.spells.rest ++ made.spells.back)) e

    shelves : (b : Bool) → placement.splits_shelf ≡ b → map (spelled_shelf (bare frame new)) (walked_lists new).entries ≡ made.spells.fronts ++ given ∷ (cond b (added ∷ []) [] ++ made.spells.backs)
    shelves b e = made.spells.new_shelves ∙ ap (λ (s : Bool). made.spells.fronts ++ given ∷ (cond s (added ∷ []) [] ++ made.spells.backs)) e

    -- the records once the shelf was split, and what is left, by the numbers for its rest
    split_by : Option ℕ → Option ℕ → Records
    split_by rest item = with_shelf_rest frame.column_width found rest item used

    any : LinkedShelf
    any = shelf_record used.shelves found.shelf

    Holds : Option ℕ → Option ℕ → Type 0
    Holds rest item = AreByHeightExceptNoted frame new (with_rest_notes found.shelf rest item any notes) by_height

    -- where shelves stand that taking leaves
    Stand : Option ℕ → Option ℕ → Type 0
    Stand rest item = ((k : ℕ) → StandsSame (split_by rest item).shelves new.shelves k) × (length new.shelves ≡ length (split_by rest item).shelves)

    stand : (rest item : Option ℕ) → number_used found.splits_shelf records.unused_shelves records.shelves ≡ rest → number_used found.splits_shelf records.unused_items records.items ≡ item → Stand rest item
    stand rest item e f =
        subst (λ (o : Option ℕ). Stand o item) e
        (subst (λ (o : Option ℕ). Stand (number_used found.splits_shelf records.unused_shelves records.shelves) o) f
        (stands-taken frame.column_width found records, length-taken frame.column_width found records))

    by_numbers : (rest item : Option ℕ) → number_used found.splits_shelf records.unused_shelves records.shelves ≡ rest → number_used found.splits_shelf records.unused_items records.items ≡ item
        → Holds rest item → AreByHeightExceptNoted frame new (taken_notes found records notes) by_height
    by_numbers rest item e f holds =
        subst (λ (o : Option ℕ). Holds o (number_used found.splits_shelf records.unused_items records.items)) (sym e) (subst (λ (o : Option ℕ). Holds rest o) (sym f) holds)

    -- no record is made where no shelf is split
    used-few : (b : Bool) → found.splits_shelf ≡ b → b ≡ false → length used.shelves ≤ length records.shelves
    used-few b e none = let no : found.splits_shelf ≡ false = e ∙ none in rw no (omega arith)

    by_split : (b : Bool) → placement.splits_shelf ≡ b → AreByHeightExceptNoted frame new (taken_notes found records notes) by_height
    by_split false e =
        let same : Stand None None = stand None None (shelf_used false e) (item_used false e) in
        let stays : (k : ℕ) → StandsSame records.shelves new.shelves k = λ k. stands-then records.shelves used.shelves new.shelves k (used-stands k) (same.0 k) in
        let few : length used.shelves ≤ length records.shelves = used-few false (split_same ∙ e) refl in
        by_numbers None None (shelf_used false e) (item_used false e)
        (unsplit-holds frame records new notes by_height found.shelf made.spells.front made.spells.back made.spells.fronts made.spells.backs made.spells.whole given made.kept holds
        made.spells.numbers (numbers false e) made.spells.long made.spells.shelves (shelves false e) change
        stays
        (omega (arith, same.1, few)))
    by_split true e =
        let rest : ℕ = made.spells.rest in
        let item : ℕ = made.spells.item in
        let split : Records = split_by (Some rest) (Some item) in
        let same : Stand (Some rest) (Some item) = stand (Some rest) (Some item) (shelf_used true e) (item_used true e) in
        let long : length split.shelves ≡ length used.shelves =
        length-split used found.shelf rest item found.height (rest_shelf any found.height item)
        (free_item any.x frame.column_width rest (item_record used.items item).generation) in
        let splits : found.splits_shelf ≡ true = split_same ∙ e in
        let few : length used.shelves ≤ max (length records.shelves) (rest + 1) =
        rw splits (rest-last records.unused_shelves records.shelves rest (ap (λ (s : Bool). number_used s records.unused_shelves records.shelves) (sym splits) ∙ shelf_used true e)) in
        let is : IsSplitByHeight frame records new notes by_height found.shelf rest made.spells.front made.spells.back =
        record {
          new_kept = made.kept;
          holds = holds;
          numbers = made.spells.numbers;
          new_numbers = numbers true e;
          others = λ k other rest_other.
              stands-then records.shelves split.shelves new.shelves k
              (stands-then records.shelves used.shelves split.shelves k (used-stands k)
              (stands-same used.shelves split.shelves k
              (same-split used found.shelf rest item found.height (rest_shelf any found.height item)
              (free_item any.x frame.column_width rest (item_record used.items item).generation) k other rest_other)))
              (same.0 k);
          next = omega (arith, next rest (shelf_used true e), holds.known);
          few = omega (arith, same.1, long, few);
        } in
        by_numbers (Some rest) (Some item) (shelf_used true e) (item_used true e)
        (split-holds frame records new notes by_height found.shelf rest frame.column_width any made.spells.front made.spells.back is
        made.spells.fronts made.spells.backs made.spells.whole given added made.spells.long made.spells.shelves (shelves true e) change)
