-- The flags and the sum after one more shelf.
use Rattle.std.proofs.Common.{◌≡◌, ℕ, ◌+◌, ◌*◌, ◌/◌, ◌%◌, ◌≤◌, Bool, true, false, not, ◌&&◌, List, ◌∷◌, drop, length, map, ap, arith, subst, sym, ◌∙◌}
use Rattle.std.proofs.lemmas.List.{drop_all, drop_more}
use Rattle.std.specs.List.{AllByRecursion}
use Rattle.std.specs.Prelude.{◌==◌, Decides}
use Rattle.etagere_base.specs.Lists.{NoNeighbours}
use Rattle.etagere_base.proofs.DecidingLemmas.{decides-both, decides-map, decides-yes, granted}
use Rattle.shelf_records.specs.RecordLists.{Entry}
use Rattle.shelf_model.specs.Merging.{both_free}
use Rattle.shelf_model.specs.Space.{allocated_width, space_in}
use Rattle.shelf_model.specs.State.{is_empty}
use Rattle.shelf_records.specs.AtlasRecords.{along_of, height_of, item_at, spelled_shelf, spelled_state}
use Rattle.shelf_records.specs.Private.Judging.{atlas_of_records, column_at, height_below}
use Rattle.shelf_records.specs.StandsFor.{HasItems, HasNeighbours, HasShelves, LinkBack}
use Rattle.shelf_restoring.specs.Private.Rules.{FollowFrom, FreeOwn, IsNext, SaysOf}
use Rattle.shelf_restoring.proofs.Judged.ColumnStarts.{filled-here, filled-other, same-column}
use Rattle.shelf_restoring.proofs.Judged.FlagPasses.{IsFlagged, both-true, flagged-end, flagged-more, flagged-same, flagged-where}
use Rattle.shelf_restoring.proofs.Judged.ItemPasses.{decides-not}
use Rattle.shelf_restoring.proofs.Judged.JudgedShelves.{follow-kept, shelves-follow}
use Rattle.shelf_restoring.proofs.Judged.NeighbourPasses.{StandApart, StandsApart, apart-neighbours, neighbours-apart, touches}
use Rattle.shelf_restoring.proofs.judging.shelves.judge_shelves.Goals as goal
use Rattle.shelf_restoring.proofs.judging.shelves.judge_shelves.Goals.{then-along-start, else-along-start}

pub loop-entry-preserved : goal.loop-entry-preserved
loop-entry-preserved c =
    let frame = c.args.frame.now in
    let shelves = c.args.shelves.now in
    let items = c.args.items.now in
    let marks = c.args.marks.now in
    let entries = c.args.entries.now in
    let atlas = atlas_of_records frame shelves items in
    let i = c.loop-entry.entry-index in
    let judged = c.loop-entry.judged in
    let kept = c.loop-entry.invariant in
    let one = c.judge_shelf-one in
    let entry : Entry = c.entry-item.result in
    let below = c.loop-entry-test.true in
    let is = c.entry-item.is in
    let start : ℕ = c.loop-entry.start in
    let height : ℕ = c.loop-entry.height in
    let width : ℕ = frame.column_width in
    let was_empty : Bool = c.loop-entry.was_empty in
    let stacked : Bool = c.is_next-is_next.result && judged.are_stacked in
    let own : ℕ = height_below frame shelves (start / width) height entry + height_of shelves entry.number in
    let more : drop i entries ≡ entry ∷ drop (i + 1) entries = drop_more entries i entry below ∙ ap (λ (e : Entry). e ∷ drop (i + 1) entries) (sym is) in
    let areas = ap (λ (es : List Entry). space_in (map (spelled_shelf atlas) es)) more in
    let number : c.from.result ≡ entry.number = c.from.ensures ∙ ap (λ (e : Entry). e.number) c.entry.view_is in
    let said : SaysOf shelves entry.number c.shelf_of-shelf.result = subst (λ (n : ℕ). SaysOf shelves n c.shelf_of-shelf.result) number c.shelf_of-shelf.ensures in
    let along : c.from-along.result ≡ along_of shelves entry.number = c.from-along.ensures ∙ c.shelf_of-shelf.ensures.along ∙ ap (along_of shelves) number in
    let tall : c.from-in-loop-entry.result ≡ height_of shelves entry.number = c.from-in-loop-entry.ensures ∙ c.shelf_of-shelf.ensures.height ∙ ap (height_of shelves) number in
    let starts : stacked ≡ true → start % width ≡ 0 = λ e. kept.at_column (both-true c.is_next-is_next.result judged.are_stacked e).1 in
    let next : stacked ≡ true → IsNext frame shelves (start / width) height entry =
    λ e. granted c.is_next-is_next.result (IsNext frame shelves (start / width) height entry) (c.is_next-is_next.ensures shelves entry said (starts e)) (both-true c.is_next-is_next.result judged.are_stacked e).0 in
    let high : stacked ≡ true → own ≡ c.if-along-start.below + c.from-in-loop-entry.result =
    λ e. elim c.if-along-start.branch [
      | then-along-start w ↦ omega (arith, filled-here frame shelves entry start height (sym along ∙ w.if-along-start.true), w.below-is, tall)
      | else-along-start w ↦ omega (arith, filled-other frame shelves entry start height (next e).along (starts e) (λ same. w.if-along-start.false (along ∙ same)), w.below-is, tall)
    ] in
    let column : column_at frame shelves entry ≡ c.from-along.result / width = ap (λ (n : ℕ). n / width) (sym along) in
    let Whole : Type 0 = FollowFrom frame shelves 0 0 entries in
    let follows : IsFlagged stacked Whole (FollowFrom frame shelves (column_at frame shelves entry) own) (i + 1) entries =
    flagged-where c.is_next-is_next.result judged.are_stacked Whole (FollowFrom frame shelves (start / width) height) (FollowFrom frame shelves (column_at frame shelves entry) own) (IsNext frame shelves (start / width) height entry)
    i entries entry entry (λ later h. h) (λ later h. h) below is (λ e. c.is_next-is_next.ensures shelves entry said (kept.at_column e)) kept.stacked in
    let space : one.result.space ≡ allocated_width (map (item_at items) entry.items) * height_of shelves entry.number =
    one.ensures.space ∙ ap (λ (h : ℕ). allocated_width (map (item_at items) entry.items) * h) said.height in
    let own_empty : is_empty (spelled_shelf atlas entry) ≡ one.result.is_empty = sym one.ensures.empty in
    let test : Bool = (c.from-along.result == start) && (was_empty && one.result.is_empty) in
    let Apart : Type 0 = NoNeighbours both_free (map (item_at items) entry.items) in
    let touching : stacked ≡ true → test ≡ touches atlas (start / width) was_empty entry =
    λ e. ap (λ (n : ℕ). (n == start) && (was_empty && one.result.is_empty)) along
    ∙ ap (λ (b : Bool). b && (was_empty && one.result.is_empty)) (same-column (along_of shelves entry.number) start width (next e).along (starts e))
    ∙ ap (λ (b : Bool). (start / width == column_at frame shelves entry) && (was_empty && b)) one.ensures.empty in
    let apart : (e : stacked ≡ true) → IsFlagged ((one.result.is_apart && not test) && judged.are_apart) (StandApart atlas 0 false entries) (StandApart atlas (column_at frame shelves entry) (is_empty (spelled_shelf atlas entry))) (i + 1) entries =
    λ e. flagged-more (one.result.is_apart && not test) judged.are_apart (StandApart atlas 0 false entries) (StandApart atlas (start / width) was_empty)
    (StandApart atlas (column_at frame shelves entry) (is_empty (spelled_shelf atlas entry))) (StandsApart atlas (start / width) was_empty entry)
    i entries entry entry (λ later h. h) (λ later h. h) below is
    (decides-both one.result.is_apart (not test) Apart (touches atlas (start / width) was_empty entry ≡ false) one.ensures.apart
    (subst (λ (t : Bool). Decides (not test) (t ≡ false)) (touching e) (decides-not test)))
    (kept.apart (both-true c.is_next-is_next.result judged.are_stacked e).1) in
    record {
      links = flagged-more one.result.is_linked judged.are_linked (AllByRecursion (LinkBack items) entries) (AllByRecursion (LinkBack items)) (AllByRecursion (LinkBack items)) (LinkBack items entry)
          i entries entry entry (λ later h. h) (λ later h. h) below is one.ensures.links kept.links;
      free = flagged-more one.result.has_free_list judged.have_free_lists (AllByRecursion (FreeOwn items marks) entries) (AllByRecursion (FreeOwn items marks)) (AllByRecursion (FreeOwn items marks)) (FreeOwn items marks entry)
          i entries entry entry (λ later h. h) (λ later h. h) below is one.ensures.free kept.free;
      stacked = subst (λ (n : ℕ). IsFlagged stacked Whole (FollowFrom frame shelves n (c.if-along-start.below + c.from-in-loop-entry.result)) (i + 1) entries) column
          (flagged-same stacked Whole (λ (h : ℕ). FollowFrom frame shelves (column_at frame shelves entry) h) own (c.if-along-start.below + c.from-in-loop-entry.result) (i + 1) entries high follows);
      filled = flagged-more one.result.is_filled judged.are_filled (AllByRecursion (HasItems frame shelves items) entries) (AllByRecursion (HasItems frame shelves items)) (AllByRecursion (HasItems frame shelves items)) (HasItems frame shelves items entry)
          i entries entry entry (λ later h. h) (λ later h. h) below is (one.ensures.filled shelves said) kept.filled;
      apart = λ e. subst (λ (n : ℕ). IsFlagged ((one.result.is_apart && not test) && judged.are_apart) (StandApart atlas 0 false entries) (StandApart atlas n one.result.is_empty) (i + 1) entries) column
          (subst (λ (b : Bool). IsFlagged ((one.result.is_apart && not test) && judged.are_apart) (StandApart atlas 0 false entries) (StandApart atlas (column_at frame shelves entry) b) (i + 1) entries) own_empty (apart e));
      sum = omega (arith, kept.sum, areas, space);
      small = omega (arith, kept.small, one.ensures.small);
      short = (subst (AllByRecursion (λ (e : Entry). length e.items ≤ 65535)) more kept.short).1;
      near = omega (arith, c.from-along.ensures, c.shelf_of-shelf.type_inv);
      high = elim c.if-along-start.branch [
        | then-along-start w ↦ omega (arith, kept.high, w.below-is, c.from-in-loop-entry.ensures, c.shelf_of-shelf.type_inv)
        | else-along-start w ↦ omega (arith, w.below-is, c.from-in-loop-entry.ensures, c.shelf_of-shelf.type_inv)
      ];
      at_column = λ e. ap (λ (n : ℕ). n % width) along ∙ (next e).along;
    }

pub returns-clause-stacked : goal.returns-clause-stacked
returns-clause-stacked c =
    let frame = c.args.frame.now in
    let shelves = c.args.shelves.now in
    let items = c.args.items.now in
    let entries = c.args.entries.now in
    let kept = c.loop-entry.invariant in
    let i = c.loop-entry.entry-index in
    decides-map (c.fills_columns.result && c.loop-entry.judged.are_stacked) (FollowFrom frame shelves 0 0 entries) (HasShelves shelves entries (spelled_state (atlas_of_records frame shelves items) entries))
    (follow-kept frame shelves items entries) (shelves-follow frame shelves items entries c.requires.frame)
    (flagged-end c.fills_columns.result c.loop-entry.judged.are_stacked (FollowFrom frame shelves 0 0 entries) (FollowFrom frame shelves (c.loop-entry.start / frame.column_width) c.loop-entry.height)
    i entries (drop_all i entries (omega (arith, c.loop-entry-test.false))) (c.fills_columns.ensures shelves) kept.stacked)

pub returns-clause-apart : goal.returns-clause-apart
returns-clause-apart c = λ e.
    let frame = c.args.frame.now in
    let entries = c.args.entries.now in
    let atlas = atlas_of_records frame c.args.shelves.now c.args.items.now in
    let judged = c.loop-entry.judged in
    let i = c.loop-entry.entry-index in
    let Rest : List Entry → Type 0 = StandApart atlas (c.loop-entry.start / frame.column_width) c.loop-entry.was_empty in
    decides-map judged.are_apart (StandApart atlas 0 false entries) (HasNeighbours (spelled_state atlas entries))
    (apart-neighbours atlas entries) (neighbours-apart atlas entries)
    (flagged-end true judged.are_apart (StandApart atlas 0 false entries) Rest i entries
    (drop_all i entries (omega (arith, c.loop-entry-test.false))) (decides-yes tt) (c.loop-entry.invariant.apart (both-true c.fills_columns.result judged.are_stacked e).1))
