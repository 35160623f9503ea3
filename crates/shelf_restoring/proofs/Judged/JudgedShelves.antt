-- The rule on shelves is what the passes find: shelves in order, each at its column and high, that follow and fill.
use Rattle.std.proofs.Common.{◌≡◌, ℕ, ◌+◌, ◌<◌, ◌≤◌, Bool, true, false, List, [], ◌∷◌, refl, arith}
use Rattle.std.specs.Prelude.{◌%◌, ◌==◌, if◌then◌else◌}
use Rattle.etagere_base.proofs.FrameSides.{across-positive}
use Rattle.etagere_base.specs.declared.frames.Frame.{Frame}
use Rattle.etagere_base.specs.Frames.{IsFrame, longest_side}
use Rattle.std.specs.List.{AllByRecursion}
use Rattle.etagere_base.specs.Lists.{NoNeighbours}
use Rattle.shelf_records.specs.declared.records.LinkedItem.{LinkedItem}
use Rattle.shelf_records.specs.declared.records.LinkedShelf.{LinkedShelf}
use Rattle.shelf_records.specs.RecordLists.{Entry}
use Rattle.shelf_records.specs.AtlasRecords.{along_of, height_of, spelled_shelf, spelled_state}
use Rattle.shelf_records.specs.Private.Judging.{atlas_of_records, column_at, height_below, is_later, StackFrom, FillFrom}
use Rattle.shelf_records.specs.StandsFor.{HasShelves}
use Rattle.shelf_model.specs.State.{Shelf}
use Rattle.shelf_model.specs.Valid.{is_out_of_order}
use Rattle.shelf_restoring.specs.Private.Rules.{FollowFrom, IsNext}
use Rattle.shelf_restoring.proofs.Judged.MappedLists.{each-map, each-unmap, neighbours-map}
use Rattle.shelf_restoring.proofs.Judged.StackedShelves.{FillsRest, fills-follow, follow-fills, follow-stacked, ordered-rises, stacked-follow}

module _ (frame : Frame) (shelves : List LinkedShelf) where
  -- a shelf that goes on is of no earlier column
  goes-on : (column height : ℕ) (entry : Entry) → IsNext frame shelves column height entry → column ≤ column_at frame shelves entry
  goes-on column height entry next = by_test (column_at frame shelves entry == column) refl
    where
      by_test : (b : Bool) → (column_at frame shelves entry == column) ≡ b → column ≤ column_at frame shelves entry
      by_test true e = let same : column_at frame shelves entry ≡ column = grind arith in omega (arith, same)
      by_test false e = let later : column_at frame shelves entry ≡ column + 1 = grind (arith, next.goes) in omega (arith, later)

  -- the facts of shelves that follow, each for itself
  pub record Parts (column height : ℕ) (entries : List Entry) : Type 0 where
    pub here : column < frame.columns
    pub columns : AllByRecursion (λ (entry : Entry). column_at frame shelves entry < frame.columns) entries
    pub ordered : NoNeighbours (is_later frame shelves) entries
    pub along : AllByRecursion (λ (entry : Entry). along_of shelves entry.number % frame.column_width ≡ 0) entries
    pub heights : AllByRecursion (λ (entry : Entry). 1 ≤ height_of shelves entry.number) entries
    pub stack : StackFrom frame shelves column height entries
    pub fill : FillFrom frame shelves column height entries

  -- a shelf before shelves in order, of which the first is of no earlier column
  ordered-more : (column height : ℕ) (entry : Entry) (entries : List Entry) → column ≡ column_at frame shelves entry
      → FollowFrom frame shelves column height entries → NoNeighbours (is_later frame shelves) entries → NoNeighbours (is_later frame shelves) (entry ∷ entries)
  ordered-more column height entry [] at follow ordered = tt
  ordered-more column height entry (next ∷ entries) at follow ordered =
      let above : column ≤ column_at frame shelves next = goes-on column height next follow.0 in
      let in_order : column_at frame shelves entry ≤ column_at frame shelves next = omega (arith, at, above) in
      let apart : is_later frame shelves entry next ≡ false = grind (arith, in_order) in
      (apart, ordered)

  -- shelves that follow have them
  pub follow-parts : (column height : ℕ) (entries : List Entry) → FollowFrom frame shelves column height entries → Parts column height entries
  follow-parts column height [] follow =
      record { here = omega (arith, follow.1); columns = tt; ordered = tt; along = tt; heights = tt; stack = tt; fill = follow }
  follow-parts column height (entry ∷ entries) follow =
      let own = column_at frame shelves entry in
      let above = height_below frame shelves column height entry + height_of shelves entry.number in
      let later = follow-parts own above entries follow.1 in
      let next = follow.0 in
      record {
        here = omega (arith, goes-on column height entry next, later.here);
        columns = (later.here, later.columns);
        ordered = ordered-more own above entry entries refl follow.1 later.ordered;
        along = (next.along, later.along);
        heights = (next.tall, later.heights);
        stack = (next.across, later.stack);
        fill = (next.goes, later.fill);
      }

  -- shelves that have them follow
  pub parts-follow : (column height : ℕ) (entries : List Entry) → StackFrom frame shelves column height entries → FillFrom frame shelves column height entries
      → AllByRecursion (λ (entry : Entry). along_of shelves entry.number % frame.column_width ≡ 0) entries
      → AllByRecursion (λ (entry : Entry). 1 ≤ height_of shelves entry.number) entries → FollowFrom frame shelves column height entries
  parts-follow column height [] stack fill along heights = fill
  parts-follow column height (entry ∷ entries) stack fill along heights = (
    record { goes = fill.0; along = along.0; across = stack.0; tall = heights.0 },
    parts-follow (column_at frame shelves entry) (height_below frame shelves column height entry + height_of shelves entry.number) entries stack.1 fill.1 along.1 heights.1,
  )

module _ (frame : Frame) (shelves : List LinkedShelf) (items : List LinkedItem) (entries : List Entry) where
  -- nothing counts for no column
  nothing : (b : Bool) (height : ℕ) → height ≡ 0 → (if b then height else 0) ≡ 0
  nothing true height e = e
  nothing false height e = refl

  -- shelves that keep the rule follow
  pub shelves-follow : IsFrame longest_side frame → HasShelves shelves entries (spelled_state (atlas_of_records frame shelves items) entries) → FollowFrom frame shelves 0 0 entries
  shelves-follow is has =
      let rise = ordered-rises frame shelves items entries has.ordered in
      let fills : FillsRest frame shelves items 0 0 entries = λ k above within. omega (arith, nothing (0 == k) 0 refl, has.filled k within) in
      parts-follow frame shelves 0 0 entries
      (stacked-follow frame shelves items [] 0 0 entries rise refl (λ later above. refl) has.across)
      (fills-follow frame shelves items 0 0 entries rise (omega (arith, is.columns.0)) (across-positive longest_side frame is) has.columns fills)
      has.along
      (each-unmap (λ (shelf : Shelf). 1 ≤ shelf.height) (spelled_shelf (atlas_of_records frame shelves items)) entries has.heights)

  -- shelves that follow keep the rule
  pub follow-kept : FollowFrom frame shelves 0 0 entries → HasShelves shelves entries (spelled_state (atlas_of_records frame shelves items) entries)
  follow-kept follow =
      let atlas = atlas_of_records frame shelves items in
      let parts = follow-parts frame shelves 0 0 entries follow in
      let ordered = neighbours-map is_out_of_order (spelled_shelf atlas) entries parts.ordered in
      let rise = ordered-rises frame shelves items entries ordered in
      record {
        columns = each-map (λ (shelf : Shelf). shelf.column < frame.columns) (spelled_shelf atlas) entries parts.columns;
        ordered = ordered;
        along = parts.along;
        across = follow-stacked frame shelves items [] 0 0 entries rise refl (λ later above. refl) parts.stack;
        heights = each-map (λ (shelf : Shelf). 1 ≤ shelf.height) (spelled_shelf atlas) entries parts.heights;
        filled = λ k within. omega (arith, nothing (0 == k) 0 refl, follow-fills frame shelves items 0 0 entries rise parts.fill k (omega arith) within);
      }
