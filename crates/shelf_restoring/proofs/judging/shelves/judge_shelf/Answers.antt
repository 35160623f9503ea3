-- What the pass over its items says of a shelf.
use Rattle.std.proofs.Common.{◌≡◌, ℕ, Bool, true, false, ◌&&◌, List, None, map, ap, refl, subst, sym, ◌∙◌}
use Rattle.std.proofs.Math.Bool.{beq}
use Rattle.std.specs.Prelude.{◌==◌, Decides}
use Rattle.etagere_base.proofs.DecidingLemmas.{decides-both, decides-equal, decides-map, decides-no, decides-yes}
use Rattle.etagere_base.specs.Lists.{NoNeighbours}
use Rattle.shelf_records.specs.RecordLists.{Entry}
use Rattle.shelf_model.specs.Merging.{both_free}
use Rattle.shelf_model.specs.State as state
use Rattle.shelf_records.specs.AtlasRecords.{along_of, is_empty_at, item_at}
use Rattle.shelf_records.specs.StandsFor.{HasItems, LinkBack}
use Rattle.shelf_restoring.specs.Private.Rules.{ApartFrom, LinkedFrom, RowFrom}
use Rattle.shelf_restoring.proofs.Judged.ItemPasses.{all-apart, apart-all, back-linked, linked-back, lies-row, row-lies}
use Rattle.shelf_restoring.proofs.judging.shelves.judge_shelf.Goals as goal

-- whether two tests agree decides that they do
decides-same : (a b : Bool) → Decides (beq a b) (a ≡ b)
decides-same true true = decides-yes refl
decides-same true false = decides-no (λ e. absurd (cc))
decides-same false true = decides-no (λ e. absurd (cc))
decides-same false false = decides-yes refl

pub returns-clause-links : goal.returns-clause-links
returns-clause-links c =
    let items = c.args.items.now in
    let entry = c.args.entry.now in
    let found = c.judge_items-found.result in
    let numbers : c.entry.inside.items.now ≡ entry.items = ap (λ (e : Entry). e.items) c.entry.view_is in
    let own : c.entry.inside.number ≡ entry.number = ap (λ (e : Entry). e.number) c.entry.view_is in
    decides-map found.are_linked (LinkedFrom items entry.number None entry.items) (LinkBack items entry)
    (linked-back items entry) (back-linked items entry)
    (subst (λ (n : ℕ). Decides found.are_linked (LinkedFrom items n None entry.items)) own
    (subst (λ (ns : List ℕ). Decides found.are_linked (LinkedFrom items c.entry.inside.number None ns)) numbers c.judge_items-found.ensures.links))

pub returns-clause-filled : goal.returns-clause-filled
returns-clause-filled c shelves said =
    let frame = c.args.frame.now in
    let items = c.args.items.now in
    let entry = c.args.entry.now in
    let found = c.judge_items-found.result in
    let numbers : c.entry.inside.items.now ≡ entry.items = ap (λ (e : Entry). e.items) c.entry.view_is in
    let shelf = c.args.shelf.now in
    let width : found.width ≡ state.total_width (map (item_at items) entry.items) =
    c.judge_items-found.ensures.width ∙ ap (λ (ns : List ℕ). state.total_width (map (item_at items) ns)) numbers in
    let says : shelf.is_empty ≡ is_empty_at shelves entry.number = said.is_empty in
    let one : c.is_one_free-is_empty.result ≡ state.is_one_free (map (item_at items) entry.items) =
    c.is_one_free-is_empty.ensures ∙ ap (λ (ns : List ℕ). state.is_one_free (map (item_at items) ns)) numbers in
    let row : Decides found.lie_in_row (RowFrom frame items (along_of shelves entry.number) entry.items) =
    subst (λ (s : ℕ). Decides found.lie_in_row (RowFrom frame items s entry.items)) said.along
    (subst (λ (ns : List ℕ). Decides found.lie_in_row (RowFrom frame items shelf.x ns)) numbers c.judge_items-found.ensures.places) in
    let full = decides-equal found.width frame.column_width (state.total_width (map (item_at items) entry.items) ≡ frame.column_width)
    (λ same. sym width ∙ same) (λ same. width ∙ same) in
    let empty = decides-same shelf.is_empty c.is_one_free-is_empty.result in
    let Row : Type 0 = RowFrom frame items (along_of shelves entry.number) entry.items in
    let Full : Type 0 = state.total_width (map (item_at items) entry.items) ≡ frame.column_width in
    let Says : Type 0 = shelf.is_empty ≡ c.is_one_free-is_empty.result in
    decides-map ((found.lie_in_row && (found.width == frame.column_width)) && beq shelf.is_empty c.is_one_free-is_empty.result) ((Row × Full) × Says) (HasItems frame shelves items entry)
    (λ all. let lies = row-lies items frame (along_of shelves entry.number) entry.items all.0.0 in
    record { places = lies.0; items = lies.1; width = all.0.1; is_empty = sym says ∙ all.1 ∙ one })
    (λ has. ((lies-row items frame (along_of shelves entry.number) entry.items has.places has.items, has.width), says ∙ has.is_empty ∙ sym one))
    (decides-both (found.lie_in_row && (found.width == frame.column_width)) (beq shelf.is_empty c.is_one_free-is_empty.result) (Row × Full) Says
    (decides-both found.lie_in_row (found.width == frame.column_width) Row Full row full) empty)

pub returns-clause-apart : goal.returns-clause-apart
returns-clause-apart c =
    let items = c.args.items.now in
    let entry = c.args.entry.now in
    let found = c.judge_items-found.result in
    let numbers : c.entry.inside.items.now ≡ entry.items = ap (λ (e : Entry). e.items) c.entry.view_is in
    decides-map found.are_apart (ApartFrom items false entry.items) (NoNeighbours both_free (map (item_at items) entry.items))
    (apart-all items entry.items) (all-apart items entry.items)
    (subst (λ (ns : List ℕ). Decides found.are_apart (ApartFrom items false ns)) numbers c.judge_items-found.ensures.apart)
