-- The flags and the sums after one more item.
use Rattle.std.proofs.Common.{◌≡◌, ◌+◌, ℕ, Bool, false, not, ◌&&◌, List, ◌∷◌, None, Some, drop, get_or, length, map, ap, arith, subst, sym, ◌∙◌}
use Rattle.std.proofs.lemmas.List.{drop_more}
use Rattle.etagere_links.specs.Edits.{link_at}
use Rattle.shelf_records.specs.Records.{item_chain}
use Rattle.shelf_model.specs.Space.{allocated_width}
use Rattle.shelf_model.specs.State.{total_width}
use Rattle.shelf_model.specs.Valid.{IsItem}
use Rattle.shelf_records.specs.AtlasRecords.{is_allocated_at, item_at, item_place_of, shelf_of, width_of}
use Rattle.shelf_records.specs.StandsFor.{free_present}
use Rattle.shelf_restoring.specs.Private.Rules.{ApartFrom, LinkedFrom, RowFrom}
use Rattle.shelf_restoring.proofs.Judged.FlagPasses.{IsFlagged, flagged-more}
use Rattle.shelf_restoring.proofs.Judged.ItemPasses.{decides-not, free-more, taken-more, width-free, width-taken}
use Rattle.shelf_restoring.proofs.judging.items.judge_items.Goals as goal
use Rattle.shelf_restoring.proofs.judging.items.judge_items.Goals.{then-is_free, else-is_free}

pub loop-number-preserved : goal.loop-number-preserved
loop-number-preserved c =
    let frame = c.args.frame.now in
    let items = c.args.items.now in
    let numbers = c.args.numbers.now in
    let shelf = c.args.shelf in
    let i = c.loop-number.number-index in
    let judged = c.loop-number.judged in
    let here = c.loop-number.here in
    let kept = c.loop-number.invariant in
    let item : ℕ = c.from-item.result in
    let taken : Bool = c.is_allocated-is_free.result in
    let was_free : Bool = c.loop-number.was_free in
    let below = c.loop-number-test.true in
    let is : item ≡ get_or numbers i 0 = c.from-item.ensures in
    let allocated : taken ≡ is_allocated_at items item = c.is_allocated-is_free.ensures in
    let wide : c.from-here-in-loop-number.result ≡ width_of items item = c.from-here-in-loop-number.ensures ∙ c.width-width.ensures in
    let rest : List ℕ = drop (i + 1) numbers in
    let more : drop i numbers ≡ item ∷ rest = drop_more numbers i 0 below ∙ ap (λ (y : ℕ). y ∷ rest) (sym is) in
    let links = flagged-more c.is_linked.result judged.are_linked (LinkedFrom items shelf None numbers) (LinkedFrom items shelf c.loop-number.before) (LinkedFrom items shelf (Some item))
    ((link_at item_chain.previous items item ≡ c.loop-number.before) × (shelf_of items item ≡ shelf)) i numbers 0 item (λ later h. h) (λ later h. h) below is c.is_linked.ensures kept.links in
    let places = flagged-more c.lies_at.result judged.lie_in_row (RowFrom frame items c.args.start numbers) (RowFrom frame items here) (RowFrom frame items (here + width_of items item))
    ((item_place_of items item ≡ here) × IsItem frame (item_at items item)) i numbers 0 item (λ later h. h) (λ later h. h) below is (c.lies_at.ensures frame (sym c.alignment_along-alignment.ensures.value)) kept.places in
    let apart = flagged-more (not (was_free && not taken)) judged.are_apart (ApartFrom items false numbers) (ApartFrom items was_free) (ApartFrom items (not taken))
    ((was_free && not taken) ≡ false) i numbers 0 item
    (λ later h. subst (λ (a : Bool). ((was_free && not a) ≡ false) × ApartFrom items (not a) later) (sym allocated) h)
    (λ later h. subst (λ (a : Bool). ((was_free && not a) ≡ false) × ApartFrom items (not a) later) allocated h)
    below is (decides-not (was_free && not taken)) kept.apart in
    let widths : total_width (map (item_at items) (drop i numbers)) ≡ width_of items item + total_width (map (item_at items) rest) =
    ap (λ (ns : List ℕ). total_width (map (item_at items) ns)) more in
    let frees : length (free_present items (drop i numbers)) ≡ length (free_present items (item ∷ rest)) =
    ap (λ (ns : List ℕ). length (free_present items ns)) more in
    let takens : allocated_width (map (item_at items) (drop i numbers)) ≡ allocated_width (map (item_at items) (item ∷ rest)) =
    ap (λ (ns : List ℕ). allocated_width (map (item_at items) ns)) more in
    elim c.if-is_free.branch [
      | then-is_free w ↦
          let no = sym allocated ∙ w.if-is_free.true in
          rw w.judged-is (record {
            links = links;
            places = subst (λ (h : ℕ). IsFlagged (c.lies_at.result && judged.lie_in_row) (RowFrom frame items c.args.start numbers) (RowFrom frame items h) (i + 1) numbers) (ap (λ (n : ℕ). here + n) (sym wide)) places;
            apart = apart;
            width = omega (arith, kept.width, widths, wide);
            free = omega (arith, kept.free, frees, free-more items item rest no);
            allocated = omega (arith, kept.allocated, takens, width-free items item rest no);
            above = omega (arith, kept.above);
            narrow = omega (arith, kept.narrow, c.from-here-in-loop-number.ensures);
            few = omega (arith, kept.few);
            small = omega (arith, kept.small);
          })
      | else-is_free w ↦
          let yes = sym allocated ∙ w.if-is_free.false in
          rw w.judged-is (record {
            links = links;
            places = subst (λ (h : ℕ). IsFlagged (c.lies_at.result && judged.lie_in_row) (RowFrom frame items c.args.start numbers) (RowFrom frame items h) (i + 1) numbers) (ap (λ (n : ℕ). here + n) (sym wide)) places;
            apart = apart;
            width = omega (arith, kept.width, widths, wide);
            free = omega (arith, kept.free, frees, taken-more items item rest yes);
            allocated = omega (arith, kept.allocated, takens, width-taken items item rest yes, w.from.ensures, c.width-width.ensures);
            above = omega (arith, kept.above);
            narrow = omega (arith, kept.narrow, c.from-here-in-loop-number.ensures);
            few = omega (arith, kept.few);
            small = omega (arith, kept.small, w.from.ensures);
          })
    ]
