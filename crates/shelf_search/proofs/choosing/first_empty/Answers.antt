use Rattle.std.proofs.Common.{Some, ap, arith, drop, sym, ◌+◌, ◌∙◌}
use Rattle.std.specs.Option.{option_map_or}
use Rattle.std.specs.Prelude.{◌/◌}
use Rattle.shelf_heights.specs.Private.ByHeight.{numbers_by_height}
use Rattle.shelf_search.specs.Private.Searching.{first_offer, good_offer}
use Rattle.shelf_search.proofs.ByHeight.EmptyShelves.{empty-ended, empty-reached, offer-first, offer-none}
use Rattle.shelf_search.proofs.ByHeight.Searches.{behind, reached}
use Rattle.shelf_search.proofs.choosing.first_empty.Goals as goal

pub empty_at-found-requires-clause-tall : goal.empty_at-found-requires-clause-tall
empty_at-found-requires-clause-tall c =
    rw c.first_rarely_as_wide.ensures.items (reached c.args.records.now c.args.column_width (c.args.height + c.args.height / 2 + 1) c.loop-index.from c.in-Some.index (numbers_by_height c.args.by_height.now.items) c.loop-index.by_height.items c.loop-index.invariant.search c.in-Some.ensures.first).tall

pub returns-then-is_some-clause-value : goal.returns-then-is_some-clause-value
returns-then-is_some-clause-value c =
    let offers = good_offer c.args.records.now c.args.width c.args.height in
    let rest = first_offer offers (drop (c.in-Some.index + 1) (numbers_by_height c.args.by_height.now.items)) in
    let value = rw c.first_rarely_as_wide.ensures.items at c.empty_at-found.ensures.value in
    offer-first c.empty_at-found.result rest (sym c.is_some.ensures ∙ c.if-is_some.true)
    ∙ ap (λ o. option_map_or Some o rest) value
    ∙ sym (empty-reached c.args.records.now c.args.column_width c.args.width c.args.height c.loop-index.from (numbers_by_height c.args.by_height.now.items) c.loop-index.by_height.items c.requires.whole c.loop-index.invariant.search c.in-Some.index c.in-Some.ensures.first)
    ∙ c.loop-index.invariant.answer

pub loop-index-preserved : goal.loop-index-preserved
loop-index-preserved c =
    let offers = good_offer c.args.records.now c.args.width c.args.height in
    let rest = first_offer offers (drop (c.in-Some.index + 1) (numbers_by_height c.args.by_height.now.items)) in
    let value = rw c.first_rarely_as_wide.ensures.items at c.empty_at-found.ensures.value in
    record {
      search = behind c.args.records.now c.args.column_width (c.args.height + c.args.height / 2 + 1) c.loop-index.from c.in-Some.index (numbers_by_height c.args.by_height.now.items) c.loop-index.by_height.items c.empty_at-found.new.by_height.items c.loop-index.invariant.search c.in-Some.ensures.first (c.empty_at-found.ensures.numbers ∙ ap numbers_by_height c.first_rarely_as_wide.ensures.items) c.empty_at-found.ensures.by_height;
      answer =
          offer-none c.empty_at-found.result rest (sym c.is_some.ensures ∙ c.if-is_some.false)
          ∙ ap (λ o. option_map_or Some o rest) value
          ∙ sym (empty-reached c.args.records.now c.args.column_width c.args.width c.args.height c.loop-index.from (numbers_by_height c.args.by_height.now.items) c.loop-index.by_height.items c.requires.whole c.loop-index.invariant.search c.in-Some.index c.in-Some.ensures.first)
          ∙ c.loop-index.invariant.answer;
      capacity = omega (arith, c.loop-index.invariant.capacity, c.first_rarely_as_wide.ensures.capacity, c.empty_at-found.ensures.capacity);
    }

pub returns-clause-value : goal.returns-clause-value
returns-clause-value c =
    sym (empty-ended c.args.records.now c.args.column_width c.args.width c.args.height c.loop-index.from (numbers_by_height c.args.by_height.now.items) c.loop-index.by_height.items c.requires.whole c.loop-index.invariant.search (rw c.in_default.is at c.first_rarely_as_wide.ensures.first))
    ∙ c.loop-index.invariant.answer
