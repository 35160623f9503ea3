use Rattle.std.proofs.Common.{◌≡◌, ◌+◌, ◌<◌, ℕ, Bool, List, ap, arith, length, subst, sym, take, ◌∙◌}
use Rattle.std.proofs.lemmas.List.{take_all}
use Rattle.std.specs.Prelude.{◌&&◌, not}
use Rattle.etagere_base.specs.Lists.{times}
use Rattle.shelf_notes.specs.Private.Pending.{Notes, once_where}
use Rattle.shelf_store.proofs.ByHeight.SettledShelves.{BeginAsListedAmong, all-as_listed, one-more-as_listed}
use Rattle.shelf_store.proofs.settling.moving.take_out_moved.Goals as goal

-- what waits does so still where both marks are the same
waits-same : {noted other parked another : Bool} → noted ≡ other → parked ≡ another → (noted && not parked) ≡ (other && not another)
waits-same same both = cc

pub take_out_if_moved-requires-clause-list : goal.take_out_if_moved-requires-clause-list
take_out_if_moved-requires-clause-list c =
    let list = c.requires.list in
    record { frame = list.frame; kept = list.kept; by_height = c.loop-index.invariant.holds list.frame list.kept list.by_height }

pub loop-index-preserved : goal.loop-index-preserved
loop-index-preserved c =
    let old : Notes = c.loop-index.pending.notes in
    let new : Notes = c.take_out_if_moved.new.pending.notes in
    let below : c.loop-index.index < length old.noted =
    omega (arith, c.loop-index-test.true, c.len-index-end.ensures.len, ap (λ (ns : List ℕ). length ns) c.loop-index.invariant.noted) in
    record {
      holds = λ frame kept holds. c.take_out_if_moved.ensures.by_height frame kept (c.loop-index.invariant.holds frame kept holds);
      as_listed = subst (λ (ns : List ℕ). BeginAsListedAmong c.args.records.now.shelves new (take (c.loop-index.index + 1) ns)) (sym c.take_out_if_moved.ensures.noted)
          (one-more-as_listed c.args.records.now.shelves old new c.loop-index.index c.noted_at-shelf.result below c.noted_at-shelf.ensures.value c.take_out_if_moved.ensures.others c.take_out_if_moved.ensures.as_listed c.loop-index.invariant.as_listed);
      noted = c.take_out_if_moved.ensures.noted ∙ c.loop-index.invariant.noted;
      same = λ k. c.take_out_if_moved.ensures.same k ∙ c.loop-index.invariant.same k;
      parked = λ k. c.take_out_if_moved.ensures.parked k ∙ c.loop-index.invariant.parked k;
      parked_below = c.take_out_if_moved.ensures.parked_below ∙ c.loop-index.invariant.parked_below;
      narrow_below = c.take_out_if_moved.ensures.narrow_below ∙ c.loop-index.invariant.narrow_below;
      capacity = omega (arith, c.loop-index.invariant.capacity, c.take_out_if_moved.ensures.capacity);
      room = c.take_out_if_moved.ensures.room ∙ c.loop-index.invariant.room;
    }

pub returns-clause-as_listed : goal.returns-clause-as_listed
returns-clause-as_listed c =
    let list = c.requires.list in
    let notes : Notes = c.loop-index.pending.notes in
    let all = take_all c.loop-index.index notes.noted (omega (arith, c.loop-index-test.false, c.len-index-end.ensures.len, ap (λ (ns : List ℕ). length ns) c.loop-index.invariant.noted)) in
    all-as_listed list.frame c.args.records.now notes c.loop-index.by_height.items list.kept (c.loop-index.invariant.holds list.frame list.kept list.by_height)
    (λ k. ap (times k) c.loop-index.invariant.noted ∙ c.len-index-end.ensures.tied k ∙ sym (ap once_where (waits-same (c.loop-index.invariant.same k) (c.loop-index.invariant.parked k))))
    (subst (BeginAsListedAmong c.args.records.now.shelves notes) all c.loop-index.invariant.as_listed)
