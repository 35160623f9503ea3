use Rattle.std.proofs.Common.{◌∙◌, ◌∷◌, ◌++◌, [], ap, arith}
use Rattle.etagere_links.specs.Edits.{link_at}
use Rattle.shelf_records.specs.Records.{shelf_chain}
use Rattle.shelf_store.proofs.ByHeight.CollectedShelves.{collects-begin, collects-end, collects-fewer, collects-here, collects-more}
use Rattle.shelf_records.proofs.Spelled.StandsKept.{witnesses}
use Rattle.shelf_store.proofs.starting.collect_shelves.Goals as goal

pub loop-step-init : goal.loop-step-init
loop-step-init c = record {
  collects = collects-begin c.args.frame.now c.args.records.now c.clear.new.self.items c.number-at.result c.requires.kept c.clear.ensures.items
      (c.number-at.ensures.value ∙ c.first_shelf.ensures);
  room = omega (arith, c.requires.room, c.clear.ensures.room, c.clear.ensures.capacity);
  capacity = omega (arith, c.clear.ensures.capacity);
}

pub newly_bounded-requires-clause-shelf : goal.newly_bounded-requires-clause-shelf
newly_bounded-requires-clause-shelf c =
    omega (
      arith,
      collects-here c.args.frame.now c.args.records.now c.loop-step.by_height.items c.loop-step.at c.in-Some.shelf c.loop-step._step c.loop-step.invariant.collects c.in-Some.is,
      (witnesses c.requires.kept).counts.shelves.1,
    )

pub push-requires : goal.push-requires
push-requires c = record {
  room = omega (
    arith,
    collects-fewer c.args.frame.now c.args.records.now c.loop-step.by_height.items c.loop-step.at c.in-Some.shelf c.loop-step._step c.loop-step.invariant.collects c.in-Some.is,
    c.loop-step.invariant.room,
  );
}

pub loop-step-preserved : goal.loop-step-preserved
loop-step-preserved c = record {
  collects =
      collects-more c.args.frame.now c.args.records.now c.loop-step.by_height.items c.push.new.self.items c.loop-step.at c.number-at-in-loop-step.result c.in-Some.shelf c.loop-step._step c.loop-step.invariant.collects c.in-Some.is
      (c.push.ensures.items ∙ ap (λ one. c.loop-step.by_height.items ++ one ∷ []) c.newly_bounded.ensures)
      (c.number-at-in-loop-step.ensures.value ∙ c.next_of.ensures ∙ ap (λ shelves. link_at shelf_chain.next shelves c.in-Some.shelf) c.shelves.ensures);
  room = omega (arith, c.loop-step.invariant.room, c.push.ensures.capacity);
  capacity = omega (arith, c.loop-step.invariant.capacity, c.push.ensures.capacity);
}

pub returns-in_default-clause-by_height : goal.returns-in_default-clause-by_height
returns-in_default-clause-by_height c =
    collects-end c.args.frame.now c.args.records.now c.loop-step.by_height.items c.loop-step.at c.loop-step._step c.loop-step.invariant.collects c.in_default.is

pub newly_bounded-requires-clause-frame : goal.newly_bounded-requires-clause-frame
newly_bounded-requires-clause-frame c = (witnesses c.requires.kept).valid.frame
