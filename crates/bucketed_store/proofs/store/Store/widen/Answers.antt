use Rattle.std.proofs.Common.{◌≡◌, ap, arith, length, subst, sym, ◌∙◌}
use Rattle.bucket_index.specs.Private.Blocks.{AreKnown}
use Rattle.bucket_index.specs.Private.Heights.{AreBelow}
use Rattle.bucket_index.specs.Private.Spans.{AreSpans}
use Rattle.bucketed_records.specs.Private.Store.{Stored}
use Rattle.bucketed_store.specs.Private.Grows as grows
use Rattle.bucketed_store.proofs.Widening.NoneWidened.{widened-by-none}
use Rattle.bucketed_store.proofs.Widening.Shares.{left-le}
use Rattle.bucketed_store.proofs.store.Store.widen.Goals as goal

pub overflow_sub-rest : goal.overflow_sub-rest
overflow_sub-rest c = omega (arith, c.left_after-rest.ensures, left-le c.args.added c.args.left c.deref.result.now, c.requires.left)

pub overflow_sub-result : goal.overflow_sub-result
overflow_sub-result c = omega (arith, c.left_after-rest.ensures, left-le c.args.added c.args.left c.deref.result.now)

pub invariant_of-self-2 : goal.invariant_of-self-2
invariant_of-self-2 c = (subst (AreKnown c.know_all.new.self) c.deref-2.ensures.value c.know_all.ensures, c.widen_shelves.ensures.spans, c.forget.ensures _, c.forget-2.ensures _, subst (AreBelow c.know_all-2.new.self) c.deref-3.ensures.value c.know_all-2.ensures, c.forget-3.ensures _)

pub invariant_of-self : goal.invariant_of-self
invariant_of-self c = (c.self.invariant.0, subst (AreSpans c.self.inside.spans) (sym c.reserve_records.ensures.same) c.self.invariant.1, c.forget.ensures _, c.forget-2.ensures _, c.self.invariant.4, c.forget-3.ensures _)

pub widen_shelves-requires-clause-spans : goal.widen_shelves-requires-clause-spans
widen_shelves-requires-clause-spans c = subst (AreSpans c.self.inside.spans) (sym c.in_ok-reserve_records.ensures.same) c.self.invariant.1

pub returns-then-rest-left-clause-ok : goal.returns-then-rest-left-clause-ok
returns-then-rest-left-clause-ok c =
    let stored = c.args.self.now in
    let shelves : c.deref.result.now ≡ stored.shelves = c.deref.ensures.value ∙ ap (λ (s : Stored). s.shelves) c.self.view_is in
    let none : grows.left_after c.args.added c.args.left stored.shelves ≡ c.args.left =
    ap (grows.left_after c.args.added c.args.left) (sym shelves) ∙ sym c.left_after-rest.ensures ∙ c.if-rest-left.true in
    sym (widened-by-none (length stored.shelves) 0 c.args.place c.args.added c.args.left stored (omega arith) none)
