use Rattle.std.proofs.Common.{subst, sym}
use Rattle.bucket_index.specs.Private.Spans.{AreSpans}
use Rattle.bucketed_store.proofs.refusing.sides_refusal.Goals as goal

pub shelves_refusal-requires-clause-spans : goal.shelves_refusal-requires-clause-spans
shelves_refusal-requires-clause-spans c = subst (AreSpans c.store.inside.spans) (sym c.deref-2.ensures.value) c.store.invariant.1
