use Rattle.std.proofs.Common.{◌≡◌, true, ap, subst, ◌∙◌, sym, eq-eqb}
use Rattle.std.proofs.lemmas.Bool.{eqb-true}
use Rattle.std.specs.List.{list_all}
use Rattle.bucketed_model.specs.Space.{allocated_space}
use Rattle.bucketed_model.specs.State.{BucketedState, is_idle}
use Rattle.bucketed_model.proofs.Promises.{valid-promises}
use Rattle.bucketed_model.specs.Atlas.{KeepsPromises}
use Rattle.etagere_bucketed.specs.Private.Consistent.{state_in}
use Rattle.etagere_bucketed.proofs.atlas.BucketedAtlasAllocator.is_empty.Goals as goal

pub returns-clause-empty : goal.returns-clause-empty
returns-clause-empty c =
    let old = state_in c.self.inside in
    let promises = valid-promises old c.self.invariant.witnessed.valid in (
      λ zero. subst (λ (state : BucketedState). list_all is_idle state.shelves ≡ true) c.self.view_is
          (ap (λ (state : BucketedState). list_all is_idle state.shelves) (promises.none (sym c.self.invariant.totals.space ∙ eqb-true c.self.inside.allocated_space 0 zero))),
      λ idle. eq-eqb c.self.inside.allocated_space 0
          (c.self.invariant.totals.space ∙ ap allocated_space (promises.empty (subst (λ (state : BucketedState). list_all is_idle state.shelves ≡ true) (sym c.self.view_is) idle))),
    )

pub returns-clause-promises : goal.returns-clause-promises
returns-clause-promises c = subst KeepsPromises c.self.view_is (valid-promises (state_in c.self.inside) c.self.invariant.witnessed.valid)
