use Rattle.std.proofs.Common.{◌≡◌, [], subst, ◌∙◌, sym, eq-eqb}
use Rattle.std.proofs.lemmas.Bool.{eqb-true}
use Rattle.etagere_shelves.specs.Private.Consistent.{state_in}
use Rattle.shelf_model.specs.Places.{allocations}
use Rattle.shelf_model.specs.State.{AtlasState}
use Rattle.shelf_model.proofs.Spaces.SpaceNone.{no_space-nothing_allocated, nothing_allocated-no_space}
use Rattle.shelf_records.proofs.Spelled.StandsKept.{witnesses}
use Rattle.etagere_shelves.proofs.atlas.AtlasAllocator.is_empty.Goals as goal

pub returns : goal.returns
returns c =
    let old = state_in c.self.inside in (
      λ zero. subst (λ (state : AtlasState). allocations state ≡ []) c.self.view_is (no_space-nothing_allocated old (witnesses c.self.invariant.kept).valid (sym c.self.invariant.space ∙ eqb-true c.self.inside.allocated_space 0 zero)),
      λ nothing. eq-eqb c.self.inside.allocated_space 0 (c.self.invariant.space ∙ nothing_allocated-no_space old (subst (λ (state : AtlasState). allocations state ≡ []) (sym c.self.view_is) nothing)),
    )
