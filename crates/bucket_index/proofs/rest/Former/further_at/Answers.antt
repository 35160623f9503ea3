use Rattle.std.proofs.Common.{◌≡◌, ℕ, Option, None, Some, ◌∷◌, subst, sym, ◌∙◌}
use Rattle.std.specs.Prelude.{slice_get}
use Rattle.bucket_index.specs.Private.Rest.{IsFurthestOf}
use Rattle.bucket_index.proofs.FewBuckets.{furthest-none}
use Rattle.bucket_index.proofs.rest.Former.further_at.Goals as goal

pub returns-in-Some : goal.returns-in-Some
returns-in-Some c links found =
    let here : Some c.in-Some.number ≡ slice_get c.args.self.now.numbers c.args.place = sym c.in-Some.is ∙ c.number_at.ensures in
    subst (λ (link : Option ℕ). IsFurthestOf c.args.width (link ∷ links) c.args.buckets.now c.further.result) here (c.further.ensures links found)

pub returns-in-None : goal.returns-in-None
returns-in-None c links found =
    let none : None ≡ slice_get c.args.self.now.numbers c.args.place = sym c.in-None.is ∙ c.number_at.ensures in
    subst (λ (link : Option ℕ). IsFurthestOf c.args.width (link ∷ links) c.args.buckets.now c.args.found) none (furthest-none c.args.width links c.args.buckets.now c.args.found found)
