use Rattle.std.proofs.Common.{ℕ, Bool, Bor, MutBor, refl, ap, subst}
use denote.Param.Always.{always_mut, mut_by, mut_next}
use Rattle.etagere_base.specs.declared.geometry.Rectangle.{Rectangle}
use Rattle.padding.specs.declared.sides.Padding.{Padding}
use Rattle.padding.specs.Caches.Padded.{PaddedCacheState, RetainsPadded}
use Rattle.padding.proofs.PaddedCaches.PaddedLemmas.{keeps-padding, padded_cache}
use Rattle.padding.proofs.PaddedCaches.RetainedLemmas.{retains-trimmed}
use Rattle.padding.proofs.caches.padded_cache.PaddedCache.retain.Goals as goal

pub retain-requires : goal.retain-requires
retain-requires g c =
    mut_by _ (λ (s : MutBor g.row.F.Denot × Bor Padding). always_mut g.F.FnMut s.0.now) (λ s a i. i)
    (λ s (a : ℕ × (Rectangle × Unit {0})) (r : Bool) t i e. let m = e.met.1 in
    mut_next g.F.FnMut s.0.now (a.0, (m.1.0, tt)) r t.0.now t.0.now m.1.2 refl i) _ c.requires

pub invariant_of-self : goal.invariant_of-self
invariant_of-self g c = keeps-padding c.self.inside.padding c.retain.new.self c.retain.ensures.promises

pub returns-clause-promises : goal.returns-clause-promises
returns-clause-promises g c = invariant_of-self g c

pub returns-clause-retained : goal.returns-clause-retained
returns-clause-retained g c =
    let padding : Padding = c.self.inside.padding in
    let new : PaddedCacheState = padded_cache padding c.retain.new.self in
    let retained : RetainsPadded (goal.F-step g) c.args.keeps (padded_cache padding c.self.inside.cache) new =
    record {
      retains = retains-trimmed (goal.F-step g) _ (λ (s : MutBor g.row.F.Denot × Bor Padding). s.0.now) (λ s. s.1.now)
          (λ s key r a t e. let m = e.met.1 in (m.1, ap (λ (b : Bor Padding). b.now) m.0.1)) padding _ refl
          c.self.inside.cache c.retain.new.self c.self.invariant.cache c.retain.ensures.retained;
      padding = refl;
    } in
    subst (λ (s : PaddedCacheState). RetainsPadded (goal.F-step g) c.args.keeps s new) c.self.view_is retained
