use Rattle.std.proofs.Common.{◌≡◌, Bool, List, ap, reverse, rules, subst, sym, ◌∙◌}
use Rattle.std.specs.List.{IsDistinct}
use Rattle.std.specs.Map.{keys_of}
use Rattle.glyph_shelf.specs.Cache.{CacheState}
use Rattle.glyph_shelf.specs.Promises.{KeepsCachePromises}
use Rattle.glyph_map.specs.Private.Evicting.{unticketed}
use Rattle.glyph_map.specs.Private.Refusing.{Refuses}
use Rattle.glyph_map.specs.Promises.{KeepsMapPromises}
use Rattle.glyph_map.specs.Retaining.{RefusesSome, without_keys}
use Rattle.glyph_map.specs.State.{MapState, pairs_of}
use Rattle.glyph_map.specs.declared.ticketed.Ticketed.{Ticketed}
use Rattle.glyph_map.proofs.Asked.{on-err}
use Rattle.glyph_map.proofs.Joined.{AreInStep, joined-pairs, keeps, map_of}
use Rattle.glyph_map.proofs.Retained.{retained}
use Rattle.glyph_map.proofs.map.GlyphMap.retain.Goals as goal

-- what a map keeps before
keeps-before : {K V : Type 0} (eq : K → K → Bool) (entries : List (K × Ticketed V)) (cache : CacheState) (old : MapState K V) → AreInStep entries cache.entries
    → KeepsCachePromises cache → IsDistinct eq (keys_of entries) → map_of entries cache ≡ old → KeepsMapPromises eq old
keeps-before eq entries cache old step promises distinct is = subst (KeepsMapPromises eq) is (keeps eq entries cache step promises distinct)

pub remove_all-requires : goal.remove_all-requires
remove_all-requires g c =
    keeps-before g.K.PartialEq.eq c.self.inside.entries.entries c.self.inside.cache c.args.self.now
    c.self.invariant.tickets c.self.invariant.promises c.self.invariant.keys c.self.view_is

pub returns-in_err-refused-clause-promises : goal.returns-in_err-refused-clause-promises
returns-in_err-refused-clause-promises g c =
    keeps-before g.K.PartialEq.eq c.self.inside.entries.entries c.self.inside.cache c.args.self.now
    c.self.invariant.tickets c.self.invariant.promises c.self.invariant.keys c.self.view_is

-- what the test was asked of is what callers see
seen-pairs : {K V : Type 0} (entries : List (K × Ticketed V)) (cache : CacheState) (old : MapState K V) → AreInStep entries cache.entries → map_of entries cache ≡ old
    → unticketed entries ≡ pairs_of old.entries
seen-pairs entries cache old step is = sym (joined-pairs entries cache.entries step) ∙ ap (λ (s : MapState _ _). pairs_of s.entries) is

pub returns-in_err-refused-clause-refused : goal.returns-in_err-refused-clause-refused
returns-in_err-refused-clause-refused g c =
    let pairs = seen-pairs c.self.inside.entries.entries c.self.inside.cache c.args.self.now c.self.invariant.tickets c.self.view_is in
    on-err c.from_residual.result
    (subst (λ (l : List (g.row.K.Denot × g.row.V.Denot)). RefusesSome g.F.FnMut c.args.keeps (reverse l)) pairs c.in_err-refused.ensures.err)

pub returns-clause-retained : goal.returns-clause-retained
returns-clause-retained g c equal =
    let es = c.self.inside.entries.entries in
    let pairs = seen-pairs es c.self.inside.cache c.args.self.now c.self.invariant.tickets c.self.view_is in
    let listed : c.as_slice.result.now ≡ c.in_ok-refused.refused.items = search rules in
    retained g.K.PartialEq.eq g.met.K.Eq.laws g.F.FnMut g.K.Clone.is_clone c.args.keeps c.in_ok-refused.refused.items c.args.self.now c.remove_all.new.self
    (keeps-before g.K.PartialEq.eq es c.self.inside.cache c.args.self.now c.self.invariant.tickets c.self.invariant.promises c.self.invariant.keys c.self.view_is).keys
    (subst (λ (l : List (g.row.K.Denot × g.row.V.Denot)). Refuses g.F.FnMut g.K.Clone.is_clone c.args.keeps (reverse l) c.in_ok-refused.refused.items) pairs
    c.in_ok-refused.ensures.ok)
    equal (c.remove_all.ensures.removed ∙ ap (without_keys g.K.PartialEq.eq c.args.self.now) listed)
