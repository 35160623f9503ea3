use Rattle.std.proofs.Common.{◌≡◌, ◌≤◌, List, length, subst, rules, arith}
use Rattle.std.specs.NonZero.{non_zero_usize_get}
use Rattle.glyph_shelf.specs.Private.Restoring.{AreRestored}
use Rattle.glyph_shelf.specs.declared.saving.SavedKey.{SavedKey}
use Rattle.glyph_shelf.proofs.Restoring.{restored-cache}
use Rattle.glyph_shelf.proofs.kept.Kept.restored.Goals as goal

pub returns-clause-ok : goal.returns-clause-ok
returns-clause-ok c =
    let most = non_zero_usize_get c.in-Some.most in
    let same : most ≡ c.args.snapshot.capacity = search rules in
    let some : 1 ≤ most = let positive = c.in-Some.most.ok in omega arith in
    let few : length c.as_slice.result.now ≤ most = search rules in
    let keys = c.as_slice.ensures.value in
    restored-cache c.args.snapshot most c.in_ok-atlas.atlas c.in_ok-entries.entries same some
    (subst (λ (l : List SavedKey). length l ≤ most) keys few) c.in_ok-atlas.ensures.stands c.in_ok-atlas.ensures.promises
    (subst (λ (l : List SavedKey). AreRestored l most c.in_ok-atlas.atlas c.in_ok-entries.entries) keys c.in_ok-entries.ensures.restored)

pub returns-clause-promises : goal.returns-clause-promises
returns-clause-promises c = (returns-clause-ok c).promises

pub invariant_of-result : goal.invariant_of-result
invariant_of-result c =
    let most = non_zero_usize_get c.in-Some.most in
    let same : most ≡ c.args.snapshot.capacity = search rules in
    let some : 1 ≤ most = let positive = c.in-Some.most.ok in omega arith in
    let few : length c.as_slice.result.now ≤ most = search rules in
    let keys = c.as_slice.ensures.value in
    let stands = restored-cache c.args.snapshot most c.in_ok-atlas.atlas c.in_ok-entries.entries same some
    (subst (λ (l : List SavedKey). length l ≤ most) keys few) c.in_ok-atlas.ensures.stands c.in_ok-atlas.ensures.promises
    (subst (λ (l : List SavedKey). AreRestored l most c.in_ok-atlas.atlas c.in_ok-entries.entries) keys c.in_ok-entries.ensures.restored) in
    stands.promises
