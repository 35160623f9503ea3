use Rattle.std.proofs.Common.{◌≡◌, ◌<◌, [], length, rules, arith}
use Rattle.std.proofs.lemmas.Result.{err_from_is_err_and}
use Rattle.std.specs.NonZero.{non_zero_usize_get}
use Rattle.shelf_model.specs.Places.{allocations}
use Rattle.glyph_shelf.proofs.Restoring.{refused-key, restored-all, restored-left, restoring-more, restoring-none, restoring-room}
use Rattle.glyph_shelf.proofs.saving.restored_keys.Goals as goal

pub loop-last-init : goal.loop-last-init
loop-last-init c =
    restoring-none c.args.saved.now (non_zero_usize_get c.args.capacity) c.args.atlas.now c.in-Ok.keys c.in-Ok-clone.left c.in-Ok.ensures
    (search rules) c.requires.promises

pub enter_saved-requires : goal.enter_saved-requires
enter_saved-requires c =
    let some : 0 < length c.loop-last.rest.now = let more = c.in-Some.ensures.cases.1 in omega arith in
    restoring-room c.args.saved.now c.loop-last.rest.now (non_zero_usize_get c.args.capacity) c.args.atlas.now c.loop-last.keys c.loop-last.left
    c.loop-last.invariant c.requires.few some

pub returns-in_err-enter_saved-clause-fault : goal.returns-in_err-enter_saved-clause-fault
returns-in_err-enter_saved-clause-fault c =
    let passed = err_from_is_err_and c.from_residual.result c.from_residual.ensures.1 in
    rw (passed.1, passed.2)
    (refused-key c.args.saved.now c.in-Some.before.now c.loop-last.rest.now c.in-Some.last.now (non_zero_usize_get c.args.capacity) c.args.atlas.now
    c.loop-last.keys c.loop-last.left c.loop-last.invariant c.in-Some.ensures.cases.0 c.in_err-enter_saved.field-0.0
    c.in_err-enter_saved.ensures.fault)

pub loop-last-preserved : goal.loop-last-preserved
loop-last-preserved c =
    restoring-more c.args.saved.now c.in-Some.before.now c.loop-last.rest.now c.in-Some.last.now (non_zero_usize_get c.args.capacity) c.args.atlas.now
    c.loop-last.keys c.enter_saved.new.keys c.loop-last.left c.enter_saved.new.left c.loop-last.invariant c.in-Some.ensures.cases.0
    c.in_ok-enter_saved.ensures.entered

pub returns-then-is_empty-clause-restored : goal.returns-then-is_empty-clause-restored
returns-then-is_empty-clause-restored c =
    let none : length c.loop-last.rest.now ≡ 0 = search rules in
    let nothing : allocations c.loop-last.left ≡ [] = c.is_empty.ensures.0 c.if-is_empty.true in
    restored-all c.args.saved.now c.loop-last.rest.now (non_zero_usize_get c.args.capacity) c.args.atlas.now c.loop-last.keys c.loop-last.left
    c.loop-last.invariant none nothing

pub returns-else-is_empty-clause-fault : goal.returns-else-is_empty-clause-fault
returns-else-is_empty-clause-fault c =
    let none : length c.loop-last.rest.now ≡ 0 = search rules in
    restored-left c.args.saved.now c.loop-last.rest.now (non_zero_usize_get c.args.capacity) c.args.atlas.now c.loop-last.keys c.loop-last.left
    c.loop-last.invariant none c.requires.promises
    (λ nothing. let empty = c.is_empty.ensures.1 nothing in let filled = c.if-is_empty.false in absurd (cc))
