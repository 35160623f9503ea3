use Rattle.std.proofs.Common.{◌≡◌, Some, None, arith}
use Rattle.json.specs.Json.{read_key}
use Rattle.json.proofs.Grammar.{read_key-shorter}
use Rattle.saved_json.specs.Private.Held.{arrays_of}
use Rattle.saved_json.proofs.PassedItems.{value-shorter}
use Rattle.saved_json.proofs.PassedMembers.{members-begin, members-on, members-passed}
use Rattle.saved_json.proofs.holding.pass_members.Goals as goal

pub loop-kept-init : goal.loop-kept-init
loop-kept-init g c =
    members-begin
    (arrays_of g.S.Spelled.spells c.args.shelves.now c.args.name.now g.T.Spelled.spells c.args.others.now) 126
    c.args.reader.now c.new-kept.result.items c.new-kept.ensures.items

pub loop-kept-smaller : goal.loop-kept-smaller
loop-kept-smaller g c =
    let between = c.next_key.new.self in
    let key : read_key c.loop-kept.reader ≡ Some (Some c.in-Some.key.now, between) = grind arith in
    let passed = c.in_ok-value.ensures in
    let after_key = read_key-shorter c.loop-kept.reader (Some c.in-Some.key.now) between key in
    let after_value = value-shorter 126 between c.pass_member.new.reader passed.json passed.value_is in
    omega (arith, after_key, after_value)

pub loop-kept-preserved : goal.loop-kept-preserved
loop-kept-preserved g c =
    let between = c.next_key.new.self in
    let key : read_key c.loop-kept.reader ≡ Some (Some c.in-Some.key.now, between) = grind arith in
    members-on
    (arrays_of g.S.Spelled.spells c.args.shelves.now c.args.name.now g.T.Spelled.spells c.args.others.now) 126
    c.args.reader.now c.loop-kept.reader between c.pass_member.new.reader c.loop-kept.kept.items c.push.new.items.items
    (c.in-Some.key, c.in_ok-value.value) c.loop-kept.invariant key c.in_ok-value.ensures c.in_ok-push.ensures

pub returns : goal.returns
returns g c =
    let closed : read_key c.loop-kept.reader ≡ Some (None, c.next_key.new.self) = grind arith in
    members-passed
    (arrays_of g.S.Spelled.spells c.args.shelves.now c.args.name.now g.T.Spelled.spells c.args.others.now) 126
    c.args.reader.now c.loop-kept.reader c.next_key.new.self c.loop-kept.kept.items c.loop-kept.invariant closed
