use Rattle.std.proofs.Common.{◌≡◌, ◌∷◌, Some, arith}
use Rattle.json.specs.Json.{after_end_array}
use Rattle.json.specs.Token.{begin_array}
use Rattle.saved_json.proofs.PassedItems.{array-passed, spells-end, spells-on}
use Rattle.saved_json.proofs.holding.pass_records.Goals as goal

pub loop-record-preserved : goal.loop-record-preserved
loop-record-preserved g c =
    spells-on g.R.Spelled.spells 125 c.next.new.self c.loop-record.reader c.pass_item.new.reader c.args.records.now
    c.loop-record.record-index c.record-item.result (omega arith) c.record-item.is c.loop-record.invariant
    c.in_ok-pass_item.ensures

pub returns-then-take_end_array : goal.returns-then-take_end_array
returns-then-take_end_array g c =
    let first : c.args.reader.now ≡ begin_array ∷ c.next.new.self =
    rw c.in-Some-BeginArray.field-0-is at c.in-Some-BeginArray.ensures.value in
    let closed : after_end_array c.loop-record.reader ≡ Some c.take_end_array.new.self = grind arith in
    array-passed g.R.Spelled.spells c.args.reader.now c.next.new.self c.take_end_array.new.self c.args.records.now first
    (spells-end g.R.Spelled.spells 125 c.next.new.self c.loop-record.reader c.take_end_array.new.self
    c.args.records.now c.loop-record.record-index (omega arith) c.loop-record.invariant closed)
