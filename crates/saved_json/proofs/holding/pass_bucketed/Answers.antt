use Rattle.std.proofs.Common.{◌≡◌, ◌∷◌, refl}
use Rattle.json.specs.Token.{begin_object}
use Rattle.saved_json.proofs.HeldSnapshots.{bucketed-passed}
use Rattle.saved_json.proofs.holding.pass_bucketed.Goals as goal

pub returns-then-has_bucketed_fields : goal.returns-then-has_bucketed_fields
returns-then-has_bucketed_fields c =
    let opened : c.args.reader.now ≡ begin_object ∷ c.next.new.self =
    rw c.in-Some-BeginObject.field-0-is at c.in-Some-BeginObject.ensures.value in
    bucketed-passed c.args.snapshot.now c.args.reader.now c.next.new.self c.pass_members.new.reader
    c.in_ok-pass_members.field-0 c.as_slice-shelves.result.now c.as_slice-buckets.result.now _ _ opened
    c.as_slice-shelves.ensures.value c.as_slice-buckets.ensures.value c.in_ok-pass_members.ensures c.in-Some.ensures
    c.in-Some-field.ensures (c.if-has_bucketed_fields.ensures refl)
