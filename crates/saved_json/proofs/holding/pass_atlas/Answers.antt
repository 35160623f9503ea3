use Rattle.std.proofs.Common.{◌≡◌, ◌∷◌, refl}
use Rattle.json.specs.Token.{begin_object}
use Rattle.saved_json.proofs.HeldSnapshots.{atlas-passed}
use Rattle.saved_json.proofs.holding.pass_atlas.Goals as goal

pub returns-then-has_atlas_fields : goal.returns-then-has_atlas_fields
returns-then-has_atlas_fields c =
    let opened : c.args.reader.now ≡ begin_object ∷ c.next.new.self =
    rw c.in-Some-BeginObject.field-0-is at c.in-Some-BeginObject.ensures.value in
    atlas-passed c.args.snapshot.now c.args.reader.now c.next.new.self c.pass_members.new.reader
    c.in_ok-pass_members.field-0 c.as_slice-shelves.result.now c.as_slice-items.result.now _ _ opened
    c.as_slice-shelves.ensures.value c.as_slice-items.ensures.value c.in_ok-pass_members.ensures c.in-Some.ensures
    c.in-Some-field.ensures (c.if-has_atlas_fields.ensures refl)
