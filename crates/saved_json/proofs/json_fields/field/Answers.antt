use Rattle.std.proofs.Common.{◌≡◌, ◌∙◌, length, ap, arith}
use Rattle.json.specs.Find.{at}
use Rattle.json.specs.Value.{value_view}
use Rattle.json.proofs.Trees.{view-Array}
use Rattle.saved_json.proofs.FieldsFound.{field-Array, field-Object, found-field, found-item}
use Rattle.saved_json.proofs.json_fields.field.Goals as goal

pub returns-in-Object : goal.returns-in-Object
returns-in-Object c =
    found-field c.only_named.result _ _
    (field-Object c.args.count c.args.position c.args.name.now c.args.json.now c.in-Object.members c.as_slice.result.now
    c.in-Object.is c.as_slice.ensures.value)
    c.only_named.ensures

pub returns-in-Array : goal.returns-in-Array
returns-in-Array c =
    let items = c.in-Array.items in
    let all : length items.items ≡ c.args.count = grind arith in
    found-field c.at.result _ _
    (field-Array c.args.count c.args.position c.args.name.now c.args.json.now items c.in-Array.is
    all)
    (found-item c.at.result _ (c.at.ensures ∙ ap (λ j. at c.args.position (value_view j)) c.in-Array.is
    ∙ ap (at c.args.position) (view-Array items)))
