-- What a field is of an object and of an array, as the code sees them.
use Rattle.std.proofs.Common.{◌≡◌, ◌∙◌, ◌==◌, true, ℕ, List, Option, Some, None, Vec, length, if◌then◌else◌, IfSome, sym, ap, eq-eqb, option_map}
use Rattle.std.specs.Borrow.{Bor}
use Rattle.json.specs.Find.{get_item}
use Rattle.json.specs.Json.{Json}
use Rattle.json.specs.Value.{items_view, members_view, value_view}
use Rattle.json.specs.declared.value.Value.{Value, Array, Object}
use Rattle.json.proofs.Trees.{view-Array, view-Object}
use Rattle.saved_json.specs.JsonFields.{field, item_count, the_only, values_named}
use Rattle.saved_json.proofs.ItemCounts.{item_count-view}

-- a value that was found is the field where the field is what was looked for
pub found-field : {A : Type 0} (found : Option (Bor (Value A))) (asked sought : Option Json) → asked ≡ sought
    → IfSome found (λ value. sought ≡ Some (value_view value.now))
    → IfSome found (λ value. asked ≡ Some (value_view value.now))
found-field None asked sought same is = tt
found-field (Some value) asked sought same is = same ∙ is

pub field-Object : {A : Type 0} (count position : ℕ) (name : List ℕ) (json : Value A)
    (members : Vec (Bor (List ℕ) × Value A) A) (slice : List (Bor (List ℕ) × Value A)) → json ≡ Object members
    → slice ≡ members.items → field count position name (value_view json) ≡ the_only (values_named name (members_view slice))
field-Object count position name json members slice is same =
    ap (λ j. field count position name (value_view j)) is
    ∙ ap (field count position name) (view-Object members)
    ∙ ap (λ ms. the_only (values_named name (members_view ms))) (sym same)

pub field-Array : {A : Type 0} (count position : ℕ) (name : List ℕ) (json : Value A) (items : Vec (Value A) A)
    → json ≡ Array items → length items.items ≡ count
    → field count position name (value_view json) ≡ get_item position (items_view items.items)
field-Array count position name json items is all =
    let counted : (item_count (items_view items.items) == count) ≡ true = eq-eqb _ _ (item_count-view items.items ∙ all) in
    ap (λ j. field count position name (value_view j)) is
    ∙ ap (field count position name) (view-Array items)
    ∙ ap (λ b. if b then get_item position (items_view items.items) else None) counted

-- what a look-up gave
pub found-item : {A : Type 0} (found : Option (Bor (Value A))) (sought : Option Json)
    → option_map (λ value. value_view value.now) found ≡ sought
    → IfSome found (λ value. sought ≡ Some (value_view value.now))
found-item None sought is = tt
found-item (Some value) sought is = sym is
