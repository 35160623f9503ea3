-- How many items an array has.
use Rattle.std.proofs.Common.{◌≡◌, List, [], ◌∷◌, length, refl, arith}
use Rattle.json.specs.Value.{items_view}
use Rattle.json.specs.declared.value.Value.{Value}
use Rattle.saved_json.specs.JsonFields.{item_count}

pub item_count-view : {A : Type 0} (values : List (Value A)) → item_count (items_view values) ≡ length values
item_count-view [] = refl
item_count-view (value ∷ values) = omega (arith, item_count-view values)
