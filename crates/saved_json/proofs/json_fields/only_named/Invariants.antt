use Rattle.std.proofs.Common.{◌≡◌, ◌++◌, drop, option_map, List, [], ◌∷◌, Option, Some, None}
use Rattle.json.specs.Json.{Json}
use Rattle.json.specs.Value.{value_view, members_view}
use Rattle.saved_json.specs.JsonFields.{values_named}
use Rattle.saved_json.proofs.json_fields.only_named.Given as goal

abbrev listed : Option Json → List Json
listed None = []
listed (Some value) = value ∷ []

-- the members of that name are what was found and those still to come
abbrev pub invariant-loop-member : goal.invariant-loop-member
invariant-loop-member l =
    values_named l.name (members_view l.members)
    ≡ listed (option_map (λ value. value_view value.now) l.only)
    ++ values_named l.name (members_view (drop l.member-index l.members))
