-- The fields of a record in its JSON value, and how numbers are spelled.
use Rattle.std.specs.Prelude.{ℕ, ℤ, List, [], ◌∷◌, ◌+◌, ◌==◌, Option, Some, None, if◌then◌else◌, decimal}
use Rattle.std.specs.Fmt.{signed_decimal}
use Rattle.std.specs.Str.{bytes_eq}
use Rattle.json.specs.Find.{get_item}
use Rattle.json.specs.Json.{Json, null, boolean, number, string, array, object, Items, no_items, item, Members, no_members, member}

-- the values of the members of that name, in order
abbrev pub values_named : List ℕ → Members → List Json
values_named name no_members = []
values_named name (member key value members) =
    if bytes_eq key name then value ∷ values_named name members else values_named name members

abbrev pub item_count : Items → ℕ
item_count no_items = 0
item_count (item first items) = 1 + item_count items

-- the value of a list that has no other
abbrev pub the_only : List Json → Option Json
the_only [] = None
the_only (value ∷ []) = Some value
the_only (value ∷ other ∷ values) = None

-- A field of a record with so many fields: the value of the only member of its name, or, of an array with as many
-- items as the record has fields, the item at its place.
abbrev pub field : ℕ → ℕ → List ℕ → Json → Option Json
field count position name (object members) = the_only (values_named name members)
field count position name (array items) = if item_count items == count then get_item position items else None
field count position name null = None
field count position name (boolean value) = None
field count position name (number text) = None
field count position name (string text) = None

-- the number with these digits, and a minus sign before them where it is below 0
abbrev pub natural : ℕ → Json
natural value = number (decimal value)

abbrev pub whole : ℤ → Json
whole value = number (signed_decimal value)
