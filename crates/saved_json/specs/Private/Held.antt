-- What was held against the tokens of a text.
use Rattle.std.specs.Prelude.{◌≡◌, ◌∷◌, ℕ, List, None, Some, codes, length}
use Rattle.std.specs.Bool.{MatchBool}
use Rattle.std.specs.Str.{bytes_eq}
use Rattle.json.specs.Json.{Json, array, Items, Members, no_members, member, members, value, after_end_array, read_key}
use Rattle.json.specs.Token.{Token, begin_object}
use Rattle.saved_json.specs.Records.{AreRecords}

-- a value is an array of these records
pub record IsArray {R : Type 0} (Is : Json → R → Type 0) (json : Json) (records : List R) : Type 0 where
  pub items : Items
  pub json_is : json ≡ array items
  pub records_are : AreRecords Is items records

-- the tokens begin with a value of which this holds
pub record Passes (depth : ℕ) (old : List Token) (P : Json → Type 0) (new : List Token) : Type 0 where
  pub json : Json
  pub value_is : value depth old ≡ Some (json, new)
  pub holds : P json

-- the array goes on with this record
pub record PassesItem {R : Type 0} (Is : Json → R → Type 0) (depth : ℕ) (old : List Token) (item : R) (new : List Token)
    : Type 0 where
  pub goes_on : after_end_array old ≡ None
  pub passes : Passes depth old (λ json. Is json item) new

-- the two arrays of records of a snapshot, and the name of the second
pub record Arrays (S T : Type 0) : Type 1 where
  pub IsFirst : Json → S → Type 0
  pub first : List S
  pub name : List ℕ
  pub IsSecond : Json → T → Type 0
  pub second : List T

abbrev pub arrays_of : {S T : Type 0} → (Json → S → Type 0) → List S → List ℕ → (Json → T → Type 0) → List T → Arrays S T
arrays_of IsFirst first name IsSecond second =
    record { IsFirst = IsFirst; first = first; name = name; IsSecond = IsSecond; second = second }

-- the member of a snapshot is one of its arrays, or what was kept of it
abbrev pub IsMember : {S T : Type 0} → Arrays S T → List ℕ → Json → Json → Type 0
IsMember arrays key kept json =
    MatchBool (bytes_eq key (codes "shelves")) (IsArray arrays.IsFirst json arrays.first)
    (MatchBool (bytes_eq key arrays.name) (IsArray arrays.IsSecond json arrays.second) (json ≡ kept))

-- what was kept of members, one by one
abbrev pub AreMembers : {S T : Type 0} → Arrays S T → Members → Members → Type 0
AreMembers arrays no_members no_members = Unit {0}
AreMembers arrays no_members (member key kept others) = ⊥
AreMembers arrays (member key json others) no_members = ⊥
AreMembers arrays (member key json rest) (member name kept others) =
    (key ≡ name) × IsMember arrays key kept json × AreMembers arrays rest others

-- the tokens begin with the members of an object, of which this was kept, and its closing brace
pub record PassesMembers {S T : Type 0} (arrays : Arrays S T) (depth : ℕ) (old : List Token) (kept : Members)
    (new : List Token) : Type 0 where
  pub all : Members
  pub members_are : members (value depth) (length old) old ≡ Some (all, new)
  pub kept_are : AreMembers arrays all kept

-- the tokens begin with an object whose first member has this name
pub record Opens (old : List Token) (name : List ℕ) (new : List Token) : Type 0 where
  pub between : List Token
  pub old_is : old ≡ begin_object ∷ between
  pub key_is : read_key between ≡ Some (Some name, new)
