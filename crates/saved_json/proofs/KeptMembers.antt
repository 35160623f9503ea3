-- What was kept of the members of a snapshot tells its fields.
use Rattle.std.proofs.Common.{◌≡◌, ◌∙◌, ℕ, Bool, true, false, List, [], ◌∷◌, Some, if◌then◌else◌, refl, ap, subst}
use Rattle.std.specs.Prelude.{codes}
use Rattle.std.specs.Bool.{MatchBool}
use Rattle.std.specs.Str.{bytes_eq}
use Rattle.std.proofs.lemmas.Slice.Eq.{bytes_eq-Decides}
use Rattle.json.specs.Json.{Json, Members, no_members, member}
use Rattle.saved_json.specs.JsonFields.{the_only, values_named}
use Rattle.saved_json.specs.Private.Held.{AreMembers, Arrays, IsArray, IsMember}
use Rattle.saved_json.specs.Snapshots.{IsArrayOf}

-- a key of one name isn't of another
other-key : (key name other : List ℕ) → bytes_eq key name ≡ true → bytes_eq name other ≡ false
    → bytes_eq key other ≡ false
other-key key name other same differs = ap (λ k. bytes_eq k other) ((bytes_eq-Decides key name).0 same) ∙ differs

-- a member that is no array was kept
kept-member : {S T : Type 0} (arrays : Arrays S T) (key name : List ℕ) (kept json : Json)
    → bytes_eq name (codes "shelves") ≡ false → bytes_eq name arrays.name ≡ false → bytes_eq key name ≡ true
    → IsMember arrays key kept json → json ≡ kept
kept-member arrays key name kept json first second same is =
    let Second = MatchBool (bytes_eq key arrays.name) (IsArray arrays.IsSecond json arrays.second) (json ≡ kept) in
    let below : Second =
    subst (λ (b : Bool). MatchBool b (IsArray arrays.IsFirst json arrays.first) Second)
    (other-key key name (codes "shelves") same first) is in
    subst (λ (b : Bool). MatchBool b (IsArray arrays.IsSecond json arrays.second) (json ≡ kept))
    (other-key key name arrays.name same second) below

named-turn : (b : Bool) (one other : Json) (values others : List Json) → (b ≡ true → one ≡ other) → values ≡ others
    → (if b then one ∷ values else values) ≡ (if b then other ∷ others else others)
named-turn true one other values others same rest = ap (λ v. v ∷ values) (same refl) ∙ ap (λ vs. other ∷ vs) rest
named-turn false one other values others same rest = rest

-- the values of a name that is no array's
pub kept-values : {S T : Type 0} (arrays : Arrays S T) (name : List ℕ) → bytes_eq name (codes "shelves") ≡ false
    → bytes_eq name arrays.name ≡ false → (all kept : Members) → AreMembers arrays all kept
    → values_named name all ≡ values_named name kept
kept-values arrays name first second no_members no_members are = refl
kept-values arrays name first second no_members (member k j kept) are = absurd are
kept-values arrays name first second (member key json all) no_members are = absurd are
kept-values arrays name first second (member key json all) (member k j kept) (same, is, are) =
    named-turn (bytes_eq key name) json j (values_named name all) (values_named name kept)
    (λ b. kept-member arrays key name j json first second b is) (kept-values arrays name first second all kept are)
    ∙ ap (λ one. if bytes_eq one name then j ∷ values_named name kept else values_named name kept) same

-- arrays of these records, one for each value that was kept
abbrev AreArrays : {R : Type 0} → (Json → R → Type 0) → List R → List Json → List Json → Type 0
AreArrays Is records [] [] = Unit {0}
AreArrays Is records [] (k ∷ kept) = ⊥
AreArrays Is records (value ∷ values) [] = ⊥
AreArrays Is records (value ∷ values) (k ∷ kept) = IsArray Is value records × AreArrays Is records values kept

arrays-turn : {R : Type 0} (Is : Json → R → Type 0) (records : List R) (b : Bool) (one other : Json)
    (values others : List Json) → (b ≡ true → IsArray Is one records) → AreArrays Is records values others
    → AreArrays Is records (if b then one ∷ values else values) (if b then other ∷ others else others)
arrays-turn Is records true one other values others is rest = (is refl, rest)
arrays-turn Is records false one other values others is rest = rest

kept-arrays : {R S T : Type 0} (arrays : Arrays S T) (Is : Json → R → Type 0) (records : List R) (name : List ℕ)
    → ((key : List ℕ) (kept json : Json) → bytes_eq key name ≡ true → IsMember arrays key kept json
    → IsArray Is json records)
    → (all kept : Members) → AreMembers arrays all kept
    → AreArrays Is records (values_named name all) (values_named name kept)
kept-arrays arrays Is records name array_is no_members no_members are = tt
kept-arrays arrays Is records name array_is no_members (member k j kept) are = absurd are
kept-arrays arrays Is records name array_is (member key json all) no_members are = absurd are
kept-arrays arrays Is records name array_is (member key json all) (member k j kept) (same, is, are) =
    let turned = arrays-turn Is records (bytes_eq key name) json j (values_named name all) (values_named name kept)
    (λ b. array_is key j json b is) (kept-arrays arrays Is records name array_is all kept are) in
    subst (λ (one : List ℕ). AreArrays Is records (values_named name (member key json all))
    (if bytes_eq one name then j ∷ values_named name kept else values_named name kept)) same turned

only-array : {R : Type 0} (Is : Json → R → Type 0) (records : List R) (values kept : List Json) (value : Json)
    → AreArrays Is records values kept → the_only kept ≡ Some value → IsArrayOf Is (the_only values) records
only-array Is records [] [] value are is = cc
only-array Is records [] (k ∷ kept) value are is = absurd are
only-array Is records (v ∷ values) [] value are is = absurd are
only-array Is records (v ∷ []) (k ∷ []) value (first, are) is = (first.items, ap Some first.json_is, first.records_are)
only-array Is records (v ∷ []) (k ∷ j ∷ kept) value (first, are) is = absurd are
only-array Is records (v ∷ w ∷ values) (k ∷ []) value (first, are) is = absurd are
only-array Is records (v ∷ w ∷ values) (k ∷ j ∷ kept) value are is = cc

-- the first array, and the second
pub first-array : {S T : Type 0} (arrays : Arrays S T) (all kept : Members) (value : Json)
    → AreMembers arrays all kept → the_only (values_named (codes "shelves") kept) ≡ Some value
    → IsArrayOf arrays.IsFirst (the_only (values_named (codes "shelves") all)) arrays.first
first-array {S = S} {T = T} arrays all kept value are is =
    only-array arrays.IsFirst arrays.first _ _ value
    (kept-arrays arrays arrays.IsFirst arrays.first (codes "shelves")
    (λ key k json same member_is.
    subst (λ (b : Bool). MatchBool b (IsArray arrays.IsFirst json arrays.first)
    (MatchBool (bytes_eq key arrays.name) (IsArray arrays.IsSecond json arrays.second) (json ≡ k))) same member_is)
    all kept are)
    is

pub second-array : {S T : Type 0} (arrays : Arrays S T) (all kept : Members) (value : Json)
    → bytes_eq arrays.name (codes "shelves") ≡ false → AreMembers arrays all kept
    → the_only (values_named arrays.name kept) ≡ Some value
    → IsArrayOf arrays.IsSecond (the_only (values_named arrays.name all)) arrays.second
second-array {S = S} {T = T} arrays all kept value differs are is =
    only-array arrays.IsSecond arrays.second _ _ value
    (kept-arrays arrays arrays.IsSecond arrays.second arrays.name
    (λ key k json same member_is.
    let Second = MatchBool (bytes_eq key arrays.name) (IsArray arrays.IsSecond json arrays.second) (json ≡ k) in
    let below : Second =
    subst (λ (b : Bool). MatchBool b (IsArray arrays.IsFirst json arrays.first) Second)
    (other-key key arrays.name (codes "shelves") same differs) member_is in
    subst (λ (b : Bool). MatchBool b (IsArray arrays.IsSecond json arrays.second) (json ≡ k)) same below)
    all kept are)
    is
