-- An object that has one member, seen through the slice of its members.
use Rattle.std.proofs.Common.{◌≡◌, ◌∙◌, ◌∷◌, List, ℕ, Vec, [], ap, arith, get_or, length, sym, true}
use Rattle.std.proofs.lemmas.Slice.Eq.{bytes_eq-Decides}
use Rattle.std.specs.Borrow.{Bor}
use Rattle.std.specs.Str.{bytes_eq}
use Rattle.json.specs.Json.{member, no_members, object}
use Rattle.json.specs.Value.{members_view, value_view}
use Rattle.json.specs.declared.value.Value.{Value, Object}
use Rattle.json.proofs.Trees.{view-Object}

first-alone : {A : Type 0} (members : List (Bor (List ℕ) × Value A)) (name : List ℕ)
    (named valued : Bor (List ℕ) × Value A) → length members ≡ 1
    → bytes_eq (get_or members 0 named).0.now name ≡ true
    → members_view members ≡ member name (value_view (get_or members 0 valued).1) no_members
first-alone [] name named valued one is = absurd (omega arith)
first-alone (only ∷ []) name named valued one is =
    ap (λ (x : List ℕ). member x (value_view only.1) no_members) ((bytes_eq-Decides only.0.now name).0 is)
first-alone (first ∷ second ∷ rest) name named valued one is = absurd (omega arith)

-- the value of an object whose only member has this name
pub only-member : {A : Type 0} (json : Value A) (object_of : Vec (Bor (List ℕ) × Value A) A)
    (members : List (Bor (List ℕ) × Value A)) (name : List ℕ) (named valued : Bor (List ℕ) × Value A)
    → json ≡ Object object_of → members ≡ object_of.items → length members ≡ 1
    → bytes_eq (get_or members 0 named).0.now name ≡ true
    → value_view json ≡ object (member name (value_view (get_or members 0 valued).1) no_members)
only-member json object_of members name named valued is same one has =
    ap value_view is ∙ view-Object object_of ∙ ap (λ ms. object (members_view ms)) (sym same)
    ∙ ap object (first-alone members name named valued one has)
