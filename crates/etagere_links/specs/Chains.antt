-- Lists that links spell.
use Rattle.std.specs.Prelude.{◌≡◌, ℕ, Option, None, Some, List, [], ◌∷◌}

-- following the links from a start on meets just these, and then the end
abbrev pub Leads : (ℕ → Option ℕ) → Option ℕ → List ℕ → Option ℕ → Type 0
Leads next start [] end = start ≡ end
Leads next start (x ∷ xs) end = (start ≡ Some x) × Leads next (next x) xs end

-- the links spell this list
abbrev pub IsList : (ℕ → Option ℕ) → Option ℕ → List ℕ → Type 0
IsList next first xs = Leads next first xs None
