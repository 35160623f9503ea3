-- How bytes that a separator parts are read from the front.
use Rattle.std.proofs.Common.{◌≡◌, ◌≢◌, ℕ, ◌<◌, List, [], ◌∷◌, ◌++◌, length, cond, true, false, arith, refl, ap, ◌∙◌}
use Rattle.std.specs.Prelude.{◌==◌}
use Rattle.std.specs.List.{onto_first}
use Rattle.std.proofs.lemmas.Bool.Decides.{nat_tests}
use Rattle.std.proofs.lemmas.List.Elements.{All-cons, All-head, All-tail}
use Rattle.run_scripts.specs.Lines.{before_pieces, parted, Lacks}

-- the first byte is no separator
Lacks-head : (separator x : ℕ) (xs : List ℕ) → Lacks separator (x ∷ xs) → x ≢ separator
Lacks-head separator = All-head (λ byte. byte ≢ separator)

-- no later byte is one
Lacks-tail : (separator x : ℕ) (xs : List ℕ) → Lacks separator (x ∷ xs) → Lacks separator xs
Lacks-tail separator = All-tail (λ byte. byte ≢ separator)

-- one more byte that is no separator
pub Lacks-cons : (separator x : ℕ) (xs : List ℕ) → x ≢ separator → Lacks separator xs → Lacks separator (x ∷ xs)
Lacks-cons separator = All-cons (λ byte. byte ≢ separator)

-- a byte is its own
same_byte : (n : ℕ) → (n == n) ≡ true
same_byte n = grind (arith, nat_tests)

-- bytes that differ test so
pub other_byte : (n m : ℕ) → n ≢ m → (n == m) ≡ false
other_byte n m h = grind (arith, nat_tests)

-- a separator begins an empty piece
pub before_pieces-separator : (separator : ℕ) (pieces : List (List ℕ)) → before_pieces separator separator pieces ≡ [] ∷ pieces
before_pieces-separator separator pieces = ap (λ t. cond t ([] ∷ pieces) (onto_first separator pieces)) (same_byte separator)

-- another byte goes onto the first piece
pub before_pieces-other : (separator byte : ℕ) (piece : List ℕ) (pieces : List (List ℕ)) → byte ≢ separator → before_pieces separator byte (piece ∷ pieces) ≡ (byte ∷ piece) ∷ pieces
before_pieces-other separator byte piece pieces h = ap (λ t. cond t ([] ∷ piece ∷ pieces) ((byte ∷ piece) ∷ pieces)) (other_byte byte separator h)

-- the first piece ends at the first separator
pub parted-append : (separator : ℕ) (end : List (List ℕ)) (xs ys : List ℕ) → Lacks separator xs → parted separator end (xs ++ separator ∷ ys) ≡ xs ∷ parted separator end ys
parted-append separator end [] ys lacks = before_pieces-separator separator (parted separator end ys)
parted-append separator end (x ∷ xs) ys lacks =
    ap (before_pieces separator x) (parted-append separator end xs ys (Lacks-tail separator x xs lacks))
    ∙ before_pieces-other separator x xs (parted separator end ys) (Lacks-head separator x xs lacks)

-- without a separator there is one piece
pub parted-one : (separator : ℕ) (xs : List ℕ) → Lacks separator xs → parted separator ([] ∷ []) xs ≡ xs ∷ []
parted-one separator [] lacks = refl
parted-one separator (x ∷ xs) lacks =
    ap (before_pieces separator x) (parted-one separator xs (Lacks-tail separator x xs lacks))
    ∙ before_pieces-other separator x xs [] (Lacks-head separator x xs lacks)

-- bytes without a separator are one piece, though nothing ends them
pub parted-last : (separator : ℕ) (xs : List ℕ) → Lacks separator xs → 0 < length xs → parted separator [] xs ≡ xs ∷ []
parted-last separator [] lacks some = absurd (omega arith)
parted-last separator (x ∷ []) lacks some = ap (λ t. cond t ([] ∷ []) ((x ∷ []) ∷ [])) (other_byte x separator (Lacks-head separator x [] lacks))
parted-last separator (x ∷ y ∷ xs) lacks some =
    ap (before_pieces separator x) (parted-last separator (y ∷ xs) (Lacks-tail separator x (y ∷ xs) lacks) (omega arith))
    ∙ before_pieces-other separator x (y ∷ xs) [] (Lacks-head separator x (y ∷ xs) lacks)
