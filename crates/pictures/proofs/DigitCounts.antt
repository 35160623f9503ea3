-- How many digits a number has.
use Rattle.std.proofs.Common.{◌≡◌, ℕ, zero, suc, ◌+◌, ◌*◌, ◌/◌, ◌%◌, ◌^◌, ◌<◌, ◌≤◌, List, length, arith, sym, ap, length-append, ◌++◌, ◌∷◌, [], take, drop, ◌∙◌}
use Rattle.std.proofs.lemmas.Fmt.{decimal_nonempty, decimal_step, length-decimal-le}
use Rattle.std.proofs.Math.Seq.{take-add, take-length}
use Rattle.std.proofs.lemmas.List.{take-append-le}
use Rattle.std.specs.Fmt.{decimal}
use native.Mathlib.Numerals.{unary_clauses}

some-power : (k : ℕ) → 0 < 10 ^ k
some-power zero = omega arith
some-power (suc k) = let next : 10 ^ (suc k) ≡ 10 * 10 ^ k = simp unary_clauses (omega arith) in omega (arith, next, some-power k)

-- a number from a power of ten on has more digits than that has zeros
more-digits : (k n : ℕ) → 10 ^ k ≤ n → n < 2 ^ 32 → k < length (decimal n)
more-digits zero n least less = decimal_nonempty n (omega arith)
more-digits (suc k) n least less =
    let next : 10 ^ (suc k) ≡ 10 * 10 ^ k = simp unary_clauses (omega arith) in
    let some = some-power k in
    let before = more-digits k (n / 10) (omega (arith, next, least)) (omega arith) in
    rw (decimal_step n (omega (arith, next, some, least)) (omega arith)) (omega (arith, before, length-append (decimal (n / 10)) ((48 + n % 10) ∷ [])))

-- a number from a power of ten on and below the next has a digit more than that has zeros
pub digits-between : (k n : ℕ) → 10 ^ k ≤ n → n < 10 * 10 ^ k → n < 2 ^ 32 → k + 1 ≡ length (decimal n)
digits-between k n least most less =
    let next : 10 ^ (suc k) ≡ 10 * 10 ^ k = simp unary_clauses (omega arith) in
    omega (arith, more-digits k n least less, length-decimal-le (suc k) n (omega arith) (omega (arith, next, most)) (omega arith))

-- digits that were written into a buffer stand behind what it had before
pub written-behind : (old new digits rest : List ℕ) (at start : ℕ) → start ≡ at → drop start new ≡ digits ++ rest → take start new ≡ take start old → take (at + length digits) new ≡ take at old ++ digits
written-behind old new digits rest at start same written before =
    take-add at (length digits) new
    ∙ ap (λ l. take at new ++ take (length digits) l) (sym (ap (λ n. drop n new) same) ∙ written)
    ∙ ap (λ l. take at new ++ l) (take-append-le (length digits) digits rest (omega arith) ∙ take-length digits)
    ∙ ap (λ l. l ++ digits) (sym (ap (λ n. take n new) same) ∙ before ∙ ap (λ n. take n old) same)
