-- Decimal digits, two at a time, and the table that has them.
use Rattle.std.proofs.Common.{◌≡◌, ℕ, zero, suc, ◌+◌, ◌-◌, ◌*◌, ◌/◌, ◌%◌, ◌^◌, ◌<◌, ◌≤◌, Bool, true, ◌&&◌, T, eqb, List, ◌++◌, get_or, refl, inl, inr, arith, eq-zero-or-pos, eqb→eq, append_assoc}
use Rattle.std.specs.Prelude.{codes}
use Rattle.std.proofs.lemmas.Fmt.{decimal_digit, decimal_step}
use Rattle.std.specs.Fmt.{decimal}
use Rattle.run_scripts.specs.DigitPairs.{pair_text}
use lib.Ieee.Fits.{and_l, and_r}

-- the digits of each number below 100, one number after another
abbrev pub pairs : List ℕ
pairs =
    codes "00010203040506070809101112131415161718192021222324252627282930313233343536373839404142434445464748495051525354555657585960616263646566676869707172737475767778798081828384858687888990919293949596979899"

abbrev has_pairs_below : ℕ → Bool
has_pairs_below zero = true
has_pairs_below (suc p) =
    (eqb (get_or pairs (p * 2) 0) (48 + p / 10) && eqb (get_or pairs (p * 2 + 1) 0) (48 + p % 10)) && has_pairs_below p

below : (n p : ℕ) → T (has_pairs_below n) → p < n → (get_or pairs (p * 2) 0 ≡ 48 + p / 10) × (get_or pairs (p * 2 + 1) 0 ≡ 48 + p % 10)
below zero p has less = absurd (omega arith)
below (suc n) p has less =
    elim (eq-zero-or-pos (n - p)) [
      | inl none ↦ let last : p ≡ n = omega arith in
          let both = and_l _ (has_pairs_below n) has in
          rw last (eqb→eq _ _ (and_l _ _ both), eqb→eq _ _ (and_r _ _ both))
      | inr some ↦ below n p (and_r _ (has_pairs_below n) has) (omega arith)
    ]

-- the table has the two digits of each number
pub pairs-at : (p : ℕ) → p < 100 → (get_or pairs (p * 2) 0 ≡ 48 + p / 10) × (get_or pairs (p * 2 + 1) 0 ≡ 48 + p % 10)
pairs-at p less = below 100 p tt less

pub two-digits : (n : ℕ) → 10 ≤ n → n < 100 → decimal n ≡ pair_text n
two-digits n least less = rw (decimal_step n least (omega arith), decimal_digit (n / 10) (omega arith)) refl

-- the last two digits stand behind those of a hundredth
pub last-pair : (n : ℕ) → 100 ≤ n → n < 2 ^ 32 → decimal n ≡ decimal (n / 100) ++ pair_text (n % 100)
last-pair n least less =
    let hundredth : n / 10 / 10 ≡ n / 100 = omega arith in
    let tens : n / 10 % 10 ≡ n % 100 / 10 = omega arith in
    let ones : n % 10 ≡ n % 100 % 10 = omega arith in
    rw (decimal_step n (omega arith) (omega arith), decimal_step (n / 10) (omega arith) (omega arith), append_assoc, hundredth, tens, ← ones) refl

-- four digits are two pairs
pub two-pairs : (n : ℕ) → 1000 ≤ n → n < 10000 → decimal n ≡ pair_text (n / 100) ++ pair_text (n % 100)
two-pairs n least less = rw (last-pair n (omega arith) (omega arith), two-digits (n / 100) (omega arith) (omega arith)) refl

-- the last four digits stand behind those of a ten-thousandth
pub last-four : (n : ℕ) → 10000 ≤ n → n < 2 ^ 32 → decimal n ≡ decimal (n / 10000) ++ (pair_text (n % 10000 / 100) ++ pair_text (n % 10000 % 100))
last-four n least less =
    let rest : n / 100 / 100 ≡ n / 10000 = omega arith in
    let upper : n / 100 % 100 ≡ n % 10000 / 100 = omega arith in
    let lower : n % 10000 % 100 ≡ n % 100 = omega arith in
    rw (last-pair n (omega arith) less, last-pair (n / 100) (omega arith) (omega arith), append_assoc, rest, upper, lower) refl
