-- What the numbers and positions of a script stand for.
use Rattle.std.specs.Prelude.{ℕ, ◌+◌, ◌-◌, ◌*◌, ◌^◌, ℤ, pos, neg_ℤ, Bool, false, ◌&&◌, List, [], ◌∷◌, length, Option, Some, None, option_map, nat_le, ◌==◌, if◌then◌else◌}
use Rattle.std.specs.Str.{all_ascii_digits}

-- the bytes `0` and `-`
abbrev pub digit_zero : ℕ
digit_zero = 48

abbrev pub minus_sign : ℕ
minus_sign = 45

-- the value of digits, each by its place
abbrev pub value_of : List ℕ → ℕ
value_of [] = 0
value_of (digit ∷ digits) = (digit - digit_zero) * 10 ^ length digits + value_of digits

-- one or more digits
abbrev pub are_digits : List ℕ → Bool
are_digits [] = false
are_digits (byte ∷ bytes) = all_ascii_digits (byte ∷ bytes)

-- what one or more digits stand for, up to a greatest value
abbrev pub natural_of : ℕ → List ℕ → Option ℕ
natural_of greatest word =
    if are_digits word && nat_le (value_of word) greatest then Some (value_of word) else None

-- digits, or a minus sign and digits, where the value fits an `i32`
abbrev pub number_of : List ℕ → Option ℤ
number_of [] = None
number_of (first ∷ rest) =
    if first == minus_sign
    then option_map (λ n. neg_ℤ (pos n)) (natural_of (2 ^ 31) rest)
    else option_map pos (natural_of (2 ^ 31 - 1) (first ∷ rest))

-- digits, where the value fits a `u32`
abbrev pub position_of : List ℕ → Option ℕ
position_of word = natural_of (2 ^ 32 - 1) word
