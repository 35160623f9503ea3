-- A number that is read digit by digit.
use Rattle.std.specs.Prelude.{ℕ, ◌+◌, ◌-◌, ◌*◌, ◌^◌, ◌&&◌, Option, Some, None, nat_le, if◌then◌else◌}
use Rattle.std.specs.Char.{is_ascii_digit}
use Rattle.run_scripts.specs.Numbers.{digit_zero}

-- a value and one more digit behind it, where it fits a `u64`
abbrev pub with_digit : ℕ → ℕ → Option ℕ
with_digit value byte =
    if is_ascii_digit byte && nat_le (value * 10 + (byte - digit_zero)) (2 ^ 64 - 1)
    then Some (value * 10 + (byte - digit_zero))
    else None
