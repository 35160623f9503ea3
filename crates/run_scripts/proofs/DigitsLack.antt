-- Digits lack each byte that is no digit, so that they are one piece, and one without a sign.
use Rattle.std.proofs.Common.{◌≡◌, ◌≢◌, ℕ, ◌-◌, ◌^◌, cond, true, false, pos, List, [], ◌∷◌, Some, refl, ap, ◌∙◌, subst}
use Rattle.std.proofs.lemmas.Bool.{false≢true, and_parts}
use Rattle.std.proofs.lemmas.List.Elements.{All-nil}
use Rattle.std.proofs.lemmas.Option.{cond_some}
use Rattle.std.specs.Prelude.{neg_ℤ, option_map}
use Rattle.std.specs.Char.{is_ascii_digit}
use Rattle.std.specs.Str.{all_ascii_digits}
use Rattle.run_scripts.specs.Lines.{Lacks}
use Rattle.run_scripts.specs.Numbers.{are_digits, natural_of, number_of}
use Rattle.run_scripts.proofs.Pieces.{Lacks-cons, other_byte}

-- a digit is no other byte
digit-other : (other : ℕ) → is_ascii_digit other ≡ false → (x : ℕ) → is_ascii_digit x ≡ true → x ≢ other
digit-other other apart x h = λ same. absurd (false≢true (subst (λ b. b ≡ true) apart (subst (λ y. is_ascii_digit y ≡ true) same h)))

-- digits have no other byte among them
digits-lack : (other : ℕ) → is_ascii_digit other ≡ false → (bytes : List ℕ) → all_ascii_digits bytes ≡ true → Lacks other bytes
digits-lack other apart [] h = All-nil (λ byte. byte ≢ other)
digits-lack other apart (x ∷ xs) h =
    let both = and_parts (is_ascii_digit x) (all_ascii_digits xs) h in
    Lacks-cons other x xs (digit-other other apart x both.0) (digits-lack other apart xs both.1)

-- one or more digits have no other byte among them
are_digits-lack : (other : ℕ) → is_ascii_digit other ≡ false → (bytes : List ℕ) → are_digits bytes ≡ true → Lacks other bytes
are_digits-lack other apart [] h = absurd (false≢true h)
are_digits-lack other apart (x ∷ xs) h = digits-lack other apart (x ∷ xs) h

-- what stands for a natural number has no other byte
pub natural-lacks : (other : ℕ) → is_ascii_digit other ≡ false → (greatest n : ℕ) (bytes : List ℕ) → natural_of greatest bytes ≡ Some n → Lacks other bytes
natural-lacks other apart greatest n bytes h = are_digits-lack other apart bytes (and_parts (are_digits bytes) _ (cond_some _ _ n h).0).0

-- what stands for a natural number is a number without a sign
pub number-natural : (n : ℕ) (word : List ℕ) → natural_of (2 ^ 31 - 1) word ≡ Some n → number_of word ≡ Some (pos n)
number-natural n [] h = cc
number-natural n (x ∷ xs) h =
    let digits = (and_parts (are_digits (x ∷ xs)) _ (cond_some _ _ n h).0).0 in
    let digit = (and_parts (is_ascii_digit x) (all_ascii_digits xs) digits).0 in
    ap (λ t. cond t (option_map (λ m. neg_ℤ (pos m)) (natural_of (2 ^ 31) xs)) (option_map pos (natural_of (2 ^ 31 - 1) (x ∷ xs)))) (other_byte x 45 (digit-other 45 refl x digit))
    ∙ ap (option_map pos) h
