-- Lines that are read in one pass: the digits so far, and a letter before one or two numbers.
use Rattle.std.proofs.Common.{◌≡◌, ◌≢◌, ℕ, suc, ◌+◌, ◌-◌, ◌*◌, ◌^◌, ◌<◌, ◌≤◌, Bool, true, cond, ◌&&◌, pos, List, [], ◌∷◌, ◌++◌, length, get_or, take, drop, Option, Some, None, refl, ap, ◌∙◌, sym, arith, append_assoc, length-append}
use Rattle.std.specs.Prelude.{nat_le, option_map}
use Rattle.std.specs.Char.{is_ascii_digit}
use Rattle.std.proofs.Math.Nat.{pow-le-pow_right, pow-suc}
use Rattle.std.proofs.lemmas.Bool.Decides.{nat_tests}
use Rattle.std.proofs.lemmas.List.{append-nil, drop_more, length-take-le, take_more, take_rest}
use Rattle.std.proofs.lemmas.List.Elements.{All-append, All-nil}
use Rattle.run_scripts.specs.Lines.{Lacks, lines_of, words_of}
use Rattle.run_scripts.specs.Numbers.{natural_of}
use Rattle.run_scripts.specs.Words.{command_of}
use Rattle.run_scripts.specs.Private.Arguments.{Number, Sized, arguments_in}
use Rattle.run_scripts.specs.Private.PlainLines.{BeginsWithCommand, BeginsWithNumber}
use Rattle.run_scripts.proofs.Digits.{natural_after, natural_after-cons, natural_after-nil, natural_after-zero}
use Rattle.run_scripts.proofs.DigitsLack.{natural-lacks, number-natural}
use Rattle.run_scripts.proofs.Pieces.{Lacks-cons, parted-append, parted-one}

-- the byte at a place, and those after it
pub byte-at : (bytes : List ℕ) (i byte : ℕ) → i < length bytes → get_or bytes i 0 ≡ byte → drop i bytes ≡ byte ∷ drop (i + 1) bytes
byte-at bytes i byte within is = drop_more bytes i 0 within ∙ ap (λ b. b ∷ drop (i + 1) bytes) is

-- the same, where those after it are a slice
pub byte-before : (bytes : List ℕ) (i byte : ℕ) → i < length bytes → get_or bytes i 0 ≡ byte → drop i bytes ≡ byte ∷ take (length bytes - (i + 1)) (drop (i + 1) bytes)
byte-before bytes i byte within is = byte-at bytes i byte within is ∙ ap (λ l. byte ∷ l) (sym (take_rest bytes (i + 1)))

-- the first byte, the second, and those after them
pub two-first : (bytes : List ℕ) (byte : ℕ) → 2 ≤ length bytes → get_or bytes 1 0 ≡ byte → bytes ≡ get_or bytes 0 0 ∷ byte ∷ drop 2 bytes
two-first [] byte some is = absurd (omega arith)
two-first (x ∷ []) byte some is = absurd (omega arith)
two-first (x ∷ y ∷ xs) byte some is = ap (λ b. x ∷ b ∷ xs) is

-- a byte that is a digit tests so
pub digit-tests : (byte : ℕ) → 48 ≤ byte → byte ≤ 57 → is_ascii_digit byte ≡ true
digit-tests byte least most = grind (arith, nat_tests)

-- what passes both tests is kept
passes : (digit : Bool) (m n g : ℕ) (f : ℕ → Option ℕ) → digit ≡ true → m ≡ n → n ≤ g → cond (digit && nat_le m g) (f m) None ≡ f n
passes digit m n g f is same low = rw (is, same) (grind (arith, nat_tests))

-- the value of a few digits
pub few-below : (i value : ℕ) → i ≤ 8 → value < 10 ^ i → value < 100000000
few-below i value few below =
    let most : 10 ^ i ≤ 10 ^ 8 = pow-le-pow_right (omega arith) few in
    omega (arith, below, most)

-- the value of one digit more
pub more-below : (i value digit : ℕ) → digit ≤ 9 → value < 10 ^ i → value * 10 + digit < 10 ^ (i + 1)
more-below i value digit low below =
    let after : i + 1 ≡ suc i = omega arith in
    let next : 10 ^ (i + 1) ≡ 10 ^ i * 10 = rw (after, pow-suc) (omega arith) in
    omega (arith, next, low, below)

-- one more digit behind those so far
pub digit-more : (greatest v i e : ℕ) (bytes end : List ℕ) → i < length bytes → is_ascii_digit (get_or bytes i 0) ≡ true → e ≡ get_or bytes i 0 - 48 → v * 10 + e ≤ greatest
    → natural_after greatest 0 (take i bytes ++ (get_or bytes i 0 ∷ end)) ≡ natural_after greatest v (get_or bytes i 0 ∷ end)
    → natural_after greatest 0 (take (i + 1) bytes ++ end) ≡ natural_after greatest (v * 10 + e) end
digit-more greatest v i e bytes end within digit is low so_far =
    ap (λ l. natural_after greatest 0 (l ++ end)) (take_more bytes i 0 within)
    ∙ ap (natural_after greatest 0) (append_assoc (take i bytes) (get_or bytes i 0 ∷ []) end)
    ∙ so_far
    ∙ natural_after-cons greatest v (get_or bytes i 0) end
    ∙ passes _ (v * 10 + (get_or bytes i 0 - 48)) (v * 10 + e) greatest (λ m. natural_after greatest m end) digit (rw is refl) low

-- the digits so far, once nothing comes after them
pub digits-end : (greatest v i : ℕ) (bytes : List ℕ) → 0 < i → i ≤ length bytes → v ≤ greatest → natural_after greatest 0 (take i bytes ++ []) ≡ natural_after greatest v [] → natural_of greatest (take i bytes) ≡ Some v
digits-end greatest v i bytes some within low so_far =
    sym (natural_after-zero greatest (take i bytes) (omega (arith, length-take-le i bytes within)))
    ∙ ap (natural_after greatest 0) (sym (append-nil (take i bytes)))
    ∙ so_far
    ∙ natural_after-nil greatest v low

module _ {C : Type 0} (clear : C) (named : List ℕ → List (List ℕ) → Option C) (letter : ℕ) (bytes after : List ℕ) (command : C) (visible : 32 < letter) where
  -- a letter and one number
  pub one-number : (n : ℕ) (numbers behind : List ℕ) → bytes ≡ letter ∷ 32 ∷ numbers → BeginsWithNumber numbers n behind → behind ≡ 10 ∷ after
      → ((words : List (List ℕ)) → arguments_in words ≡ Some (Number n) → command_of clear named ((letter ∷ []) ∷ words) ≡ Some command)
      → BeginsWithCommand clear named bytes command after
  one-number n numbers behind is number feed means =
      let digits = number.digits in
      let natural = number.natural (2 ^ 64 - 1) (omega arith) in
      let whole : bytes ≡ (letter ∷ 32 ∷ digits) ++ 10 ∷ after = rw (is, number.whole, feed) refl in
      let no_feed : Lacks 10 (letter ∷ 32 ∷ digits) =
      Lacks-cons 10 letter (32 ∷ digits) (search arith) (Lacks-cons 10 32 digits (search arith) (natural-lacks 10 refl _ n digits natural)) in
      let words : words_of (letter ∷ 32 ∷ digits) ≡ (letter ∷ []) ∷ digits ∷ [] =
      parted-append 32 ([] ∷ []) (letter ∷ []) digits (Lacks-cons 32 letter [] (search arith) (All-nil (λ byte. byte ≢ 32)))
      ∙ ap (λ l. (letter ∷ []) ∷ l) (parted-one 32 digits (natural-lacks 32 refl _ n digits natural)) in
      record {
        first = letter;
        others = 32 ∷ digits;
        lines = ap lines_of whole ∙ parted-append 10 [] (letter ∷ 32 ∷ digits) after no_feed;
        spells = ap (command_of clear named) words ∙ means (digits ∷ []) (ap (option_map Number) natural);
        shorter = rw whole (omega (arith, length-append (letter ∷ 32 ∷ digits) (10 ∷ after)));
      }

  -- a letter and two numbers
  pub two-numbers : (width height : ℕ) (numbers behind rest end : List ℕ) → bytes ≡ letter ∷ 32 ∷ numbers → BeginsWithNumber numbers width behind → behind ≡ 32 ∷ rest
      → BeginsWithNumber rest height end → end ≡ 10 ∷ after
      → ((words : List (List ℕ)) → arguments_in words ≡ Some (Sized (record { width = pos width; height = pos height }))
      → command_of clear named ((letter ∷ []) ∷ words) ≡ Some command)
      → BeginsWithCommand clear named bytes command after
  two-numbers width height numbers behind rest end is first space second feed means =
      let one = first.digits in
      let two = second.digits in
      let natural-one = first.natural (2 ^ 31 - 1) (omega arith) in
      let natural-two = second.natural (2 ^ 31 - 1) (omega arith) in
      let line : List ℕ = letter ∷ 32 ∷ (one ++ 32 ∷ two) in
      let whole : bytes ≡ line ++ 10 ∷ after = rw (is, first.whole, space, second.whole, feed, append_assoc one (32 ∷ two) (10 ∷ after)) refl in
      let no_feed : Lacks 10 line =
      Lacks-cons 10 letter (32 ∷ (one ++ 32 ∷ two)) (search arith) (Lacks-cons 10 32 (one ++ 32 ∷ two) (search arith)
      (All-append (λ byte. byte ≢ 10) one (32 ∷ two) (natural-lacks 10 refl _ width one natural-one)
      (Lacks-cons 10 32 two (search arith) (natural-lacks 10 refl _ height two natural-two)))) in
      let words : words_of line ≡ (letter ∷ []) ∷ one ∷ two ∷ [] =
      parted-append 32 ([] ∷ []) (letter ∷ []) (one ++ 32 ∷ two) (Lacks-cons 32 letter [] (search arith) (All-nil (λ byte. byte ≢ 32)))
      ∙ ap (λ l. (letter ∷ []) ∷ l) (parted-append 32 ([] ∷ []) one two (natural-lacks 32 refl _ width one natural-one))
      ∙ ap (λ l. (letter ∷ []) ∷ one ∷ l) (parted-one 32 two (natural-lacks 32 refl _ height two natural-two)) in
      let size : arguments_in (one ∷ two ∷ []) ≡ Some (Sized (record { width = pos width; height = pos height })) =
      rw (number-natural width one natural-one, number-natural height two natural-two) refl in
      record {
        first = letter;
        others = 32 ∷ (one ++ 32 ∷ two);
        lines = ap lines_of whole ∙ parted-append 10 [] line after no_feed;
        spells = ap (command_of clear named) words ∙ means (one ∷ two ∷ []) size;
        shorter = rw whole (omega (arith, length-append line (10 ∷ after)));
      }
