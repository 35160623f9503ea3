-- Digits read from the left, as they stand behind a number that was read before them.
use Rattle.std.proofs.Common.{◌≡◌, ℕ, ◌+◌, ◌-◌, ◌*◌, ◌^◌, ◌<◌, ◌≤◌, Bool, true, false, cond, ◌&&◌, List, [], ◌∷◌, suc, length, get_or, drop, Option, Some, None, refl, ap, ◌∙◌, sym, arith}
use Rattle.std.specs.Prelude.{nat_le, if◌then◌else◌}
use Rattle.std.specs.Char.{is_ascii_digit}
use Rattle.std.specs.Str.{all_ascii_digits}
use Rattle.std.proofs.Math.Nat.{pow-suc, one-le-pow, le-mul_of_pos_right}
use Rattle.std.proofs.lemmas.List.{at_drop_more}
use Rattle.std.proofs.lemmas.Bool.Decides.{nat_tests}
use Rattle.run_scripts.specs.Numbers.{value_of, natural_of}

-- the value of digits behind a number
abbrev pub value_after : ℕ → List ℕ → ℕ
value_after n digits = n * 10 ^ length digits + value_of digits

-- what digits behind a number stand for, up to a greatest value
abbrev pub natural_after : ℕ → ℕ → List ℕ → Option ℕ
natural_after greatest n word =
    if all_ascii_digits word && nat_le (value_after n word) greatest then Some (value_after n word) else None

-- one more digit goes from the rest to the number before it
one_digit_on : (n e k v : ℕ) → n * 10 ^ suc k + (e * 10 ^ k + v) ≡ (n * 10 + e) * 10 ^ k + v
one_digit_on n e k v = rw pow-suc (omega arith)

-- the value of digits behind a number, the first one read
value_after-cons : (n d : ℕ) (ds : List ℕ) → value_after n (d ∷ ds) ≡ value_after (n * 10 + (d - 48)) ds
value_after-cons n d ds = one_digit_on n (d - 48) (length ds) (value_of ds)

-- a number is at most its value with digits behind it
value_after-le : (n : ℕ) (ds : List ℕ) → n ≤ value_after n ds
value_after-le n ds = omega (arith, le-mul_of_pos_right n (one-le-pow (length ds) 10 (omega arith)))

-- a choice between none and none is none
cond-same : {A : Type 0} (b : Bool) → ◌≡◌ {A = Option A} (cond b None None) None
cond-same true = refl
cond-same false = refl

-- all digits and the whole value are tested as the first digit and its value are, and then the rest: a value that is
-- too large at its beginning is too large
one_test_on : (digit rest : Bool) (v w m g : ℕ) → v ≡ w → m ≤ w → cond (digit && rest && nat_le v g) (Some v) None ≡ cond (digit && nat_le m g) (cond (rest && nat_le w g) (Some w) None) None
one_test_on false rest v w m g same low = refl
one_test_on true false v w m g same low = sym (cond-same (nat_le m g))
one_test_on true true v w m g same low = grind (arith, nat_tests)

-- one digit of the rest, read
pub natural_after-cons : (greatest n d : ℕ) (ds : List ℕ) → natural_after greatest n (d ∷ ds) ≡ cond (is_ascii_digit d && nat_le (n * 10 + (d - 48)) greatest) (natural_after greatest (n * 10 + (d - 48)) ds) None
natural_after-cons greatest n d ds =
    one_test_on (is_ascii_digit d) (all_ascii_digits ds) (value_after n (d ∷ ds)) (value_after (n * 10 + (d - 48)) ds) (n * 10 + (d - 48)) greatest
    (value_after-cons n d ds) (value_after-le (n * 10 + (d - 48)) ds)

-- equal values stand for the same
same_value : (digits : Bool) (g v w : ℕ) → v ≡ w → cond (digits && nat_le v g) (Some v) None ≡ cond (digits && nat_le w g) (Some w) None
same_value digits g v w same = ap (λ n. cond (digits && nat_le n g) (Some n) None) same

-- digits behind nothing
pub natural_after-zero : (greatest : ℕ) (word : List ℕ) → 0 < length word → natural_after greatest 0 word ≡ natural_of greatest word
natural_after-zero greatest [] h = absurd (omega arith)
natural_after-zero greatest (d ∷ ds) h = same_value (all_ascii_digits (d ∷ ds)) greatest (value_after 0 (d ∷ ds)) (value_of (d ∷ ds)) (omega arith)

-- a value within its bound is kept
kept : (n v g : ℕ) → n ≤ g → v ≡ n → cond (nat_le v g) (Some v) None ≡ Some n
kept n v g low same = grind (arith, nat_tests)

-- all digits are read
pub natural_after-nil : (greatest n : ℕ) → n ≤ greatest → natural_after greatest n [] ≡ Some n
natural_after-nil greatest n h = kept n (n * 1 + 0) greatest h (omega arith)

-- where a test that gives none fails, it gives none of anything
stopped : {A B : Type 0} (test : Bool) (x : A) (y : Option B) → cond test (Some x) None ≡ None → cond test y None ≡ None
stopped true x y h = cc
stopped false x y h = refl

-- where a test gives a value, it passes, and that is the value
went_on : {A B : Type 0} (test : Bool) (x v : A) (f : A → Option B) → cond test (Some x) None ≡ Some v → cond test (f x) None ≡ f v
went_on true x v f h = cc
went_on false x v f h = cc

-- the same for the digits from a place on
natural_after-drop : (greatest n i d : ℕ) (word : List ℕ) → i < length word → natural_after greatest n (drop i word) ≡ cond (is_ascii_digit (get_or word i d) && nat_le (n * 10 + (get_or word i d - 48)) greatest) (natural_after greatest (n * 10 + (get_or word i d - 48)) (drop (i + 1) word)) None
natural_after-drop greatest n i d word h =
    at_drop_more (natural_after greatest n) word i d h ∙ natural_after-cons greatest n (get_or word i d) (drop (i + 1) word)

-- where the next byte is no digit, or the value too large
pub natural_after-stop : (greatest n i d : ℕ) (word : List ℕ) → i < length word → cond (is_ascii_digit (get_or word i d) && nat_le (n * 10 + (get_or word i d - 48)) greatest) (Some (n * 10 + (get_or word i d - 48))) None ≡ None → natural_after greatest n (drop i word) ≡ None
natural_after-stop greatest n i d word h none =
    natural_after-drop greatest n i d word h ∙ stopped _ _ (natural_after greatest (n * 10 + (get_or word i d - 48)) (drop (i + 1) word)) none

-- where the next byte is a digit
pub natural_after-go : (greatest n v i d : ℕ) (word : List ℕ) → i < length word → cond (is_ascii_digit (get_or word i d) && nat_le (n * 10 + (get_or word i d - 48)) greatest) (Some (n * 10 + (get_or word i d - 48))) None ≡ Some v → natural_after greatest n (drop i word) ≡ natural_after greatest v (drop (i + 1) word)
natural_after-go greatest n v i d word h some =
    natural_after-drop greatest n i d word h ∙ went_on _ _ v (λ m. natural_after greatest m (drop (i + 1) word)) some
