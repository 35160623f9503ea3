-- Numbers of a script fit 32 bits with a sign.
use Rattle.std.proofs.Common.{◌≡◌, ℕ, zero, suc, ◌-◌, ◌^◌, ◌<◌, ◌≤◌, Bool, true, false, ◌&&◌, ◌==◌, cond, Option, None, Some, List, [], ◌∷◌, refl, arith}
use Rattle.std.proofs.lemmas.Bool.{and_parts}
use Rattle.std.proofs.lemmas.Bool.Decides.{nat_tests}
use Rattle.std.specs.Prelude.{ℤ, pos, neg_ℤ, nat_le, option_map}
use Rattle.etagere_base.specs.Sides.{side}
use Rattle.etagere_base.specs.declared.geometry.Size.{Size}
use Rattle.run_scripts.specs.Numbers.{are_digits, minus_sign, natural_of, number_of, value_of}
use Rattle.run_scripts.specs.declared.words.AtlasKind.{AtlasKind}
use Rattle.run_scripts.specs.Words.{Header, atlas_in, atlas_of, direction_of, header_of, kind_of, size_of, ◌>>=◌}

-- digits have a value up to the greatest
pub natural-short : (greatest : ℕ) (word : List ℕ) (n : ℕ) → natural_of greatest word ≡ Some n → n ≤ greatest
natural-short greatest word n is = by_test (are_digits word && nat_le (value_of word) greatest) refl is
  where
    by_test : (b : Bool) → (are_digits word && nat_le (value_of word) greatest) ≡ b → cond b (Some (value_of word)) None ≡ Some n → n ≤ greatest
    by_test true e h =
        let few = (and_parts (are_digits word) (nat_le (value_of word) greatest) e).1 in
        let same : value_of word ≡ n = cc in
        grind (arith, nat_tests, few, same)
    by_test false e h = absurd (cc)

-- a side that is a number of a script is below 2 ^ 31
pub number-short : (word : List ℕ) (z : ℤ) → number_of word ≡ Some z → side z < 2 ^ 31
number-short [] z is = absurd (cc)
number-short (first ∷ rest) z is = by_test (first == minus_sign) is
  where
    plain : (o : Option ℕ) → ((n : ℕ) → o ≡ Some n → n ≤ 2 ^ 31 - 1) → option_map pos o ≡ Some z → side z < 2 ^ 31
    plain None few h = absurd (cc)
    plain (Some n) few h = let least : n ≤ 2 ^ 31 - 1 = few n refl in let own : pos n ≡ z = cc in rw (← own) (omega (arith, least))

    low : (n : ℕ) → side (neg_ℤ (pos n)) < 2 ^ 31
    low zero = omega arith
    low (suc n) = omega arith

    minus : (o : Option ℕ) → option_map (λ n. neg_ℤ (pos n)) o ≡ Some z → side z < 2 ^ 31
    minus None h = absurd (cc)
    minus (Some n) h = let own : neg_ℤ (pos n) ≡ z = cc in rw (← own) (low n)

    by_test : (b : Bool) → cond b (option_map (λ n. neg_ℤ (pos n)) (natural_of (2 ^ 31) rest)) (option_map pos (natural_of (2 ^ 31 - 1) (first ∷ rest))) ≡ Some z → side z < 2 ^ 31
    by_test true h = minus (natural_of (2 ^ 31) rest) h
    by_test false h = plain (natural_of (2 ^ 31 - 1) (first ∷ rest)) (λ n e. natural-short (2 ^ 31 - 1) (first ∷ rest) n e) h

-- what comes of a value that is there
pub some-parts : {A B : Type 0} (o : Option A) (f : A → Option B) (y : B) → (o >>= f) ≡ Some y → (x : A) × (o ≡ Some x) × (f x ≡ Some y)
some-parts None f y h = absurd (cc)
some-parts (Some x) f y h = (x, refl, h)

-- the sides of a size are short
pub record IsShort (size : Size) : Type 0 where
  pub width : side size.width < 2 ^ 31
  pub height : side size.height < 2 ^ 31

pub size-short : (width height : List ℕ) (size : Size) → size_of width height ≡ Some size → IsShort size
size-short width height size is =
    let one = some-parts (number_of width) (λ w. number_of height >>= (λ h. Some (record { width = w; height = h }))) size is in
    let two = some-parts (number_of height) (λ h. Some (record { width = one.0; height = h })) size one.2 in
    let own : Size = record { width = one.0; height = two.0 } in
    let same : own ≡ size = cc in
    rw (← same) (record { width = number-short width one.0 one.1; height = number-short height two.0 two.1 })

-- the alignment of a header is short
atlas-short : (kind : AtlasKind) (width height alignment_width alignment_height columns direction : List ℕ) (header : Header)
    → atlas_of kind width height alignment_width alignment_height columns direction ≡ Some header → IsShort header.options.alignment
atlas-short kind width height alignment_width alignment_height columns direction header is =
    let sized : Size → Size → Bool → ℤ → Header =
    λ size alignment vertical_shelves num_columns. record { kind = kind; size = size; options = record { alignment = alignment; vertical_shelves = vertical_shelves; num_columns = num_columns } } in
    let one = some-parts (size_of width height) (λ size. size_of alignment_width alignment_height >>= (λ alignment. direction_of direction >>= (λ vertical. number_of columns >>= (λ count. Some (sized size alignment vertical count))))) header is in
    let two = some-parts (size_of alignment_width alignment_height) (λ alignment. direction_of direction >>= (λ vertical. number_of columns >>= (λ count. Some (sized one.0 alignment vertical count)))) header one.2 in
    let three = some-parts (direction_of direction) (λ vertical. number_of columns >>= (λ count. Some (sized one.0 two.0 vertical count))) header two.2 in
    let four = some-parts (number_of columns) (λ count. Some (sized one.0 two.0 three.0 count)) header three.2 in
    let same : sized one.0 two.0 three.0 four.0 ≡ header = cc in
    rw (← same) (size-short alignment_width alignment_height two.0 two.1)

in-short : (kind : AtlasKind) (words : List (List ℕ)) (header : Header) → atlas_in kind words ≡ Some header → IsShort header.options.alignment
in-short kind (width ∷ height ∷ alignment_width ∷ alignment_height ∷ columns ∷ direction ∷ []) header is =
    atlas-short kind width height alignment_width alignment_height columns direction header is
in-short kind words header is = absurd (cc)

pub header-short : (words : List (List ℕ)) (header : Header) → header_of words ≡ Some header → IsShort header.options.alignment
header-short [] header is = absurd (cc)
header-short (name ∷ words) header is =
    let kind = some-parts (kind_of name) (λ kind. atlas_in kind words) header is in
    in-short kind.0 words header kind.2
