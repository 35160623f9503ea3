-- The last word of a line: bytes with a space spell no number, position or direction.
use Rattle.std.proofs.Common.{◌≡◌, ◌≢◌, ℕ, List, [], ◌∷◌, cond, Bool, true, false, ℤ, Option, Some, None, ◌⊎◌, inl, inr, arith, refl, ap, ◌∙◌, sym, subst}
use Rattle.std.proofs.lemmas.Bool.{cases_eq, false≢true}
use Rattle.std.proofs.lemmas.Option.{cond_some}
use Rattle.std.proofs.lemmas.Slice.Eq.{bytes_eq-Decides}
use Rattle.std.specs.Prelude.{◌==◌, ◌^◌, ◌-◌, pos, neg_ℤ, option_map, bytes_eq, codes}
use Rattle.std.proofs.lemmas.List.Elements.{All-nil, All-head, All-tail}
use Rattle.run_scripts.specs.declared.words.AtlasKind.{AtlasKind}
use Rattle.run_scripts.specs.Lines.{before_pieces, words_of, Lacks}
use Rattle.run_scripts.specs.Numbers.{number_of, natural_of}
use Rattle.run_scripts.specs.Private.Arguments.{NumberAndSize, arguments_in}
use Rattle.run_scripts.specs.Words.{Header, atlas_in, atlas_of, size_of, direction_of, command_of, ◌>>=◌}
use Rattle.etagere_base.specs.declared.geometry.Size.{Size}
use Rattle.run_scripts.proofs.DigitsLack.{natural-lacks}
use Rattle.run_scripts.proofs.Pieces.{Lacks-cons, before_pieces-other, before_pieces-separator}

-- the bytes are one word, or several with a space between
pub data Shape (bytes : List ℕ) : Type 0 where
  One : words_of bytes ≡ bytes ∷ [] → Shape bytes
  More : (first second : List ℕ) (rest : List (List ℕ)) → words_of bytes ≡ first ∷ second ∷ rest → ¬ (Lacks 32 bytes) → Shape bytes

-- bytes without a space, and one more before them
lacks-more : (x : ℕ) (xs : List ℕ) → x ≢ 32 → Lacks 32 xs → Lacks 32 (x ∷ xs)
lacks-more = Lacks-cons 32

-- bytes without a space, but for the first
lacks-tail : (x : ℕ) (xs : List ℕ) → Lacks 32 (x ∷ xs) → Lacks 32 xs
lacks-tail = All-tail (λ byte. byte ≢ 32)

-- a space before bytes
spaced : (bytes : List ℕ) → Shape bytes → Shape (32 ∷ bytes)
spaced bytes (One one) =
    More [] bytes [] (before_pieces-separator 32 (words_of bytes) ∙ ap (λ l. [] ∷ l) one) (λ h. All-head (λ byte. byte ≢ 32) 32 bytes h refl)
spaced bytes (More first second rest more space) =
    More [] first (second ∷ rest) (before_pieces-separator 32 (words_of bytes) ∙ ap (λ l. [] ∷ l) more) (λ h. All-head (λ byte. byte ≢ 32) 32 bytes h refl)

-- another byte before bytes
longer : (x : ℕ) (bytes : List ℕ) → x ≢ 32 → Shape bytes → Shape (x ∷ bytes)
longer x bytes other (One one) = One (ap (before_pieces 32 x) one ∙ before_pieces-other 32 x bytes [] other)
longer x bytes other (More first second rest more space) =
    More (x ∷ first) second rest (ap (before_pieces 32 x) more ∙ before_pieces-other 32 x first (second ∷ rest) other) (λ h. space (lacks-tail x bytes h))

-- each list of bytes has such a shape
shape : (bytes : List ℕ) → Shape bytes
shape [] = One refl
shape (x ∷ bytes) = elim (cases_eq x 32) [ inl same ↦ subst (λ y. Shape (y ∷ bytes)) (sym same) (spaced bytes (shape bytes)) | inr other ↦ longer x bytes other (shape bytes) ]

-- a choice that gives something gives it by one of its sides
chosen : {A : Type 0} (test : Bool) (x y : Option A) (z : A) → cond test x y ≡ Some z → ((test ≡ true) × (x ≡ Some z)) ⊎ ((test ≡ false) × (y ≡ Some z))
chosen true x y z h = inl (refl, h)
chosen false x y z h = inr (refl, h)

-- what a function gives something of is something
mapped : {A B : Type 0} (f : A → B) (o : Option A) (z : B) → option_map f o ≡ Some z → (x : A) × (o ≡ Some x)
mapped f None z h = cc
mapped f (Some x) z h = (x, refl)

-- a minus sign is no space
minus-other : (x : ℕ) → (x == 45) ≡ true → x ≢ 32
minus-other x h = λ same. absurd (false≢true (subst (λ y. (y == 45) ≡ true) same h))

-- what stands for a number has no space
number-lacks : (bytes : List ℕ) (z : ℤ) → number_of bytes ≡ Some z → Lacks 32 bytes
number-lacks [] z h = cc
number-lacks (x ∷ xs) z h =
    elim (chosen (x == 45) (option_map (λ n. neg_ℤ (pos n)) (natural_of (2 ^ 31) xs)) (option_map pos (natural_of (2 ^ 31 - 1) (x ∷ xs))) z h) [
      | inl minus ↦ lacks-more x xs (minus-other x minus.0) (let some = mapped _ _ z minus.1 in natural-lacks 32 refl _ some.0 xs some.1)
      | inr plain ↦ let some = mapped _ _ z plain.1 in natural-lacks 32 refl _ some.0 (x ∷ xs) some.1
    ]

-- one letter that is no space has none
letter-lacks : (bytes : List ℕ) (letter : ℕ) → letter ≢ 32 → bytes_eq bytes (letter ∷ []) ≡ true → Lacks 32 bytes
letter-lacks bytes letter other h =
    subst (Lacks 32) (sym ((bytes_eq-Decides bytes (letter ∷ [])).0 h)) (lacks-more letter [] other (All-nil (λ byte. byte ≢ 32)))

-- what stands for a direction has no space
direction-lacks : (bytes : List ℕ) (v : Bool) → direction_of bytes ≡ Some v → Lacks 32 bytes
direction-lacks bytes v h =
    elim (chosen (bytes_eq bytes (codes "h")) (Some false) (cond (bytes_eq bytes (codes "v")) (Some true) None) v h) [
      | inl horizontal ↦ letter-lacks bytes 104 (search arith) horizontal.0
      | inr other ↦ letter-lacks bytes 118 (search arith) (cond_some (bytes_eq bytes (codes "v")) true v other.1).0
    ]

-- where a chain gives something, its first step does, and so does the rest of it
pub bound : {A B : Type 0} (o : Option A) (f : A → Option B) (z : B) → (o >>= f) ≡ Some z → (x : A) × (o ≡ Some x) × (f x ≡ Some z)
bound None f z h = cc
bound (Some x) f z h = (x, refl, h)

-- the second word of a size has no space
size-lacks : (width height : List ℕ) (size : Size) → size_of width height ≡ Some size → Lacks 32 height
size-lacks width height size h =
    let after = bound (number_of width) _ size h in
    let last = bound (number_of height) _ size after.2 in
    number-lacks height last.0 last.1

-- what holds of some value only without a space is none where there is a space
none-spaced : {A : Type 0} (bytes : List ℕ) (o : Option A) → ((x : A) → o ≡ Some x → Lacks 32 bytes) → ¬ (Lacks 32 bytes) → o ≡ None
none-spaced bytes None lacks space = refl
none-spaced bytes (Some x) lacks space = absurd (space (lacks x refl))

-- a function of words is one of the last bytes, if they stand for nothing where there is a space
pub last-word : {A : Type 0} (f : List (List ℕ) → Option A) (bytes : List ℕ) → ((first second : List ℕ) (rest : List (List ℕ)) → f (first ∷ second ∷ rest) ≡ None) → ((x : A) → f (bytes ∷ []) ≡ Some x → Lacks 32 bytes) → f (words_of bytes) ≡ f (bytes ∷ [])
last-word f bytes none lacks = by_shape (shape bytes)
  where
    by_shape : Shape bytes → f (words_of bytes) ≡ f (bytes ∷ [])
    by_shape (One one) = ap f one
    by_shape (More first second rest more space) =
        ap f more ∙ none first second rest ∙ sym (none-spaced bytes (f (bytes ∷ [])) lacks space)

-- a number and a size are the last bytes, if they stand for them
pub arguments_in-words : (word width height : List ℕ)
    → arguments_in (word ∷ width ∷ words_of height) ≡ (natural_of (2 ^ 64 - 1) word >>= (λ n. size_of width height >>= (λ size. Some (NumberAndSize n size))))
arguments_in-words word width height =
    last-word (λ words. arguments_in (word ∷ width ∷ words)) height (λ first second rest. refl)
    (λ arguments h.
    let after = bound (natural_of (2 ^ 64 - 1) word) _ arguments h in
    let size = bound (size_of width height) _ arguments after.2 in
    size-lacks width height size.0 size.1)

-- the same where the words are read one after another
module _ (words first width height : List ℕ) (read : words_of words ≡ first ∷ width ∷ words_of height) where
  pub no-number : natural_of (2 ^ 64 - 1) first ≡ None → arguments_in (words_of words) ≡ None
  no-number none = ap arguments_in read ∙ arguments_in-words first width height ∙ rw none refl

  pub no-size : (n : ℕ) → natural_of (2 ^ 64 - 1) first ≡ Some n → size_of width height ≡ None → arguments_in (words_of words) ≡ None
  no-size n number none = ap arguments_in read ∙ arguments_in-words first width height ∙ rw (number, none) refl

  pub both-there : (n : ℕ) (size : Size) → natural_of (2 ^ 64 - 1) first ≡ Some n → size_of width height ≡ Some size → arguments_in (words_of words) ≡ Some (NumberAndSize n size)
  both-there n size number sized = ap arguments_in read ∙ arguments_in-words first width height ∙ rw (number, sized) refl

-- the direction of an atlas has no space
atlas-lacks : (kind : AtlasKind) (width height alignment_width alignment_height columns direction : List ℕ) (header : Header) → atlas_of kind width height alignment_width alignment_height columns direction ≡ Some header → Lacks 32 direction
atlas-lacks kind width height alignment_width alignment_height columns direction header h =
    let size = bound (size_of width height) _ header h in
    let alignment = bound (size_of alignment_width alignment_height) _ header size.2 in
    let vertical = bound (direction_of direction) _ header alignment.2 in
    direction-lacks direction vertical.0 vertical.1

-- the direction of an atlas is the last bytes
pub atlas_in-words : (kind : AtlasKind) (width height alignment_width alignment_height columns direction : List ℕ) → atlas_in kind (width ∷ height ∷ alignment_width ∷ alignment_height ∷ columns ∷ words_of direction) ≡ atlas_of kind width height alignment_width alignment_height columns direction
atlas_in-words kind width height alignment_width alignment_height columns direction =
    last-word (λ words. atlas_in kind (width ∷ height ∷ alignment_width ∷ alignment_height ∷ columns ∷ words)) direction (λ first second rest. refl)
    (λ header h. atlas-lacks kind width height alignment_width alignment_height columns direction header h)

-- bytes with a name before them are several words
several-words : {C : Type 0} (clear : C) (named : List ℕ → List (List ℕ) → Option C) (name words : List ℕ) → Shape words → command_of clear named (name ∷ words_of words) ≡ named name (words_of words)
several-words clear named name words (One one) = rw one refl
several-words clear named name words (More first second rest more space) = rw more refl

-- a name with anything after it, were it a space alone
pub command_of-words : {C : Type 0} (clear : C) (named : List ℕ → List (List ℕ) → Option C) (name words : List ℕ) → command_of clear named (name ∷ words_of words) ≡ named name (words_of words)
command_of-words clear named name words = several-words clear named name words (shape words)

pub ruleset last_words = (atlas_in-words, command_of-words)
