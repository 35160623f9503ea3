-- Each command is a letter with arguments behind it: other names are none, and so are other words.
use Rattle.std.proofs.Common.{◌≡◌, ◌≢◌, ℕ, ◌-◌, ◌^◌, ◌≤◌, List, [], ◌∷◌, length, cond, ◌&&◌, Bool, true, false, Option, Some, None, refl, arith}
use Rattle.std.specs.Prelude.{bytes_eq, nat_le, option_map, ◌==◌}
use Rattle.std.proofs.lemmas.Bool.Decides.{nat_tests}
use Rattle.run_scripts.specs.declared.commands.AtlasCommand.TheVariants as atlas
use Rattle.run_scripts.specs.declared.commands.BucketedCommand.TheVariants as bucketed
use Rattle.run_scripts.specs.Numbers.{are_digits, value_of}
use Rattle.run_scripts.specs.Words.{atlas_command_named, bucketed_command_named, command_of, position_in, size_in}
use Rattle.run_scripts.specs.Private.Arguments.{AreLettered, arguments_in}

-- a choice between none and none is none
pub none-either : {A : Type 0} (test : Bool) (x y : Option A) → x ≡ None → y ≡ None → cond test x y ≡ None
none-either true x y first second = first
none-either false x y first second = second

-- what fails a test is the other
pub none-past : {A : Type 0} (test : Bool) (x y : Option A) → test ≡ false → y ≡ None → cond test x y ≡ None
none-past true x y fails second = cc
none-past false x y fails second = second

-- a longer name fails at its end
ends-apart : (test : Bool) → (test && false) ≡ false
ends-apart true = refl
ends-apart false = refl

-- a name that is no letter is none of the letters
pub no-letter : (name : List ℕ) (letter : ℕ) → length name ≢ 1 → bytes_eq name (letter ∷ []) ≡ false
no-letter [] letter other = refl
no-letter (x ∷ []) letter other = absurd (other refl)
no-letter (x ∷ y ∷ rest) letter other = ends-apart (x == letter)

-- what is none of a value is none
pub map-none : {A B : Type 0} (f : A → B) (o : Option A) → option_map f o ≡ None → o ≡ None
map-none f None none = refl
map-none f (Some x) none = cc

-- none up to a greatest value, none up to a smaller one
none-below : (digits : Bool) (value least greatest : ℕ) → least ≤ greatest → cond (digits && nat_le value greatest) (Some value) None ≡ None
    → cond (digits && nat_le value least) (Some value) None ≡ None
none-below false value least greatest below none = refl
none-below true value least greatest below none = grind (arith, nat_tests)

-- words that are no arguments are no size
pub no-size : (words : List (List ℕ)) → arguments_in words ≡ None → size_in words ≡ None
no-size [] none = cc
no-size (one ∷ []) none = refl
no-size (one ∷ two ∷ []) none = map-none _ _ none
no-size (one ∷ two ∷ three ∷ words) none = refl

-- and no position
pub no-position : (words : List (List ℕ)) → arguments_in words ≡ None → position_in words ≡ None
no-position [] none = cc
no-position (one ∷ []) none = none-below (are_digits one) (value_of one) (2 ^ 32 - 1) (2 ^ 64 - 1) (omega arith) (map-none _ _ none)
no-position (one ∷ two ∷ words) none = refl

module _ (name : List ℕ) (words : List (List ℕ)) where
  atlas-letter : length name ≢ 1 → atlas_command_named name words ≡ None
  atlas-letter other =
      none-past _ _ _ (no-letter name 97 other) (none-past _ _ _ (no-letter name 114 other)
      (none-past _ _ _ (no-letter name 108 other) (none-past _ _ _ (no-letter name 103 other) refl)))

  bucketed-letter : length name ≢ 1 → bucketed_command_named name words ≡ None
  bucketed-letter other =
      none-past _ _ _ (no-letter name 97 other) (none-past _ _ _ (no-letter name 114 other) (none-past _ _ _ (no-letter name 103 other) refl))

-- what makes a command of arguments makes none of none
mapped-none : {A B : Type 0} (f : A → B) (o : Option A) → o ≡ None → option_map f o ≡ None
mapped-none f None none = refl
mapped-none f (Some x) none = cc

module _ (name : List ℕ) (words : List (List ℕ)) (none : arguments_in words ≡ None) where
  atlas-arguments : atlas_command_named name words ≡ None
  atlas-arguments =
      let size = no-size words none in
      let position = no-position words none in
      none-either _ _ _ (mapped-none atlas.Allocate _ size) (none-either _ _ _ (mapped-none atlas.Return _ position)
      (none-either _ _ _ (mapped-none atlas.Look _ position) (none-either _ _ _ (mapped-none atlas.Grow _ size) refl)))

  bucketed-arguments : bucketed_command_named name words ≡ None
  bucketed-arguments =
      let size = no-size words none in
      none-either _ _ _ (mapped-none bucketed.Allocate _ size) (none-either _ _ _ (mapped-none bucketed.Return _ (no-position words none))
      (none-either _ _ _ (mapped-none bucketed.Grow _ size) refl))

module _ {C : Type 0} (clear : C) (named : List ℕ → List (List ℕ) → Option C) where
  -- a name that is no letter, with the one that clears
  letter-needed : ((name : List ℕ) (words : List (List ℕ)) → length name ≢ 1 → named name words ≡ None)
      → (name : List ℕ) (words : List (List ℕ)) → length name ≢ 1 → command_of clear named (name ∷ words) ≡ None
  letter-needed letters name [] other = none-past _ _ _ (no-letter name 99 other) (letters name [] other)
  letter-needed letters name (word ∷ words) other = letters name (word ∷ words) other

  -- the same of words that are no arguments
  arguments-needed : ((name : List ℕ) (words : List (List ℕ)) → arguments_in words ≡ None → named name words ≡ None)
      → (name : List ℕ) (words : List (List ℕ)) → arguments_in words ≡ None → command_of clear named (name ∷ words) ≡ None
  arguments-needed others name [] none = cc
  arguments-needed others name (word ∷ words) none = others name (word ∷ words) none

  pub lettered : ((name : List ℕ) (words : List (List ℕ)) → length name ≢ 1 → named name words ≡ None)
      → ((name : List ℕ) (words : List (List ℕ)) → arguments_in words ≡ None → named name words ≡ None)
      → AreLettered clear named
  lettered letters others = record { letter = letter-needed letters; arguments = arguments-needed others }

pub atlas-lettered : AreLettered atlas.Clear atlas_command_named
atlas-lettered = lettered atlas.Clear atlas_command_named atlas-letter atlas-arguments

pub bucketed-lettered : AreLettered bucketed.Clear bucketed_command_named
bucketed-lettered = lettered bucketed.Clear bucketed_command_named bucketed-letter bucketed-arguments

pub ruleset lettered_commands = (atlas-lettered, bucketed-lettered)
