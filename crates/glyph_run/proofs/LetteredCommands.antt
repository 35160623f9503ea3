-- Each command of a cache is a letter with arguments behind it: other names are none, and so are other words.
use Rattle.std.proofs.Common.{◌≡◌, ◌≢◌, ℕ, List, [], ◌∷◌, length, Option, Some, None, ap, refl}
use Rattle.std.specs.Prelude.{option_map}
use Rattle.etagere_base.specs.declared.geometry.Size.{Size}
use Rattle.run_scripts.specs.Words.{◌>>=◌}
use Rattle.run_scripts.specs.Private.Arguments.{AreLettered, NumberAndSize, arguments_in}
use Rattle.run_scripts.proofs.LetteredCommands.{lettered, map-none, no-letter, none-either, none-past}
use Rattle.glyph_run.specs.declared.commands.GlyphCommand.TheVariants.{Clear, Get, Place, Remove}
use Rattle.glyph_run.specs.Words.{frame_in, glyph_command_named, key_in, place_in}

letter : (name : List ℕ) (words : List (List ℕ)) → length name ≢ 1 → glyph_command_named name words ≡ None
letter name words other =
    none-past _ _ _ (no-letter name 112 other) (none-past _ _ _ (no-letter name 103 other)
    (none-past _ _ _ (no-letter name 114 other) (none-past _ _ _ (no-letter name 102 other) refl)))

no-key : (words : List (List ℕ)) → arguments_in words ≡ None → key_in words ≡ None
no-key [] none = cc
no-key (one ∷ []) none = map-none _ _ none
no-key (one ∷ two ∷ words) none = refl

no-frame : (words : List (List ℕ)) → arguments_in words ≡ None → frame_in words ≡ None
no-frame [] none = cc
no-frame (one ∷ words) none = refl

-- where a number or a size is none, so is the placement
no-either : (key : Option ℕ) (size : Option Size) → (key >>= (λ n. size >>= (λ s. Some (NumberAndSize n s)))) ≡ None
    → (size >>= (λ s. key >>= (λ n. Some (Place n s)))) ≡ None
no-either key None none = refl
no-either None (Some size) none = refl
no-either (Some key) (Some size) none = cc

no-place : (words : List (List ℕ)) → arguments_in words ≡ None → place_in words ≡ None
no-place [] none = refl
no-place (one ∷ []) none = refl
no-place (one ∷ two ∷ []) none = refl
no-place (one ∷ two ∷ three ∷ []) none = no-either _ _ none
no-place (one ∷ two ∷ three ∷ four ∷ words) none = refl

others : (name : List ℕ) (words : List (List ℕ)) → arguments_in words ≡ None → glyph_command_named name words ≡ None
others name words none =
    let key = no-key words none in
    none-either _ _ _ (no-place words none) (none-either _ _ _ (ap (option_map Get) key)
    (none-either _ _ _ (ap (option_map Remove) key) (none-either _ _ _ (no-frame words none) refl)))

pub glyph-lettered : AreLettered Clear glyph_command_named
glyph-lettered = lettered Clear glyph_command_named letter others

pub ruleset lettered_commands = (glyph-lettered)
