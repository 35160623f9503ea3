-- The keys that a placing of a cache evicted, and what is written of them.
use Rattle.std.specs.Prelude.{◌≡◌, ℕ, ◌≤◌, IfErr, IfOk, List, [], length, Result}
use Rattle.glyph_shelf.specs.declared.cache.Placed.{Placed}
use Rattle.glyph_shelf.specs.declared.faults.GlyphFault.{GlyphFault}
use Rattle.glyph_shelf.specs.declared.faults.GlyphFault.TheVariants.{TooLarge, Memory, FrameFull}
use Rattle.c_answers.specs.Calls.{IsWritten}

-- the keys that were evicted before a placing was refused
abbrev pub gone_keys : GlyphFault → List ℕ
gone_keys TooLarge = []
gone_keys (Memory evicted) = evicted.items
gone_keys FrameFull = []

-- a buffer has room for the evicted keys
abbrev pub HasRoomFor : List ℕ → Result Placed GlyphFault → Type 0
HasRoomFor buffer placed =
    IfOk placed (λ given. length given.evicted.items ≤ length buffer)
    × IfErr placed (λ fault. length (gone_keys fault) ≤ length buffer)

-- the keys that a refused placing evicted are written, and nothing is where it evicted none
abbrev pub IsGone : GlyphFault → List ℕ → List ℕ → ℕ → ℕ → Type 0
IsGone TooLarge old new before after = (new ≡ old) × (after ≡ before)
IsGone (Memory evicted) old new before after = IsWritten evicted.items old new after
IsGone FrameFull old new before after = (new ≡ old) × (after ≡ before)
