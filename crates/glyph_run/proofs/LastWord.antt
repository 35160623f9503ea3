-- The last word of a line: bytes with a space spell no key and no capacity.
use Rattle.std.proofs.Common.{◌≡◌, ℕ, List, ◌∷◌, Some, refl}
use Rattle.run_scripts.specs.Lines.{words_of, Lacks}
use Rattle.run_scripts.specs.Words.{direction_of, size_of}
use Rattle.run_scripts.specs.Numbers.{number_of}
use Rattle.run_scripts.proofs.DigitsLack.{natural-lacks}
use Rattle.run_scripts.proofs.LastWord.{bound, last-word}
use Rattle.glyph_run.specs.Words.{Setup, cache_in, cache_of, capacity_of, key_of}

-- a key has no space
key-lacks : (bytes : List ℕ) (key : ℕ) → key_of bytes ≡ Some key → Lacks 32 bytes
key-lacks bytes key h = natural-lacks 32 refl _ key bytes h

-- the capacity of a cache has no space
cache-lacks : (width height alignment_width alignment_height columns direction capacity : List ℕ) (setup : Setup)
    → cache_of width height alignment_width alignment_height columns direction capacity ≡ Some setup → Lacks 32 capacity
cache-lacks width height alignment_width alignment_height columns direction capacity setup h =
    let size = bound (size_of width height) _ setup h in
    let alignment = bound (size_of alignment_width alignment_height) _ setup size.2 in
    let vertical = bound (direction_of direction) _ setup alignment.2 in
    let num_columns = bound (number_of columns) _ setup vertical.2 in
    let most = bound (capacity_of capacity) _ setup num_columns.2 in
    let key = bound (key_of capacity) _ most.0 most.1 in
    key-lacks capacity key.0 key.1

-- the capacity of a cache is the last bytes
pub cache_in-words : (width height alignment_width alignment_height columns direction capacity : List ℕ)
    → cache_in (width ∷ height ∷ alignment_width ∷ alignment_height ∷ columns ∷ direction ∷ words_of capacity)
    ≡ cache_of width height alignment_width alignment_height columns direction capacity
cache_in-words width height alignment_width alignment_height columns direction capacity =
    last-word (λ words. cache_in (width ∷ height ∷ alignment_width ∷ alignment_height ∷ columns ∷ direction ∷ words)) capacity
    (λ first second rest. refl)
    (λ setup h. cache-lacks width height alignment_width alignment_height columns direction capacity setup h)

pub ruleset last_words = (cache_in-words)
