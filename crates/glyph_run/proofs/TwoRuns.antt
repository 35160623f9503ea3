-- Two runs of the same commands on a new cache have one text, and so have two replays of an input.
use Rattle.std.proofs.Common.{◌≡◌, ℕ, ◌+◌, ◌^◌, ◌<◌, ◌≤◌, ◌==◌, Bool, true, false, cond, None, Some, List, [], ◌∷◌, Ok, length, take, refl, ap, arith, sym, subst, ◌∙◌}
use Rattle.std.proofs.lemmas.List.Elements.{recursion_from_All}
use Rattle.std.specs.Prelude.{ℤ, All, bytes_eq, codes, ok_or}
use Rattle.etagere_base.specs.declared.geometry.Size.{Size}
use Rattle.etagere_base.specs.declared.options.AllocatorOptions.{AllocatorOptions}
use Rattle.etagere_base.specs.Frames.{IsAccepted, atlas_frame, longest_side}
use Rattle.etagere_base.specs.Sides.{side}
use Rattle.shelf_model.proofs.Callers.{promises-new}
use Rattle.glyph_shelf.specs.Cache.{CacheState, empty_cache}
use Rattle.run_scripts.specs.Lines.{filled_from, lines_of, words_of}
use Rattle.run_scripts.specs.Numbers.{number_of}
use Rattle.run_scripts.specs.Script.{commands_of}
use Rattle.run_scripts.specs.Words.{direction_of, size_of}
use Rattle.run_scripts.proofs.ShortHeader.{ok-parts, ok-some}
use Rattle.run_scripts.proofs.ShortNumbers.{IsShort, size-short, some-parts}
use Rattle.glyph_run.specs.declared.commands.GlyphCommand.{GlyphCommand}
use Rattle.glyph_run.specs.Laws.{HasMemory, HasOneText}
use Rattle.glyph_run.specs.Replaying.{IsWholeRunOf, RepliesTo}
use Rattle.glyph_run.specs.Script.{Request, request_of, script_of}
use Rattle.glyph_run.specs.Words.{Setup, cache_in, cache_of, capacity_of, glyph_command_of, header_of, key_of}
use Rattle.glyph_run.proofs.RenamedSteps.{fresh-alike, keeps-empty, runs-alike}

pub cache-runs-same : (size : Size) (options : AllocatorOptions) (capacity : ℕ) → IsAccepted longest_side size options
    → side options.alignment.width < 2 ^ 31 → side options.alignment.height < 2 ^ 31 → 1 ≤ capacity → HasOneText (atlas_frame size options) capacity
cache-runs-same size options capacity accepted short_width short_height some commands replies others one other =
    let frame = atlas_frame size options in
    let empty : CacheState = empty_cache frame capacity in
    runs-alike empty empty empty one.run.0 other.run.0 commands replies others
    (keeps-empty frame capacity (promises-new size options accepted short_width short_height) some)
    (fresh-alike frame capacity) (fresh-alike frame capacity) one.run.1 other.run.1 (recursion_from_All _ replies one.memory) (recursion_from_All _ others other.memory)

-- a cache of a header has a short alignment, and room for a key
record IsSetUp (setup : Setup) : Type 0 where
  short : IsShort setup.options.alignment
  some : 1 ≤ setup.capacity

capacity-some : (word : List ℕ) (capacity : ℕ) → capacity_of word ≡ Some capacity → 1 ≤ capacity
capacity-some word capacity is =
    let key = some-parts (key_of word) (λ capacity. cond (capacity == 0) None (Some capacity)) capacity is in
    by_test key.0 (key.0 == 0) refl key.2
  where
    by_test : (n : ℕ) (b : Bool) → (n == 0) ≡ b → cond b None (Some n) ≡ Some capacity → 1 ≤ capacity
    by_test n true e h = absurd (cc)
    by_test n false e h = let own : n ≡ capacity = cc in let some : 1 ≤ n = grind arith in omega (arith, own, some)

cache-set_up : (width height alignment_width alignment_height columns direction capacity : List ℕ) (setup : Setup)
    → cache_of width height alignment_width alignment_height columns direction capacity ≡ Some setup → IsSetUp setup
cache-set_up width height alignment_width alignment_height columns direction capacity_word setup is =
    let made : Size → Size → Bool → ℤ → ℕ → Setup =
    λ size alignment vertical_shelves num_columns capacity. record { size = size; options = record { alignment = alignment; vertical_shelves = vertical_shelves; num_columns = num_columns }; capacity = capacity } in
    let one = some-parts (size_of width height) _ setup is in
    let two = some-parts (size_of alignment_width alignment_height) _ setup one.2 in
    let three = some-parts (direction_of direction) _ setup two.2 in
    let four = some-parts (number_of columns) _ setup three.2 in
    let five = some-parts (capacity_of capacity_word) _ setup four.2 in
    let same : made one.0 two.0 three.0 four.0 five.0 ≡ setup = cc in
    rw (← same) (record { short = size-short alignment_width alignment_height two.0 two.1; some = capacity-some capacity_word five.0 five.1 })

in-set_up : (words : List (List ℕ)) (setup : Setup) → cache_in words ≡ Some setup → IsSetUp setup
in-set_up (width ∷ height ∷ alignment_width ∷ alignment_height ∷ columns ∷ direction ∷ capacity ∷ []) setup is =
    cache-set_up width height alignment_width alignment_height columns direction capacity setup is
in-set_up words setup is = absurd (cc)

header-set_up : (words : List (List ℕ)) (setup : Setup) → header_of words ≡ Some setup → IsSetUp setup
header-set_up [] setup is = absurd (cc)
header-set_up (name ∷ words) setup is = by_test (bytes_eq name (codes "cache")) is
  where
    by_test : (b : Bool) → cond b (cache_in words) None ≡ Some setup → IsSetUp setup
    by_test true h = in-set_up words setup h
    by_test false h = absurd (cc)

request-set_up : (after : ℕ) (lines : List (ℕ × List ℕ)) (request : Request) → request_of after lines ≡ Ok request → IsSetUp request.setup
request-set_up after [] request is = absurd (cc)
request-set_up after (line ∷ lines) request is =
    let asked : Setup → List GlyphCommand → Request = λ setup commands. record { setup = setup; commands = commands } in
    let setup = ok-parts (ok_or (header_of (words_of line.1)) line.0) _ request is in
    let commands = ok-parts (commands_of glyph_command_of lines) _ request setup.2 in
    let same : asked setup.0 commands.0 ≡ request = cc in
    rw (← same) (header-set_up (words_of line.1) setup.0 (ok-some (header_of (words_of line.1)) line.0 setup.0 setup.1))

-- an input spells one request
one-request : (input : List ℕ) (one other : Request) → script_of input ≡ Ok one → script_of input ≡ Ok other → other ≡ one
one-request input one other spelled others_spelled = let both : Ok other ≡ Ok one = sym others_spelled ∙ spelled in cc

pub replays-same : (input text other : List ℕ) (one : IsWholeRunOf input text) (another : IsWholeRunOf input other)
    → All HasMemory one.run.replies → All HasMemory another.run.replies → text ≡ other
replays-same input text other one another memory room =
    let request : Request = one.run.request in
    let set_up : IsSetUp request.setup = request-set_up (length (lines_of input) + 1) (filled_from 1 (lines_of input)) request one.run.spelled in
    let same : another.run.request ≡ request = one-request input request another.run.request one.run.spelled another.run.spelled in
    let count : another.run.count ≡ one.run.count = another.all ∙ ap (λ (r : Request). length r.commands) same ∙ sym one.all in
    let run : RepliesTo request one.run.count another.run.replies =
    subst (λ (n : ℕ). RepliesTo request n another.run.replies) count (subst (λ (r : Request). RepliesTo r another.run.count another.run.replies) same another.run.runs) in
    one.run.text_is
    ∙ cache-runs-same request.setup.size request.setup.options request.setup.capacity one.run.accepted set_up.short.width set_up.short.height set_up.some
    (take one.run.count request.commands) one.run.replies another.run.replies (record { run = one.run.runs; memory = memory }) (record { run = run; memory = room })
    ∙ sym another.run.text_is
