-- The alignment of a script that is good is short.
use Rattle.std.proofs.Common.{◌≡◌, ℕ, ◌+◌, Option, None, Some, List, [], ◌∷◌, Result, Ok, Err, length, refl, ap}
use Rattle.std.specs.Prelude.{ok_or}
use Rattle.run_scripts.specs.Lines.{filled_from, lines_of, words_of}
use Rattle.run_scripts.specs.Script.{Commands, Request, commands_to, request_of, script_of, ◌>>=◌}
use Rattle.run_scripts.specs.Words.{Header, header_of}
use Rattle.run_scripts.proofs.ShortNumbers.{IsShort, header-short}

-- what comes of a value that is good
pub ok-parts : {A B : Type 0} (r : Result A ℕ) (f : A → Result B ℕ) (y : B) → (r >>= f) ≡ Ok y → (x : A) × (r ≡ Ok x) × (f x ≡ Ok y)
ok-parts (Ok x) f y h = (x, refl, h)
ok-parts (Err n) f y h = absurd (cc)

pub ok-some : {A : Type 0} (o : Option A) (n : ℕ) (x : A) → ok_or o n ≡ Ok x → o ≡ Some x
ok-some None n x h = absurd (cc)
ok-some (Some y) n x h = let same : y ≡ x = cc in ap Some same

request-short : (after : ℕ) (lines : List (ℕ × List ℕ)) (request : Request) → request_of after lines ≡ Ok request → IsShort request.options.alignment
request-short after [] request is = absurd (cc)
request-short after (line ∷ lines) request is =
    let asked : Header → Commands → Request = λ header commands. record { size = header.size; options = header.options; commands = commands } in
    let header = ok-parts (ok_or (header_of (words_of line.1)) line.0) (λ header. commands_to header.kind lines >>= (λ commands. Ok (asked header commands))) request is in
    let commands = ok-parts (commands_to header.0.kind lines) (λ commands. Ok (asked header.0 commands)) request header.2 in
    let same : asked header.0 commands.0 ≡ request = cc in
    rw (← same) (header-short (words_of line.1) header.0 (ok-some (header_of (words_of line.1)) line.0 header.0 header.1))

pub script-short : (input : List ℕ) (request : Request) → script_of input ≡ Ok request → IsShort request.options.alignment
script-short input request is = request-short (length (lines_of input) + 1) (filled_from 1 (lines_of input)) request is
