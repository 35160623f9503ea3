use Rattle.std.proofs.Common.{◌≡◌, ℕ, ◌<◌, List, [], ◌∷◌, ◌++◌, Option, Some, None, IfSome, IfNone, Bor, length, refl, ap, ◌∙◌}
use Rattle.std.specs.Prelude.{unwrap_or}
use Rattle.run_scripts.specs.Lines.{Lacks, lines_of}
use Rattle.run_scripts.proofs.Pieces.{parted-append, parted-last}
use Rattle.run_scripts.proofs.lines.first_line.Goals as goal

-- a line that ends, or the last one
one_line : (r : Option (Bor (List ℕ) × Bor (List ℕ))) (bytes nothing : Bor (List ℕ)) → nothing.now ≡ [] → 0 < length bytes.now → IfNone r (Lacks 10 bytes.now) → IfSome r (λ parts. Lacks 10 parts.0.now) → IfSome r (λ parts. bytes.now ≡ parts.0.now ++ 10 ∷ parts.1.now) → lines_of bytes.now ≡ (unwrap_or r (bytes, nothing)).0.now ∷ lines_of (unwrap_or r (bytes, nothing)).1.now
one_line None bytes nothing empty some lacks before parts = rw empty (parted-last 10 bytes.now lacks some)
one_line (Some (line, rest)) bytes nothing empty some lacks before parts = ap lines_of parts ∙ parted-append 10 [] line.now rest.now before

pub returns-clause-line : goal.returns-clause-line
returns-clause-line c = λ some.
    rw c.unwrap_or.ensures (one_line c.split_once.result c.args.bytes _ refl some c.split_once.ensures.none c.split_once.ensures.before c.split_once.ensures.parts)
