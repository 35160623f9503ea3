use Rattle.std.proofs.Common.{◌≡◌, ℕ, List, [], ◌∷◌, ◌++◌, Option, Some, None, IfSome, IfNone, Bor, ap, ◌∙◌}
use Rattle.run_scripts.specs.Lines.{Lacks, words_of}
use Rattle.run_scripts.proofs.Pieces.{parted-append, parted-one}
use Rattle.run_scripts.proofs.lines.split_word.Goals as goal

-- bytes without a space are one word
one_word : (r : Option (Bor (List ℕ) × Bor (List ℕ))) (words : List ℕ) → IfNone r (Lacks 32 words) → IfNone r (words_of words ≡ words ∷ [])
one_word None words lacks = parted-one 32 words lacks
one_word (Some parts) words lacks = tt

-- bytes parted at the first space are its word and those behind it
more_words : (r : Option (Bor (List ℕ) × Bor (List ℕ))) (words : List ℕ) → IfSome r (λ parts. Lacks 32 parts.0.now) → IfSome r (λ parts. words ≡ parts.0.now ++ 32 ∷ parts.1.now) → IfSome r (λ parts. words_of words ≡ parts.0.now ∷ words_of parts.1.now)
more_words None words before parts = tt
more_words (Some (word, rest)) words before parts = ap words_of parts ∙ parted-append 32 ([] ∷ []) word.now rest.now before

pub returns-clause-one : goal.returns-clause-one
returns-clause-one c = one_word c.split_once.result c.args.words.now c.split_once.ensures.none

pub returns-clause-more : goal.returns-clause-more
returns-clause-more c = more_words c.split_once.result c.args.words.now c.split_once.ensures.before c.split_once.ensures.parts
