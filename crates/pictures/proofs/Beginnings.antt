-- A beginning of a text, and then a beginning of its rest, is a beginning of the whole.
use Rattle.std.proofs.Common.{◌≡◌, ℕ, ◌+◌, ◌-◌, List, ◌++◌, Option, None, Some, take, drop, length, sym, ◌∙◌, ap}
use Rattle.std.proofs.Math.Seq.{take-add, take-length}
use Rattle.std.proofs.lemmas.List.{append_assoc, length-drop}
use Rattle.std.specs.Io.KnownBytes.{Appends}

-- the rest of a text, as a slice to its end
pub rest_is : (sent : ℕ) (text : List ℕ) → take (length text - sent) (drop sent text) ≡ drop sent text
rest_is sent text =
    ap (λ n. take n (drop sent text)) (sym (length-drop sent text)) ∙ take-length (drop sent text)

-- a beginning of a text, and then a beginning of the rest of it
pub appends_more : (old middle new : Option (List ℕ)) (text : List ℕ) (sent count : ℕ) → Appends old middle (take sent text) → Appends middle new (take count (take (length text - sent) (drop sent text))) → Appends old new (take (sent + count) text)
appends_more None middle new text sent count before after = tt
appends_more (Some xs) None new text sent count before after = absurd before
appends_more (Some xs) (Some ys) None text sent count before after = absurd after
appends_more (Some xs) (Some ys) (Some zs) text sent count before after =
    after
    ∙ ap (λ rest. ys ++ take count rest) (rest_is sent text)
    ∙ ap (λ l. l ++ take count (drop sent text)) before
    ∙ append_assoc xs (take sent text) (take count (drop sent text))
    ∙ sym (ap (λ l. xs ++ l) (take-add sent count text))
