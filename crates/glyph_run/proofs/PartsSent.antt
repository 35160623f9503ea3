-- Pieces of a line that were sent one after another: all of it, or a part that isn't all of it.
use Rattle.std.proofs.Common.{◌≡◌, ℕ, ◌+◌, ◌<◌, List, [], ◌∷◌, ◌++◌, Option, Result, Ok, Err, length, get_or, take, drop, refl, ap, sym, ◌∙◌, subst, arith}
use Rattle.std.specs.Prelude.{OnErr, codes}
use Rattle.std.proofs.Math.Seq.{take-append-add}
use Rattle.std.proofs.lemmas.Grind.{flat_map-append}
use Rattle.std.proofs.lemmas.List.{append-nil, at_drop_more, length-append, take-append-drop, take-append-le, take_more}
use Rattle.std.specs.Io.KnownBytes.{Appends}
use Rattle.pictures.specs.Sending.{AppendsPart}
use Rattle.pictures.proofs.GatheringLemmas.{appends-both}
use Rattle.glyph_run.specs.ReplyText.{evicted_text, key_text, keys_text}

-- a part went out of the first of two pieces
pub part-first : (old new : Option (List ℕ)) (one other : List ℕ) → AppendsPart old new one → AppendsPart old new (one ++ other)
part-first old new one other (sent, short, out) = (
  sent,
  omega (arith, short, length-append one other),
  subst (Appends old new) (sym (take-append-le sent one other (omega arith))) out,
)

-- the first of two pieces went out, and a part of the second
pub part-behind : (old middle new : Option (List ℕ)) (one other : List ℕ) → Appends old middle one → AppendsPart middle new other
    → AppendsPart old new (one ++ other)
part-behind old middle new one other before (sent, short, after) = (
  length one + sent,
  omega (arith, short, length-append one other),
  subst (Appends old new) (sym (take-append-add one other sent)) (appends-both old middle new one (take sent other) before after),
)

-- the text of the first keys and of one more
pub keys-more : (keys : List ℕ) (i : ℕ) → i < length keys
    → keys_text (take i keys) ++ key_text (get_or keys i 0) ≡ keys_text (take (i + 1) keys)
keys-more keys i within =
    sym (ap keys_text (take_more keys i 0 within)
    ∙ flat_map-append key_text (take i keys) (get_or keys i 0 ∷ [])
    ∙ ap (λ (l : List ℕ). keys_text (take i keys) ++ l) (append-nil (key_text (get_or keys i 0))))

-- the first keys were sent, and of the next one a part
pub keys-stopped : (old middle new : Option (List ℕ)) (keys : List ℕ) (i : ℕ) → i < length keys
    → Appends old middle (keys_text (take i keys)) → AppendsPart middle new (key_text (get_or keys i 0))
    → AppendsPart old new (keys_text keys)
keys-stopped old middle new keys i within before part =
    let first = keys_text (take i keys) in
    let key = key_text (get_or keys i 0) in
    let rest = keys_text (drop (i + 1) keys) in
    let whole : first ++ (key ++ rest) ≡ keys_text keys =
    ap (λ (l : List ℕ). first ++ l) (sym (at_drop_more keys_text keys i 0 within))
    ∙ sym (flat_map-append key_text (take i keys) (drop i keys))
    ∙ ap keys_text (take-append-drop i keys) in
    subst (AppendsPart old new) whole (part-behind old middle new first (key ++ rest) before (part-first middle new key rest part))

-- keys of which there are some
pub evicted_text-some : (keys : List ℕ) → 0 < length keys → codes " evicted" ++ keys_text keys ≡ evicted_text keys
evicted_text-some [] some = absurd (omega arith)
evicted_text-some (key ∷ keys) some = refl

-- what follows where there is an error
pub on-err-then : {T E P Q : Type 0} (result : Result T E) → (P → Q) → OnErr result P → OnErr result Q
on-err-then (Ok value) then p = tt
on-err-then (Err error) then p = then p
