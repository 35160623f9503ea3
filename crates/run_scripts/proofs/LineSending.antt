-- A line that goes out in parts: so many bytes of it, and then a part of the rest.
use Rattle.std.proofs.Common.{ℕ, ◌+◌, List, Option, take, drop, sym, arith, subst}
use Rattle.std.proofs.Math.Seq.{take-add}
use Rattle.std.proofs.lemmas.List.{length-drop}
use Rattle.std.specs.Prelude.{Err, Ok, OnErr, Result}
use Rattle.std.specs.Io.KnownBytes.{Appends}
use Rattle.pictures.specs.Sending.{AppendsBeginning, AppendsPart}
use Rattle.pictures.proofs.GatheringLemmas.{appends-both}

-- what follows from what holds where there is an error
pub on-err-then : {T E P Q : Type 0} (result : Result T E) → (P → Q) → OnErr result P → OnErr result Q
on-err-then (Ok value) next holds = tt
on-err-then (Err error) next holds = next holds

-- so many bytes went out, and then a part of the rest
pub part-of-rest : (old middle new : Option (List ℕ)) (line : List ℕ) (sent : ℕ) → Appends old middle (take sent line)
    → AppendsPart middle new (drop sent line) → AppendsPart old new line
part-of-rest old middle new line sent before (more, short, after) = (
  sent + more,
  omega (arith, short, length-drop sent line),
  subst (λ (l : List ℕ). Appends old new l) (sym (take-add sent more line))
      (appends-both old middle new (take sent line) (take more (drop sent line)) before after),
)

-- a part is a beginning
pub part-begins : (old new : Option (List ℕ)) (line : List ℕ) → AppendsPart old new line → AppendsBeginning old new line
part-begins old new line (sent, short, out) = (sent, omega (arith, short), out)
