-- Following links along the list that they spell: what is left of it, link by link.
use Rattle.std.proofs.Common.{◌≡◌, ℕ, suc, ◌+◌, ◌<◌, ◌≤◌, Option, None, Some, List, [], ◌∷◌, ◌++◌, append_assoc, length, refl, ap, arith, subst, sym, ◌∙◌}
use Rattle.std.specs.Prelude.{◌==◌, if◌then◌else◌}
use Rattle.etagere_base.specs.Lists.{times}
use Rattle.etagere_base.proofs.TimesLemmas.{times-append}
use Rattle.etagere_links.specs.Chains.{IsList, Leads}
use Rattle.etagere_links.specs.Edits.{link_at}
use Rattle.etagere_links.proofs.ListEnds.{times-here}

-- where links have led after so many steps: what is left of the list, which they spell from here on
pub record IsLeft {T : Type 0} (next : T → Option ℕ) (records : List T) (at : Option ℕ) (steps : ℕ) (rest : List ℕ) : Type 0 where
  pub leads : IsList (link_at next records) at rest
  pub within : (k : ℕ) → 1 ≤ times k rest → k < length records
  pub enough : length rest + steps ≤ length records

-- a link to none is the end
pub none-left : {T : Type 0} (next : T → Option ℕ) (records : List T) (at : Option ℕ) (steps : ℕ) (rest : List ℕ) → IsLeft next records at steps rest → at ≡ None → rest ≡ []
none-left next records at steps [] left ends = refl
none-left next records at steps (x ∷ xs) left ends = let first : at ≡ Some x = left.leads.0 in absurd (cc)

-- nothing is left after as many steps as there are records
pub all-left : {T : Type 0} (next : T → Option ℕ) (records : List T) (at : Option ℕ) (steps : ℕ) (rest : List ℕ) → IsLeft next records at steps rest → length records ≤ steps → rest ≡ []
all-left next records at steps [] left out = refl
all-left next records at steps (x ∷ xs) left out = absurd (omega (arith, left.enough))

-- one step along a list: its first, and what is left after it
pub record IsStep {T : Type 0} (next : T → Option ℕ) (records : List T) (number steps : ℕ) (rest : List ℕ) : Type 0 where
  pub others : List ℕ
  pub whole : rest ≡ number ∷ others
  pub here : number < length records
  pub left : IsLeft next records (link_at next records number) (steps + 1) others

-- a link to a record is a step
pub step-left : {T : Type 0} (next : T → Option ℕ) (records : List T) (at : Option ℕ) (number steps : ℕ) (rest : List ℕ) → IsLeft next records at steps rest → at ≡ Some number → IsStep next records number steps rest
step-left next records at number steps [] left is = let ends : at ≡ None = left.leads in absurd (cc)
step-left next records at number steps (x ∷ xs) left is =
    let first : at ≡ Some x = left.leads.0 in
    let same : x ≡ number = cc in
    record {
      others = xs;
      whole = ap (λ y. y ∷ xs) same;
      here = rw (← same) (left.within x (omega (arith, times-here x xs)));
      left =
          record {
            leads = subst (λ (y : ℕ). Leads (link_at next records) (link_at next records y) xs None) same left.leads.1;
            within = λ k stands. left.within k (omega (arith, stands));
            enough = omega (arith, left.enough);
          };
    }

-- how many numbers of a list there are from the one on that a link names
abbrev pub count_from : Option ℕ → List ℕ → ℕ
count_from None xs = 0
count_from (Some n) [] = 0
count_from (Some n) (x ∷ xs) = if x == n then suc (length xs) else count_from (Some n) xs

-- so many from a number on that stands nowhere before
counted-here : (passed others : List ℕ) (n : ℕ) → times n passed ≡ 0 → count_from (Some n) (passed ++ n ∷ others) ≡ suc (length others)
counted-here [] others n fresh = grind arith
counted-here (x ∷ xs) others n fresh = grind (arith, fresh, counted-here xs others n (omega (arith, fresh)))

-- so many as are left
counted-left : (next : ℕ → Option ℕ) (at : Option ℕ) (passed rest : List ℕ) → ((k : ℕ) → times k (passed ++ rest) ≤ 1) → IsList next at rest → count_from at (passed ++ rest) ≡ length rest
counted-left next at passed [] once list = rw list refl
counted-left next at passed (x ∷ xs) once list =
    rw list.0 (counted-here passed xs x (omega (arith, once x, times-append x passed (x ∷ xs), times-here x xs)))

-- a step leaves fewer, where no number stands twice
pub step-nearer : {T : Type 0} (next : T → Option ℕ) (records : List T) (at : Option ℕ) (number steps : ℕ) (passed rest : List ℕ) → ((k : ℕ) → times k (passed ++ rest) ≤ 1) → IsLeft next records at steps rest → at ≡ Some number → count_from (link_at next records number) (passed ++ rest) < count_from at (passed ++ rest)
step-nearer next records at number steps passed rest once left is =
    let step : IsStep next records number steps rest = step-left next records at number steps rest left is in
    let same : (passed ++ number ∷ []) ++ step.others ≡ passed ++ rest = append_assoc passed (number ∷ []) step.others ∙ ap (λ l. passed ++ l) (sym step.whole) in
    let more : count_from at (passed ++ rest) ≡ length rest = counted-left (link_at next records) at passed rest once left.leads in
    let fewer : count_from (link_at next records number) ((passed ++ number ∷ []) ++ step.others) ≡ length step.others =
    counted-left (link_at next records) (link_at next records number) (passed ++ number ∷ []) step.others (λ k. rw same (once k)) step.left.leads in
    omega (arith, more, fewer, ap (count_from (link_at next records number)) same, ap length step.whole)
