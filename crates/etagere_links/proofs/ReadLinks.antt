-- How many links walks have read, walk by walk.
use Rattle.std.proofs.Common.{◌≡◌, ◌≢◌, ℕ, zero, suc, ◌+◌, ◌<◌, ◌≤◌, Bool, true, false, List, [], ◌∷◌, ◌++◌, length, length-append, get_or, refl, ap, sym, arith, append_assoc, append-nil, ◌∙◌}
use Rattle.std.proofs.lemmas.List.{get_or_past}
use Rattle.std.specs.List.{AllByRecursion, list_all}
use Rattle.std.specs.Prelude.{◌==◌, nat_lt, if◌then◌else◌}
use Rattle.etagere_base.specs.Lists.{times}
use Rattle.etagere_base.proofs.TimesLemmas.{times-append}
use Rattle.etagere_links.specs.declared.marking.WalkFault.{WalkFault}
use Rattle.etagere_links.specs.declared.marking.WalkFault.TheVariants.{OutOfRange, Marked, Circular, Memory}
use Rattle.etagere_links.specs.Links.{no_link}
use Rattle.etagere_links.specs.LinksRead.{has_each, is_own, links_in, links_until}
use Rattle.etagere_links.specs.Marks.{HasTwice, IsMarkedBy}
use Rattle.etagere_links.specs.Lists.{HasEachOnce}
use Rattle.etagere_links.specs.WalkFaults.{BreaksOff, links_by}
use Rattle.etagere_links.specs.Walks.{Walked}
use Rattle.etagere_links.proofs.ListEnds.{times-here, times-other}

-- the numbers that walks met
abbrev pub met_by : List Walked → List ℕ
met_by [] = []
met_by (walked ∷ walks) = walked.met ++ met_by walks

-- how long it is
pub met_by-length : (walks : List Walked) → length (met_by walks) ≡ links_in walks
met_by-length [] = refl
met_by-length (walked ∷ walks) = omega (arith, met_by-length walks, length-append walked.met (met_by walks))

-- none of a list stands among these
unmet : (before met : List ℕ) → ((k : ℕ) → 1 ≤ times k met → times k before ≡ 0) → list_all (λ number. times number before == 0) met ≡ true
unmet before [] none = refl
unmet before (m ∷ ms) none =
    let here : times m before ≡ 0 = none m (omega (arith, times-here m ms)) in
    let rest : list_all (λ number. times number before == 0) ms ≡ true = unmet before ms (λ k stands. none k (omega (arith, stands))) in
    grind (arith, here, rest)

-- one of a list stands among these
met-again : (before met : List ℕ) (k : ℕ) → 1 ≤ times k met → times k before ≢ 0 → list_all (λ number. times number before == 0) met ≡ false
met-again before [] k stands before_too = absurd (omega (arith, stands))
met-again before (m ∷ ms) k stands before_too = by_test (m == k) refl (met-again before ms k)
  where
    by_test : (b : Bool) → (m == k) ≡ b → (1 ≤ times k ms → times k before ≢ 0 → list_all (λ number. times number before == 0) ms ≡ false)
        → list_all (λ number. times number before == 0) (m ∷ ms) ≡ false
    by_test true e later =
        let is : m ≡ k = grind arith in
        let here : times m before ≢ 0 = rw is before_too in
        grind (arith, here)
    by_test false e later =
        let other : m ≢ k = grind arith in
        let rest : list_all (λ number. times number before == 0) ms ≡ false = later (omega (arith, stands, times-other k m ms other)) before_too in
        grind (arith, rest)

-- a walk is along a list of its own where it ends at none, and with the numbers before each stands once
pub own-once : (before : List ℕ) (walked : Walked) → walked.end ≡ no_link → ((k : ℕ) → times k (before ++ walked.met) ≤ 1) → is_own before walked ≡ true
own-once before walked ends once =
    let none : list_all (λ number. times number before == 0) walked.met ≡ true = unmet before walked.met (λ k stands. omega (arith, stands, once k, times-append k before walked.met)) in
    grind (arith, none, ends)

-- each marked number stands once
pub marked-once : (marks : List Bool) (numbers : List ℕ) → IsMarkedBy marks numbers → (k : ℕ) → times k numbers ≤ 1
marked-once marks numbers marked k = by_count (times k numbers) refl
  where
    by_count : (n : ℕ) → times k numbers ≡ n → times k numbers ≤ 1
    by_count n e = grind (arith, marked k)

-- a walk that is refused is along no list of its own
pub not-own : (marks : List Bool) (count : ℕ) (before : List ℕ) (walked : Walked) (fault : WalkFault) → fault ≢ Memory → BreaksOff marks count walked fault → IsMarkedBy marks before
    → ((k : ℕ) → times k walked.met ≤ 1) → is_own before walked ≡ false
not-own marks count before walked OutOfRange other breaks marked once = let out : walked.end ≢ no_link = breaks.0 in grind (arith, out)
not-own marks count before walked Marked other breaks marked once =
    let twice : HasTwice (before ++ walked.met) = breaks before marked in
    let again : list_all (λ number. times number before == 0) walked.met ≡ false =
    met-again before walked.met twice.0 (omega (arith, twice.1, times-append twice.0 before walked.met, marked-once marks before marked twice.0)) (λ e. omega (arith, e, twice.1, times-append twice.0 before walked.met, once twice.0)) in
    grind (arith, again)
not-own marks count before walked Circular other breaks marked once = let out : walked.end ≢ no_link = breaks in grind (arith, out)
not-own marks count before walked Memory other breaks marked once = absurd (other refl)

-- the links that are read where the next walk is along a list of its own
pub until-own : (count more : ℕ) (before : List ℕ) (walked : Walked) (walks : List Walked) → is_own before walked ≡ true
    → links_until count more before (walked ∷ walks) ≡ length walked.met + links_until count more (before ++ walked.met) walks
until-own count more before walked walks own = simp own refl

-- and where it is not
pub until-refused : (count more : ℕ) (before : List ℕ) (walked : Walked) (walks : List Walked) → is_own before walked ≡ false → links_until count more before (walked ∷ walks) ≡ length walked.met
until-refused count more before walked walks refused = simp refused (omega arith)

-- the next walk reads its links in any case
pub until-next : (count more : ℕ) (before : List ℕ) (walked : Walked) (walks : List Walked) → length walked.met ≤ links_until count more before (walked ∷ walks)
until-next count more before walked walks = omega arith

-- the links that are read where the first walks are along lists of their own
pub until-front : (count more : ℕ) (before : List ℕ) (front back : List Walked) → ((k : ℕ) → times k (before ++ met_by front) ≤ 1) → AllByRecursion (λ (walked : Walked). walked.end ≡ no_link) front
    → links_until count more before (front ++ back) ≡ links_in front + links_until count more (before ++ met_by front) back
until-front count more before [] back once ends = rw append-nil (omega arith)
until-front count more before (walked ∷ front) back once ends =
    let joined : (before ++ walked.met) ++ met_by front ≡ before ++ (walked.met ++ met_by front) = append_assoc before walked.met (met_by front) in
    let own : is_own before walked ≡ true = own-once before walked ends.0 (λ k. omega (arith, once k, times-append k before walked.met, times-append k before (walked.met ++ met_by front), times-append k walked.met (met_by front))) in
    let rest = until-front count more (before ++ walked.met) front back (λ k. rw joined (once k)) ends.1 in
    let told = rw joined at rest in
    omega (arith, until-own count more before walked (front ++ back) own, told)

-- the links that are read where all walks are along lists of their own
pub until-all : (count more : ℕ) (before : List ℕ) (walks : List Walked) → ((k : ℕ) → times k (before ++ met_by walks) ≤ 1) → AllByRecursion (λ (walked : Walked). walked.end ≡ no_link) walks
    → links_until count more before walks ≡ links_in walks + (if has_each count (before ++ met_by walks) then more else 0)
until-all count more before walks once ends =
    ap (λ (ws : List Walked). links_until count more before ws) (sym (append-nil walks)) ∙ until-front count more before walks [] once ends

-- the links that are read up to a walk that is refused, whose fault isn't that memory ran out
pub until-fault : (count more : ℕ) (before : List ℕ) (front back : List Walked) (walked : Walked) (marks : List Bool) (records : ℕ) (fault : WalkFault) → AllByRecursion (λ (walked : Walked). walked.end ≡ no_link) front
    → IsMarkedBy marks (before ++ met_by front) → BreaksOff marks records walked fault → ((k : ℕ) → times k walked.met ≤ 1) → fault ≢ Memory
    → links_until count more before (front ++ walked ∷ back) ≡ links_in front + links_by walked fault
until-fault count more before front back walked marks records fault ends marked breaks once other =
    let refused : is_own (before ++ met_by front) walked ≡ false = not-own marks records (before ++ met_by front) walked fault other breaks marked once in
    omega (
      arith,
      until-front count more before front (walked ∷ back) (marked-once marks (before ++ met_by front) marked) ends,
      until-refused count more (before ++ met_by front) walked back refused,
      links-by walked fault other,
    )
  where
    links-by : (walked : Walked) (fault : WalkFault) → fault ≢ Memory → links_by walked fault ≡ length walked.met
    links-by walked OutOfRange other = refl
    links-by walked Marked other = refl
    links-by walked Circular other = refl
    links-by walked Memory other = absurd (other refl)

-- the links of the walks so far and of the next one are no more than all that are read
pub until-some : (count more : ℕ) (before : List ℕ) (front back : List Walked) (walked : Walked) (marks : List Bool) → AllByRecursion (λ (walked : Walked). walked.end ≡ no_link) front
    → IsMarkedBy marks (before ++ met_by front) → links_in front + length walked.met ≤ links_until count more before (front ++ walked ∷ back)
until-some count more before front back walked marks ends marked =
    omega (
      arith,
      until-front count more before front (walked ∷ back) (marked-once marks (before ++ met_by front) marked) ends,
      until-next count more (before ++ met_by front) walked back,
    )

-- each number below a count stands in a list once, and no other
pub each-told : (count : ℕ) (numbers : List ℕ) → ((k : ℕ) → k < count → times k numbers ≡ 1) → has_each count numbers ≡ true
each-told zero numbers each = refl
each-told (suc count) numbers each =
    let rest : has_each count numbers ≡ true = each-told count numbers (λ k below. each k (omega arith)) in
    grind (arith, each count (omega arith), rest)

-- what is told so
told-each : (count : ℕ) (numbers : List ℕ) → has_each count numbers ≡ true → (k : ℕ) → k < count → times k numbers ≡ 1
told-each zero numbers told k below = absurd (omega arith)
told-each (suc count) numbers told k below = by_test (k == count) refl (told-each count numbers (grind (arith, told)) k)
  where
    by_test : (b : Bool) → (k == count) ≡ b → (k < count → times k numbers ≡ 1) → times k numbers ≡ 1
    by_test true e later = let is : k ≡ count = grind arith in rw is (grind (arith, told))
    by_test false e later = later (grind (arith, e))

-- lists that have each record once are told so
pub once-told : (count : ℕ) (numbers : List ℕ) → HasEachOnce count numbers → has_each count numbers ≡ true
once-told count numbers once = each-told count numbers (λ k below. grind (arith, once k))

-- lists that don't, and have no record that isn't there, are not
pub not-told : (marks : List Bool) (numbers : List ℕ) → IsMarkedBy marks numbers → (HasEachOnce (length marks) numbers → ⊥) → has_each (length marks) numbers ≡ false
not-told marks numbers marked missing = by_test (has_each (length marks) numbers) refl
  where
    each-once : has_each (length marks) numbers ≡ true → HasEachOnce (length marks) numbers
    each-once told k = by_place (nat_lt k (length marks)) refl
      where
        by_place : (b : Bool) → nat_lt k (length marks) ≡ b → times k numbers ≡ (if nat_lt k (length marks) then 1 else 0)
        by_place true e = rw e (told-each (length marks) numbers told k (grind arith))
        by_place false e =
            let past : get_or marks k false ≡ false = get_or_past marks k false (grind arith) in
            rw e (grind (arith, marked k, past))

    by_test : (b : Bool) → has_each (length marks) numbers ≡ b → b ≡ false
    by_test true e = absurd (missing (each-once e))
    by_test false e = refl
