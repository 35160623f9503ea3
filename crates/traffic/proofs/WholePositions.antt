-- The positions of a run that goes on, as those of the whole run.
use Rattle.std.proofs.Common.{◌≡◌, ℕ, zero, suc, ◌+◌, ◌<◌, ◌≤◌, Bool, true, false, cond, Option, None, Some, List, [], ◌∷◌, length, map, refl, ap, sym, ◌∙◌, subst, arith}
use Rattle.std.proofs.lemmas.Bool.{eq-eqb, eqb-true}
use Rattle.std.specs.Prelude.{◌==◌}
use Rattle.std.specs.List.{AllByRecursion}
use Rattle.etagere_base.specs.declared.ids.Allocation.{Allocation}
use Rattle.etagere_base.specs.Lists.{times}
use Rattle.etagere_base.proofs.TimesLemmas.{times-here, times-other}
use Rattle.etagere_run.specs.Answers.Live.{Entry, live_allocations}
use Rattle.traffic.specs.Continuing.{position_under, whole_position}
use Rattle.traffic.specs.Ledgers.{entries_from}
use Rattle.traffic.proofs.Renumbering.{all_at, AreRenumbered}

-- the ids of allocations
abbrev pub ids_of : List Allocation → List ℕ
ids_of = map (λ (a : Allocation). a.id)

-- each entry has what its command was given
abbrev pub AreGiven : (ℕ → Option Allocation) → List Entry → Type 0
AreGiven given = AllByRecursion (λ (entry : Entry). given entry.position ≡ Some entry.allocation)

-- an allocation is one of the entries alone: under its id the position that has it, and nothing else
pub record StandsAlone (given : ℕ → Option Allocation) (entries : List Entry) (allocation : Allocation) : Type 0 where
  pub alone : all_at (position_under allocation.id entries) entries ≡ allocation ∷ []
  pub given_is : given (position_under allocation.id entries) ≡ Some allocation

-- nothing stands at a position whose command was given nothing, or something under an id that isn't there
none-at : (given : ℕ → Option Allocation) (entries : List Entry) (position : ℕ) → AreGiven given entries
    → given position ≡ None → all_at position entries ≡ []
none-at given [] position are none = refl
none-at given (entry ∷ entries) position are none =
    here (entry.position == position) refl (none-at given entries position are.1 none)
  where
    here : (b : Bool) → (entry.position == position) ≡ b → all_at position entries ≡ []
        → cond b (entry.allocation ∷ all_at position entries) (all_at position entries) ≡ []
    here true is later =
        let same : entry.position ≡ position = eqb-true entry.position position is in
        let both : None ≡ Some entry.allocation = sym none ∙ sym (ap given same) ∙ are.0 in
        absurd (cc)
    here false is later = later

absent-at : (given : ℕ → Option Allocation) (entries : List Entry) (position : ℕ) (allocation : Allocation)
    → AreGiven given entries → given position ≡ Some allocation
    → times allocation.id (ids_of (live_allocations entries)) ≡ 0
    → all_at position entries ≡ []
absent-at given [] position allocation are is absent = refl
absent-at given (entry ∷ entries) position allocation are is absent =
    let less : times allocation.id (ids_of (live_allocations entries)) ≡ 0 = omega (arith, absent) in
    here (entry.position == position) refl (absent-at given entries position allocation are.1 is less)
  where
    here : (b : Bool) → (entry.position == position) ≡ b → all_at position entries ≡ []
        → cond b (entry.allocation ∷ all_at position entries) (all_at position entries) ≡ []
    here true at later =
        let same : entry.position ≡ position = eqb-true entry.position position at in
        let both : Some entry.allocation ≡ Some allocation = sym are.0 ∙ ap given same ∙ is in
        let ids : entry.allocation.id ≡ allocation.id = cc in
        let counted = times-here allocation.id (ids_of (live_allocations entries)) in
        let here_too : times allocation.id (entry.allocation.id ∷ ids_of (live_allocations entries))
        ≡ times allocation.id (allocation.id ∷ ids_of (live_allocations entries)) =
        ap (λ (n : ℕ). times allocation.id (n ∷ ids_of (live_allocations entries))) ids in
        absurd (omega (arith, absent, counted, here_too))
    here false at later = later

-- what is among entries whose ids differ stands alone
pub stands-alone : (given : ℕ → Option Allocation) (entries : List Entry) (allocation : Allocation)
    → AreGiven given entries
    → AllByRecursion (λ (entry : Entry). entry.allocation.id ≡ allocation.id → entry.allocation ≡ allocation) entries
    → times allocation.id (ids_of (live_allocations entries)) ≡ 1
    → StandsAlone given entries allocation
stands-alone given [] allocation are same once = absurd (omega (arith, once))
stands-alone given (entry ∷ entries) allocation are same once =
    by_id (entry.allocation.id == allocation.id) refl (λ less. stands-alone given entries allocation are.1 same.1 less)
  where
    first : entry.allocation ≡ allocation → entry.allocation.id ≡ allocation.id
        → cond (entry.position == entry.position) (entry.allocation ∷ all_at entry.position entries) (all_at entry.position entries)
        ≡ allocation ∷ []
    first is ids =
        let counted = times-here allocation.id (ids_of (live_allocations entries)) in
        let here_too : times allocation.id (entry.allocation.id ∷ ids_of (live_allocations entries))
        ≡ times allocation.id (allocation.id ∷ ids_of (live_allocations entries)) =
        ap (λ (n : ℕ). times allocation.id (n ∷ ids_of (live_allocations entries))) ids in
        let absent : times allocation.id (ids_of (live_allocations entries)) ≡ 0 = omega (arith, once, counted, here_too) in
        let given_is : given entry.position ≡ Some allocation = are.0 ∙ ap (λ (a : Allocation). Some a) is in
        ap (λ (b : Bool). cond b (entry.allocation ∷ all_at entry.position entries) (all_at entry.position entries))
        (eq-eqb entry.position entry.position refl)
        ∙ ap (λ (l : List Allocation). entry.allocation ∷ l)
        (absent-at given entries entry.position allocation are.1 given_is absent)
        ∙ ap (λ (a : Allocation). a ∷ []) is

    later : StandsAlone given entries allocation → (entry.allocation.id == allocation.id) ≡ false
        → (b : Bool) → (entry.position == position_under allocation.id entries) ≡ b
        → cond b (entry.allocation ∷ all_at (position_under allocation.id entries) entries)
        (all_at (position_under allocation.id entries) entries)
        ≡ allocation ∷ []
    later rest other true at =
        let p = position_under allocation.id entries in
        let here : entry.position ≡ p = eqb-true entry.position p at in
        let both : Some entry.allocation ≡ Some allocation = sym are.0 ∙ ap given here ∙ rest.given_is in
        let is : entry.allocation ≡ allocation = cc in
        let ids : (entry.allocation.id == allocation.id) ≡ true =
        eq-eqb entry.allocation.id allocation.id (ap (λ (a : Allocation). a.id) is) in
        absurd (cc)
    later rest other false at = rest.alone

    by_id : (b : Bool) → (entry.allocation.id == allocation.id) ≡ b
        → (times allocation.id (ids_of (live_allocations entries)) ≡ 1 → StandsAlone given entries allocation)
        → StandsAlone given (entry ∷ entries) allocation
    by_id true is others =
        let ids : entry.allocation.id ≡ allocation.id = eqb-true entry.allocation.id allocation.id is in
        let same_one = same.0 ids in
        let at : position_under allocation.id (entry ∷ entries) ≡ entry.position = rw is refl in
        record {
          alone = subst (λ (n : ℕ). all_at n (entry ∷ entries) ≡ allocation ∷ []) (sym at) (first same_one ids);
          given_is = ap given at ∙ are.0 ∙ ap (λ (a : Allocation). Some a) same_one;
        }
    by_id false is others =
        let at : position_under allocation.id (entry ∷ entries) ≡ position_under allocation.id entries = rw is refl in
        let less : times allocation.id (ids_of (live_allocations entries)) ≡ 1 =
        sym (times-other allocation.id entry.allocation.id (ids_of (live_allocations entries))
        (λ e. let t = eq-eqb entry.allocation.id allocation.id e in absurd (cc))) ∙ once in
        let rest = others less in
        record {
          alone = subst (λ (n : ℕ). all_at n (entry ∷ entries) ≡ allocation ∷ []) (sym at)
              (later rest is (entry.position == position_under allocation.id entries) refl);
          given_is = ap given at ∙ rest.given_is;
        }

-- what was live as a run went on, and the entries of the commands before, of which there were so many
pub record AreOfWhole (before : ℕ) (given : ℕ → Option Allocation) (entries : List Entry) (live : List Allocation)
    : Type 0 where
  pub each : AllByRecursion (StandsAlone given entries) live
  pub ids : (id : ℕ) → times id (ids_of live) ≤ 1
  pub given_each : AreGiven given entries
  pub given_before : (n : ℕ) → before ≤ n → given n ≡ None

-- entries of allocations from a position on have nothing before it
before-first : (first n : ℕ) (live : List Allocation) → n < first → all_at n (entries_from first live) ≡ []
before-first first n [] before = refl
before-first first n (allocation ∷ live) before =
    let other : (first == n) ≡ false = grind (arith, eqb-true) in
    rw other (before-first (first + 1) n live (omega arith))

module _ (before : ℕ) (given : ℕ → Option Allocation) (entries : List Entry) where
  -- fewer of what was live
  fewer : (allocation : Allocation) (live : List Allocation) → AreOfWhole before given entries (allocation ∷ live)
      → AreOfWhole before given entries live
  fewer allocation live are =
      record {
        each = are.each.1;
        ids = λ id. let all = are.ids id in omega (arith, all);
        given_each = are.given_each;
        given_before = are.given_before;
      }

  whole-same : (first n : ℕ) (live : List Allocation) → AreOfWhole before given entries live
      → all_at (first + n) (entries_from first live) ≡ all_at (whole_position before entries live n) entries
  whole-same first n [] are = sym (none-at given entries (before + n) are.given_each (are.given_before (before + n) (omega arith)))
  whole-same first zero (allocation ∷ live) are =
      let here : first + 0 ≡ first = omega arith in
      let same : (first == first + 0) ≡ true = eq-eqb first (first + 0) (sym here) in
      let none : all_at (first + 0) (entries_from (first + 1) live) ≡ [] =
      before-first (first + 1) (first + 0) live (omega arith) in
      rw (same, none) (sym are.each.0.alone)
  whole-same first (suc n) (allocation ∷ live) are =
      let other : (first == first + suc n) ≡ false = grind (arith, eqb-true) in
      let at : first + suc n ≡ (first + 1) + n = omega arith in
      rw other (ap (λ (m : ℕ). all_at m (entries_from (first + 1) live)) at
      ∙ whole-same (first + 1) n live (fewer allocation live are))

  -- no other position is that of an allocation
  whole-apart : (allocation : Allocation) (n : ℕ) (live : List Allocation) → StandsAlone given entries allocation
      → AreOfWhole before given entries live → times allocation.id (ids_of live) ≡ 0
      → whole_position before entries live n ≡ position_under allocation.id entries → ⊥
  whole-apart allocation n [] stands are absent same =
      let none : given (before + n) ≡ None = are.given_before (before + n) (omega arith) in
      let both : None ≡ Some allocation = sym none ∙ ap given same ∙ stands.given_is in
      absurd (cc)
  whole-apart allocation zero (other ∷ live) stands are absent same =
      let both : Some other ≡ Some allocation = sym are.each.0.given_is ∙ ap given same ∙ stands.given_is in
      let is : other ≡ allocation = cc in
      let counted = times-here allocation.id (ids_of live) in
      let here_too : times allocation.id (other.id ∷ ids_of live) ≡ times allocation.id (allocation.id ∷ ids_of live) =
      ap (λ (a : Allocation). times allocation.id (a.id ∷ ids_of live)) is in
      absurd (omega (arith, absent, counted, here_too))
  whole-apart allocation (suc n) (other ∷ live) stands are absent same =
      whole-apart allocation n live stands (fewer other live are) (omega (arith, absent)) same

  pub whole-one : (live : List Allocation) → AreOfWhole before given entries live → (m n : ℕ)
      → whole_position before entries live m ≡ whole_position before entries live n → m ≡ n
  whole-one [] are m n same = omega (arith, same)
  whole-one (allocation ∷ live) are zero zero same = refl
  whole-one (allocation ∷ live) are zero (suc n) same =
      absurd (whole-apart allocation n live are.each.0 (fewer allocation live are) (alone_in allocation live are) (sym same))
    where
      alone_in : (a : Allocation) (l : List Allocation) → AreOfWhole before given entries (a ∷ l) → times a.id (ids_of l) ≡ 0
      alone_in a l all = let most = all.ids a.id in omega (arith, most, times-here a.id (ids_of l))
  whole-one (allocation ∷ live) are (suc m) zero same =
      absurd (whole-apart allocation m live are.each.0 (fewer allocation live are) (alone_in allocation live are) same)
    where
      alone_in : (a : Allocation) (l : List Allocation) → AreOfWhole before given entries (a ∷ l) → times a.id (ids_of l) ≡ 0
      alone_in a l all = let most = all.ids a.id in omega (arith, most, times-here a.id (ids_of l))
  whole-one (allocation ∷ live) are (suc m) (suc n) same =
      ap (λ k. suc k) (whole-one live (fewer allocation live are) m n same)

  -- the commands that go on have their positions behind those before
  pub whole-own : (live : List Allocation) (n : ℕ) → whole_position before entries live (length live + n) ≡ before + n
  whole-own [] n = ap (λ m. before + m) (omega arith)
  whole-own (allocation ∷ live) n =
      let at : length (allocation ∷ live) + n ≡ suc (length live + n) = omega arith in
      ap (whole_position before entries (allocation ∷ live)) at ∙ whole-own live n

  -- the ledger of what was live is that of the commands before
  pub whole-renumbered : (live : List Allocation) → AreOfWhole before given entries live
      → AreRenumbered (whole_position before entries live) (entries_from 0 live) entries
  whole-renumbered live are =
      record {
        same = λ n. let at : n ≡ 0 + n = omega arith in
            ap (λ (m : ℕ). all_at m (entries_from 0 live)) at ∙ whole-same 0 n live are;
      }
