-- A list that links spell, after a member was taken out or put in: only the links of its neighbours change.
use Rattle.std.proofs.Common.{◌≡◌, ◌≢◌, ℕ, ◌≤◌, Option, None, Some, List, [], ◌∷◌, ◌++◌, refl, arith, ◌∙◌}
use Rattle.etagere_links.specs.Chains.{Leads}
use Rattle.shelf_records.specs.Chains.{LeadsBack}
use Rattle.etagere_base.specs.Lists.{times}
use Rattle.shelf_records.specs.ListEnds.{first_or, last_or}
use Rattle.etagere_base.proofs.TimesLemmas.{times-append}
use Rattle.etagere_links.proofs.ListEnds.{times-here}
use Rattle.shelf_records.proofs.ListEnds.{last-stands, first-stands}
use Rattle.etagere_links.proofs.Chains.{Leads-frame}
use Rattle.shelf_records.proofs.Chains.{LeadsBack-frame, Leads-back}

-- two numbers differ where one stands in a list, and the other in front of it and no more
differ : (x k : ℕ) (xs : List ℕ) → times x (x ∷ xs) ≤ 1 → 1 ≤ times k xs → x ≢ k
differ x k xs once stands e = let again : 1 ≤ times x xs = rw e stands in omega (arith, times-here x xs)

-- a link to one number is no link to another
other-link : (x k : ℕ) → x ≢ k → Some x ≢ Some k
other-link x k other e = let same : x ≡ k = cc in other same

-- taking a member out: the link of the one before it leads to the one after it
pub unlink-forward : (next new : ℕ → Option ℕ) (front back : List ℕ) (at : ℕ) (start end : Option ℕ) → ((k : ℕ) → times k (front ++ at ∷ back) ≤ 1) → ((k : ℕ) → 1 ≤ times k (front ++ back) → last_or None front ≢ Some k → new k ≡ next k) → ((k : ℕ) → last_or None front ≡ Some k → new k ≡ first_or end back) → Leads next start (front ++ at ∷ back) end → Leads new (first_or end (front ++ back)) (front ++ back) end
unlink-forward next new [] back at start end once same changed leads =
    let kept : Leads next (first_or end back) back end = Leads-back next (at ∷ []) back start end leads in
    Leads-frame next new back (first_or end back) end (λ k stands. same k stands (λ e. cc)) kept
unlink-forward next new (x ∷ []) back at start end once same changed leads =
    let kept : Leads next (first_or end back) back end = Leads-back next (x ∷ at ∷ []) back start end leads in
    let rest : Leads new (first_or end back) back end =
    Leads-frame next new back (first_or end back) end
    (λ k stands. same k (omega (arith, stands)) (other-link x k (differ x k (at ∷ back) (once x) (omega (arith, stands))))) kept in
    (refl, rw (changed x refl) rest)
unlink-forward next new (x ∷ y ∷ front) back at start end once same changed leads =
    let other : last_or (Some y) front ≢ Some x =
    λ last. omega (arith, once x, times-here x (y ∷ front ++ at ∷ back), last-stands front y x last, times-append x (y ∷ front) (at ∷ back)) in
    let here : new x ≡ Some y = same x (omega (arith, times-here x (y ∷ front ++ back))) other ∙ leads.1.0 in
    let rest : Leads new (Some y) (y ∷ front ++ back) end =
    unlink-forward next new (y ∷ front) back at (next x) end
    (λ k. omega (arith, once k)) (λ k stands last. same k (omega (arith, stands)) last) changed leads.1 in
    (refl, rw here rest)

-- taking a member out: the link of the one after it leads back to the one before it
pub unlink-backward : (previous new : ℕ → Option ℕ) (front back : List ℕ) (at : ℕ) (before : Option ℕ) → ((k : ℕ) → times k (front ++ at ∷ back) ≤ 1) → ((k : ℕ) → 1 ≤ times k (front ++ back) → first_or None back ≢ Some k → new k ≡ previous k) → ((k : ℕ) → first_or None back ≡ Some k → new k ≡ last_or before front) → LeadsBack previous before (front ++ at ∷ back) → LeadsBack new before (front ++ back)
unlink-backward previous new [] [] at before once same changed leads = tt
unlink-backward previous new [] (y ∷ ys) at before once same changed leads = (
  changed y refl,
  LeadsBack-frame previous new ys (Some y)
      (λ k stands. same k (omega (arith, stands)) (other-link y k (differ y k ys (omega (arith, once y)) stands))) leads.1.1,
)
unlink-backward previous new (x ∷ front) back at before once same changed leads =
    let other : first_or None back ≢ Some x =
    λ first. omega (arith, once x, times-here x (front ++ at ∷ back), first-stands back x first, times-append x front (at ∷ back)) in (
      same x (omega (arith, times-here x (front ++ back))) other ∙ leads.0,
      unlink-backward previous new front back at (Some x)
          (λ k. omega (arith, once k)) (λ k stands first. same k (omega (arith, stands)) first) changed leads.1,
    )

-- putting one in: its link leads to the one after it, and the link of the one before it leads to it
pub insert-forward : (next new : ℕ → Option ℕ) (front back : List ℕ) (at : ℕ) (start end : Option ℕ) → ((k : ℕ) → times k (front ++ back) ≤ 1) → ((k : ℕ) → 1 ≤ times k (front ++ back) → last_or None front ≢ Some k → new k ≡ next k) → ((k : ℕ) → last_or None front ≡ Some k → new k ≡ Some at) → new at ≡ first_or end back → Leads next start (front ++ back) end → Leads new (first_or end (front ++ at ∷ back)) (front ++ at ∷ back) end
insert-forward next new [] back at start end once same changed here leads =
    let kept : Leads next (first_or end back) back end = Leads-back next [] back start end leads in
    let rest : Leads new (first_or end back) back end =
    Leads-frame next new back (first_or end back) end (λ k stands. same k stands (λ e. cc)) kept in
    (refl, rw here rest)
insert-forward next new (x ∷ []) back at start end once same changed here leads =
    let kept : Leads next (first_or end back) back end = Leads-back next (x ∷ []) back start end leads in
    let rest : Leads new (first_or end back) back end =
    Leads-frame next new back (first_or end back) end
    (λ k stands. same k (omega (arith, stands)) (other-link x k (differ x k back (once x) stands))) kept in
    (refl, (changed x refl, rw here rest))
insert-forward next new (x ∷ y ∷ front) back at start end once same changed here leads =
    let other : last_or (Some y) front ≢ Some x =
    λ last. omega (arith, once x, times-here x (y ∷ front ++ back), last-stands front y x last, times-append x (y ∷ front) back) in
    let step : new x ≡ Some y = same x (omega (arith, times-here x (y ∷ front ++ back))) other ∙ leads.1.0 in
    let rest : Leads new (Some y) (y ∷ front ++ at ∷ back) end =
    insert-forward next new (y ∷ front) back at (next x) end
    (λ k. omega (arith, once k)) (λ k stands last. same k (omega (arith, stands)) last) changed here leads.1 in
    (refl, rw step rest)

-- putting one in: its link leads back to the one before it, and the link of the one after it back to it
pub insert-backward : (previous new : ℕ → Option ℕ) (front back : List ℕ) (at : ℕ) (before : Option ℕ) → ((k : ℕ) → times k (front ++ back) ≤ 1) → ((k : ℕ) → 1 ≤ times k (front ++ back) → first_or None back ≢ Some k → new k ≡ previous k) → ((k : ℕ) → first_or None back ≡ Some k → new k ≡ Some at) → new at ≡ last_or before front → LeadsBack previous before (front ++ back) → LeadsBack new before (front ++ at ∷ back)
insert-backward previous new [] [] at before once same changed here leads = (here, tt)
insert-backward previous new [] (y ∷ ys) at before once same changed here leads = (
  here,
  (
    changed y refl,
    LeadsBack-frame previous new ys (Some y)
        (λ k stands. same k (omega (arith, stands)) (other-link y k (differ y k ys (once y) stands))) leads.1,
  ),
)
insert-backward previous new (x ∷ front) back at before once same changed here leads =
    let other : first_or None back ≢ Some x =
    λ first. omega (arith, once x, times-here x (front ++ back), first-stands back x first, times-append x front back) in (
      same x (omega (arith, times-here x (front ++ back))) other ∙ leads.0,
      insert-backward previous new front back at (Some x)
          (λ k. omega (arith, once k)) (λ k stands first. same k (omega (arith, stands)) first) changed here leads.1,
    )
