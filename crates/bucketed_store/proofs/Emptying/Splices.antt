-- A list that links spell is put in front of another by one link: that of its last record.
use Rattle.std.proofs.Common.{◌≡◌, ◌≢◌, ℕ, ◌+◌, ◌≤◌, Option, None, List, [], ◌∷◌, ◌++◌, arith, subst}
use Rattle.etagere_base.specs.Lists.{times}
use Rattle.etagere_links.specs.Chains.{Leads}
use Rattle.etagere_links.proofs.Chains.{Leads-append, Leads-frame}
use Rattle.etagere_links.proofs.ListEnds.{times-here}

-- the last of a list that begins with this number
abbrev pub last_of : ℕ → List ℕ → ℕ
last_of x [] = x
last_of x (y ∷ ys) = last_of y ys

-- it stands in the list
pub last_of-stands : (x : ℕ) (xs : List ℕ) → 1 ≤ times (last_of x xs) (x ∷ xs)
last_of-stands x [] = omega (arith, times-here x [])
last_of-stands x (y ∷ ys) = let later = last_of-stands y ys in omega (arith, later)

-- the links lead to where the last one now does
leads-last : (next new : ℕ → Option ℕ) (x : ℕ) (xs : List ℕ) (start end top : Option ℕ) → ((k : ℕ) → times k (x ∷ xs) ≤ 1)
    → ((k : ℕ) → last_of x xs ≢ k → new k ≡ next k) → new (last_of x xs) ≡ top → Leads next start (x ∷ xs) end → Leads new start (x ∷ xs) top
leads-last next new x [] start end top once same last leads = (leads.0, last)
leads-last next new x (y ∷ ys) start end top once same last leads =
    let other : last_of y ys ≢ x = λ e. let again : 1 ≤ times x (y ∷ ys) = subst (λ (n : ℕ). 1 ≤ times n (y ∷ ys)) e (last_of-stands y ys) in omega (arith, once x, times-here x (y ∷ ys), again) in
    let rest : Leads new (next x) (y ∷ ys) top = leads-last next new y ys (next x) end top (λ k. omega (arith, once k)) same last leads.1 in
    (leads.0, rw (same x other) rest)

-- a list put in front of another by the link of its last record
pub spliced : (next new : ℕ → Option ℕ) (x : ℕ) (xs ys : List ℕ) (start top : Option ℕ) → ((k : ℕ) → times k (x ∷ xs) + times k ys ≤ 1)
    → ((k : ℕ) → last_of x xs ≢ k → new k ≡ next k) → new (last_of x xs) ≡ top
    → Leads next start (x ∷ xs) None → Leads next top ys None → Leads new start (x ∷ xs ++ ys) None
spliced next new x xs ys start top once same last front back =
    let stays : (k : ℕ) → 1 ≤ times k ys → new k ≡ next k =
    λ k stands. same k (λ e. let here : 1 ≤ times k (x ∷ xs) = subst (λ (n : ℕ). 1 ≤ times n (x ∷ xs)) e (last_of-stands x xs) in omega (arith, once k, here, stands)) in
    Leads-append new (x ∷ xs) ys start top None
    (leads-last next new x xs start None top (λ k. omega (arith, once k)) same last front)
    (Leads-frame next new ys top None stays back)
