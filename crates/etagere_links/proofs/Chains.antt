-- Lists that links spell: what stays when links change, and how a list is put together.
use Rattle.std.proofs.Common.{◌≡◌, ℕ, ◌≤◌, Option, List, [], ◌∷◌, ◌++◌, arith}
use Rattle.etagere_links.specs.Chains.{Leads}
use Rattle.etagere_base.specs.Lists.{times}
use Rattle.etagere_links.proofs.ListEnds.{times-here}

-- the same links of its members spell the same list
pub Leads-frame : (next new : ℕ → Option ℕ) (xs : List ℕ) (start end : Option ℕ) → ((k : ℕ) → 1 ≤ times k xs → new k ≡ next k) → Leads next start xs end → Leads new start xs end
Leads-frame next new [] start end same leads = leads
Leads-frame next new (x ∷ xs) start end same leads =
    let here : new x ≡ next x = same x (omega (arith, times-here x xs)) in
    let rest : Leads new (next x) xs end = Leads-frame next new xs (next x) end (λ k stands. same k (omega (arith, stands))) leads.1 in
    (leads.0, rw here rest)

-- two lists that links spell one after the other
pub Leads-append : (next : ℕ → Option ℕ) (xs ys : List ℕ) (start middle end : Option ℕ) → Leads next start xs middle → Leads next middle ys end → Leads next start (xs ++ ys) end
Leads-append next [] ys start middle end front back = rw front back
Leads-append next (x ∷ xs) ys start middle end front back = (front.0, Leads-append next xs ys (next x) middle end front.1 back)
