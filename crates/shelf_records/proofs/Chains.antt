-- Lists that links spell: what stays of links back when they change, and how a list is taken apart.
use Rattle.std.proofs.Common.{◌≡◌, ℕ, ◌≤◌, Option, Some, List, [], ◌∷◌, ◌++◌, arith, ◌∙◌}
use Rattle.etagere_links.specs.Chains.{Leads}
use Rattle.etagere_base.specs.Lists.{times}
use Rattle.shelf_records.specs.Chains.{LeadsBack}
use Rattle.shelf_records.specs.ListEnds.{first_or, last_or}
use Rattle.etagere_links.proofs.ListEnds.{times-here}

-- the same links back of its members spell the same list
pub LeadsBack-frame : (previous new : ℕ → Option ℕ) (xs : List ℕ) (before : Option ℕ) → ((k : ℕ) → 1 ≤ times k xs → new k ≡ previous k) → LeadsBack previous before xs → LeadsBack new before xs
LeadsBack-frame previous new [] before same leads = tt
LeadsBack-frame previous new (x ∷ xs) before same leads =
    (same x (omega (arith, times-here x xs)) ∙ leads.0, LeadsBack-frame previous new xs (Some x) (λ k stands. same k (omega (arith, stands))) leads.1)

-- where a list begins that links spell up to an end
pub Leads-start : (next : ℕ → Option ℕ) (xs : List ℕ) (start end : Option ℕ) → Leads next start xs end → start ≡ first_or end xs
Leads-start next [] start end leads = leads
Leads-start next (x ∷ xs) start end leads = leads.0

-- the last part of a list that links spell
pub Leads-back : (next : ℕ → Option ℕ) (xs ys : List ℕ) (start end : Option ℕ) → Leads next start (xs ++ ys) end → Leads next (first_or end ys) ys end
Leads-back next [] ys start end leads = rw (← Leads-start next ys start end leads) leads
Leads-back next (x ∷ xs) ys start end leads = Leads-back next xs ys (next x) end leads.1

-- the last parts of a list that links spell backward
pub LeadsBack-back : (previous : ℕ → Option ℕ) (xs ys : List ℕ) (before : Option ℕ) → LeadsBack previous before (xs ++ ys) → LeadsBack previous (last_or before xs) ys
LeadsBack-back previous [] ys before leads = leads
LeadsBack-back previous (x ∷ xs) ys before leads = LeadsBack-back previous xs ys (Some x) leads.1

-- what a member's link is: the one after it
pub next-is : (next : ℕ → Option ℕ) (xs ys : List ℕ) (x : ℕ) (start end : Option ℕ) → Leads next start (xs ++ x ∷ ys) end → next x ≡ first_or end ys
next-is next xs ys x start end leads = Leads-start next ys (next x) end (Leads-back next xs (x ∷ ys) start end leads).1

-- what a member's link back is: the one before it
pub previous-is : (previous : ℕ → Option ℕ) (xs ys : List ℕ) (x : ℕ) (before : Option ℕ) → LeadsBack previous before (xs ++ x ∷ ys) → previous x ≡ last_or before xs
previous-is previous xs ys x before leads = (LeadsBack-back previous xs (x ∷ ys) before leads).0
