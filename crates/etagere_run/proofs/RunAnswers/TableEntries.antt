-- The table of a ledger and its entries: a slot has the entry of its position, and takes it out alone.
use Rattle.std.proofs.Common.{◌≡◌, ℕ, zero, suc, ◌+◌, ◌-◌, ◌<◌, ◌≤◌, true, false, ◌==◌, Option, None, Some, List, [], ◌∷◌, ◌++◌, drop, length, get_or, refl, ap, sym, ◌∙◌, ⊎_elim, arith}
use Rattle.std.specs.Prelude.{IfNone, IfSome, slice_get, slice_set}
use Rattle.std.proofs.lemmas.Bool.Decides.{nat_tests}
use Rattle.std.proofs.lemmas.Bool.{cases_lt}
use Rattle.std.proofs.lemmas.List.{drop-append-le, drop-set-add, get_or-map, get_or_default, length-drop, length-map, map-set, set-get_or}
use Rattle.std.proofs.lemmas.Option.{slice_get_past, slice_get_read}
use Rattle.etagere_base.specs.declared.ids.Allocation.{Allocation}
use Rattle.etagere_run.specs.Answers.Live.{Entry, allocation_at, without}
use Rattle.etagere_run.specs.Answers.Private.Given.{with_entry}
use Rattle.etagere_run.specs.Answers.Private.Ids.{id_in, ids_in}
use Rattle.etagere_run.specs.Answers.Private.Tables.{entries_above, entries_from}

-- what a slot has that may be there
abbrev given_in : Option (Option Allocation) → Option Allocation
given_in None = None
given_in (Some given) = given

-- a position is not one before or after it
other_position : (m n : ℕ) → m < n → (m == n) ≡ false
other_position m n less = grind (arith, nat_tests)

later_position : (m n : ℕ) → m < n → (n == m) ≡ false
later_position m n less = grind (arith, nat_tests)

same_position : (m n : ℕ) → m ≡ n → (m == n) ≡ true
same_position m n same = grind (arith, nat_tests)

-- a slot behind a front
slice_get-drop : {X : Type 0} (n k : ℕ) (xs : List X) → slice_get (drop n xs) k ≡ slice_get xs (n + k)
slice_get-drop zero k xs = ap (slice_get xs) (omega arith)
slice_get-drop (suc n) k [] = refl
slice_get-drop (suc n) k (x ∷ xs) =
    let next : suc n + k ≡ suc (n + k) = omega arith in
    rw next (slice_get-drop n k xs)

-- nothing is live at a position before all slots
allocation_at-before : (position first : ℕ) (slots : List (Option Allocation)) → position < first
    → allocation_at position (entries_from first slots) ≡ None
allocation_at-before position first [] before = refl
allocation_at-before position first (None ∷ slots) before =
    allocation_at-before position (first + 1) slots (omega (arith, before))
allocation_at-before position first (Some given ∷ slots) before =
    rw (later_position position first before)
    (allocation_at-before position (first + 1) slots (omega (arith, before)))

-- what is live at the position of a slot is what it has
allocation_at-from : (first n : ℕ) (slots : List (Option Allocation))
    → allocation_at (first + n) (entries_from first slots) ≡ given_in (slice_get slots n)
allocation_at-from first n [] = refl
allocation_at-from first zero (None ∷ slots) =
    allocation_at-before (first + 0) (first + 1) slots (omega arith)
allocation_at-from first zero (Some given ∷ slots) =
    rw (same_position first (first + 0) (omega arith)) refl
allocation_at-from first (suc n) (None ∷ slots) =
    let next : first + suc n ≡ first + 1 + n = omega arith in
    rw next (allocation_at-from (first + 1) n slots)
allocation_at-from first (suc n) (Some given ∷ slots) =
    let next : first + suc n ≡ first + 1 + n = omega arith in
    rw (other_position first (first + suc n) (omega arith))
    (ap (λ (m : ℕ). allocation_at m (entries_from (first + 1) slots)) next ∙ allocation_at-from (first + 1) n slots)

-- taking out a position before all slots takes nothing out
without-before : (position first : ℕ) (slots : List (Option Allocation)) → position < first
    → without position (entries_from first slots) ≡ entries_from first slots
without-before position first [] before = refl
without-before position first (None ∷ slots) before =
    without-before position (first + 1) slots (omega (arith, before))
without-before position first (Some given ∷ slots) before =
    rw (later_position position first before)
    (ap (λ (l : List Entry). record { position = first; allocation = given } ∷ l)
    (without-before position (first + 1) slots (omega (arith, before))))

-- emptying a slot takes out its position
without-from : (first n : ℕ) (slots : List (Option Allocation))
    → entries_from first (slice_set slots n None) ≡ without (first + n) (entries_from first slots)
without-from first n [] = refl
without-from first zero (None ∷ slots) =
    sym (without-before (first + 0) (first + 1) slots (omega arith))
without-from first zero (Some given ∷ slots) =
    rw (same_position first (first + 0) (omega arith)) refl
without-from first (suc n) (None ∷ slots) =
    let next : first + suc n ≡ first + 1 + n = omega arith in
    rw next (without-from (first + 1) n slots)
without-from first (suc n) (Some given ∷ slots) =
    let next : first + suc n ≡ first + 1 + n = omega arith in
    rw (other_position first (first + suc n) (omega arith))
    (ap (λ (l : List Entry). record { position = first; allocation = given } ∷ l)
    (without-from (first + 1) n slots ∙ ap (λ (m : ℕ). without m (entries_from (first + 1) slots)) (sym next)))

-- one more slot adds what it has, last
more-from : (first : ℕ) (slots : List (Option Allocation)) (given : Option Allocation)
    → entries_from first (slots ++ given ∷ []) ≡ with_entry (first + length slots) given (entries_from first slots)
more-from first [] None = refl
more-from first [] (Some allocation) =
    ap (λ (n : ℕ). record { position = n; allocation = allocation } ∷ []) (omega arith)
more-from first (None ∷ slots) given =
    more-from (first + 1) slots given
    ∙ ap (λ (n : ℕ). with_entry n given (entries_from (first + 1) slots)) (omega arith)
more-from first (Some here ∷ slots) given =
    ap (λ (l : List Entry). record { position = first; allocation = here } ∷ l)
    (more-from (first + 1) slots given
    ∙ ap (λ (n : ℕ). with_entry n given (entries_from (first + 1) slots)) (omega arith))
    ∙ behind given
  where
    behind : (given : Option Allocation)
        → record { position = first; allocation = here } ∷ with_entry (first + length (Some here ∷ slots)) given (entries_from (first + 1) slots)
        ≡ with_entry (first + length (Some here ∷ slots)) given (record { position = first; allocation = here } ∷ entries_from (first + 1) slots)
    behind None = refl
    behind (Some allocation) = refl

-- what a slot above the floor has
pub allocation_at-slot : (floor position : ℕ) (slots : List (Option Allocation)) (given : Option Allocation)
    → floor ≤ position → position < length slots → given ≡ get_or slots position given
    → given ≡ allocation_at position (entries_above floor slots)
allocation_at-slot floor position slots given above within is =
    let at : floor + (position - floor) ≡ position = omega (arith, above) in
    let read : slice_get slots position ≡ Some given = slice_get_read slots (length slots) position given refl within is in
    let here : slice_get (drop floor slots) (position - floor) ≡ Some given =
    slice_get-drop floor (position - floor) slots ∙ ap (slice_get slots) at ∙ read in
    sym (ap (λ (n : ℕ). allocation_at n (entries_above floor slots)) (sym at)
    ∙ allocation_at-from floor (position - floor) (drop floor slots)
    ∙ ap given_in here)

-- nothing is live at a position below the floor, or past the slots
pub allocation_at-none : (floor position : ℕ) (slots : List (Option Allocation))
    → ¬ ((floor ≤ position) × (position < length slots))
    → None ≡ allocation_at position (entries_above floor slots)
allocation_at-none floor position slots none =
    ⊎_elim
    (λ (below : position < floor). sym (allocation_at-before position floor (drop floor slots) below))
    (λ (above : floor ≤ position).
    let at : floor + (position - floor) ≡ position = omega (arith, above) in
    let past : length slots ≤ position =
    ⊎_elim (λ (within : position < length slots). absurd (none (above, within))) (λ (p : length slots ≤ position). p)
    (cases_lt position (length slots)) in
    sym (ap (λ (n : ℕ). allocation_at n (entries_above floor slots)) (sym at)
    ∙ allocation_at-from floor (position - floor) (drop floor slots)
    ∙ ap given_in (slice_get-drop floor (position - floor) slots ∙ ap (slice_get slots) at ∙ slice_get_past slots position past)))
    (cases_lt position floor)

-- emptying a slot above the floor takes out its position
pub without-slot : (floor position : ℕ) (slots : List (Option Allocation)) → floor ≤ position
    → entries_above floor (slice_set slots position None) ≡ without position (entries_above floor slots)
without-slot floor position slots above =
    let at : floor + (position - floor) ≡ position = omega (arith, above) in
    ap (λ (n : ℕ). entries_above floor (slice_set slots n None)) (sym at)
    ∙ ap (entries_from floor) (drop-set-add floor slots (position - floor) None)
    ∙ without-from floor (position - floor) (drop floor slots)
    ∙ ap (λ (n : ℕ). without n (entries_above floor slots)) at

-- one more slot adds what it has, last
pub more-slots : (floor : ℕ) (slots : List (Option Allocation)) (given : Option Allocation) → floor ≤ length slots
    → entries_above floor (slots ++ given ∷ []) ≡ with_entry (length slots) given (entries_above floor slots)
more-slots floor slots given within =
    ap (entries_from floor) (drop-append-le floor slots (given ∷ []) within)
    ∙ more-from floor (drop floor slots) given
    ∙ ap (λ (n : ℕ). with_entry n given (entries_above floor slots)) (omega (arith, length-drop floor slots, within))

-- there are as many ids as slots
pub as-many : (ids : List (Option ℕ)) (slots : List (Option Allocation)) → ids ≡ ids_in slots → length slots ≡ length ids
as-many ids slots is = rw is (sym (length-map slots id_in))

-- the id that a slot above the floor has
pub id_at-slot : (floor position : ℕ) (slots : List (Option Allocation)) (id : Option ℕ)
    → floor ≤ position → position < length slots → id ≡ get_or (ids_in slots) position id
    → id ≡ id_in (allocation_at position (entries_above floor slots))
id_at-slot floor position slots id above within is =
    let given : Option Allocation = get_or slots position None in
    let read : given ≡ get_or slots position given = get_or_default slots position None given within in
    is ∙ get_or-map id_in slots position None id within
    ∙ ap id_in (allocation_at-slot floor position slots given above within read)

-- no id is at a position below the floor, or past the slots
pub id_at-none : (floor position : ℕ) (slots : List (Option Allocation))
    → ¬ ((floor ≤ position) × (position < length slots))
    → None ≡ id_in (allocation_at position (entries_above floor slots))
id_at-none floor position slots none = ap id_in (allocation_at-none floor position slots none)

-- what has an id is something that was given
pub given-of : (id : ℕ) (given : Option Allocation) → Some id ≡ id_in given
    → (allocation : Allocation) × (given ≡ Some allocation) × (allocation.id ≡ id)
given-of id None is = absurd (cc)
given-of id (Some allocation) is = (allocation, refl, cc)

-- what has no id was not given
pub none-of : (given : Option Allocation) → None ≡ id_in given → given ≡ None
none-of None is = refl
none-of (Some allocation) is = absurd (cc)

-- an empty slot stays as it is when it is emptied
pub emptied-none : (slots : List (Option Allocation)) (position : ℕ) (id : Option ℕ) → position < length slots
    → id ≡ get_or (ids_in slots) position id → id ≡ None → slice_set slots position None ≡ slots
emptied-none slots position id within read none =
    let given : Option Allocation = get_or slots position None in
    let same : id ≡ id_in given = read ∙ get_or-map id_in slots position None id within in
    let gone : given ≡ None = none-of given (sym none ∙ same) in
    ap (slice_set slots position) (sym gone) ∙ set-get_or slots position None

-- the ids of the slots when one is emptied, and when there is one more
pub ids-emptied : (ids after : List (Option ℕ)) (slots : List (Option Allocation)) (slot : ℕ) (id : Option ℕ) → ids ≡ ids_in slots
    → after ≡ slice_set ids slot id → id ≡ None → after ≡ ids_in (slice_set slots slot None)
ids-emptied ids after slots slot id before is none =
    is ∙ ap (λ n. slice_set ids slot n) none ∙ ap (λ l. slice_set l slot None) before ∙ sym (map-set id_in slots slot None)

-- what holds holds where nothing was taken, and where something was taken
pub none-taken : {T P : Type 0} (taken : Option T) → (taken ≡ None → P) → IfNone taken P
none-taken None p = p refl
none-taken (Some given) p = tt

pub some-taken : {T P : Type 0} (taken : Option T) → P → IfSome taken (λ _. P)
some-taken None p = tt
some-taken (Some given) p = p
