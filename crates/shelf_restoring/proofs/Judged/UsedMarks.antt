-- The marks of what is not unused are those of what stands in the shelves.
use Rattle.std.proofs.Common.{◌≡◌, ◌≢◌, ℕ, zero, suc, ◌+◌, ◌<◌, ◌≤◌, Bool, true, false, ◌&&◌, List, [], ◌∷◌, ◌++◌, length, get_or, take, ◌⊎◌, inl, inr, refl, sym, ap, arith, ◌∙◌}
use Rattle.std.proofs.Math.ListN.{set}
use Rattle.std.proofs.lemmas.List.{get_or-set_same, get_or-set_other, length-set, take_more}
use Rattle.std.specs.Prelude.{◌==◌, nat_lt, nat_le, slice_index_or, if◌then◌else◌}
use Rattle.etagere_base.proofs.TimesLemmas.{times-append}
use Rattle.etagere_base.specs.Lists.{times}
use Rattle.etagere_links.proofs.ListEnds.{times-here, times-other}
use Rattle.etagere_links.specs.Lists.{HasEachOnce}
use Rattle.shelf_records.specs.Private.Judging.{AreUsed}

-- what is marked and what is unused makes all
pub used-times : (count : ℕ) (used unused : List ℕ) (marks : List Bool) → HasEachOnce count (used ++ unused) → AreUsed count unused marks
    → (k : ℕ) → times k used ≡ (if slice_index_or marks k false then 1 else 0)
used-times count used unused marks once marked k = by_count (nat_lt k count) (times k unused) refl refl
  where
    by_count : (b : Bool) (n : ℕ) → nat_lt k count ≡ b → times k unused ≡ n → times k used ≡ (if slice_index_or marks k false then 1 else 0)
    by_count false n e f =
        let none : slice_index_or marks k false ≡ false = marked k ∙ grind (arith, e) in
        let all : times k (used ++ unused) ≡ 0 = rw e at (once k) in
        rw none (omega (arith, all, times-append k used unused))
    by_count true zero e f =
        let is : slice_index_or marks k false ≡ true = marked k ∙ grind (arith, e, f) in
        let all : times k (used ++ unused) ≡ 1 = rw e at (once k) in
        rw is (omega (arith, all, f, times-append k used unused))
    by_count true (suc n) e f =
        let none : slice_index_or marks k false ≡ false = marked k ∙ grind (arith, e, f) in
        let all : times k (used ++ unused) ≡ 1 = rw e at (once k) in
        rw none (omega (arith, all, f, times-append k used unused))

-- how often a number stands in a list with one more
times-last : (k x : ℕ) (xs : List ℕ) → times k (xs ++ x ∷ []) ≡ times k xs + times k (x ∷ [])
times-last k x xs = times-append k xs (x ∷ [])

-- one that is unused is not marked
pub used-set : (count x : ℕ) (unused : List ℕ) (marks : List Bool) → length marks ≡ count → x < length marks
    → AreUsed count unused marks → AreUsed count (unused ++ x ∷ []) (set marks x false)
used-set count x unused marks same below used k = by_test (x == k) refl
  where
    by_test : (b : Bool) → (x == k) ≡ b → slice_index_or (set marks x false) k false ≡ (nat_lt k count && nat_le (times k (unused ++ x ∷ [])) 0)
    by_test true e =
        let at : x ≡ k = grind arith in
        let here : times k (x ∷ []) ≡ 1 = rw at (times-here k []) in
        let stands : 1 ≤ times k (unused ++ x ∷ []) = omega (arith, times-last k x unused, here) in
        let clear : slice_index_or (set marks x false) k false ≡ false = rw (← at) (get_or-set_same marks x false false below) in
        clear ∙ sym (grind (arith, stands))
    by_test false e =
        let other : x ≢ k = grind arith in
        let before : times k (unused ++ x ∷ []) ≡ times k unused = omega (arith, times-last k x unused, times-other k x [] other) in
        get_or-set_other marks x k false false (λ at. other (sym at)) ∙ used k ∙ rw before refl

-- one past the last record changes nothing
pub used-past : (count x : ℕ) (unused : List ℕ) (marks : List Bool) → length marks ≡ count → length marks ≤ x
    → AreUsed count unused marks → AreUsed count (unused ++ x ∷ []) marks
used-past count x unused marks same past used k = by_test (x == k) refl
  where
    by_test : (b : Bool) → (x == k) ≡ b → slice_index_or marks k false ≡ (nat_lt k count && nat_le (times k (unused ++ x ∷ [])) 0)
    by_test true e =
        let at : x ≡ k = grind arith in
        let out : nat_lt k count ≡ false = grind (arith, same, past) in
        used k ∙ rw out refl
    by_test false e =
        let other : x ≢ k = grind arith in
        let before : times k (unused ++ x ∷ []) ≡ times k unused = omega (arith, times-last k x unused, times-other k x [] other) in
        used k ∙ rw before refl

-- after one more unused one was looked at
pub used-more : (count i x : ℕ) (unused : List ℕ) (marks new : List Bool) → i < length unused → x ≡ get_or unused i 0 → length marks ≡ count
    → ((x < length marks) × (new ≡ set marks x false)) ⊎ ((length marks ≤ x) × (new ≡ marks))
    → AreUsed count (take i unused) marks → (length new ≡ count) × AreUsed count (take (i + 1) unused) new
used-more count i x unused marks new below read same changed used = by_change changed
  where
    more : take (i + 1) unused ≡ take i unused ++ x ∷ []
    more = take_more unused i 0 below ∙ ap (λ y. take i unused ++ y ∷ []) (sym read)

    by_change : ((x < length marks) × (new ≡ set marks x false)) ⊎ ((length marks ≤ x) × (new ≡ marks)) → (length new ≡ count) × AreUsed count (take (i + 1) unused) new
    by_change (inl written) =
        rw (written.1, more) (length-set marks x false ∙ same, used-set count x (take i unused) marks same written.0 used)
    by_change (inr kept) = rw (kept.1, more) (same, used-past count x (take i unused) marks same kept.0 used)
