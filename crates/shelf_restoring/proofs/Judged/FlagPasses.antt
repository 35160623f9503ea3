-- A pass that keeps in a flag whether a fact holds of a list so far.
use Rattle.std.proofs.Common.{◌≡◌, ℕ, ◌+◌, ◌<◌, Bool, true, false, ◌&&◌, List, [], ◌∷◌, length, drop, get_or, refl, ap, subst, sym, ◌∙◌}
use Rattle.std.proofs.lemmas.List.{drop_more}
use Rattle.std.specs.Prelude.{Decides}
use Rattle.etagere_base.proofs.DecidingLemmas.{IsLeft, decides-no, decides-yes, denied, granted, left-less}

-- while the flag is set, the fact of the rest is as much as that of the whole; else that does not hold
pub record IsFlagged {X : Type 0} (flag : Bool) (whole : Type 0) (Rest : List X → Type 0) (i : ℕ) (xs : List X) : Type 0 where
  pub kept : flag ≡ true → IsLeft whole Rest i xs
  pub broken : flag ≡ false → whole → ⊥

-- one more element was looked at, by a test that decides the fact of it where the flag is set
pub flagged-where : {X : Type 0} (now flag : Bool) (whole : Type 0) (Rest Next : List X → Type 0) (Here : Type 0) (i : ℕ) (xs : List X) (d x : X)
    → ((rest : List X) → Rest (x ∷ rest) → Here × Next rest) → ((rest : List X) → Here × Next rest → Rest (x ∷ rest))
    → i < length xs → x ≡ get_or xs i d → (flag ≡ true → Decides now Here)
    → IsFlagged flag whole Rest i xs → IsFlagged (now && flag) whole Next (i + 1) xs
flagged-where true true whole Rest Next Here i xs d x to from below is here left =
    record { kept = λ e. left-less whole Rest Next Here i xs d x to from below is (granted true Here (here refl) refl) (left.kept refl); broken = λ e. absurd (cc) }
flagged-where {X} false true whole Rest Next Here i xs d x to from below is none left =
    let more : drop i xs ≡ x ∷ drop (i + 1) xs = drop_more xs i d below ∙ ap (λ y. y ∷ drop (i + 1) xs) (sym is) in
    record { kept = λ e. absurd (cc); broken = λ e all. denied false Here (none refl) refl (to (drop (i + 1) xs) (subst Rest more ((left.kept refl).to all))).0 }
flagged-where true false whole Rest Next Here i xs d x to from below is here left =
    record { kept = λ e. absurd (cc); broken = λ e. left.broken refl }
flagged-where false false whole Rest Next Here i xs d x to from below is here left =
    record { kept = λ e. absurd (cc); broken = λ e. left.broken refl }

-- the same by a test that always decides it
pub flagged-more : {X : Type 0} (now flag : Bool) (whole : Type 0) (Rest Next : List X → Type 0) (Here : Type 0) (i : ℕ) (xs : List X) (d x : X)
    → ((rest : List X) → Rest (x ∷ rest) → Here × Next rest) → ((rest : List X) → Here × Next rest → Rest (x ∷ rest))
    → i < length xs → x ≡ get_or xs i d → Decides now Here
    → IsFlagged flag whole Rest i xs → IsFlagged (now && flag) whole Next (i + 1) xs
flagged-more now flag whole Rest Next Here i xs d x to from below is here left =
    flagged-where now flag whole Rest Next Here i xs d x to from below is (λ e. here) left

-- all were looked at, and a test decides the fact of what is left
pub flagged-end : {X : Type 0} (now flag : Bool) (whole : Type 0) (Rest : List X → Type 0) (i : ℕ) (xs : List X)
    → drop i xs ≡ [] → Decides now (Rest []) → IsFlagged flag whole Rest i xs → Decides (now && flag) whole
flagged-end true true whole Rest i xs none ends left = decides-yes ((left.kept refl).from (subst Rest (sym none) (granted true (Rest []) ends refl)))
flagged-end false true whole Rest i xs none ends left = decides-no (λ all. denied false (Rest []) ends refl (subst Rest none ((left.kept refl).to all)))
flagged-end true false whole Rest i xs none ends left = decides-no (left.broken refl)
flagged-end false false whole Rest i xs none ends left = decides-no (left.broken refl)

-- what is left is named otherwise, where the flag is set
pub flagged-same : {X Y : Type 0} (flag : Bool) (whole : Type 0) (Rest : Y → List X → Type 0) (a b : Y) (i : ℕ) (xs : List X)
    → (flag ≡ true → a ≡ b) → IsFlagged flag whole (Rest a) i xs → IsFlagged flag whole (Rest b) i xs
flagged-same true whole Rest a b i xs same left = subst (λ y. IsFlagged true whole (Rest y) i xs) (same refl) left
flagged-same false whole Rest a b i xs same left = record { kept = λ e. absurd (cc); broken = left.broken }

-- both of two tests
pub both-true : (a b : Bool) → (a && b) ≡ true → (a ≡ true) × (b ≡ true)
both-true true true e = (refl, refl)
both-true true false e = absurd (cc)
both-true false b e = absurd (cc)
