-- Tests that decide a fact: both of two, one for each element, and one for the rest of a list that a loop has left.
use Rattle.std.proofs.Common.{◌≡◌, ℕ, ◌+◌, ◌<◌, Bool, true, false, ◌&&◌, List, ◌∷◌, length, drop, get_or, refl, ap, subst, sym, ◌∙◌}
use Rattle.std.proofs.lemmas.List.{drop_more}
use Rattle.std.proofs.lemmas.Bool.Decides.{Decides-and, Decides-eqb, Decides-like, not_from_Decides}
use Rattle.std.specs.Prelude.{Decides, ◌==◌}

-- a proof is a yes
pub decides-yes : {P : Type 0} → P → Decides true P
decides-yes p = (λ e. p, λ q. refl)

-- a refutation is a no
pub decides-no : {P : Type 0} → (P → ⊥) → Decides false P
decides-no not = (λ e. absurd (cc), λ p. absurd (not p))

-- a yes is a proof
pub granted : (b : Bool) (P : Type 0) → Decides b P → b ≡ true → P
granted b P decides e = decides.0 e

-- a no is a refutation
pub denied : (b : Bool) (P : Type 0) → Decides b P → b ≡ false → P → ⊥
denied b P decides e = not_from_Decides b decides e

-- the same test decides a fact that holds where the first does
pub decides-map : (b : Bool) (P Q : Type 0) → (P → Q) → (Q → P) → Decides b P → Decides b Q
decides-map b P Q to from decides = Decides-like b to from decides

-- two tests decide two facts
pub decides-both : (b c : Bool) (P Q : Type 0) → Decides b P → Decides c Q → Decides (b && c) (P × Q)
decides-both b c P Q p q = Decides-and b c p q

-- whether two numbers are equal decides a fact that holds where they are
pub decides-equal : (m n : ℕ) (P : Type 0) → (m ≡ n → P) → (P → m ≡ n) → Decides (m == n) P
decides-equal m n P to from = Decides-like (m == n) to from (Decides-eqb m n)

-- a loop has left the rest of a list: a fact of this rest is as much as the fact of the whole
pub record IsLeft {X : Type 0} (whole : Type 0) (Rest : List X → Type 0) (i : ℕ) (xs : List X) : Type 0 where
  pub to : whole → Rest (drop i xs)
  pub from : Rest (drop i xs) → whole

-- at first all is left
pub left-all : {X : Type 0} (Rest : List X → Type 0) (xs : List X) → IsLeft (Rest xs) Rest 0 xs
left-all Rest xs = record { to = λ rest. rest; from = λ rest. rest }

-- where one more keeps its fact, less is left
pub left-less : {X : Type 0} (whole : Type 0) (Rest Next : List X → Type 0) (Here : Type 0) (i : ℕ) (xs : List X) (d x : X)
    → ((rest : List X) → Rest (x ∷ rest) → Here × Next rest) → ((rest : List X) → Here × Next rest → Rest (x ∷ rest))
    → i < length xs → x ≡ get_or xs i d → Here → IsLeft whole Rest i xs → IsLeft whole Next (i + 1) xs
left-less whole Rest Next Here i xs d x to from below is here left =
    let more : drop i xs ≡ x ∷ drop (i + 1) xs = drop_more xs i d below ∙ ap (λ y. y ∷ drop (i + 1) xs) (sym is) in
    record {
      to = λ all. (to (drop (i + 1) xs) (subst Rest more (left.to all))).1;
      from = λ rest. left.from (subst Rest (sym more) (from (drop (i + 1) xs) (here, rest)));
    }
