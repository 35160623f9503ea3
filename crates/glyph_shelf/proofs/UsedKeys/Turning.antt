-- Entries that go to the end one by one: in the end they stand as before.
use Rattle.std.proofs.Common.{◌≡◌, ℕ, zero, suc, ◌+◌, ◌<◌, ◌≤◌, ◌==◌, Bool, true, cond, List, [], ◌∷◌, ◌++◌, append_assoc, length, take, drop, refl, ap, sym, ◌∙◌, arith}
use Rattle.std.proofs.lemmas.List.{map-append}
use Rattle.std.proofs.lemmas.Bool.Decides.{nat_tests}
use Rattle.std.specs.Prelude.{map}
use Rattle.glyph_shelf.specs.declared.used_keys.stamps.Entry.{Entry}
use Rattle.glyph_shelf.specs.UsedKeys.Private.Stamps.{AreFalling, stamped_first, turned, unstamped, with_stamp}

-- the entry at a place
pub record IsAt (es : List (ℕ × Entry)) (n : ℕ) : Type 0 where
  pub entry : ℕ × Entry
  pub left : drop n es ≡ entry ∷ drop (suc n) es
  pub taken : take (suc n) es ≡ take n es ++ entry ∷ []

pub at : (es : List (ℕ × Entry)) (n : ℕ) → n < length es → IsAt es n
at [] n less = absurd (omega arith)
at (e ∷ es) zero less = record { entry = e; left = refl; taken = refl }
at (e ∷ es) (suc n) less =
    let later = at es n (omega arith) in
    record { entry = later.entry; left = later.left; taken = ap (λ l. e ∷ l) later.taken }

-- so many have gone to the end
abbrev pub IsTurned : List (ℕ × Entry) → ℕ → List (ℕ × Entry) → Type 0
IsTurned before n now = now ≡ drop n before ++ map (with_stamp 0) (take n before)

pub turned-some : (before now : List (ℕ × Entry)) (n : ℕ) → n < length before → IsTurned before n now → 1 ≤ length now
turned-some before now n less is =
    let here = at before n less in
    let long : length now ≡ suc (length (drop (suc n) before ++ map (with_stamp 0) (take n before))) =
    ap length is ∙ ap (λ l. length (l ++ map (with_stamp 0) (take n before))) here.left in
    omega arith

pub turned-more : (before now : List (ℕ × Entry)) (n : ℕ) → n < length before → IsTurned before n now → IsTurned before (n + 1) (turned now)
turned-more before now n less is =
    let here = at before n less in
    let next : n + 1 ≡ suc n = omega arith in
    ap turned (is ∙ ap (λ l. l ++ map (with_stamp 0) (take n before)) here.left)
    ∙ append_assoc (drop (suc n) before) (map (with_stamp 0) (take n before)) (with_stamp 0 here.entry ∷ [])
    ∙ ap (λ l. drop (suc n) before ++ l) (sym (ap (map (with_stamp 0)) here.taken ∙ map-append (with_stamp 0) (take n before) (here.entry ∷ [])))
    ∙ ap (λ (k : ℕ). drop k before ++ map (with_stamp 0) (take k before)) (sym next)

-- entries without stamps are the same
pub turned-bare : (es : List (ℕ × Entry)) → unstamped (map (with_stamp 0) es) ≡ unstamped es
turned-bare [] = refl
turned-bare (e ∷ es) = ap (λ l. (e.0, e.1.allocation) ∷ l) (turned-bare es)

-- so many of the first have been counted
pub counted-more : (frame : ℕ) (es rest : List (ℕ × Entry)) (n : ℕ) (e : ℕ × Entry) → drop n es ≡ e ∷ rest
    → stamped_first frame es ≡ n + stamped_first frame (drop n es) → e.1.frame ≡ frame
    → (drop (n + 1) es ≡ rest) × (stamped_first frame es ≡ (n + 1) + stamped_first frame rest)
counted-more frame es rest n e is counted same =
    let own : (e.1.frame == frame) ≡ true = grind (arith, nat_tests) in
    let first : stamped_first frame (drop n es) ≡ suc (stamped_first frame rest) =
    ap (stamped_first frame) is ∙ ap (λ (b : Bool). cond b (suc (stamped_first frame rest)) 0) own in
    let next : n + 1 ≡ suc n = omega arith in
    (ap (λ (k : ℕ). drop k es) next ∙ behind n es is, omega arith)
  where
    behind : (n : ℕ) (es : List (ℕ × Entry)) → drop n es ≡ e ∷ rest → drop (suc n) es ≡ rest
    behind zero [] h = absurd (cc)
    behind zero (f ∷ es) h = let tail : es ≡ rest = cc in tail
    behind (suc n) [] h = absurd (cc)
    behind (suc n) (f ∷ es) h = behind n es h

-- something is left where not all have been passed
pub some-left : (es rest : List (ℕ × Entry)) (n : ℕ) → n < length es → rest ≡ drop n es → rest ≡ [] → ⊥
some-left es rest n less is nothing = let here = at es n less in let left = here.left in cc

-- no stamps fall
pub falling-zero : (es : List (ℕ × Entry)) → AreFalling 0 (map (with_stamp 0) es)
falling-zero [] = tt
falling-zero (e ∷ es) = (omega arith, falling-zero es)
