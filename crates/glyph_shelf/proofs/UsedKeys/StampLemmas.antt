-- Stamps fall along the order of use, whatever goes or is used; and how many of the first entries have the latest one.
use Rattle.std.proofs.Common.{◌≡◌, ℕ, zero, suc, ◌+◌, ◌<◌, ◌≤◌, ◌==◌, Bool, true, false, cond, Some, List, [], ◌∷◌, take, refl, ap, sym, ◌∙◌, subst, arith}
use Rattle.std.proofs.lemmas.Bool.Decides.{nat_tests}
use Rattle.std.proofs.Math.Nat.{min-zero, suc-min-suc, zero-min}
use Rattle.std.specs.Map.{lookup, remove_entry}
use Rattle.std.specs.Prelude.{is_some, min}
use Rattle.glyph_shelf.specs.declared.used_keys.stamps.Entry.{Entry}
use Rattle.glyph_shelf.specs.UsedKeys.Private.Stamps.{AreFalling, stamped_first, unstamped}

pub falling-weaker : (most more : ℕ) (es : List (ℕ × Entry)) → most ≤ more → AreFalling most es → AreFalling more es
falling-weaker most more [] few falling = tt
falling-weaker most more (e ∷ es) few falling = let first = falling.0 in (omega arith, falling.1)

pub falling-removed : (test : ℕ → Bool) (most : ℕ) (es : List (ℕ × Entry)) → AreFalling most es → AreFalling most (remove_entry test es)
falling-removed test most [] falling = tt
falling-removed test most (e ∷ es) falling = here (test e.0) (falling-removed test e.1.frame es falling.1)
  where
    here : (b : Bool) → AreFalling e.1.frame (remove_entry test es) → AreFalling most (cond b es (e ∷ remove_entry test es))
    here true later = falling-weaker e.1.frame most es falling.0 falling.1
    here false later = (falling.0, later)

pub falling-take : (n most : ℕ) (es : List (ℕ × Entry)) → AreFalling most es → AreFalling most (take n es)
falling-take zero most es falling = tt
falling-take (suc n) most [] falling = tt
falling-take (suc n) most (e ∷ es) falling = (falling.0, falling-take n e.1.frame es falling.1)

-- no entry that is found has a later stamp
falling-found : (test : ℕ → Bool) (most : ℕ) (es : List (ℕ × Entry)) (e : Entry) → AreFalling most es → lookup test es ≡ Some e → e.frame ≤ most
falling-found test most [] e falling found = absurd (cc)
falling-found test most (f ∷ es) e falling found = here (test f.0) found (falling-found test f.1.frame es e falling.1)
  where
    here : (b : Bool) → cond b (Some f.1) (lookup test es) ≡ Some e → (lookup test es ≡ Some e → e.frame ≤ f.1.frame) → e.frame ≤ most
    here true h later =
        let same : f.1 ≡ e = cc in
        subst (λ (x : Entry). x.frame ≤ most) same falling.0
    here false h later = let below = later h in let first = falling.0 in omega arith

-- none has a stamp that is later than all
pub stamped-none : (most frame : ℕ) (es : List (ℕ × Entry)) → AreFalling most es → most < frame → stamped_first frame es ≡ 0
stamped-none most frame [] falling less = refl
stamped-none most frame (e ∷ es) falling less =
    let first = falling.0 in
    let differs : (e.1.frame == frame) ≡ false = grind (arith, nat_tests) in
    rw differs refl

pub stamped-take : (frame n : ℕ) (es : List (ℕ × Entry)) → stamped_first frame (take n es) ≡ min n (stamped_first frame es)
stamped-take frame zero es = sym (zero-min (stamped_first frame es))
stamped-take frame (suc n) [] = sym (min-zero (suc n))
stamped-take frame (suc n) (e ∷ es) = here (e.1.frame == frame) (stamped-take frame n es)
  where
    here : (b : Bool) → stamped_first frame (take n es) ≡ min n (stamped_first frame es)
        → cond b (suc (stamped_first frame (take n es))) 0 ≡ min (suc n) (cond b (suc (stamped_first frame es)) 0)
    here true later = ap suc later ∙ sym (suc-min-suc n (stamped_first frame es))
    here false later = sym (min-zero (suc n))

-- an entry that is found stands among the first exactly where it has their stamp
pub stamped-found : (test : ℕ → Bool) (frame : ℕ) (es : List (ℕ × Entry)) (e : Entry) → AreFalling frame es → lookup test es ≡ Some e
    → is_some (lookup test (take (stamped_first frame es) (unstamped es))) ≡ (e.frame == frame)
stamped-found test frame [] e falling found = absurd (cc)
stamped-found test frame (f ∷ es) e falling found = by_stamp (f.1.frame == frame) refl (stamped-found test frame es e)
  where
    first : (b : Bool) → f.1.frame ≡ frame → cond b (Some f.1) (lookup test es) ≡ Some e
        → (lookup test es ≡ Some e → is_some (lookup test (take (stamped_first frame es) (unstamped es))) ≡ (e.frame == frame))
        → is_some (cond b (Some f.1.allocation) (lookup test (take (stamped_first frame es) (unstamped es)))) ≡ (e.frame == frame)
    first true is h later =
        let same : f.1 ≡ e = cc in
        let own : e.frame ≡ frame = sym (ap (λ (x : Entry). x.frame) same) ∙ is in
        let test : (e.frame == frame) ≡ true = grind (arith, nat_tests) in
        sym test
    first false is h later = later h

    by_stamp : (b : Bool) → (f.1.frame == frame) ≡ b
        → (AreFalling frame es → lookup test es ≡ Some e → is_some (lookup test (take (stamped_first frame es) (unstamped es))) ≡ (e.frame == frame))
        → is_some (lookup test (take (cond b (suc (stamped_first frame es)) 0) (unstamped (f ∷ es)))) ≡ (e.frame == frame)
    by_stamp true is later =
        let own : f.1.frame ≡ frame = grind (arith, nat_tests) in
        first (test f.0) own found (later (subst (λ (n : ℕ). AreFalling n es) own falling.1))
    by_stamp false is later =
        let below = falling-found test f.1.frame (f ∷ es) e (omega arith, falling.1) found in
        let most = falling.0 in
        let differs : (e.frame == frame) ≡ false = grind (arith, nat_tests) in
        sym differs

-- it is one of them, and goes with the others staying
pub stamped-removed : (test : ℕ → Bool) (frame : ℕ) (es : List (ℕ × Entry)) (e : Entry) → AreFalling frame es → lookup test es ≡ Some e
    → stamped_first frame es ≡ stamped_first frame (remove_entry test es) + cond (e.frame == frame) 1 0
stamped-removed test frame [] e falling found = absurd (cc)
stamped-removed test frame (f ∷ es) e falling found = by_stamp (f.1.frame == frame) refl (stamped-removed test frame es e)
  where
    first : (b : Bool) → f.1.frame ≡ frame → cond b (Some f.1) (lookup test es) ≡ Some e
        → (lookup test es ≡ Some e → stamped_first frame es ≡ stamped_first frame (remove_entry test es) + cond (e.frame == frame) 1 0)
        → suc (stamped_first frame es) ≡ stamped_first frame (cond b es (f ∷ remove_entry test es)) + cond (e.frame == frame) 1 0
    first true is h later =
        let same : f.1 ≡ e = cc in
        let own : e.frame ≡ frame = sym (ap (λ (x : Entry). x.frame) same) ∙ is in
        let test : (e.frame == frame) ≡ true = grind (arith, nat_tests) in
        rw test (omega arith)
    first false is h later =
        let rest = later h in
        let test : (f.1.frame == frame) ≡ true = grind (arith, nat_tests) in
        rw test (omega arith)

    none_left : (b : Bool) → (f.1.frame == frame) ≡ false → f.1.frame < frame → (e.frame == frame) ≡ false
        → 0 ≡ stamped_first frame (cond b es (f ∷ remove_entry test es)) + cond (e.frame == frame) 1 0
    none_left true is less other = rw other (let none = stamped-none f.1.frame frame es falling.1 less in omega arith)
    none_left false is less other = rw (other, is) refl

    by_stamp : (b : Bool) → (f.1.frame == frame) ≡ b
        → (AreFalling frame es → lookup test es ≡ Some e
        → stamped_first frame es ≡ stamped_first frame (remove_entry test es) + cond (e.frame == frame) 1 0)
        → cond b (suc (stamped_first frame es)) 0 ≡ stamped_first frame (cond (test f.0) es (f ∷ remove_entry test es)) + cond (e.frame == frame) 1 0
    by_stamp true is later =
        let own : f.1.frame ≡ frame = grind (arith, nat_tests) in
        first (test f.0) own found (later (subst (λ (n : ℕ). AreFalling n es) own falling.1))
    by_stamp false is later =
        let below = falling-found test f.1.frame (f ∷ es) e (omega arith, falling.1) found in
        let most = falling.0 in
        let less : f.1.frame < frame = grind (arith, nat_tests) in
        none_left (test f.0) is less (grind (arith, nat_tests))
