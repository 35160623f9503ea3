-- A walk, step by step.
use Rattle.std.proofs.Common.{◌≡◌, ℕ, zero, suc, ◌<◌, ◌≤◌, Bool, true, false, List, [], ◌∷◌, ◌++◌, length, refl, ap, arith, sym, ◌∙◌}
use Rattle.std.specs.List.{list_any}
use Rattle.std.specs.Prelude.{◌==◌, slice_index}
use Rattle.etagere_links.specs.Links.{no_link}
use Rattle.etagere_links.specs.Walks.{Walked, is_end, walked_from}

-- a number stands in a list
abbrev pub has : ℕ → List ℕ → Bool
has number numbers = list_any (λ met. met == number) numbers

-- a walk stops at its end
pub walked_from-end : (steps : ℕ) (links met : List ℕ) (at : ℕ) → is_end links met at ≡ true → walked_from steps links met at ≡ record { met = met; end = at }
walked_from-end zero links met at stops = refl
walked_from-end (suc steps) links met at stops = simp stops refl

-- a walk goes on where it does not stop
pub walked_from-step : (more steps : ℕ) (links met : List ℕ) (at : ℕ) → is_end links met at ≡ false → more ≡ suc steps → walked_from more links met at ≡ walked_from steps links (met ++ at ∷ []) (slice_index links at)
walked_from-step more steps links met at stops e = simp (e, stops) refl

-- past the last record a walk stops
pub end-past : (links met : List ℕ) (at number : ℕ) → number ≡ at → length links ≤ number → is_end links met at ≡ true
end-past links met at number e past = rw (← e) (grind arith)

-- before a marked record a walk stops
pub end-marked : (links met : List ℕ) (at number : ℕ) (mark : Bool) → number ≡ at → mark ≡ true → mark ≡ has number met → is_end links met at ≡ true
end-marked links met at number mark e marked is_met = rw (← e) (grind (arith, marked, is_met))

-- before another record it does not
pub end-other : (links met : List ℕ) (at number : ℕ) (mark : Bool) → number ≡ at → number < length links → length links ≤ no_link → mark ≡ false → mark ≡ has number met → is_end links met at ≡ false
end-other links met at number mark e within few marked is_met = rw (← e) (grind (arith, marked, is_met))

-- what a walk was that stops here
pub walked-end : (steps : ℕ) (links met : List ℕ) (at : ℕ) (whole : Walked) → walked_from steps links met at ≡ whole → is_end links met at ≡ true → (met ≡ whole.met) × (at ≡ whole.end)
walked-end steps links met at whole e stops =
    let same = sym (walked_from-end steps links met at stops) ∙ e in
    (ap (λ (w : Walked). w.met) same, ap (λ (w : Walked). w.end) same)
