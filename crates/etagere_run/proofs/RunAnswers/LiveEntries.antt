-- What is live through one effect and through many, of any kind of run.
use Rattle.std.proofs.Common.{◌≡◌, ℕ, ◌+◌, Bool, true, false, cond, ◌==◌, Option, Some, List, [], ◌∷◌, ◌++◌, length, refl, ap, sym, ◌∙◌, arith}
use Rattle.std.specs.Prelude.{option_map}
use Rattle.std.specs.List.{AllByRecursion, find}
use Rattle.std.proofs.lemmas.List.{append-nil, map-append}
use Rattle.etagere_base.specs.declared.ids.Allocation.{Allocation}
use Rattle.etagere_base.proofs.EachLemmas.{Each-append}
use Rattle.shelf_model.specs.Atlas as atlas
use Rattle.etagere_run.specs.Answers.Live.{Effect, Adds, TakesOut, Empties, Keeps, Entry, allocation_at, live_after, live_allocations, live_from, peak_after, peak_from, without}

-- the allocation of an entry that may be there
abbrev given : Option Entry → Option Allocation
given = option_map (λ (entry : Entry). entry.allocation)

-- an entry is the one that is taken out, or stays
adds_here : (b : Bool) (entry : Entry) (found : Option Entry) (entries rest : List Entry) (gone : Allocation)
    → given (cond b (Some entry) found) ≡ Some gone
    → (given found ≡ Some gone → atlas.Adds (live_allocations rest) gone (live_allocations entries))
    → atlas.Adds (live_allocations (cond b entries (entry ∷ rest))) gone (live_allocations (entry ∷ entries))
adds_here true entry found entries rest gone is later =
    let same : entry.allocation ≡ gone = cc in
    record {
      front = [];
      back = live_allocations entries;
      before = refl;
      after = ap (λ (a : Allocation). a ∷ live_allocations entries) same;
    }
adds_here false entry found entries rest gone is later =
    let adds = later is in
    record {
      front = entry.allocation ∷ adds.front;
      back = adds.back;
      before = ap (λ (l : List Allocation). entry.allocation ∷ l) adds.before;
      after = ap (λ (l : List Allocation). entry.allocation ∷ l) adds.after;
    }

-- what was given at a position is all that taking it out leaves out
pub without-adds : (position : ℕ) (entries : List Entry) (gone : Allocation) → allocation_at position entries ≡ Some gone
    → atlas.Adds (live_allocations (without position entries)) gone (live_allocations entries)
without-adds position [] gone is = absurd (cc)
without-adds position (entry ∷ entries) gone is =
    adds_here (entry.position == position) entry (find (λ (e : Entry). e.position == position) entries) entries
    (without position entries) gone is (without-adds position entries gone)

-- an entry at the end adds its allocation
pub last-adds : (entries : List Entry) (entry : Entry)
    → atlas.Adds (live_allocations entries) entry.allocation (live_allocations (entries ++ entry ∷ []))
last-adds entries entry =
    record {
      front = live_allocations entries;
      back = [];
      before = sym (append-nil (live_allocations entries));
      after = map-append (λ (e : Entry). e.allocation) entries (entry ∷ []);
    }

-- an entry goes, or stays and keeps its fact
Each_kept : (P : Entry → Type 0) (b : Bool) (entry : Entry) (entries rest : List Entry)
    → P entry → AllByRecursion P entries → AllByRecursion P rest → AllByRecursion P (cond b entries (entry ∷ rest))
Each_kept P true entry entries rest here each kept = each
Each_kept P false entry entries rest here each kept = (here, kept)

-- a fact of each entry stays without one of them
Each-without : (P : Entry → Type 0) (position : ℕ) (entries : List Entry) → AllByRecursion P entries → AllByRecursion P (without position entries)
Each-without P position [] each = tt
Each-without P position (entry ∷ entries) each =
    Each_kept P (entry.position == position) entry entries (without position entries) each.0 each.1
    (Each-without P position entries each.1)

-- after an effect, all that is live has the fact that it had before, or has just been added
pub Each-after : (P : Entry → Type 0) (position : ℕ) (effect : Effect) (entries : List Entry)
    → ((allocation : Allocation) → effect ≡ Adds allocation → P (record { position = position; allocation = allocation }))
    → AllByRecursion P entries → AllByRecursion P (live_after position effect entries)
Each-after P position (Adds allocation) entries added each =
    Each-append P entries (record { position = position; allocation = allocation } ∷ []) each (added allocation refl, tt)
Each-after P position (TakesOut other) entries added each = Each-without P other entries each
Each-after P position Empties entries added each = tt
Each-after P position Keeps entries added each = each

-- what is live after one more effect at the end
pub live_from-more : (position : ℕ) (entries : List Entry) (effects : List Effect) (effect : Effect)
    → live_from position entries (effects ++ effect ∷ [])
    ≡ live_after (position + length effects) effect (live_from position entries effects)
live_from-more position entries [] effect = ap (λ n. live_after n effect entries) (omega arith)
live_from-more position entries (first ∷ effects) effect =
    live_from-more (position + 1) (live_after position first entries) effects effect
    ∙ ap (λ n. live_after n effect (live_from (position + 1) (live_after position first entries) effects)) (omega arith)

-- the most that was live after one more effect at the end
pub peak_from-more : (most position : ℕ) (entries : List Entry) (effects : List Effect) (effect : Effect)
    → peak_from most position entries (effects ++ effect ∷ [])
    ≡ peak_after effect (peak_from most position entries effects)
    (length (live_after (position + length effects) effect (live_from position entries effects)))
peak_from-more most position entries [] effect =
    ap (λ n. peak_after effect most (length (live_after n effect entries))) (omega arith)
peak_from-more most position entries (first ∷ effects) effect =
    let later = live_after position first entries in
    let greatest = peak_after first most (length later) in
    peak_from-more greatest (position + 1) later effects effect
    ∙ ap (λ n. peak_after effect (peak_from greatest (position + 1) later effects)
    (length (live_after n effect (live_from (position + 1) later effects)))) (omega arith)
