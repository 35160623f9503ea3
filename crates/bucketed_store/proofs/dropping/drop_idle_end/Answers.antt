use Rattle.std.proofs.Common.{◌≡◌, ℕ, zero, suc, ◌-◌, ◌≤◌, List, [], ◌∷◌, Some, length, length-take, take, ap, subst, sym, ◌∙◌, arith}
use Rattle.std.proofs.lemmas.Option.{slice_get-get_or, slice_get_within}
use Rattle.std.specs.Prelude.{slice_get}
use Rattle.bucketed_records.specs.declared.records.KeptShelf.{KeptShelf}
use Rattle.bucketed_records.specs.Private.Store.{last_kept}
use Rattle.bucketed_store.specs.Private.Returns as spec
use Rattle.bucketed_store.proofs.Emptying.SpelledDrops.{end-busy}
use Rattle.bucketed_store.proofs.dropping.drop_idle_end.Goals as goal
use Rattle.bucketed_store.proofs.dropping.drop_idle_end.Goals.{else-loop-left-test, then-loop-left-test+then-last-gt0}

-- a shelf that is there is the last of those up to it
last-taken : (n : ℕ) (xs : List KeptShelf) (kept : KeptShelf) → slice_get xs n ≡ Some kept → last_kept (take (suc n) xs) ≡ Some kept
last-taken n xs kept at =
    let last : length (take (suc n) xs) - 1 ≡ n = omega (arith, slice_get_within xs n kept at, length-take (suc n) xs) in
    ap (slice_get (take (suc n) xs)) last ∙ taken n xs at
  where
    taken : (n : ℕ) (xs : List KeptShelf) → slice_get xs n ≡ Some kept → slice_get (take (suc n) xs) n ≡ Some kept
    taken n [] at = absurd (cc)
    taken zero (x ∷ xs) at = at
    taken (suc n) (x ∷ xs) at = taken n xs at

-- the same by how many they are
last-left : (left : ℕ) (xs : List KeptShelf) (kept : KeptShelf) → 1 ≤ left → slice_get xs (left - 1) ≡ Some kept → last_kept (take left xs) ≡ Some kept
last-left left xs kept some at =
    let same : suc (left - 1) ≡ left = omega (arith, some) in
    subst (λ (n : ℕ). last_kept (take n xs) ≡ Some kept) same (last-taken (left - 1) xs kept at)

pub returns-clause-dropped : goal.returns-clause-dropped
returns-clause-dropped c =
    let shelves = c.args.shelves.now.items in
    let left = c.loop-left.left in
    let done = spec.dropping_of (take left shelves) c.loop-left.buckets c.loop-left.unused c.loop-left.dropped in
    let stop : spec.end_dropped left done ≡ done =
    elim c.loop-left-test.branch [
      | else-loop-left-test w ↦ (let none : left ≡ 0 = omega (arith, w.loop-left-test.false) in ap (λ (n : ℕ). spec.end_dropped n done) none)
      | then-loop-left-test+then-last-gt0 w ↦
          end-busy left done w.index-last.result.now
          (last-left left shelves w.index-last.result.now (omega (arith, w.loop-left-test.true))
          (slice_get-get_or shelves (left - 1) w.index-last.result.now (omega (arith, w.loop-left-test.true, c.loop-left.invariant.within)) ∙ ap (λ (kept : KeptShelf). Some kept) (sym w.index-last.ensures)))
          w.if-last-gt0.true
    ] in
    ap (λ (xs : List KeptShelf). spec.dropping_of xs c.loop-left.buckets c.loop-left.unused c.loop-left.dropped) c.truncate.ensures.items
    ∙ sym stop ∙ c.loop-left.invariant.rest
