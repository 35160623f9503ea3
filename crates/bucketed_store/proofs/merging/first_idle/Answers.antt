use Rattle.std.proofs.Common.{◌≡◌, ℕ, ◌+◌, ◌<◌, Bool, true, false, Some, List, refl, ap, sym, subst, ◌∙◌, arith, ◌==◌}
use Rattle.std.proofs.lemmas.Bool.{eqb-true}
use Rattle.std.proofs.lemmas.Option.{slice_get-get_or}
use Rattle.std.specs.Prelude.{slice_get}
use Rattle.bucketed_records.specs.declared.records.KeptShelf.{KeptShelf}
use Rattle.bucketed_records.specs.Private.Store.{is_kept_idle}
use Rattle.bucketed_store.specs.Private.Placing.{AreBusyBefore}
use Rattle.bucketed_store.proofs.merging.first_idle.Goals as goal

-- one more shelf holds something live
busy-more : (number : ℕ) (shelves : List KeptShelf) (one : KeptShelf) → AreBusyBefore number shelves → slice_get shelves number ≡ Some one → is_kept_idle one ≡ false → AreBusyBefore (number + 1) shelves
busy-more number shelves one busy there is k kept low at = by_number (k == number) refl
  where
    before : k < number + 1 → (k == number) ≡ false → k < number
    before h e = grind arith

    by_number : (t : Bool) → (k == number) ≡ t → is_kept_idle kept ≡ false
    by_number true e =
        let here : slice_get shelves number ≡ Some kept = subst (λ (n : ℕ). slice_get shelves n ≡ Some kept) (eqb-true k number e) at in
        let same : kept ≡ one = cc in rw same is
    by_number false e = busy k kept (before low e) at

pub loop-number-init : goal.loop-number-init
loop-number-init c = λ k kept low at. absurd (omega (arith, low))

pub loop-number-preserved : goal.loop-number-preserved
loop-number-preserved c =
    let shelves = c.args.shelves.now in
    let number = c.loop-number.number in
    busy-more number shelves c.index-shelves-number.result c.loop-number.invariant
    (slice_get-get_or shelves number c.index-shelves-number.result (omega arith) ∙ ap (λ (kept : KeptShelf). Some kept) (sym c.index-shelves-number.is)) (sym c.is_idle.ensures ∙ c.if-is_idle.false)
