use Rattle.std.proofs.Common.{◌≡◌, ℕ, ◌+◌, ◌-◌, ◌++◌, ◌<◌, false, List, [], ◌∷◌, suc, drop, get_or, length, append_assoc, ap, arith, refl, sym, ◌∙◌}
use Rattle.std.proofs.lemmas.List.{drop-append-le}
use Rattle.etagere_links.specs.Walks.{is_end}
use Rattle.etagere_links.proofs.MarkLemmas.{marked-more, seen-more}
use Rattle.etagere_links.proofs.WalkSteps.{end-other, has, walked_from-step}
use Rattle.etagere_links.proofs.marking.mark_along.Goals as goal

pub loop-preserved : goal.loop-preserved
loop-preserved c =
    let kept = c.loop.invariant in
    let links = c.args.links.now in
    let marks = c.loop.marks in
    let at = c.loop.at in
    let before : ℕ = length c.args.met.now.items in
    let all : List ℕ = c.loop.met.items in
    let met : List ℕ = drop before all in
    let same : c.from-number.result ≡ at = c.from-number.ensures in
    let within : at < length links = omega (arith, same, c.if-number-links.false) in
    let marked_within : at < length marks = omega (arith, within, c.requires.marks, c.loop.auto.marks) in
    let unmarked : get_or marks at false ≡ false = rw (← same) c.if-marks-number.false in
    let fresh : has at met ≡ false = grind (arith, kept.seen at, unmarked) in
    let goes : is_end links met at ≡ false = end-other links met at at false refl within c.requires.few refl (sym fresh) in
    let less : length links - c.loop.counter ≡ suc (length links - (c.loop.counter + 1)) = omega arith in
    let after : drop before c.push.new.self.items ≡ met ++ at ∷ [] =
    ap (drop before) c.in_ok-push.ensures.items ∙ drop-append-le before all (at ∷ []) (omega (arith, kept.count)) in
    record {
      whole = c.in_ok-push.ensures.items ∙ ap (λ (ns : List ℕ). ns ++ at ∷ []) kept.whole ∙ append_assoc c.args.met.now.items met (at ∷ []) ∙ ap (λ (ns : List ℕ). c.args.met.now.items ++ ns) (sym after);
      count = omega (arith, c.in_ok-push.ensures.len, kept.count);
      rest = rw (after, same) (sym (walked_from-step _ _ _ _ _ goes less) ∙ kept.rest);
      seen = rw (after, same) (seen-more marks c.args.marks.now met at marked_within kept.seen);
      marked = rw (after, same) (λ numbers is. rw (← append_assoc numbers met (at ∷ [])) (marked-more marks (numbers ++ met) at marked_within unmarked (kept.marked numbers is)));
    }
