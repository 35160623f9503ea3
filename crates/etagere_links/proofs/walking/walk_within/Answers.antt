use Rattle.std.proofs.Common.{◌≡◌, ◌<◌, true, false, suc, ◌+◌, ◌-◌, ◌∷◌, ◌++◌, [], List, ℕ, append_assoc, drop, length, take, ◌-◌, arith, refl, ap, sym, ◌∙◌}
use Rattle.std.proofs.lemmas.List.{drop-append-le, length-drop, take-append-drop}
use Rattle.etagere_links.specs.Private.Positions.{rest_of}
use Rattle.etagere_links.specs.Walks.{is_end}
use Rattle.etagere_links.proofs.MetPositions.{at_positions-more}
use Rattle.etagere_links.proofs.WalkSteps.{has, walked_from-step, end-past, end-marked, end-other, walked-end}
use Rattle.etagere_links.proofs.walking.walk_within.Goals as goal
use Rattle.etagere_links.proofs.walking.walk_within.Goals.{then-number-links-via-then-number-links, then-number-links-via-else-number-links+then-is_met}

pub loop-step-init : goal.loop-step-init
loop-step-init c =
    let before : ℕ = c.args.before in
    let all : List ℕ = c.args.met.now.items in
    let met : List ℕ = drop before all in
    let step : c.len.result - before ≡ length met = omega (arith, c.len.ensures, length-drop before all, c.args.met.now.ok) in
    record {
      whole = sym (take-append-drop before all);
      rest = rw step refl;
      count = omega (arith, c.len.ensures, c.requires.before, c.args.met.now.ok);
      at_positions = c.requires.at_positions;
    }

pub loop-step-preserved : goal.loop-step-preserved
loop-step-preserved c =
    let kept = c.loop-step.invariant in
    let links = c.args.links.now in
    let at = c.loop-step.at in
    let before : ℕ = c.args.before in
    let all : List ℕ = c.loop-step.met.items in
    let met : List ℕ = drop before all in
    let same : c.from-number.result ≡ at = c.from-number.ensures in
    let within : at < length links = omega (arith, same, c.if-number-links.false) in
    let met_before : c.is_met.result ≡ has at met = c.is_met.ensures ∙ ap (λ (ns : List ℕ). has at (drop before ns)) c.deref.ensures.value in
    let goes : is_end links met at ≡ false = end-other links met at at c.is_met.result refl within c.requires.few c.if-is_met.false met_before in
    let less : length links - c.loop-step.step ≡ suc (length links - (c.loop-step.step + 1)) = omega arith in
    let after : drop before c.push.new.self.items ≡ met ++ at ∷ [] =
    ap (drop before) c.in_ok-push.ensures.items ∙ drop-append-le before all (at ∷ []) (omega (arith, kept.count)) in
    record {
      whole = c.in_ok-push.ensures.items ∙ ap (λ (ns : List ℕ). ns ++ at ∷ []) kept.whole ∙ append_assoc (take before c.args.met.now.items) met (at ∷ []) ∙ ap (λ (ns : List ℕ). take before c.args.met.now.items ++ ns) (sym after);
      rest = rw (after, same) (sym (walked_from-step _ _ _ _ _ goes less) ∙ kept.rest);
      count = omega (arith, c.in_ok-push.ensures.len, kept.count);
      at_positions = rw (after, same) (at_positions-more c.loop-step.positions met at c.loop-step.step (omega (arith, within, c.requires.room, c.loop-step.auto.positions)) (omega (arith, kept.count, length-drop before all)) (sym met_before ∙ c.if-is_met.false) kept.at_positions);
    }

pub returns-then-number-links-clause-met : goal.returns-then-number-links-clause-met
returns-then-number-links-clause-met c =
    let links = c.args.links.now in
    let before : ℕ = c.args.before in
    let met : List ℕ = drop before c.loop-step.met.items in
    let at = c.loop-step.at in
    let stops : is_end links met at ≡ true =
    elim c.then-number-links.branch [
      | then-number-links-via-then-number-links w ↦ end-past links met at c.from-number.result c.from-number.ensures w.if-number-links.true
      | then-number-links-via-else-number-links+then-is_met w ↦
          end-marked links met at at w.is_met.result refl w.if-is_met.true (w.is_met.ensures ∙ ap (λ (ns : List ℕ). has at (drop before ns)) w.deref.ensures.value)
    ] in
    (walked-end (length links - c.loop-step.step) links met at (rest_of links (drop before c.args.met.now.items) c.args.start) c.loop-step.invariant.rest stops).0

pub returns-then-number-links-clause-end : goal.returns-then-number-links-clause-end
returns-then-number-links-clause-end c =
    let links = c.args.links.now in
    let before : ℕ = c.args.before in
    let met : List ℕ = drop before c.loop-step.met.items in
    let at = c.loop-step.at in
    let stops : is_end links met at ≡ true =
    elim c.then-number-links.branch [
      | then-number-links-via-then-number-links w ↦ end-past links met at c.from-number.result c.from-number.ensures w.if-number-links.true
      | then-number-links-via-else-number-links+then-is_met w ↦
          end-marked links met at at w.is_met.result refl w.if-is_met.true (w.is_met.ensures ∙ ap (λ (ns : List ℕ). has at (drop before ns)) w.deref.ensures.value)
    ] in
    (walked-end (length links - c.loop-step.step) links met at (rest_of links (drop before c.args.met.now.items) c.args.start) c.loop-step.invariant.rest stops).1
