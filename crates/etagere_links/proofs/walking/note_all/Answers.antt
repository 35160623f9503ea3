use Rattle.std.proofs.Common.{◌≡◌, ℕ, ◌+◌, ◌<◌, ◌∷◌, [], ◌++◌, length, get_or, take, ap, arith, sym, subst, ◌∙◌}
use Rattle.std.proofs.lemmas.List.{length-take, take_all, take_more}
use Rattle.std.proofs.Math.ListN.{set}
use Rattle.etagere_links.specs.Private.Positions.{ArePositions}
use Rattle.etagere_links.proofs.MarkLemmas.{Each-at}
use Rattle.etagere_links.proofs.MetPositions.{at_positions-more, fresh-next}
use Rattle.etagere_links.proofs.walking.note_all.Goals as goal

pub loop-position-preserved : goal.loop-position-preserved
loop-position-preserved c =
    let met = c.args.met.now in
    let i = c.loop-position.position in
    let positions = c.loop-position.positions in
    let below = c.loop-position-test.true in
    let number : ℕ = c.from.result in
    let is : number ≡ get_or met i 0 = c.from.ensures in
    let small = Each-at (λ number. number < length c.args.positions.now) met i below c.requires.within in
    let within : number < length positions = omega (arith, small, is, c.loop-position.auto.positions) in
    let more : take (i + 1) met ≡ take i met ++ number ∷ [] = take_more met i 0 below ∙ ap (λ (n : ℕ). take i met ++ n ∷ []) (sym is) in
    record {
      at_positions = subst (ArePositions (set positions number i)) (sym more)
          (at_positions-more positions (take i met) number i within (omega (arith, below, length-take i met)) (fresh-next met i number below is c.requires.once) c.loop-position.invariant.at_positions);
    }

pub returns-clause-positions : goal.returns-clause-positions
returns-clause-positions c =
    subst (ArePositions c.loop-position.positions) (take_all c.loop-position.position c.args.met.now c.loop-position-test.false) c.loop-position.invariant.at_positions
