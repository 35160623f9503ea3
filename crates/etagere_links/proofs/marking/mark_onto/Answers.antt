use Rattle.std.proofs.Common.{◌≡◌, ◌≢◌, ℕ, ◌+◌, ◌<◌, ◌≤◌, List, drop, length, arith, ap, sym, ◌∙◌}
use Rattle.std.proofs.lemmas.List.{length-append, length-drop}
use Rattle.etagere_links.specs.Links.{no_link}
use Rattle.etagere_links.specs.Private.Positions.{rest_of}
use Rattle.etagere_links.specs.Walks.{walk}
use Rattle.etagere_links.proofs.MarkedWalks.{ends-there, fault-circular, fault-marked, fault-none, meets-twice, met-once, met-within, meets-few, stops-there}
use Rattle.etagere_links.proofs.marking.mark_onto.Goals as goal
use Rattle.etagere_links.proofs.marking.mark_onto.Goals.{else-end-via-then-end+else-links-from, else-end-via-else-end}

pub returns-then-at-clause-none : goal.returns-then-at-clause-none
returns-then-at-clause-none c =
    let before : ℕ = length c.args.met.now.items in
    fault-none c.args.marks.now c.mark_along.new.marks c.args.links.now (drop before c.mark_along.new.met.items) c.args.start c.in-Ok.at c.requires.few c.in-Ok.ensures.along c.if-at.true

pub returns-then-at-clause-steps : goal.returns-then-at-clause-steps
returns-then-at-clause-steps c =
    let before : ℕ = length c.args.met.now.items in
    let all : List ℕ = c.mark_along.new.met.items in
    let ends = ends-there c.args.marks.now c.mark_along.new.marks c.args.links.now (drop before all) c.args.start c.in-Ok.at c.requires.few c.in-Ok.ensures.along c.if-at.true in
    omega (arith, c.len-before.ensures, c.len-marked.ensures, c.args.met.now.ok, c.mark_along.new.met.ok, length-drop before all, ap length ends.0)

pub walk_on-requires-clause-within : goal.walk_on-requires-clause-within
walk_on-requires-clause-within c =
    let before : ℕ = length c.args.met.now.items in
    let same : before ≡ c.len-before.result = omega (arith, c.len-before.ensures, c.args.met.now.ok) in
    rw (← same) (met-within c.args.marks.now c.mark_along.new.marks c.args.links.now (drop before c.mark_along.new.met.items) c.args.start c.in-Ok.at c.requires.few c.in-Ok.ensures.along)

pub walk_on-requires-clause-once : goal.walk_on-requires-clause-once
walk_on-requires-clause-once c =
    let before : ℕ = length c.args.met.now.items in
    let same : before ≡ c.len-before.result = omega (arith, c.len-before.ensures, c.args.met.now.ok) in
    rw (← same) (met-once c.args.marks.now c.mark_along.new.marks c.args.links.now (drop before c.mark_along.new.met.items) c.args.start c.in-Ok.at c.requires.few c.in-Ok.ensures.along)

pub returns-then-links-from-clause-bound : goal.returns-then-links-from-clause-bound
returns-then-links-from-clause-bound c =
    let b : ℕ = c.len-before.result in
    let all : List ℕ = c.mark_along.new.met.items in
    let new : List ℕ = c.walk_on.new.met.items in
    let same : length c.args.met.now.items ≡ b = omega (arith, c.len-before.ensures, c.args.met.now.ok) in
    let met : drop b new ≡ (walk c.args.links.now c.args.start).met =
    c.in-Ok-walk_on.ensures.met ∙ ap (λ (n : ℕ). (rest_of c.args.links.now (drop n all) c.in-Ok.at).met) (sym same) ∙ ap (λ walked. walked.met) c.in-Ok.ensures.along.rest in
    let few = meets-few c.args.marks.now c.mark_along.new.marks c.args.links.now (drop (length c.args.met.now.items) all) c.args.start c.in-Ok.at c.requires.few c.in-Ok.ensures.along in
    omega (arith, c.len.ensures, c.walk_on.new.met.ok, length-drop b new, ap length met, few)

pub returns-then-marked-len-clause-bound : goal.returns-then-marked-len-clause-bound
returns-then-marked-len-clause-bound c =
    let b : ℕ = c.len-before.result in
    let all : List ℕ = c.mark_along.new.met.items in
    let new : List ℕ = c.walk_on.new.met.items in
    let same : length c.args.met.now.items ≡ b = omega (arith, c.len-before.ensures, c.args.met.now.ok) in
    let met : drop b new ≡ (walk c.args.links.now c.args.start).met =
    c.in-Ok-walk_on.ensures.met ∙ ap (λ (n : ℕ). (rest_of c.args.links.now (drop n all) c.in-Ok.at).met) (sym same) ∙ ap (λ walked. walked.met) c.in-Ok.ensures.along.rest in
    let few = meets-few c.args.marks.now c.mark_along.new.marks c.args.links.now (drop (length c.args.met.now.items) all) c.args.start c.in-Ok.at c.requires.few c.in-Ok.ensures.along in
    omega (arith, c.len.ensures, c.walk_on.new.met.ok, length-drop b new, ap length met, few)

pub returns-then-marked-len-clause-fault : goal.returns-then-marked-len-clause-fault
returns-then-marked-len-clause-fault c =
    let b : ℕ = c.len-before.result in
    let all : List ℕ = c.mark_along.new.met.items in
    let new : List ℕ = c.walk_on.new.met.items in
    let same : length c.args.met.now.items ≡ b = omega (arith, c.len-before.ensures, c.args.met.now.ok) in
    let met : drop b new ≡ (walk c.args.links.now c.args.start).met =
    c.in-Ok-walk_on.ensures.met ∙ ap (λ (n : ℕ). (rest_of c.args.links.now (drop n all) c.in-Ok.at).met) (sym same) ∙ ap (λ walked. walked.met) c.in-Ok.ensures.along.rest in
    let grown : length all ≡ length c.args.met.now.items + length (drop (length c.args.met.now.items) all) = ap length c.in-Ok.ensures.met ∙ length-append c.args.met.now.items (drop (length c.args.met.now.items) all) in
    let more : length (drop (length c.args.met.now.items) all) < length (walk c.args.links.now c.args.start).met =
    omega (arith, same, grown, c.if-marked-len.true, c.len-marked.ensures, c.len-2.ensures, c.mark_along.new.met.ok, c.walk_on.new.met.ok, length-drop (length c.args.met.now.items) all, length-drop b new, ap length met) in
    meets-twice c.args.marks.now c.mark_along.new.marks c.args.links.now (drop (length c.args.met.now.items) all) c.args.start c.in-Ok.at c.requires.few c.in-Ok.ensures.along more

pub returns-then-marked-len-clause-first : goal.returns-then-marked-len-clause-first
returns-then-marked-len-clause-first c =
    let b : ℕ = c.len-before.result in
    let links = c.args.links.now in
    let all : List ℕ = c.mark_along.new.met.items in
    let new : List ℕ = c.walk_on.new.met.items in
    let same : length c.args.met.now.items ≡ b = omega (arith, c.len-before.ensures, c.args.met.now.ok) in
    let met : drop b new ≡ (walk links c.args.start).met =
    c.in-Ok-walk_on.ensures.met ∙ ap (λ (n : ℕ). (rest_of links (drop n all) c.in-Ok.at).met) (sym same) ∙ ap (λ walked. walked.met) c.in-Ok.ensures.along.rest in
    let end : c.in-Ok-walk_on.end ≡ (walk links c.args.start).end =
    c.in-Ok-walk_on.ensures.end ∙ ap (λ (n : ℕ). (rest_of links (drop n all) c.in-Ok.at).end) (sym same) ∙ ap (λ walked. walked.end) c.in-Ok.ensures.along.rest in
    let grown : length all ≡ length c.args.met.now.items + length (drop (length c.args.met.now.items) all) = ap length c.in-Ok.ensures.met ∙ length-append c.args.met.now.items (drop (length c.args.met.now.items) all) in
    let more : length (drop (length c.args.met.now.items) all) < length (walk links c.args.start).met =
    omega (arith, same, grown, c.if-marked-len.true, c.len-marked.ensures, c.len-2.ensures, c.mark_along.new.met.ok, c.walk_on.new.met.ok, length-drop (length c.args.met.now.items) all, length-drop b new, ap length met) in
    let within : (walk links c.args.start).end ≢ no_link → (walk links c.args.start).end < length links = λ other.
    elim c.else-end.branch [
      | else-end-via-then-end+else-links-from w ↦ omega (arith, end, w.if-links-from.false, w.from.ensures)
      | else-end-via-else-end w ↦ absurd (other (omega (arith, end, w.if-end.false)))
    ] in
    fault-marked c.args.marks.now c.mark_along.new.marks links (drop (length c.args.met.now.items) all) c.args.start c.in-Ok.at c.requires.few c.in-Ok.ensures.along more within

pub returns-clause-first : goal.returns-clause-first
returns-clause-first c =
    let b : ℕ = c.len-before.result in
    let links = c.args.links.now in
    let all : List ℕ = c.mark_along.new.met.items in
    let new : List ℕ = c.walk_on.new.met.items in
    let same : length c.args.met.now.items ≡ b = omega (arith, c.len-before.ensures, c.args.met.now.ok) in
    let met : drop b new ≡ (walk links c.args.start).met =
    c.in-Ok-walk_on.ensures.met ∙ ap (λ (n : ℕ). (rest_of links (drop n all) c.in-Ok.at).met) (sym same) ∙ ap (λ walked. walked.met) c.in-Ok.ensures.along.rest in
    let end : c.in-Ok-walk_on.end ≡ (walk links c.args.start).end =
    c.in-Ok-walk_on.ensures.end ∙ ap (λ (n : ℕ). (rest_of links (drop n all) c.in-Ok.at).end) (sym same) ∙ ap (λ walked. walked.end) c.in-Ok.ensures.along.rest in
    let none : length (walk links c.args.start).met ≤ length (drop (length c.args.met.now.items) all) =
    omega (arith, same, c.if-marked-len.false, c.len-marked.ensures, c.len-2.ensures, c.mark_along.new.met.ok, c.walk_on.new.met.ok, length-drop (length c.args.met.now.items) all, length-drop b new, ap length met) in
    let stays = stops-there c.args.marks.now c.mark_along.new.marks links (drop (length c.args.met.now.items) all) c.args.start c.in-Ok.at c.requires.few c.in-Ok.ensures.along none in
    let other : c.in-Ok.at ≢ no_link = λ e. absurd (omega (arith, e, c.if-at.false)) in
    let within : (walk links c.args.start).end < length links =
    elim c.else-end.branch [
      | else-end-via-then-end+else-links-from w ↦ omega (arith, end, w.if-links-from.false, w.from.ensures)
      | else-end-via-else-end w ↦ absurd (other (omega (arith, end, stays.1, w.if-end.false)))
    ] in
    fault-circular c.args.marks.now c.mark_along.new.marks links (drop (length c.args.met.now.items) all) c.args.start c.in-Ok.at c.requires.few c.in-Ok.ensures.along none other within

pub returns-clause-fault : goal.returns-clause-fault
returns-clause-fault c =
    let b : ℕ = c.len-before.result in
    let links = c.args.links.now in
    let all : List ℕ = c.mark_along.new.met.items in
    let new : List ℕ = c.walk_on.new.met.items in
    let same : length c.args.met.now.items ≡ b = omega (arith, c.len-before.ensures, c.args.met.now.ok) in
    let met : drop b new ≡ (walk links c.args.start).met =
    c.in-Ok-walk_on.ensures.met ∙ ap (λ (n : ℕ). (rest_of links (drop n all) c.in-Ok.at).met) (sym same) ∙ ap (λ walked. walked.met) c.in-Ok.ensures.along.rest in
    let none : length (walk links c.args.start).met ≤ length (drop (length c.args.met.now.items) all) =
    omega (arith, same, c.if-marked-len.false, c.len-marked.ensures, c.len-2.ensures, c.mark_along.new.met.ok, c.walk_on.new.met.ok, length-drop (length c.args.met.now.items) all, length-drop b new, ap length met) in
    let stays = stops-there c.args.marks.now c.mark_along.new.marks links (drop (length c.args.met.now.items) all) c.args.start c.in-Ok.at c.requires.few c.in-Ok.ensures.along none in
    λ e. absurd (omega (arith, c.if-at.false, stays.1, e))
