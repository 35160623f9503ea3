use Rattle.std.proofs.Common.{Bool, refl, subst, rules, of_calls}
use Rattle.glyph_map.specs.Retaining.{Answers}
use Rattle.glyph_map.proofs.Asked.{ends, goes, on-err, refuses-here, refuses-later, stays}
use Rattle.glyph_map.proofs.refusing.clones_of_refused.Goals as goal

pub loop-key-preserved-in_ok-push : goal.loop-key-preserved-in_ok-push
loop-key-preserved-in_ok-push g c =
    let refuses =
    subst (λ (b : Bool). Answers g.F.FnMut c.loop-key.keeps (c.in-Some.key.now, c.in-Some.entry.now.value) b c.keeps.new.self) c.if-not-keeps.true
    (record { key = _; value = _; shown = (refl, refl); called = c.keeps.ensures }) in
    record {
      callable = search (of_calls, rules);
      asked = goes g.F.FnMut g.K.Clone.is_clone c.args.keeps c.args.entries.now.entries c.loop-key.keeps c.keeps.new.self c.loop-key.rest
          c.next_back.new.self (c.in-Some.key.now, c.in-Some.entry.now) c.loop-key.clones.items c.push.new.self.items c.in_ok-clone.field-0
          c.in-Some.ensures.steps c.loop-key.invariant.asked refuses c.in_ok-clone.ensures.cases (search rules);
      refused = λ later. refuses-here g.F.FnMut c.args.keeps c.args.entries.now.entries c.loop-key.keeps c.keeps.new.self c.loop-key.rest
          c.next_back.new.self (c.in-Some.key.now, c.in-Some.entry.now) c.in-Some.ensures.steps c.loop-key.invariant.refused refuses;
    }

pub loop-key-preserved : goal.loop-key-preserved
loop-key-preserved g c =
    let keeps =
    subst (λ (b : Bool). Answers g.F.FnMut c.loop-key.keeps (c.in-Some.key.now, c.in-Some.entry.now.value) b c.keeps.new.self) c.if-not-keeps.false
    (record { key = _; value = _; shown = (refl, refl); called = c.keeps.ensures }) in
    record {
      callable = search (of_calls, rules);
      asked = stays g.F.FnMut g.K.Clone.is_clone c.args.keeps c.args.entries.now.entries c.loop-key.keeps c.keeps.new.self c.loop-key.rest
          c.next_back.new.self (c.in-Some.key.now, c.in-Some.entry.now) c.loop-key.clones.items
          c.in-Some.ensures.steps c.loop-key.invariant.asked keeps;
      refused = refuses-later g.F.FnMut c.args.keeps c.args.entries.now.entries c.loop-key.keeps c.keeps.new.self c.loop-key.rest
          c.next_back.new.self (c.in-Some.key.now, c.in-Some.entry.now) c.in-Some.ensures.steps c.loop-key.invariant.refused keeps;
    }

pub returns-in_err-clone-clause-err : goal.returns-in_err-clone-clause-err
returns-in_err-clone-clause-err g c =
    on-err c.from_residual.result
    (refuses-here g.F.FnMut c.args.keeps c.args.entries.now.entries c.loop-key.keeps c.keeps.new.self c.loop-key.rest
    c.next_back.new.self (c.in-Some.key.now, c.in-Some.entry.now) c.in-Some.ensures.steps c.loop-key.invariant.refused
    (subst (λ (b : Bool). Answers g.F.FnMut c.loop-key.keeps (c.in-Some.key.now, c.in-Some.entry.now.value) b c.keeps.new.self) c.if-not-keeps.true
    (record { key = _; value = _; shown = (refl, refl); called = c.keeps.ensures })))

pub returns-in_err-push-clause-err : goal.returns-in_err-push-clause-err
returns-in_err-push-clause-err g c =
    on-err c.from_residual-in_err-push.result
    (refuses-here g.F.FnMut c.args.keeps c.args.entries.now.entries c.loop-key.keeps c.keeps.new.self c.loop-key.rest
    c.next_back.new.self (c.in-Some.key.now, c.in-Some.entry.now) c.in-Some.ensures.steps c.loop-key.invariant.refused
    (subst (λ (b : Bool). Answers g.F.FnMut c.loop-key.keeps (c.in-Some.key.now, c.in-Some.entry.now.value) b c.keeps.new.self) c.if-not-keeps.true
    (record { key = _; value = _; shown = (refl, refl); called = c.keeps.ensures })))

pub returns-clause-ok : goal.returns-clause-ok
returns-clause-ok g c =
    ends g.F.FnMut g.K.Clone.is_clone c.args.keeps c.args.entries.now.entries c.loop-key.keeps c.loop-key.rest c.loop-key.clones.items
    c.in_default.ensures.steps.0 c.loop-key.invariant.asked
