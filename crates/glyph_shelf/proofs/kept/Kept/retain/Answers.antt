use Rattle.std.proofs.Common.{◌≡◌, ℕ, ◌-◌, ◌∙◌, ap, length, subst, arith}
use Rattle.glyph_shelf.specs.Cache.{CacheState, frame_uses}
use Rattle.glyph_shelf.specs.Private.Asking.{Asks}
use Rattle.glyph_shelf.proofs.Asking.{asks-left, framed-length, retained-whole}
use Rattle.glyph_shelf.proofs.kept.Kept.retain.Goals as goal

pub ask-requires-2-clause-few : goal.ask-requires-2-clause-few
ask-requires-2-clause-few g c =
    let old = c.args.self.now in
    let left = asks-left (goal.F-step g) (c.len.result - c.used_in_frame-uses.result) c.args.keeps c.ask.new.keeps old c.ask.new.self c.ask.ensures.asked in
    let same = ap (λ (s : CacheState). length s.entries) c.begin_frame_if.ensures.begun ∙ framed-length c.has_frame-framed.result c.ask.new.self in
    let long = c.len.ensures.len in
    let uses = c.used_in_frame-uses.ensures in
    let few = c.len.ensures.promises.uses in
    omega arith

pub returns-clause-retained : goal.returns-clause-retained
returns-clause-retained g c =
    let old = c.args.self.now in
    let promises = c.len.ensures.promises in
    let step = goal.F-step g in
    let earlier : c.len.result - c.used_in_frame-uses.result ≡ length old.entries - frame_uses old =
    ap (λ (n : ℕ). n - c.used_in_frame-uses.result) c.len.ensures.len ∙ ap (λ (n : ℕ). length old.entries - n) c.used_in_frame-uses.ensures in
    let first = subst (λ (n : ℕ). Asks step n c.args.keeps old c.ask.new.keeps c.ask.new.self) earlier c.ask.ensures.asked in
    let second = subst (λ (n : ℕ). Asks step n c.ask.new.keeps c.begin_frame_if.new.self c.ask-2.new.keeps c.ask-2.new.self) c.used_in_frame-uses.ensures c.ask-2.ensures.asked in
    retained-whole step old promises.keys promises.uses c.args.keeps c.ask.new.keeps c.ask.new.self c.ask-2.new.keeps c.ask-2.new.self
    c.has_frame-framed.result first c.has_frame-framed.ensures
    (subst (λ (s : CacheState). Asks step (frame_uses old) c.ask.new.keeps s c.ask-2.new.keeps c.ask-2.new.self) c.begin_frame_if.ensures.begun second)
