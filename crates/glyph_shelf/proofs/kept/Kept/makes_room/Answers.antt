use Rattle.std.proofs.Common.{◌≡◌, ◌-◌, length, ap, sym, ◌∙◌, subst, arith}
use Rattle.glyph_shelf.specs.Cache.{CacheState, frame_uses}
use Rattle.glyph_shelf.specs.Promises.{KeepsCachePromises}
use Rattle.glyph_shelf.proofs.FullFrames.{lacks-all, unframed-makes}
use Rattle.glyph_shelf.proofs.kept.Kept.makes_room.Goals as goal

pub returns-then-uses-eq0-clause-room : goal.returns-then-uses-eq0-clause-room
returns-then-uses-eq0-clause-room c =
    λ makes. unframed-makes c.args.self.now c.args.size (subst KeepsCachePromises c.self.view_is c.self.invariant) c.requires.fits
    (sym (ap frame_uses c.self.view_is) ∙ sym c.used_in_frame-uses.ensures.uses ∙ c.if-uses-eq0.true)

pub returns-then-earlier-eq0-clause-full : goal.returns-then-earlier-eq0-clause-full
returns-then-earlier-eq0-clause-full c =
    let long = ap (λ (s : CacheState). length s.entries) c.self.view_is in
    let uses = ap frame_uses c.self.view_is in
    let none : length c.args.self.now.entries - frame_uses c.args.self.now ≡ 0 =
    omega (arith, long, uses, c.len.ensures.len, c.used_in_frame-uses.ensures.uses, c.if-earlier-eq0.true) in
    λ lacks. lacks-all c.args.self.now c.args.size c.requires.full none
