use Rattle.std.proofs.Common.{ap, ◌∙◌}
use Rattle.glyph_shelf.specs.UsedKeys.Keys.{KeysState, looked}
use Rattle.glyph_shelf.proofs.UsedKeys.StateLemmas.{used-looked, used-stamped}
use Rattle.glyph_shelf.proofs.used_keys.keys.UsedKeys.look.Goals as goal

pub invariant_of-self : goal.invariant_of-self
invariant_of-self c =
    rw c.use_in.ensures.entries (used-stamped c.self.inside.frame c.args.key c.self.inside.entries.entries c.self.invariant)

pub returns-clause-looked : goal.returns-clause-looked
returns-clause-looked c =
    let inside = c.self.inside in
    rw c.use_in.ensures.entries
    (used-looked inside.frame c.args.key inside.entries.cap inside.entries.entries c.self.invariant
    ∙ ap (λ (s : KeysState). looked s c.args.key) c.self.view_is)
