use Rattle.std.proofs.Common.{ap, sym, ◌∙◌}
use Rattle.std.specs.Prelude.{option_map}
use Rattle.glyph_shelf.specs.declared.used_keys.stamps.Entry.{Entry}
use Rattle.glyph_shelf.specs.UsedKeys.Keys.{KeysState, rectangle_in}
use Rattle.glyph_shelf.proofs.UsedKeys.Uses.{rectangle-bare}
use Rattle.glyph_shelf.proofs.used_keys.keys.UsedKeys.peek.Goals as goal

pub returns-in_default : goal.returns-in_default
returns-in_default c =
    ap (option_map (λ (e : Entry). e.allocation.rectangle)) c.in_default.ensures
    ∙ sym (rectangle-bare c.args.key c.self.inside.entries.entries)
    ∙ ap (λ (s : KeysState). rectangle_in s.entries c.args.key) c.self.view_is

pub returns : goal.returns
returns c =
    ap (option_map (λ (e : Entry). e.allocation.rectangle)) c.in-Some.ensures
    ∙ sym (rectangle-bare c.args.key c.self.inside.entries.entries)
    ∙ ap (λ (s : KeysState). rectangle_in s.entries c.args.key) c.self.view_is
