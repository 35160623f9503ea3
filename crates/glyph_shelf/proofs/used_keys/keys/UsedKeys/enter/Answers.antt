use Rattle.std.proofs.Common.{nat_eq, ap, ◌∙◌}
use Rattle.std.specs.Map.{lookup}
use Rattle.glyph_shelf.specs.UsedKeys.Keys.{KeysState}
use Rattle.glyph_shelf.proofs.UsedKeys.BareEntries.{unknown-bare}
use Rattle.glyph_shelf.proofs.used_keys.keys.UsedKeys.enter.Goals as goal

pub put_first-requires : goal.put_first-requires
put_first-requires c =
    unknown-bare (nat_eq c.args.key) c.self.inside.entries.entries
    (ap (λ (s : KeysState). lookup (nat_eq c.args.key) s.entries) c.self.view_is ∙ c.requires.new)
