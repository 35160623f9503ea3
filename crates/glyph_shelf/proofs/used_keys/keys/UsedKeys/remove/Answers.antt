use Rattle.std.proofs.Common.{◌≡◌, Some, None, nat_eq, ap, sym, ◌∙◌}
use Rattle.std.specs.Map.{lookup}
use Rattle.std.specs.Prelude.{option_map}
use Rattle.glyph_shelf.specs.declared.used_keys.stamps.Entry.{Entry}
use Rattle.glyph_shelf.specs.UsedKeys.Keys.{KeysState, without}
use Rattle.glyph_shelf.proofs.UsedKeys.BareEntries.{lookup-bare}
use Rattle.glyph_shelf.proofs.UsedKeys.StampLemmas.{falling-removed}
use Rattle.glyph_shelf.proofs.UsedKeys.StateLemmas.{removed-without, unknown-without}
use Rattle.glyph_shelf.proofs.used_keys.keys.UsedKeys.remove.Goals as goal

pub invariant_of-self : goal.invariant_of-self
invariant_of-self c =
    rw c.pop.ensures.entries (falling-removed (nat_eq c.args.key) c.self.inside.frame c.self.inside.entries.entries c.self.invariant)

pub returns-in_default-clause-value : goal.returns-in_default-clause-value
returns-in_default-clause-value c =
    ap (option_map (λ (e : Entry). e.allocation)) c.in_default.ensures.value
    ∙ sym (lookup-bare (nat_eq c.args.key) c.self.inside.entries.entries)
    ∙ ap (λ (s : KeysState). lookup (nat_eq c.args.key) s.entries) c.self.view_is

pub returns-in_default-clause-removed : goal.returns-in_default-clause-removed
returns-in_default-clause-removed c =
    let inside = c.self.inside in
    let unknown : lookup (nat_eq c.args.key) inside.entries.entries ≡ None = sym c.in_default.ensures.value in
    rw c.pop.ensures.entries
    (unknown-without inside.frame c.args.key inside.entries.cap inside.entries.entries unknown
    ∙ ap (λ (s : KeysState). without s c.args.key) c.self.view_is)

pub invariant_of-self-2 : goal.invariant_of-self-2
invariant_of-self-2 c =
    rw c.pop.ensures.entries (falling-removed (nat_eq c.args.key) c.self.inside.frame c.self.inside.entries.entries c.self.invariant)

pub returns-clause-value : goal.returns-clause-value
returns-clause-value c =
    ap (option_map (λ (e : Entry). e.allocation)) c.in-Some.ensures.value
    ∙ sym (lookup-bare (nat_eq c.args.key) c.self.inside.entries.entries)
    ∙ ap (λ (s : KeysState). lookup (nat_eq c.args.key) s.entries) c.self.view_is

pub returns-clause-removed : goal.returns-clause-removed
returns-clause-removed c =
    let inside = c.self.inside in
    let found : lookup (nat_eq c.args.key) inside.entries.entries ≡ Some c.in-Some.entry = sym c.in-Some.ensures.value in
    rw c.pop.ensures.entries
    (removed-without inside.frame c.args.key inside.entries.cap inside.entries.entries c.in-Some.entry c.self.invariant found
    ∙ ap (λ (s : KeysState). without s c.args.key) c.self.view_is)
