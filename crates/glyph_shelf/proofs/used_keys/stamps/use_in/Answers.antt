use Rattle.std.proofs.Common.{List, ℕ, ap, sym, ◌∙◌}
use Rattle.std.specs.Prelude.{option_map}
use Rattle.lru.specs.LruCache.{lru_cache}
use Rattle.glyph_shelf.specs.declared.used_keys.stamps.Entry.{Entry}
use Rattle.glyph_shelf.proofs.UsedKeys.Uses.{rectangle-bare, used-known, used-unknown}
use Rattle.glyph_shelf.proofs.used_keys.stamps.use_in.Goals as goal

pub returns-in_default-clause-value : goal.returns-in_default-clause-value
returns-in_default-clause-value c =
    ap (option_map (λ (e : Entry). e.allocation.rectangle)) c.in_default.ensures.value
    ∙ sym (rectangle-bare c.args.key c.args.entries.now.entries)

pub returns-in_default-clause-entries : goal.returns-in_default-clause-entries
returns-in_default-clause-entries c =
    ap (λ (l : List (ℕ × Entry)). lru_cache l c.args.entries.now.cap)
    (used-unknown c.args.frame c.args.key c.args.entries.now.entries (sym c.in_default.ensures.value))

pub returns-clause-value : goal.returns-clause-value
returns-clause-value c =
    ap (option_map (λ (e : Entry). e.allocation.rectangle)) c.in-Some.ensures.value
    ∙ sym (rectangle-bare c.args.key c.args.entries.now.entries)

pub returns-clause-entries : goal.returns-clause-entries
returns-clause-entries c =
    ap (λ (l : List (ℕ × Entry)). lru_cache l c.args.entries.now.cap)
    (used-known c.args.frame c.args.key c.args.entries.now.entries c.in-Some.entry.now (sym c.in-Some.ensures.value))
