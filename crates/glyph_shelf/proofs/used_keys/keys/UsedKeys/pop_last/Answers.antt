use Rattle.std.proofs.Common.{◌-◌, length, ap, sym, ◌∙◌}
use Rattle.std.specs.Prelude.{option_map}
use Rattle.lru.specs.LruCache.{last_entry}
use Rattle.glyph_shelf.specs.UsedKeys.Keys.{KeysState, without_last}
use Rattle.glyph_shelf.proofs.UsedKeys.BareEntries.{bare, last-bare}
use Rattle.glyph_shelf.proofs.UsedKeys.StampLemmas.{falling-take}
use Rattle.glyph_shelf.proofs.UsedKeys.StateLemmas.{popped-without}
use Rattle.glyph_shelf.proofs.used_keys.keys.UsedKeys.pop_last.Goals as goal

pub invariant_of-self-2 : goal.invariant_of-self-2
invariant_of-self-2 c =
    let es = c.self.inside.entries.entries in
    rw c.pop_lru.ensures.entries (falling-take (length es - 1) c.self.inside.frame es c.self.invariant)

pub returns-clause-value : goal.returns-clause-value
returns-clause-value c =
    ap (option_map bare) c.in-Some.ensures.value
    ∙ sym (last-bare c.self.inside.entries.entries)
    ∙ ap (λ (s : KeysState). last_entry s.entries) c.self.view_is

pub returns-clause-popped : goal.returns-clause-popped
returns-clause-popped c =
    rw c.pop_lru.ensures.entries
    (popped-without c.self.inside.frame c.self.inside.entries.cap c.self.inside.entries.entries ∙ ap without_last c.self.view_is)
