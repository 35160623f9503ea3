use Rattle.std.proofs.Common.{length, refl, subst, ap, ◌∙◌}
use Rattle.std.specs.List.{range_with_len}
use Rattle.glyph_shelf.specs.declared.saving.CacheSnapshot.{CacheSnapshot}
use Rattle.glyph_map.specs.Private.Numbering.{numbered_from}
use Rattle.glyph_map.specs.Saved.{MapStandsFor, without_frame}
use Rattle.glyph_map.specs.State.{MapState, pairs_of}
use Rattle.glyph_map.proofs.Numbered.{numbered-keys, numbered-map}
use Rattle.glyph_map.proofs.map.GlyphMap.snapshot.Goals as goal

pub returns-clause-stands : goal.returns-clause-stands
returns-clause-stands g c =
    let given : CacheSnapshot = record { capacity = c.in_ok-capacity.field-0.capacity; atlas = c.in_ok-capacity.field-0.atlas; keys = c.in_ok-keys.keys } in
    subst (λ (s : MapState g.row.K.Denot g.row.V.Denot). MapStandsFor given (pairs_of s.entries) (without_frame s)) c.self.view_is
    (numbered-map c.self.inside.entries.entries c.self.inside.cache c.in_ok-capacity.field-0 given c.self.invariant.tickets
    c.in_ok-capacity.ensures (c.in_ok-keys.ensures ∙ ap (numbered_from 0) c.as_slice.ensures.value) refl refl)

pub returns-clause-numbers : goal.returns-clause-numbers
returns-clause-numbers g c =
    let given : CacheSnapshot = record { capacity = c.in_ok-capacity.field-0.capacity; atlas = c.in_ok-capacity.field-0.atlas; keys = c.in_ok-keys.keys } in
    numbered-keys c.self.inside.entries.entries c.self.inside.cache c.in_ok-capacity.field-0 given c.self.invariant.tickets
    c.in_ok-capacity.ensures (c.in_ok-keys.ensures ∙ ap (numbered_from 0) c.as_slice.ensures.value)
    ∙ ap (λ (s : MapState g.row.K.Denot g.row.V.Denot). range_with_len 0 (length s.entries)) c.self.view_is
