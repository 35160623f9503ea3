use Rattle.std.proofs.Common.{◌≡◌, refl, rules, ◌∙◌}
use Rattle.std.specs.Prelude.{not}
use Rattle.glyph_shelf.specs.Dropping.{is_one_of}
use Rattle.glyph_map.proofs.MapRefused.{drops-keys, some-key-goes}
use Rattle.glyph_map.proofs.runs.retain_on_map.Goals as goal

pub returns-in-Ok-clause-step : goal.returns-in-Ok-clause-step
returns-in-Ok-clause-step g c equal =
    record {
      answers = drops-keys g.K.PartialEq.eq _ _ c.args.map.now c.retain.new.self (c.in-Ok.ensures.retained equal) c.args.gone.items
          (λ s. s.0.now.items ≡ c.args.gone.items)
          (λ before key value answer after s h.
          let said : answer ≡ not (is_one_of g.K.PartialEq.eq before.0.now.items key.now) = search (rules, h.met) in
          let same : after.0.now.items ≡ before.0.now.items = search (rules, h.met) in
          (rw s at said, same ∙ s)) refl;
      promises = c.retain.ensures.promises;
    }

pub returns-clause-no_memory : goal.returns-clause-no_memory
returns-clause-no_memory g c is =
    let some =
    some-key-goes g.K.PartialEq.eq _ c.args.gone.items (λ s. s.0.now.items ≡ c.args.gone.items)
    (λ before key value answer after s h.
    let said : answer ≡ not (is_one_of g.K.PartialEq.eq before.0.now.items key.now) = search (rules, h.met) in
    let same : after.0.now.items ≡ before.0.now.items = search (rules, h.met) in
    (rw s at said, same ∙ s)) _ refl c.args.map.now c.in-Err.ensures.refused in
    record { answers = (some, c.in-Err.ensures.err); promises = c.retain.ensures.promises }

pub returns-clause-step : goal.returns-clause-step
returns-clause-step g c equal = returns-clause-no_memory g c refl
