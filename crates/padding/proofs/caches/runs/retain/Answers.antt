use Rattle.std.proofs.Common.{◌≡◌, refl, rules, ◌∙◌}
use Rattle.std.specs.Prelude.{nat_eq, not}
use Rattle.glyph_shelf.specs.Dropping.{is_one_of}
use Rattle.padding.proofs.PaddedCaches.DroppedKeys.{drops-keys}
use Rattle.padding.proofs.caches.runs.retain.Goals as goal

pub returns : goal.returns
returns c =
    let kept = c.retain.ensures.retained in
    record {
      answers = (
        drops-keys _ _ c.args.cache.now.cache c.retain.new.self.cache kept.retains c.args.gone.items (λ s. s.0.now.items ≡ c.args.gone.items)
            (λ before key rectangle answer after s h.
            let said : answer ≡ not (is_one_of nat_eq before.0.now.items key) = search (rules, h.met) in
            let same : after.0.now.items ≡ before.0.now.items = search (rules, h.met) in
            (rw s at said, same ∙ s)) refl,
        kept.padding,
      );
      atlas = c.retain.ensures.promises.cache.atlas;
    }
