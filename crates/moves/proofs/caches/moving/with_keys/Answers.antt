use Rattle.std.proofs.Common.{◌≡◌, None, nat_eq, List, ap, sym, subst, ◌∙◌, refl}
use Rattle.std.specs.HashMap as table
use Rattle.std.specs.List.{filter_map}
use Rattle.std.specs.Map.{update_all}
use Rattle.glyph_shelf.specs.Promises.{KeepsCachePromises}
use Rattle.glyph_shelf.specs.declared.saving.SavedKey.{SavedKey}
use Rattle.moves.specs.Caches.Arranging.{moved_cache}
use Rattle.moves.specs.Caches.Private.ById.{keys_saved, saved_anew}
use Rattle.moves.proofs.MovedCaches.Done.{keeps-moved, moved-once, once}
use Rattle.moves.proofs.MovedCaches.Restored.{left-same, named, placed, stands-moved, told-same}
use Rattle.moves.proofs.caches.moving.with_keys.Goals as goal

pub restored-requires : goal.restored-requires
restored-requires c =
    let old = c.args.cache.now in
    let moves = c.args.moves.now in
    let was = c.in_ok-saved.ensures in
    let keeps = keeps-moved old moves c.args.unplaced.now c.args.atlas.now was.promises c.requires in
    let get = table.get nat_eq c.in_ok-ids.ids in (
      moved_cache old moves c.args.atlas.now,
      stands-moved old moves c.args.atlas.now c.in_ok-saved.saved _ get was keeps refl c.in_ok-snapshot.ensures
          (c.in_ok-keys_moved.ensures ∙ ap (filter_map (saved_anew get)) c.deref-2.ensures.value)
          (placed moves get c.in_ok-ids.ensures.0 (moved-once old moves c.args.unplaced.now c.args.atlas.now was.promises c.requires)),
    )

pub returns : goal.returns
returns c =
    let old = c.args.cache.now in
    let moves = c.args.moves.now in
    let was = c.in_ok-saved.ensures in
    let keeps = keeps-moved old moves c.args.unplaced.now c.args.atlas.now was.promises c.requires in
    let get = table.get nat_eq c.in_ok-ids.ids in
    let key_of = table.get nat_eq c.in_ok-keys.keys in
    let names = named old c.in_ok-saved.saved.keys.items key_of was.keys
    (λ q. c.in_ok-keys.ensures.0 q ∙ ap (λ (l : List SavedKey). update_all nat_eq (λ _. None) (keys_saved l) q) c.deref.ensures.value)
    (once old moves c.args.unplaced.now c.args.atlas.now was.promises c.requires) in
    let follows : c.in_ok-restored.field-0 ≡ moved_cache old moves c.args.atlas.now =
    c.in_ok-restored.ensures (moved_cache old moves c.args.atlas.now)
    (stands-moved old moves c.args.atlas.now c.in_ok-saved.saved _ get was keeps refl c.in_ok-snapshot.ensures
    (c.in_ok-keys_moved.ensures ∙ ap (filter_map (saved_anew get)) c.deref-2.ensures.value)
    (placed moves get c.in_ok-ids.ensures.0 (moved-once old moves c.args.unplaced.now c.args.atlas.now was.promises c.requires))) in
    record {
      was = was.promises;
      told_are = c.in_ok-told.ensures ∙ told-same old key_of names moves;
      left_are = c.in_ok-left.ensures ∙ left-same old key_of names c.args.unplaced.now;
      follows = follows;
      promises = subst KeepsCachePromises (sym follows) keeps;
    }
