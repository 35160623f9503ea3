-- Records spell the shelves without the longest end of such as hold nothing live.
use Rattle.std.proofs.Common.{◌≡◌, ℕ, zero, suc, ◌+◌, ◌<◌, ◌≤◌, Bool, true, false, List, [], ◌∷◌, length, refl, ap, arith, subst, sym, ◌∙◌, ◌==◌, length-append}
use Rattle.std.specs.List.{list_all}
use Rattle.etagere_base.specs.declared.frames.Frame.{Frame}
use Rattle.bucketed_model.specs.Returning.{without_idle_end}
use Rattle.bucketed_model.specs.State.{Bucket, BucketShelf, buckets_in_use, is_idle, is_idle_bucket}
use Rattle.bucketed_model.proofs.Shelving.Shelves.{buckets_in_use-append}
use Rattle.bucketed_records.specs.Private.Store.{last_kept, Spells, kept_shelf, kept_shelves, live_items}
use Rattle.bucketed_records.proofs.Spelling.KeptShelves.{live-idle, has-end, HasEnd, last-kept}
use Rattle.bucketed_store.specs.Private.Returns.{Dropping, end_dropped, last_dropped}
use Rattle.bucketed_store.proofs.Emptying.IdleEnds.{busy-last, idle-last}
use Rattle.bucketed_store.proofs.Emptying.SpelledDrops.{drops-last, end-busy, end-idle, end-none}

-- the records after the end was dropped, and how many buckets became unused
pub record DropsAll (frame : Frame) (done after : Dropping) (xs : List BucketShelf) : Type 0 where
  pub unused : List ℕ
  pub spells : Spells frame after.stored unused (without_idle_end xs)
  pub count : after.count + buckets_in_use (without_idle_end xs) ≡ done.count + buckets_in_use xs

-- where nothing is dropped
stays : (frame : Frame) (done after : Dropping) (unused : List ℕ) (xs : List BucketShelf) → after ≡ done → without_idle_end xs ≡ xs
    → Spells frame done.stored unused xs → DropsAll frame done after xs
stays frame done after unused xs same kept spells =
    record { unused = unused; spells = rw (same, kept) spells; count = rw (same, kept) refl }

-- the longest end that holds nothing live is dropped
pub drops-all : (frame : Frame) (steps : ℕ) (done : Dropping) (unused : List ℕ) (xs : List BucketShelf) → length xs ≤ steps
    → Spells frame done.stored unused xs → DropsAll frame done (end_dropped steps done) xs
drops-all frame zero done unused [] enough spells = stays frame done done unused [] refl refl spells
drops-all frame (suc steps) done unused [] enough spells =
    stays frame done (end_dropped (suc steps) done) unused [] (end-none (suc steps) done (ap last_kept spells.shelves)) refl spells
drops-all frame zero done unused (x ∷ xs) enough spells = absurd (omega (arith, enough))
drops-all frame (suc steps) done unused (x ∷ xs) enough spells =
    by_test (has-end x xs) (is_idle (has-end x xs).last) refl (λ later ns ys h s. drops-all frame steps later ns ys h s)
  where
    by_test : (end : HasEnd (x ∷ xs)) (t : Bool) → is_idle end.last ≡ t
        → ((later : Dropping) (ns : List ℕ) (ys : List BucketShelf) → length ys ≤ steps → Spells frame later.stored ns ys → DropsAll frame later (end_dropped steps later) ys)
        → DropsAll frame done (end_dropped (suc steps) done) (x ∷ xs)
    by_test end true e rest =
        let y = end.last in
        let ys = end.front in
        let drops = drops-last frame done unused ys y (subst (Spells frame done.stored unused) end.whole spells) e in
        let kept = kept_shelf frame ys y in
        let long : length (x ∷ xs) ≡ length ys + 1 = ap length end.whole ∙ length-append ys (y ∷ []) in
        let all = rest (last_dropped kept done) _ ys (omega (arith, enough, long)) drops.spells in
        let step : end_dropped (suc steps) done ≡ end_dropped steps (last_dropped kept done) =
        end-idle (suc steps) steps done kept refl drops.last (none y.buckets e) in
        let same : without_idle_end (x ∷ xs) ≡ without_idle_end ys = ap without_idle_end end.whole ∙ idle-last ys y e in
        record {
          unused = all.unused;
          spells = rw (step, same) all.spells;
          count = rw (step, same)
              (omega (arith, all.count, drops.count, ap buckets_in_use end.whole, buckets_in_use-append ys (y ∷ [])));
        }
      where
        none : (bs : List Bucket) → list_all is_idle_bucket bs ≡ true → live_items bs ≤ 0
        none bs h = zero-le (live_items bs) (live-idle bs ∙ h)
          where
            zero-le : (n : ℕ) → (n == 0) ≡ true → n ≤ 0
            zero-le n k = grind arith
    by_test end false e rest =
        let y = end.last in
        let ys = end.front in
        let last : last_kept done.stored.shelves ≡ _ =
        ap last_kept (spells.shelves ∙ ap (kept_shelves frame []) end.whole) ∙ last-kept frame ys y in
        stays frame done (end_dropped (suc steps) done) unused (x ∷ xs)
        (end-busy (suc steps) done (kept_shelf frame ys y) last (some y.buckets e))
        (ap without_idle_end end.whole ∙ busy-last ys y e ∙ sym end.whole) spells
      where
        some : (bs : List Bucket) → list_all is_idle_bucket bs ≡ false → 0 < live_items bs
        some bs h = positive (live_items bs) (live-idle bs ∙ h)
          where
            positive : (n : ℕ) → (n == 0) ≡ false → 0 < n
            positive n k = grind arith
