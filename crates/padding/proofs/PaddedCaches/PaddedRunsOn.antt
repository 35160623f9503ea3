-- A run of a cache with a padding keeps its promises at each moment.
use Rattle.std.proofs.Common.{◌≡◌, ℕ, zero, suc, List, [], ◌∷◌, inl, inr, take, refl, ap, sym, ◌∙◌, subst, arith}
use Rattle.std.specs.List.{filter}
use Rattle.std.specs.Map.{keys_of}
use Rattle.std.specs.NonZero.{non_zero_usize_get}
use Rattle.std.specs.Prelude.{nat_eq, reverse}
use Rattle.shelf_model.specs.Atlas.{KeepsPromises}
use Rattle.glyph_shelf.specs.Cache.{CacheState}
use Rattle.glyph_shelf.specs.Promises.{KeepsCachePromises}
use Rattle.glyph_shelf.proofs.Callers.{keeps-used}
use Rattle.padding.specs.Padding.{padded, with_padding}
use Rattle.padding.specs.Caches.Padded.{KeepsCachePadding, PaddedCacheState, trimmed_list}
use Rattle.padding.proofs.PaddedCaches.PaddedLemmas.{keeps-padding}
use Rattle.glyph_shelf.specs.Dropping.{is_one_of}
use Rattle.padding.specs.declared.caches.runs.calls.PaddedCall.{PaddedCall}
use Rattle.padding.specs.declared.caches.runs.calls.PaddedCall.TheVariants.{Place, Get, Remove, Retain, BeginFrame, Grow, SetCapacity, Clear}
use Rattle.padding.specs.declared.caches.runs.calls.PaddedReply.{PaddedReply}
use Rattle.padding.specs.declared.caches.runs.calls.PaddedReply.TheVariants as reply
use Rattle.padding.specs.Caches.Runs.{EveryRunKeepsPromises, MayAnswer, Runs, Step, Told, told_after, told_from}
use Rattle.padding.proofs.PaddedCaches.CacheKept.{keeps-cleared, keeps-framed, keeps-larger, keeps-left, keeps-placed, keeps-sized, keeps-without_key, keeps-without_keys}
use Rattle.padding.proofs.PaddedCaches.PaddedStepsTold.{told-step}

-- a cache that is this one keeps its promises
kept-as : (new : PaddedCacheState) (cache : CacheState) → new.cache ≡ cache → KeepsCachePromises cache → KeepsCachePromises new.cache
kept-as new cache is promises = subst KeepsCachePromises (sym is) promises

-- a call leaves a cache that keeps its promises so
kept-step : (old new : PaddedCacheState) (call : PaddedCall) (answer : PaddedReply) → KeepsCachePromises old.cache
    → KeepsPromises new.cache.atlas → MayAnswer old call answer new → KeepsCachePromises new.cache
kept-step old new (Place key size) (reply.Placed placed) was atlas (inl again) =
    kept-as new _ (ap (λ (s : PaddedCacheState). s.cache) again.after) (keeps-used old.cache key was)
kept-step old new (Place key size) (reply.Placed placed) was atlas (inr first) =
    keeps-placed old.cache key (padded old.padding size) (with_padding old.padding placed.rectangle) placed.evicted.items new.cache was first.is_new
    first.places.places atlas
kept-step old new (Place key size) (reply.Refused fault) was atlas may = keeps-left old.cache (padded old.padding size) fault new.cache was may.left atlas
kept-step old new (Get key) (reply.At rectangle) was atlas (there, after) =
    kept-as new _ (ap (λ (s : PaddedCacheState). s.cache) after) (keeps-used old.cache key was)
kept-step old new (Get key) reply.NotThere was atlas (is_new, same) = kept-as new _ (ap (λ (s : PaddedCacheState). s.cache) same) was
kept-step old new (Remove key) (reply.Removed rectangle) was atlas (there, after) =
    kept-as new _ (ap (λ (s : PaddedCacheState). s.cache) after) (keeps-without_key old.cache key was)
kept-step old new (Remove key) reply.NotThere was atlas (is_new, same) = kept-as new _ (ap (λ (s : PaddedCacheState). s.cache) same) was
kept-step old new (Retain gone) reply.Retained was atlas (drops, same) =
    kept-as new _ drops.left (keeps-without_keys old.cache (filter (is_one_of nat_eq gone.items) (reverse (keys_of old.cache.entries))) was)
kept-step old new BeginFrame reply.Begun was atlas after = kept-as new _ (ap (λ (s : PaddedCacheState). s.cache) after) (keeps-framed old.cache was)
kept-step old new (Grow size) reply.Grown was atlas (none, after) =
    kept-as new _ (ap (λ (s : PaddedCacheState). s.cache) after) (keeps-larger old.cache size none was)
kept-step old new (Grow size) (reply.NotGrown fault) was atlas (is_fault, same) = kept-as new _ (ap (λ (s : PaddedCacheState). s.cache) same) was
kept-step old new (SetCapacity capacity) (reply.Evicted evicted) was atlas (out, after) =
    kept-as new _ (ap (λ (s : PaddedCacheState). s.cache) after) (keeps-sized old.cache (non_zero_usize_get capacity) (omega (arith, capacity.ok)) was)
kept-step old new (SetCapacity capacity) reply.NoMemory was atlas (more, same) = kept-as new _ (ap (λ (s : PaddedCacheState). s.cache) same) was
kept-step old new Clear reply.Cleared was atlas after = kept-as new _ (ap (λ (s : PaddedCacheState). s.cache) after) (keeps-cleared old.cache was)
kept-step old new call answer was atlas never = absurd never

padding-step : (old new : PaddedCacheState) (call : PaddedCall) (answer : PaddedReply) → KeepsCachePadding old → Step old call answer new → KeepsCachePadding new
padding-step old new call answer was step =
    keeps-padding new.padding new.cache (kept-step old new call answer was.cache step.atlas step.answers)

-- what holds after calls of a cache, from what was told before
record Holds (start : PaddedCacheState) (told : Told) (calls : List PaddedCall) (answers : List PaddedReply) : Type 0 where
  pub state : PaddedCacheState
  pub run : Runs start calls answers state
  pub told_is : told_from told calls answers ≡ trimmed_list state
  pub promises : KeepsCachePadding state

holds-throughout : (start : PaddedCacheState) (told : Told) (calls : List PaddedCall) (answers : List PaddedReply) (last : PaddedCacheState) (n : ℕ)
    → told ≡ trimmed_list start → KeepsCachePadding start → Runs start calls answers last → Holds start told (take n calls) (take n answers)
holds-throughout start told calls answers last zero is promises run =
    record { state = start; run = refl; told_is = is; promises = promises }
holds-throughout start told [] [] last (suc n) is promises run =
    record { state = start; run = refl; told_is = is; promises = promises }
holds-throughout start told [] (a ∷ answers) last (suc n) is promises run = absurd run
holds-throughout start told (c ∷ calls) [] last (suc n) is promises run = absurd run
holds-throughout start told (c ∷ calls) (a ∷ answers) last (suc n) is promises (middle, step, rest) =
    let now : told_after c a told ≡ trimmed_list middle = ap (told_after c a) is ∙ sym (told-step start middle c a step.answers) in
    let kept = padding-step start middle c a promises step in
    let later = holds-throughout middle (told_after c a told) calls answers last n now kept rest in
    record { state = later.state; run = (middle, step, later.run); told_is = later.told_is; promises = later.promises }

pub every_run : EveryRunKeepsPromises
every_run start last calls answers promises run n within =
    let holds = holds-throughout start (trimmed_list start) calls answers last n refl promises run in
    record { state = holds.state; run = holds.run; told_is = holds.told_is; promises = holds.promises }
