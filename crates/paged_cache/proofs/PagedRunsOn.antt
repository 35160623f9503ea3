-- A run of a cache over pages keeps its promises at each moment.
use Rattle.std.proofs.Common.{◌≡◌, ℕ, zero, suc, List, [], ◌∷◌, take, refl, ap, sym, ◌∙◌}
use Rattle.paged_cache.specs.Paged.{KeepsPagedPromises, PagedCacheState}
use Rattle.paged_cache.specs.declared.runs.calls.PagedCall.{PagedCall}
use Rattle.paged_cache.specs.declared.runs.calls.PagedReply.{PagedReply}
use Rattle.paged_cache.specs.Runs.{EveryRunKeepsPromises, Runs, Told, told_after, told_from}
use Rattle.paged_cache.proofs.PagedStepsTold.{told-step}

-- what holds after calls of a cache, from what was told before
record Holds (start : PagedCacheState) (told : Told) (calls : List PagedCall) (replies : List PagedReply) : Type 0 where
  pub state : PagedCacheState
  pub run : Runs start calls replies state
  pub told_is : told_from told calls replies ≡ state.entries
  pub promises : KeepsPagedPromises state

holds-throughout : (start : PagedCacheState) (told : Told) (calls : List PagedCall) (replies : List PagedReply) (last : PagedCacheState) (n : ℕ)
    → told ≡ start.entries → KeepsPagedPromises start → Runs start calls replies last → Holds start told (take n calls) (take n replies)
holds-throughout start told calls replies last zero is promises run =
    record { state = start; run = refl; told_is = is; promises = promises }
holds-throughout start told [] [] last (suc n) is promises run =
    record { state = start; run = refl; told_is = is; promises = promises }
holds-throughout start told [] (r ∷ replies) last (suc n) is promises run = absurd run
holds-throughout start told (c ∷ calls) [] last (suc n) is promises run = absurd run
holds-throughout start told (c ∷ calls) (r ∷ replies) last (suc n) is promises (middle, step, rest) =
    let now : told_after c r told ≡ middle.entries = ap (told_after c r) is ∙ sym (told-step start middle c r step.answers) in
    let later = holds-throughout middle (told_after c r told) calls replies last n now step.promises rest in
    record { state = later.state; run = (middle, step, later.run); told_is = later.told_is; promises = later.promises }

pub every_run : EveryRunKeepsPromises
every_run start last calls replies promises run n within =
    let holds = holds-throughout start start.entries calls replies last n refl promises run in
    record { state = holds.state; run = holds.run; told_is = holds.told_is; promises = holds.promises }
