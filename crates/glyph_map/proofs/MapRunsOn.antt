-- A run keeps its promises at each moment.
use Rattle.std.proofs.Common.{◌≡◌, ℕ, zero, suc, Bool, List, [], ◌∷◌, take, refl, ap, sym, ◌∙◌}
use Rattle.glyph_map.specs.Promises.{KeepsMapPromises}
use Rattle.glyph_map.specs.State.{MapState}
use Rattle.glyph_map.specs.declared.runs.calls.MapCall.{MapCall}
use Rattle.glyph_map.specs.declared.runs.calls.MapReply.{MapReply}
use Rattle.glyph_map.specs.Runs.{EveryRunKeepsPromises, Runs}
use Rattle.glyph_map.specs.Told.{Told, entries_seen, told_after, told_from}
use Rattle.glyph_map.proofs.MapStepsTold.{told-step}

module _ {K V : Type 0} (eq : K → K → Bool) where
  -- what holds after calls of a map, from what was told before
  record Holds (start : MapState K V) (told : Told K V) (calls : List (MapCall K V)) (answers : List (MapReply K V)) : Type 0 where
    pub state : MapState K V
    pub run : Runs eq start calls answers state
    pub told_is : told_from eq told calls answers ≡ entries_seen state
    pub promises : KeepsMapPromises eq state

  holds-throughout : (start : MapState K V) (told : Told K V) (calls : List (MapCall K V)) (answers : List (MapReply K V)) (last : MapState K V) (n : ℕ)
      → told ≡ entries_seen start → KeepsMapPromises eq start → Runs eq start calls answers last → Holds start told (take n calls) (take n answers)
  holds-throughout start told calls answers last zero is promises run =
      record { state = start; run = refl; told_is = is; promises = promises }
  holds-throughout start told [] [] last (suc n) is promises run =
      record { state = start; run = refl; told_is = is; promises = promises }
  holds-throughout start told [] (a ∷ answers) last (suc n) is promises run = absurd run
  holds-throughout start told (c ∷ calls) [] last (suc n) is promises run = absurd run
  holds-throughout start told (c ∷ calls) (a ∷ answers) last (suc n) is promises (middle, step, rest) =
      let now : told_after eq c a told ≡ entries_seen middle =
      ap (told_after eq c a) is ∙ sym (told-step eq start middle c a step.answers) in
      let later = holds-throughout middle (told_after eq c a told) calls answers last n now step.promises rest in
      record { state = later.state; run = (middle, step, later.run); told_is = later.told_is; promises = later.promises }

pub every_run : {K : Type 0} (V : Type 0) (eq : K → K → Bool) → EveryRunKeepsPromises V eq
every_run V eq start last calls answers promises run n within =
    let holds = holds-throughout eq start (entries_seen start) calls answers last n refl promises run in
    record { state = holds.state; run = holds.run; told_is = holds.told_is; promises = holds.promises }
