-- Keys that a test refuses, asked one after another.
use Rattle.std.proofs.Common.{◌≡◌, Bool, true, false, List, [], ◌∷◌, ◌++◌, reverse, refl, ap, sym, ◌∙◌, subst, arith, inl, inr, Result, Ok, Err, OnErr}
use Rattle.std.specs.Borrow.{Bor}
use Rattle.std.specs.Fn.{Mut}
use Rattle.std.proofs.lemmas.List.{append_assoc, append-nil, map-append, reverse-append}
use Rattle.glyph_map.specs.Private.Evicting.{unticketed}
use Rattle.glyph_map.specs.Private.Refusing.{Refuses}
use Rattle.glyph_map.specs.Retaining.{Answers, RefusesSome}
use Rattle.glyph_map.specs.declared.ticketed.Ticketed.{Ticketed}

-- what holds, holds where there is an error
pub on-err : {A E P : Type 0} (result : Result A E) → P → OnErr result P
on-err (Ok value) holds = tt
on-err (Err error) holds = holds

module _ {K V : Type 0} where
  -- the last of what is left is asked first
  turned : (longer rest : List (K × Ticketed V)) (e : K × Ticketed V) → longer ≡ rest ++ e ∷ []
      → reverse (unticketed longer) ≡ (e.0, e.1.value) ∷ reverse (unticketed rest)
  turned longer rest e is =
      let pair : K × Ticketed V → K × V = λ x. (x.0, x.1.value) in
      ap (λ (l : List (K × Ticketed V)). reverse (unticketed l)) is
      ∙ ap reverse (map-append pair rest (e ∷ []))
      ∙ reverse-append (unticketed rest) ((e.0, e.1.value) ∷ [])

module _ {F K V : Type 0} (calls : Mut F (Bor K × (Bor V × Unit {0})) Bool) (test : F) (all : List (K × Ticketed V)) where
  -- where one is refused from here on, one is refused of all
  abbrev pub RefusesThen : F → List (K × Ticketed V) → Type 0
  RefusesThen now rest = RefusesSome calls now (reverse (unticketed rest)) → RefusesSome calls test (reverse (unticketed all))

  pub refuses-here : (now after : F) (longer rest : List (K × Ticketed V)) (e : K × Ticketed V) → longer ≡ rest ++ e ∷ [] → RefusesThen now longer
      → Answers calls now (e.0, e.1.value) false after → RefusesSome calls test (reverse (unticketed all))
  refuses-here now after longer rest e is so_far says =
      so_far (subst (RefusesSome calls now) (sym (turned longer rest e is)) (inl (after, says)))

  pub refuses-later : (now after : F) (longer rest : List (K × Ticketed V)) (e : K × Ticketed V) → longer ≡ rest ++ e ∷ [] → RefusesThen now longer
      → Answers calls now (e.0, e.1.value) true after → RefusesThen after rest
  refuses-later now after longer rest e is so_far says later =
      so_far (subst (RefusesSome calls now) (sym (turned longer rest e is)) (inr (after, says, later)))

module _ {F K V : Type 0} (calls : Mut F (Bor K × (Bor V × Unit {0})) Bool) (is_clone : K → K → Type 0) (test : F)
    (all : List (K × Ticketed V)) where
  -- what is refused from here on stands behind what was refused so far
  abbrev pub ComesTo : F → List (K × Ticketed V) → List K → Type 0
  ComesTo now rest clones =
      (more : List K) → Refuses calls is_clone now (reverse (unticketed rest)) more
      → Refuses calls is_clone test (reverse (unticketed all)) (clones ++ more)

  pub ends : (now : F) (rest : List (K × Ticketed V)) (clones : List K) → rest ≡ [] → ComesTo now rest clones
      → Refuses calls is_clone test (reverse (unticketed all)) clones
  ends now rest clones none so_far =
      subst (Refuses calls is_clone test (reverse (unticketed all))) (append-nil clones)
      (so_far [] (subst (λ (l : List (K × Ticketed V)). Refuses calls is_clone now (reverse (unticketed l)) []) (sym none)
      (record { answers = []; last = now; each = refl; asked = refl; cloned = tt })))

  pub stays : (now after : F) (longer rest : List (K × Ticketed V)) (e : K × Ticketed V) (clones : List K)
      → longer ≡ rest ++ e ∷ [] → ComesTo now longer clones → Answers calls now (e.0, e.1.value) true after → ComesTo after rest clones
  stays now after longer rest e clones is so_far says more later =
      so_far more
      (subst (λ (l : List (K × V)). Refuses calls is_clone now l more) (sym (turned longer rest e is))
      (record {
        answers = true ∷ later.answers;
        last = later.last;
        each = omega (arith, later.each);
        asked = (after, says, later.asked);
        cloned = later.cloned;
      }))

  pub goes : (now after : F) (longer rest : List (K × Ticketed V)) (e : K × Ticketed V) (clones more_clones : List K) (clone : K)
      → longer ≡ rest ++ e ∷ [] → ComesTo now longer clones → Answers calls now (e.0, e.1.value) false after → is_clone e.0 clone
      → more_clones ≡ clones ++ clone ∷ [] → ComesTo after rest more_clones
  goes now after longer rest e clones more_clones clone is so_far says is_its behind more later =
      subst (Refuses calls is_clone test (reverse (unticketed all)))
      (sym (ap (λ (l : List K). l ++ more) behind ∙ append_assoc clones (clone ∷ []) more))
      (so_far (clone ∷ more)
      (subst (λ (l : List (K × V)). Refuses calls is_clone now l (clone ∷ more)) (sym (turned longer rest e is))
      (record {
        answers = false ∷ later.answers;
        last = later.last;
        each = omega (arith, later.each);
        asked = (after, says, later.asked);
        cloned = (is_its, later.cloned);
      })))
