-- Many steps, one after the other, as a batch takes them.
use Rattle.std.specs.Prelude.{◌≡◌, List, [], ◌∷◌}

-- a step for each of some items leads from one state to another
abbrev pub StepsOver : {S X : Type 0} → (S → X → S → Type 0) → S → List X → S → Type 0
StepsOver step old [] new = new ≡ old
StepsOver {S} step old (item ∷ items) new =
    (between : S) × step old item between × StepsOver step between items new

-- the same, where each step gives something
abbrev pub GivesOver : {S X Y : Type 0} → (S → X → Y → S → Type 0) → S → List X → List Y → S → Type 0
GivesOver step old [] [] new = new ≡ old
GivesOver {S} step old (item ∷ items) (given ∷ others) new =
    (between : S) × step old item given between × GivesOver step between items others new
GivesOver step old [] (given ∷ others) new = ⊥
GivesOver step old (item ∷ items) [] new = ⊥
