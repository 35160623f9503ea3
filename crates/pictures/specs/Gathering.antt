-- Text that is gathered piece by piece, and goes out in larger parts.
use Rattle.std.specs.Prelude.{◌≡◌, ℕ, List, ◌++◌, Option}
use Rattle.std.specs.Io.KnownBytes.{Appends}
use Rattle.pictures.specs.Sending.{AppendsBeginning}

-- a text was given to a writer that had these bytes at the start: a first part of it went out, the
-- rest is gathered
pub record IsGathered (start now : Option (List ℕ)) (gathered text : List ℕ) : Type 0 where
  pub sent : List ℕ
  pub out : Appends start now sent
  pub whole : text ≡ sent ++ gathered

-- whatever text was given before, a piece was given after it
abbrev pub GathersMore : Option (List ℕ) → List ℕ → Option (List ℕ) → List ℕ → List ℕ → Type 0
GathersMore old gathered new more piece =
    (start : Option (List ℕ)) (text : List ℕ) → IsGathered start old gathered text
    → IsGathered start new more (text ++ piece)

-- whatever text was given before, a beginning went out of it and a piece after it
abbrev pub SendsBeginning : Option (List ℕ) → List ℕ → Option (List ℕ) → List ℕ → Type 0
SendsBeginning old gathered new piece =
    (start : Option (List ℕ)) (text : List ℕ) → IsGathered start old gathered text
    → AppendsBeginning start new (text ++ piece)

-- whatever text was given before, all of it went out
abbrev pub SendsWhole : Option (List ℕ) → List ℕ → Option (List ℕ) → Type 0
SendsWhole old gathered new =
    (start : Option (List ℕ)) (text : List ℕ) → IsGathered start old gathered text
    → Appends start new text
