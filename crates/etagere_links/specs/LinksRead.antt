-- How many links are read where lists are walked one after another, each of which has to have records of its own.
use Rattle.std.specs.Prelude.{ℕ, zero, suc, ◌+◌, Bool, true, ◌&&◌, List, [], ◌∷◌, ◌++◌, length, ◌==◌, if◌then◌else◌}
use Rattle.std.specs.List.{list_all}
use Rattle.etagere_base.specs.Lists.{times, total}
use Rattle.etagere_links.specs.Links.{no_link}
use Rattle.etagere_links.specs.Walks.{Walked}

-- a walk reads a link of each record that it meets
abbrev pub links_in : List Walked → ℕ
links_in walks = total (λ (walked : Walked). length walked.met) walks

-- a walk is along a list of its own: it ends at none, and meets none of these
abbrev pub is_own : List ℕ → Walked → Bool
is_own before walked =
    (walked.end == no_link) && list_all (λ number. times number before == 0) walked.met

-- each number below the count stands in the list once
abbrev pub has_each : ℕ → List ℕ → Bool
has_each zero numbers = true
has_each (suc count) numbers = (times count numbers == 1) && has_each count numbers

-- the links that walks read, after walks that met these, up to the first that is along no list of its own; where none
-- is such, and together they met each of so many records, so many links more
abbrev pub links_until : ℕ → ℕ → List ℕ → List Walked → ℕ
links_until count more before [] = if has_each count before then more else 0
links_until count more before (walked ∷ walks) =
    length walked.met
    + (if is_own before walked then links_until count more (before ++ walked.met) walks else 0)
