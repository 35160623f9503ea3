-- The best of all shelves is one of them.
use Rattle.std.proofs.Common.{◌≡◌, ◌<◌, ◌≤◌, map, take, Option, None, Some, List, ℕ, length, ap, ◌∙◌}
use Rattle.std.proofs.lemmas.List.{take_all}
use Rattle.std.specs.Prelude.{IfSome, option_map}
use Rattle.etagere_base.specs.Least.{Found, first_least}
use Rattle.etagere_base.proofs.Least.{best-within}
use Rattle.bucketed_records.specs.declared.records.KeptShelf.{KeptShelf}

-- what is found has a number below a length where its number, if any, has
found-within : (o : Option Found) (n : ℕ) → IfSome (option_map (λ (found : Found). found.number) o) (λ k. k < n) → IfSome o (λ found. found.number < n)
found-within None n h = h
found-within (Some found) n h = h

-- the best of all shelves is one of them
pub all-within : (rank : KeptShelf → Option ℕ) (shelves : List KeptShelf) (best : Option Found) → best ≡ first_least (map rank shelves) → IfSome best (λ found. found.number < length shelves)
all-within rank shelves best is = rw is (found-within (first_least (map rank shelves)) (length shelves) (best-within rank shelves))

-- the best of the shelves before the end is that of all
pub before-end : (rank : KeptShelf → Option ℕ) (shelves : List KeptShelf) (best : Option Found) (from : ℕ) → length shelves ≤ from → best ≡ first_least (map rank (take from shelves)) → best ≡ first_least (map rank shelves)
before-end rank shelves best from past is = is ∙ ap (λ (xs : List KeptShelf). first_least (map rank xs)) (take_all from shelves past)
