-- How far a walk has come that marks what it meets.
use Rattle.std.specs.Prelude.{◌≡◌, ℕ, ◌<◌, ◌≤◌, Bool, true, false, ◌||◌, List, ◌++◌, length, slice_index_or, ◌==◌}
use Rattle.std.specs.List.{list_any}
use Rattle.etagere_links.specs.Marks.{IsMarkedBy}
use Rattle.etagere_links.specs.Private.Positions.{rest_of}
use Rattle.etagere_links.specs.Walks.{walk}

-- a walk from a link on has met these, which were not marked and are, and stopped at a link: at one that is no record's,
-- or where it has met each record, or at one that was marked before, or at one that it has met
pub record IsMarkedAlong (marks_before marks : List Bool) (links : List ℕ) (start : ℕ) (met : List ℕ) (at : ℕ) : Type 0 where
  pub short : length met ≤ length links
  pub rest : rest_of links met at ≡ walk links start
  pub marked : (numbers : List ℕ) → IsMarkedBy marks_before numbers → IsMarkedBy marks (numbers ++ met)
  pub stops : at < length links → length met < length links
      → (slice_index_or marks_before at false || list_any (λ number. number == at) met) ≡ true
