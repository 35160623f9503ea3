use Rattle.std.proofs.Common.{◌≡◌, ℕ, ◌<◌, true, false, get_or}
use Rattle.etagere_links.proofs.MarkLemmas.{HasUnmarked}
use Rattle.etagere_links.proofs.marking.all_marked.Given as goal

-- those so far are marked, or one of all is not
abbrev pub invariant-loop-is_marked : goal.invariant-loop-is_marked
invariant-loop-is_marked l = record {
  marked : l.all ≡ true → (k : ℕ) → k < l.is_marked-index → get_or l.marks k false ≡ true;
  missing : l.all ≡ false → HasUnmarked l.marks;
}
