use Rattle.std.proofs.Common.{◌≡◌, ◌≤◌, length, take}
use Rattle.std.specs.Prelude.{vec_capacity, vec_len}
use Rattle.atlas_pages.proofs.PageRuns.RunsOn.{IsUnderWay}
use Rattle.atlas_pages.proofs.runs.running.answer_all.Given as goal

-- the replies so far are those of a run of the commands so far, and there is room for those that are left
abbrev pub invariant-loop-position : goal.invariant-loop-position
invariant-loop-position l =
    record {
      way : IsUnderWay l.fn.pages.options (take l.position l.commands) l.replies.items l.pages;
      replies : vec_len l.replies ≡ l.position;
      space : length l.commands ≤ vec_capacity l.replies;
    }
