use Rattle.std.proofs.Common.{◌≡◌, ◌≤◌, ℕ, Option, Some, List, ◌∷◌, subst, sym, ◌∙◌, ap}
use Rattle.bucketed_model.specs.State.{most_buckets}
use Rattle.bucket_index.specs.declared.rest.Rest.{Rest}
use Rattle.bucket_index.specs.Private.Rest.{AllStand, Stands, emptied, few_of, links_of}
use Rattle.bucket_index.specs.Private.Searching.{widest_from}
use Rattle.bucket_index.proofs.RestOfRows.{beside-learned, bounded-behind}
use Rattle.bucket_index.proofs.StandingBuckets.{row-some}
use Rattle.bucket_index.proofs.rest.Rest.know_another.Goals as goal

pub returns-then-is_worth-clause-known : goal.returns-then-is_worth-clause-known
returns-then-is_worth-clause-known c buckets one there room widest is known =
    let before = c.args.self.now in
    let row : before.first ≡ c.args.first = c.is_worth.ensures.row c.if-is_worth.true in
    let links : links_of c.add.new.self ≡ few_of before = c.add.ensures in
    let fresh : Rest = record { bucket = c.args.bucket; first = before.first; most = c.args.widest; room = c.args.room; bound = before.bound; former = c.add.new.self } in
    let beside = beside-learned fresh buckets one there (ap (widest_from most_buckets buckets) row ∙ widest) room in
    record {
      most = beside.most;
      exact = beside.exact;
      bound = subst (λ (behind : List (Option ℕ)). widest_from most_buckets (emptied (Some c.args.bucket ∷ behind) buckets) before.first ≤ before.bound) (sym links) (bounded-behind c.args.bucket before buckets known.bound);
      row = record {
        row = λ number e. let all = known.row.row number e in
            record {
              stand = subst (λ (behind : List (Option ℕ)). AllStand (Some c.args.bucket ∷ behind) buckets before.first) (sym links)
                  ((subst (λ (at : Option ℕ). Stands most_buckets buckets at c.args.bucket) (sym row) is.stands), all.stand);
              down = all.down;
            };
        none = λ e. absurd (row-some buckets c.args.first c.args.bucket is.stands (sym row ∙ e));
      };
    }

pub returns-else-is_worth-clause-known : goal.returns-else-is_worth-clause-known
returns-else-is_worth-clause-known c buckets one there room widest is known = c.learn.ensures.known buckets one there room widest is
