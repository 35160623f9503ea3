-- Buckets that stand in a row, after records changed that keep their links and their places.
use Rattle.std.proofs.Common.{◌≡◌, ℕ, zero, suc, Option, None, Some, List, [], ◌∷◌, inl, inr, sym, subst, ◌∙◌, arith}
use Rattle.etagere_links.specs.Edits.{changed_by}
use Rattle.etagere_links.proofs.FieldChanges.{field_at-same}
use Rattle.etagere_links.proofs.RecordChanges.{link_at-same, map-changed_by}
use Rattle.bucketed_model.specs.State.{most_buckets}
use Rattle.bucketed_records.specs.BucketRecords.{next_of}
use Rattle.bucketed_records.specs.StandsFor.{place_of}
use Rattle.bucketed_records.specs.declared.records.LinkedBucket.{LinkedBucket}
use Rattle.bucket_index.specs.declared.rest.Rest.{Rest}
use Rattle.bucket_index.specs.Private.Rest.{AllStand, IsIn, IsRowIfAny, LeadDown, Stands, few_of, links_of}

-- a bucket stands in a row of other records that lead on alike
pub stands-same : (steps n : ℕ) (xs ys : List LinkedBucket) (at : Option ℕ) → ((k : ℕ) → next_of ys k ≡ next_of xs k) → Stands steps xs at n → Stands steps ys at n
stands-same zero n xs ys at links stands = stands
stands-same (suc steps) n xs ys None links stands = stands
stands-same (suc steps) n xs ys (Some k) links (inl same) = inl same
stands-same (suc steps) n xs ys (Some k) links (inr later) =
    inr (subst (λ (at : Option ℕ). Stands steps ys at n) (sym (links k)) (stands-same steps n xs ys (next_of xs k) links later))

-- and a row leads down as well, of which the buckets begin at the same places
down-same : (steps : ℕ) (xs ys : List LinkedBucket) (at : Option ℕ) → ((k : ℕ) → next_of ys k ≡ next_of xs k) → ((k : ℕ) → place_of ys k ≡ place_of xs k) → LeadDown steps xs at → LeadDown steps ys at
down-same zero xs ys at links places down = tt
down-same (suc steps) xs ys None links places down = tt
down-same (suc steps) xs ys (Some k) links places down = (
  λ next e. omega (arith, down.0 next (sym (links k) ∙ e), places k, places next),
  subst (LeadDown steps ys) (sym (links k)) (down-same steps xs ys (next_of xs k) links places down.1),
)

-- a changed record leads on where it did, and begins where it did, where the change keeps that
pub next-changed : (m : ℕ) (f : LinkedBucket → LinkedBucket) (bs : List LinkedBucket) → ((x : LinkedBucket) → (f x).next ≡ x.next) → (k : ℕ) → next_of (changed_by (Some m) f bs) k ≡ next_of bs k
next-changed m f bs links k = link_at-same (λ (bucket : LinkedBucket). bucket.next) bs (changed_by (Some m) f bs) k (map-changed_by (λ (bucket : LinkedBucket). bucket.next) f bs (Some m) links)

-- where a record begins after one has changed that keeps its place
place-changed : (m : ℕ) (f : LinkedBucket → LinkedBucket) (bs : List LinkedBucket) → ((x : LinkedBucket) → (f x).x ≡ x.x) → (k : ℕ) → place_of (changed_by (Some m) f bs) k ≡ place_of bs k
place-changed m f bs places k = field_at-same (λ (bucket : LinkedBucket). bucket.x) 0 bs (changed_by (Some m) f bs) k (map-changed_by (λ (bucket : LinkedBucket). bucket.x) f bs (Some m) places)

-- those that stand in a row stand in one that leads on alike
all-same : (links : List (Option ℕ)) (first : Option ℕ) (xs ys : List LinkedBucket) → ((k : ℕ) → next_of ys k ≡ next_of xs k) → AllStand links xs first → AllStand links ys first
all-same [] first xs ys alike stand = tt
all-same (None ∷ links) first xs ys alike stand = (tt, all-same links first xs ys alike stand.1)
all-same (Some n ∷ links) first xs ys alike stand = (stands-same most_buckets n xs ys first alike stand.0, all-same links first xs ys alike stand.1)

-- a bucket stands in a row after one has changed that keeps its link and its place
pub in-changed : (m : ℕ) (f : LinkedBucket → LinkedBucket) (bs : List LinkedBucket) (first : Option ℕ) (n : ℕ) → ((x : LinkedBucket) → (f x).next ≡ x.next) → ((x : LinkedBucket) → (f x).x ≡ x.x)
    → IsIn bs first n → IsIn (changed_by (Some m) f bs) first n
in-changed m f bs first n links places is =
    record {
      stands = stands-same most_buckets n bs (changed_by (Some m) f bs) first (next-changed m f bs links) is.stands;
      down = down-same most_buckets bs (changed_by (Some m) f bs) first (next-changed m f bs links) (place-changed m f bs places) is.down;
    }

-- what is known of a row is known where a bucket changed that keeps its link and its place
pub row-changed : (m : ℕ) (f : LinkedBucket → LinkedBucket) (rest : Rest) (bs : List LinkedBucket) → ((x : LinkedBucket) → (f x).next ≡ x.next) → ((x : LinkedBucket) → (f x).x ≡ x.x) → IsRowIfAny rest bs
    → IsRowIfAny rest (changed_by (Some m) f bs)
row-changed m f rest bs links places known =
    record {
      row = λ number e. let row = known.row number e in
          record {
            stand = all-same (few_of rest) rest.first bs (changed_by (Some m) f bs) (next-changed m f bs links) row.stand;
            down = down-same most_buckets bs (changed_by (Some m) f bs) rest.first (next-changed m f bs links) (place-changed m f bs places) row.down;
          };
      none = known.none;
    }

-- a row in which a bucket stands has a first one
pub row-some : (bs : List LinkedBucket) (first : Option ℕ) (n : ℕ) → Stands most_buckets bs first n → first ≡ None → ⊥
row-some bs first n stands none = subst (λ (at : Option ℕ). Stands most_buckets bs at n) none stands

-- what is known of a row where one bucket of it is kept in mind
pub row-learned : (rest : Rest) (bs : List LinkedBucket) → links_of rest.former ≡ [] → IsIn bs rest.first rest.bucket → IsRowIfAny rest bs
row-learned rest bs alone is =
    record {
      row = λ number e. record {
        stand = subst (λ (links : List (Option ℕ)). AllStand (Some rest.bucket ∷ links) bs rest.first) (sym alone) (is.stands, tt);
        down = is.down;
      };
      none = λ e. absurd (row-some bs rest.first rest.bucket is.stands e);
    }
