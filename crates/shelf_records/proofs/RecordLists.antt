-- Lists of records: taking out, putting in, making unused and taking change one list as a list.
use Rattle.std.proofs.Common.{◌≡◌, ◌≢◌, ℕ, ◌<◌, ◌≤◌, Option, None, Some, List, [], ◌∷◌, ◌++◌, length, refl, arith, subst, append_assoc, ◌∙◌}
use Rattle.etagere_links.specs.Chains.{Leads}
use Rattle.shelf_records.specs.Chains.{IsChainIn, IsListIn}
use Rattle.etagere_links.specs.Edits.{changed_by, link_at}
use Rattle.shelf_records.specs.ListEdits.{unlinked, first_without, linked_between, made_unused}
use Rattle.shelf_records.specs.Families.{Family, IsFamily}
use Rattle.etagere_base.specs.Lists.{times}
use Rattle.shelf_records.specs.ListEnds.{first_or, last_or}
use Rattle.etagere_links.proofs.Chains.{Leads-frame}
use Rattle.shelf_records.proofs.Chains.{Leads-start, next-is, previous-is}
use Rattle.shelf_records.proofs.ChainEdits.{unlink-forward, unlink-backward, insert-forward, insert-backward}
use Rattle.etagere_links.proofs.RecordChanges.{length-changed_by, map-changed_by, link_at-changed, link_at-other, link_at-same}
use Rattle.etagere_base.proofs.TimesLemmas.{times-append}
use Rattle.shelf_records.proofs.ListEnds.{first-append, first-stands, last-append, last-stands-in}

-- the next link of a record whose next link was changed
next-changed : {T : Type 0} (family : Family T) → IsFamily family → (xs : List T) (link value : Option ℕ) (k : ℕ) → link ≡ Some k → k < length xs → link_at family.next (changed_by link (family.with_next value) xs) k ≡ value
next-changed family laws xs link value k names within = link_at-changed family.next (family.with_next value) xs link value k names within (laws.next value)

-- the previous link of a record whose previous link was changed
previous-changed : {T : Type 0} (family : Family T) → IsFamily family → (xs : List T) (link value : Option ℕ) (k : ℕ) → link ≡ Some k → k < length xs → link_at family.previous (changed_by link (family.with_previous value) xs) k ≡ value
previous-changed family laws xs link value k names within = link_at-changed family.previous (family.with_previous value) xs link value k names within (laws.previous value)

-- previous links stay where a next link was changed
previous-stays : {T : Type 0} (family : Family T) → IsFamily family → (xs : List T) (link value : Option ℕ) (k : ℕ) → link_at family.previous (changed_by link (family.with_next value) xs) k ≡ link_at family.previous xs k
previous-stays family laws xs link value k = link_at-same family.previous xs (changed_by link (family.with_next value) xs) k (map-changed_by family.previous (family.with_next value) xs link (laws.previous_stays value))

-- next links stay where a previous link was changed
next-stays : {T : Type 0} (family : Family T) → IsFamily family → (xs : List T) (link value : Option ℕ) (k : ℕ) → link_at family.next (changed_by link (family.with_previous value) xs) k ≡ link_at family.next xs k
next-stays family laws xs link value k = link_at-same family.next xs (changed_by link (family.with_previous value) xs) k (map-changed_by family.next (family.with_previous value) xs link (laws.next_stays value))

-- the link to a list's first, where one that is not the first was taken out
first-stays : (x : ℕ) (xs : List ℕ) (next first : Option ℕ) → first_without (last_or (Some x) xs) next first ≡ first
first-stays x [] next first = refl
first-stays x (y ∷ ys) next first = first-stays y ys next first

-- the link to a list's first, after a member was taken out
pub without-first : (front back : List ℕ) (at : ℕ) → first_without (last_or None front) (first_or None back) (first_or None (front ++ at ∷ back)) ≡ first_or None (front ++ back)
without-first [] back at = refl
without-first (x ∷ front) back at = first-stays x front (first_or None back) (Some x)

-- the records after the neighbours of one were linked to each other spell the list without it
linked-spells : {T : Type 0} (family : Family T) → IsFamily family → (records : List T) (first : Option ℕ) (front back : List ℕ) (at : ℕ) → ((k : ℕ) → times k (front ++ at ∷ back) ≤ 1) → ((k : ℕ) → 1 ≤ times k (front ++ at ∷ back) → k < length records) → IsChainIn family records first (front ++ at ∷ back) → IsChainIn family (changed_by (first_or None back) (family.with_previous (last_or None front)) (changed_by (last_or None front) (family.with_next (first_or None back)) records)) (first_or None (front ++ back)) (front ++ back)
linked-spells {T} family laws records first front back at once within chain =
    let before : Option ℕ = last_or None front in
    let after : Option ℕ = first_or None back in
    let middle : List T = changed_by before (family.with_next after) records in
    let new : List T = changed_by after (family.with_previous before) middle in
    record {
      forward = unlink-forward (link_at family.next records) (link_at family.next new) front back at first None once
          (λ k stands other. next-stays family laws middle after before k ∙ link_at-other family.next (family.with_next after) records before k other)
          (λ k names. next-stays family laws middle after before k ∙ next-changed family laws records before after k names (within k (omega (arith, last-stands-in front k names, times-append k front (at ∷ back)))))
          chain.forward;
      backward = unlink-backward (link_at family.previous records) (link_at family.previous new) front back at None once
          (λ k stands other. link_at-other family.previous (family.with_previous before) middle after k other ∙ previous-stays family laws records before after k)
          (λ k names. previous-changed family laws middle after before k names (rw (length-changed_by (family.with_next after) records before) (within k (omega (arith, first-stands back k names, times-append k front (at ∷ back))))))
          chain.backward;
    }

-- the records after one was taken out of their list spell the list without it
pub unlinked-spells : {T : Type 0} (family : Family T) → IsFamily family → (records : List T) (first : Option ℕ) (front back : List ℕ) (at : ℕ) → ((k : ℕ) → times k (front ++ at ∷ back) ≤ 1) → ((k : ℕ) → 1 ≤ times k (front ++ at ∷ back) → k < length records) → IsChainIn family records first (front ++ at ∷ back) → IsChainIn family (unlinked family at records) (first_or None (front ++ back)) (front ++ back)
unlinked-spells family laws records first front back at once within chain =
    let before : link_at family.previous records at ≡ last_or None front = previous-is (link_at family.previous records) front back at None chain.backward in
    let after : link_at family.next records at ≡ first_or None back = next-is (link_at family.next records) front back at first None chain.forward in
    simp (before, after) (linked-spells family laws records first front back at once within chain)

-- a number that does not stand in a list is none that does
stranger : (x k : ℕ) (xs : List ℕ) → times x xs ≡ 0 → 1 ≤ times k xs → Some x ≢ Some k
stranger x k xs fresh stands e =
    let same : x ≡ k = cc in
    let again : 1 ≤ times x xs = rw same stands in
    omega (arith, fresh)

-- the records after one was put between its neighbours spell the list with it
pub linked_between-spells : {T : Type 0} (family : Family T) → IsFamily family → (records : List T) (first : Option ℕ) (front back : List ℕ) (at : ℕ) → at < length records → times at (front ++ back) ≡ 0 → ((k : ℕ) → times k (front ++ back) ≤ 1) → ((k : ℕ) → 1 ≤ times k (front ++ back) → k < length records) → IsChainIn family records first (front ++ back) → IsChainIn family (linked_between family (last_or None front) (first_or None back) at records) (first_or None (front ++ at ∷ back)) (front ++ at ∷ back)
linked_between-spells {T} family laws records first front back at here fresh once within chain =
    let before : Option ℕ = last_or None front in
    let after : Option ℕ = first_or None back in
    let link : Option ℕ = Some at in
    let one : List T = changed_by link (family.with_next after) records in
    let two : List T = changed_by link (family.with_previous before) one in
    let three : List T = changed_by before (family.with_next link) two in
    let new : List T = changed_by after (family.with_previous link) three in
    let own : before ≢ Some at = λ last. omega (arith, fresh, last-stands-in front at last, times-append at front back) in
    let own_after : after ≢ Some at = λ next. omega (arith, fresh, first-stands back at next, times-append at front back) in
    let long : length two ≡ length records =
    length-changed_by (family.with_previous before) one link ∙ length-changed_by (family.with_next after) records link in
    let longer : length three ≡ length records = length-changed_by (family.with_next link) two before ∙ long in
    record {
      forward = insert-forward (link_at family.next records) (link_at family.next new) front back at first None once
          (λ k stands other. next-stays family laws three after link k
          ∙ link_at-other family.next (family.with_next link) two before k other
          ∙ next-stays family laws one link before k
          ∙ link_at-other family.next (family.with_next after) records link k (stranger at k (front ++ back) fresh stands))
          (λ k names. next-stays family laws three after link k
          ∙ next-changed family laws two before link k names (rw long (within k (omega (arith, last-stands-in front k names, times-append k front back)))))
          (next-stays family laws three after link at
          ∙ link_at-other family.next (family.with_next link) two before at own
          ∙ next-stays family laws one link before at
          ∙ next-changed family laws records link after at refl here)
          chain.forward;
      backward = insert-backward (link_at family.previous records) (link_at family.previous new) front back at None once
          (λ k stands other. link_at-other family.previous (family.with_previous link) three after k other
          ∙ previous-stays family laws two before link k
          ∙ link_at-other family.previous (family.with_previous before) one link k (stranger at k (front ++ back) fresh stands)
          ∙ previous-stays family laws records link after k)
          (λ k names. previous-changed family laws three after link k names (rw longer (within k (omega (arith, first-stands back k names, times-append k front back)))))
          (link_at-other family.previous (family.with_previous link) three after at own_after
          ∙ previous-stays family laws two before link at
          ∙ previous-changed family laws one link before at refl (rw (length-changed_by (family.with_next after) records link) here))
          chain.backward;
    }

-- the records after one was put in front of a list spell the list with it in front
pub made_unused-spells : {T : Type 0} (family : Family T) → IsFamily family → (records : List T) (top : Option ℕ) (xs : List ℕ) (at : ℕ) → at < length records → times at xs ≡ 0 → IsListIn family records top xs → IsListIn family (made_unused family top at records) (Some at) (at ∷ xs)
made_unused-spells family laws records top xs at here fresh list =
    let top_ : link_at family.next (made_unused family top at records) at ≡ top = next-changed family laws records (Some at) top at refl here in
    let rest : Leads (link_at family.next (made_unused family top at records)) top xs None =
    Leads-frame (link_at family.next records) (link_at family.next (made_unused family top at records)) xs top None
    (λ k stands. link_at-other family.next (family.with_next top) records (Some at) k (stranger at k xs fresh stands)) list in
    (refl, rw top_ rest)

-- the records after one was put in front of a list spell the list with it in front
pub inserted_front-spells : {T : Type 0} (family : Family T) → IsFamily family → (records : List T) (first : Option ℕ) (xs : List ℕ) (at : ℕ) → at < length records → times at xs ≡ 0 → ((k : ℕ) → times k xs ≤ 1) → ((k : ℕ) → 1 ≤ times k xs → k < length records) → IsChainIn family records first xs → IsChainIn family (linked_between family None first at records) (Some at) (at ∷ xs)
inserted_front-spells family laws records first xs at here fresh once within chain =
    rw (Leads-start (link_at family.next records) xs first None chain.forward)
    (linked_between-spells family laws records first [] xs at here fresh once within chain)

-- the records after one was put after a member of a list spell the list with it there
pub inserted_after-spells : {T : Type 0} (family : Family T) → IsFamily family → (records : List T) (first : Option ℕ) (front back : List ℕ) (previous at : ℕ) → at < length records → times at (front ++ previous ∷ back) ≡ 0 → ((k : ℕ) → times k (front ++ previous ∷ back) ≤ 1) → ((k : ℕ) → 1 ≤ times k (front ++ previous ∷ back) → k < length records) → IsChainIn family records first (front ++ previous ∷ back) → IsChainIn family (linked_between family (Some previous) (link_at family.next records previous) at records) first (front ++ previous ∷ at ∷ back)
inserted_after-spells {T} family laws records first front back previous at here fresh once within chain =
    let after : link_at family.next records previous ≡ first_or None back =
    next-is (link_at family.next records) front back previous first None chain.forward in
    let begins : first ≡ first_or None (front ++ previous ∷ at ∷ back) =
    Leads-start (link_at family.next records) (front ++ previous ∷ back) first None chain.forward
    ∙ first-append front back (at ∷ back) previous None in
    let regrouped : (zs : List ℕ) → (front ++ previous ∷ []) ++ zs ≡ front ++ previous ∷ zs = λ zs. append_assoc front (previous ∷ []) zs in
    let old : List ℕ → Type 0 = λ xs.
    times at xs ≡ 0 → ((k : ℕ) → times k xs ≤ 1) → ((k : ℕ) → 1 ≤ times k xs → k < length records) → IsChainIn family records first xs
    → IsChainIn family (linked_between family (last_or None (front ++ previous ∷ [])) (first_or None back) at records) (first_or None ((front ++ previous ∷ []) ++ at ∷ back)) ((front ++ previous ∷ []) ++ at ∷ back) in
    let spelled = subst old (regrouped back) (linked_between-spells family laws records first (front ++ previous ∷ []) back at here) fresh once within chain in
    let listed : List ℕ → Type 0 = λ xs.
    IsChainIn family (linked_between family (last_or None (front ++ previous ∷ [])) (first_or None back) at records) (first_or None xs) xs in
    let inserted = subst listed (regrouped (at ∷ back)) spelled in
    let from : Option ℕ → Type 0 = λ link.
    IsChainIn family (linked_between family link (first_or None back) at records) (first_or None (front ++ previous ∷ at ∷ back)) (front ++ previous ∷ at ∷ back) in
    let linked = subst from (last-append front previous None) inserted in
    rw (after, begins) linked
