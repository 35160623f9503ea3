use Rattle.std.proofs.Common.{◌≡◌, ℕ, Option, None, List, ◌∷◌, ◌++◌, refl, subst, sym}
use Rattle.std.specs.Prelude.{option_and_then}
use Rattle.etagere_links.specs.Edits.{link_at}
use Rattle.shelf_records.specs.ListEdits.{first_without, unlinked}
use Rattle.shelf_records.specs.Chains.{IsChainIn, IsListIn}
use Rattle.shelf_records.specs.Families.{Family, IsFamily}
use Rattle.shelf_records.specs.Laws.{EditsAList}
use Rattle.shelf_records.specs.ListEnds.{first_or, last_or}
use Rattle.shelf_records.proofs.Chains.{Leads-start, next-is, previous-is}
use Rattle.shelf_records.proofs.Families.{free_list-laws, item_chain-laws, shelf_chain-laws}
use Rattle.shelf_records.proofs.RecordLists.{inserted_after-spells, inserted_front-spells, made_unused-spells, unlinked-spells, without-first}
use Rattle.shelf_records.proofs.model_laws.each_edit_changes_a_list.Goals as goal

-- the link to the first of a list, where one was taken out
first-unlinked : {T : Type 0} (family : Family T) (records : List T) (first : Option ℕ) (front back : List ℕ) (number : ℕ) → IsChainIn family records first (front ++ number ∷ back)
    → first_or None (front ++ back) ≡ first_without (link_at family.previous records number) (link_at family.next records number) first
first-unlinked family records first front back number chain =
    let before : link_at family.previous records number ≡ last_or None front = previous-is (link_at family.previous records) front back number None chain.backward in
    let after : link_at family.next records number ≡ first_or None back = next-is (link_at family.next records) front back number first None chain.forward in
    let begins : first ≡ first_or None (front ++ number ∷ back) = Leads-start (link_at family.next records) (front ++ number ∷ back) first None chain.forward in
    rw (before, after, begins) (sym (without-first front back number))

-- whatever the links are
edits : {T : Type 0} (family : Family T) → IsFamily family → EditsAList family
edits family laws =
    record {
      takes_out = λ records first front back number listed.
          subst (λ (start : Option ℕ). IsChainIn family (unlinked family number records) start (front ++ back))
          (first-unlinked family records first front back number listed.spelled)
          (unlinked-spells family laws records first front back number listed.once listed.there listed.spelled);
      puts_in_front = λ records first numbers number listed outside.
          inserted_front-spells family laws records first numbers number outside.there outside.absent listed.once listed.there listed.spelled;
      puts_after = λ records first front back previous number listed outside.
          inserted_after-spells family laws records first front back previous number outside.there outside.absent listed.once listed.there listed.spelled;
      makes_unused = λ records top numbers number spelled outside.
          made_unused-spells family laws records top numbers number outside.there outside.absent spelled;
      takes_off_top = λ records top number numbers spelled.
          (spelled.0, subst (λ (from : Option ℕ). IsListIn family records (option_and_then (link_at family.next records) from) numbers) (sym spelled.0) spelled.1);
      takes_none = λ records top spelled.
          (spelled, subst (λ (from : Option ℕ). option_and_then (link_at family.next records) from ≡ None) (sym spelled) refl);
    }

pub returns : goal.returns
returns c = record { items = edits _ item_chain-laws; free_lists = edits _ free_list-laws; shelves = edits _ shelf_chain-laws }
