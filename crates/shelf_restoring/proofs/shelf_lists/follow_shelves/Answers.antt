use Rattle.std.proofs.Common.{◌≡◌, ℕ, ◌+◌, List, append-nil, arith, length, subst, sym, ap, refl, ◌∙◌, [], ◌++◌}
use Rattle.etagere_links.specs.Links.{bits_of, link_of}
use Rattle.etagere_links.specs.Marks.{IsMarkedBy}
use Rattle.etagere_links.specs.Lists.{HasEachOnce}
use Rattle.shelf_records.specs.RecordLists.{shelf_walk, unused_shelf_walk}
use Rattle.shelf_records.specs.Records.{shelf_chain}
use Rattle.etagere_links.specs.Walks.{Walked}
use Rattle.shelf_records.specs.AtlasRecords.{AtlasRecords}
use Rattle.shelf_records.specs.Snapshots.{IsBroken}
use Rattle.shelf_records.specs.StandsFor.{IsShared}
use Rattle.shelf_restoring.proofs.Loaded.WalksBroken.{shelves-broken, unused_shelves-broken}
use Rattle.shelf_restoring.proofs.Loaded.WalksBy.{both-marked, breaks-by, links-length, walks-by}
use Rattle.etagere_links.specs.LinksRead.{links_in, links_until}
use Rattle.etagere_links.specs.WalkFaults.{links_by}
use Rattle.etagere_links.proofs.ReadLinks.{met_by}
use Rattle.shelf_restoring.specs.RestoringSteps.{StopsAfter, shelf_walks}
use Rattle.shelf_restoring.proofs.Loaded.LinksFollowed.{none-further, shelves-refused, unused-refused}
use Rattle.shelf_restoring.proofs.shelf_lists.follow_shelves.Goals as goal

pub returns-in-Err-clause-fault : goal.returns-in-Err-clause-fault
returns-in-Err-clause-fault c =
    let atlas = c.args.atlas.now in
    let start : c.bits-first.result ≡ bits_of atlas.records.first_shelf =
    c.bits-first.ensures.value ∙ ap bits_of (c.first_shelf.ensures ∙ ap (λ (a : AtlasRecords). a.records.first_shelf) c.atlas.view_is) in
    subst (IsBroken atlas) (sym c.restore_fault.ensures)
    (shelves-broken atlas c.args.marks.now c.in-Err.fault
    (breaks-by shelf_chain.next atlas.records.shelves atlas.records.first_shelf c.args.links.now c.bits-first.result c.args.marks.now c.in-Err.fault c.requires.links start c.in-Err.ensures.fault)
    c.requires.marked)

pub returns-in-Err-mark_onto-clause-fault : goal.returns-in-Err-mark_onto-clause-fault
returns-in-Err-mark_onto-clause-fault c =
    let atlas = c.args.atlas.now in
    let first : c.bits-first.result ≡ bits_of atlas.records.first_shelf =
    c.bits-first.ensures.value ∙ ap bits_of (c.first_shelf.ensures ∙ ap (λ (a : AtlasRecords). a.records.first_shelf) c.atlas.view_is) in
    let start : c.bits-first_unused.result ≡ bits_of atlas.records.unused_shelves =
    c.bits-first_unused.ensures.value ∙ ap bits_of (c.unused_shelves.ensures ∙ ap (λ (a : AtlasRecords). a.records.unused_shelves) c.atlas.view_is) in
    let marked : IsMarkedBy c.mark_onto.new.marks (shelf_walk atlas.records).met =
    subst (λ (w : Walked). IsMarkedBy c.mark_onto.new.marks w.met) (walks-by shelf_chain.next atlas.records.shelves atlas.records.first_shelf c.args.links.now c.bits-first.result c.requires.links first)
    (c.in_default.ensures.marked [] c.requires.marked) in
    subst (IsBroken atlas) (sym c.restore_fault-in-Err-mark_onto.ensures)
    (unused_shelves-broken atlas c.mark_onto.new.marks c.in-Err-mark_onto.fault
    (breaks-by shelf_chain.next atlas.records.shelves atlas.records.unused_shelves c.args.links.now c.bits-first_unused.result c.mark_onto.new.marks c.in-Err-mark_onto.fault c.requires.links start c.in-Err-mark_onto.ensures.fault)
    marked)

pub returns-then-not-all_marked-clause-fault : goal.returns-then-not-all_marked-clause-fault
returns-then-not-all_marked-clause-fault c =
    let atlas = c.args.atlas.now in
    let first : c.bits-first.result ≡ bits_of atlas.records.first_shelf =
    c.bits-first.ensures.value ∙ ap bits_of (c.first_shelf.ensures ∙ ap (λ (a : AtlasRecords). a.records.first_shelf) c.atlas.view_is) in
    let unused : c.bits-first_unused.result ≡ bits_of atlas.records.unused_shelves =
    c.bits-first_unused.ensures.value ∙ ap bits_of (c.unused_shelves.ensures ∙ ap (λ (a : AtlasRecords). a.records.unused_shelves) c.atlas.view_is) in
    let both : IsMarkedBy c.mark_onto-2.new.marks ((shelf_walk atlas.records).met ++ (unused_shelf_walk atlas.records).met) =
    both-marked shelf_chain.next atlas.records.shelves atlas.records.first_shelf atlas.records.unused_shelves c.args.links.now c.bits-first.result c.bits-first_unused.result
    c.args.marks.now c.mark_onto.new.marks c.mark_onto-2.new.marks c.requires.links first unused c.requires.marked c.in_default.ensures.marked c.in_default-mark_onto.ensures.marked in
    let count : length c.mark_onto-2.new.marks ≡ length atlas.records.shelves =
    c.mark_onto-2.auto.marks ∙ c.mark_onto.auto.marks ∙ c.requires.marks ∙ links-length shelf_chain.next atlas.records.shelves c.args.links.now c.requires.links in
    λ (shared : IsShared atlas).
    c.if-not-all_marked.ensures.missing refl ((shelf_walk atlas.records).met ++ (unused_shelf_walk atlas.records).met) both
    (subst (λ (n : ℕ). HasEachOnce n ((shelf_walk atlas.records).met ++ (unused_shelf_walk atlas.records).met)) (sym count) shared.shelves)

pub returns-clause-ok : goal.returns-clause-ok
returns-clause-ok c =
    let atlas = c.args.atlas.now in
    let first : c.bits-first.result ≡ bits_of atlas.records.first_shelf =
    c.bits-first.ensures.value ∙ ap bits_of (c.first_shelf.ensures ∙ ap (λ (a : AtlasRecords). a.records.first_shelf) c.atlas.view_is) in
    let unused : c.bits-first_unused.result ≡ bits_of atlas.records.unused_shelves =
    c.bits-first_unused.ensures.value ∙ ap bits_of (c.unused_shelves.ensures ∙ ap (λ (a : AtlasRecords). a.records.unused_shelves) c.atlas.view_is) in
    let both : IsMarkedBy c.mark_onto-2.new.marks ((shelf_walk atlas.records).met ++ (unused_shelf_walk atlas.records).met) =
    both-marked shelf_chain.next atlas.records.shelves atlas.records.first_shelf atlas.records.unused_shelves c.args.links.now c.bits-first.result c.bits-first_unused.result
    c.args.marks.now c.mark_onto.new.marks c.mark_onto-2.new.marks c.requires.links first unused c.requires.marked c.in_default.ensures.marked c.in_default-mark_onto.ensures.marked in
    let count : length c.mark_onto-2.new.marks ≡ length atlas.records.shelves =
    c.mark_onto-2.auto.marks ∙ c.mark_onto.auto.marks ∙ c.requires.marks ∙ links-length shelf_chain.next atlas.records.shelves c.args.links.now c.requires.links in
    let walks = walks-by shelf_chain.next atlas.records.shelves atlas.records.first_shelf c.args.links.now c.bits-first.result c.requires.links first in
    let unused_walks = walks-by shelf_chain.next atlas.records.shelves atlas.records.unused_shelves c.args.links.now c.bits-first_unused.result c.requires.links unused in
    record {
      met = c.in_default.ensures.met ∙ rw c.new-numbers.ensures.items (ap (λ (w : Walked). w.met) walks);
      end = sym (ap (λ (w : Walked). w.end) walks) ∙ c.in_default.ensures.end;
      unused_end = sym (ap (λ (w : Walked). w.end) unused_walks) ∙ c.in_default-mark_onto.ensures.end;
      once = subst (λ (n : ℕ). HasEachOnce n ((shelf_walk atlas.records).met ++ (unused_shelf_walk atlas.records).met)) count
          (c.if-not-all_marked.ensures.all refl ((shelf_walk atlas.records).met ++ (unused_shelf_walk atlas.records).met) both);
      next_fits = c.requires.fit;
      first_fits = ap link_of (sym first) ∙ c.bits-first.ensures.link ∙ c.first_shelf.ensures ∙ ap (λ (a : AtlasRecords). a.records.first_shelf) c.atlas.view_is;
      unused_fits = ap link_of (sym unused) ∙ c.bits-first_unused.ensures.link ∙ c.unused_shelves.ensures ∙ ap (λ (a : AtlasRecords). a.records.unused_shelves) c.atlas.view_is;
    }

pub returns-in-Err-clause-until : goal.returns-in-Err-clause-until
returns-in-Err-clause-until c =
    let atlas = c.args.atlas.now in
    let start : c.bits-first.result ≡ bits_of atlas.records.first_shelf =
    c.bits-first.ensures.value ∙ ap bits_of (c.first_shelf.ensures ∙ ap (λ (a : AtlasRecords). a.records.first_shelf) c.atlas.view_is) in
    let walks = walks-by shelf_chain.next atlas.records.shelves atlas.records.first_shelf c.args.links.now c.bits-first.result c.requires.links start in
    let steps = c.mark_onto.new.steps in
    let counted : steps ≡ c.args.steps.now + links_by (shelf_walk atlas.records) c.in-Err.fault =
    subst (λ (w : Walked). steps ≡ c.args.steps.now + links_by w c.in-Err.fault) walks c.in-Err.ensures.read in
    λ more. subst (StopsAfter (links_until (length atlas.records.shelves) more [] (shelf_walks atlas.records)) steps) (sym c.restore_fault.ensures)
    (shelves-refused atlas.records more steps c.args.marks.now c.in-Err.fault c.requires.few c.requires.marked
    (breaks-by shelf_chain.next atlas.records.shelves atlas.records.first_shelf c.args.links.now c.bits-first.result c.args.marks.now c.in-Err.fault c.requires.links start c.in-Err.ensures.fault)
    (omega (arith, counted, c.requires.steps)))

pub returns-in-Err-mark_onto-clause-until : goal.returns-in-Err-mark_onto-clause-until
returns-in-Err-mark_onto-clause-until c =
    let atlas = c.args.atlas.now in
    let first : c.bits-first.result ≡ bits_of atlas.records.first_shelf =
    c.bits-first.ensures.value ∙ ap bits_of (c.first_shelf.ensures ∙ ap (λ (a : AtlasRecords). a.records.first_shelf) c.atlas.view_is) in
    let start : c.bits-first_unused.result ≡ bits_of atlas.records.unused_shelves =
    c.bits-first_unused.ensures.value ∙ ap bits_of (c.unused_shelves.ensures ∙ ap (λ (a : AtlasRecords). a.records.unused_shelves) c.atlas.view_is) in
    let walks = walks-by shelf_chain.next atlas.records.shelves atlas.records.first_shelf c.args.links.now c.bits-first.result c.requires.links first in
    let unused_walks = walks-by shelf_chain.next atlas.records.shelves atlas.records.unused_shelves c.args.links.now c.bits-first_unused.result c.requires.links start in
    let fault = c.in-Err-mark_onto.fault in
    let steps = c.mark_onto-2.new.steps in
    let marked : IsMarkedBy c.mark_onto.new.marks (shelf_walk atlas.records).met =
    subst (λ (w : Walked). IsMarkedBy c.mark_onto.new.marks w.met) walks (c.in_default.ensures.marked [] c.requires.marked) in
    let counted : steps ≡ c.mark_onto.new.steps + links_by (unused_shelf_walk atlas.records) fault =
    subst (λ (w : Walked). steps ≡ c.mark_onto.new.steps + links_by w fault) unused_walks c.in-Err-mark_onto.ensures.read in
    λ more. subst (StopsAfter (links_until (length atlas.records.shelves) more [] (shelf_walks atlas.records)) steps) (sym c.restore_fault-in-Err-mark_onto.ensures)
    (unused-refused atlas.records more steps c.mark_onto.new.marks fault c.requires.few (sym (ap (λ (w : Walked). w.end) walks) ∙ c.in_default.ensures.end) marked
    (breaks-by shelf_chain.next atlas.records.shelves atlas.records.unused_shelves c.args.links.now c.bits-first_unused.result c.mark_onto.new.marks fault c.requires.links start c.in-Err-mark_onto.ensures.fault)
    (omega (arith, counted, c.in_default.ensures.steps, ap (λ (w : Walked). length w.met) walks, c.requires.steps)))

pub returns-then-not-all_marked-clause-until : goal.returns-then-not-all_marked-clause-until
returns-then-not-all_marked-clause-until c =
    let atlas = c.args.atlas.now in
    let first : c.bits-first.result ≡ bits_of atlas.records.first_shelf =
    c.bits-first.ensures.value ∙ ap bits_of (c.first_shelf.ensures ∙ ap (λ (a : AtlasRecords). a.records.first_shelf) c.atlas.view_is) in
    let unused : c.bits-first_unused.result ≡ bits_of atlas.records.unused_shelves =
    c.bits-first_unused.ensures.value ∙ ap bits_of (c.unused_shelves.ensures ∙ ap (λ (a : AtlasRecords). a.records.unused_shelves) c.atlas.view_is) in
    let both : IsMarkedBy c.mark_onto-2.new.marks ((shelf_walk atlas.records).met ++ (unused_shelf_walk atlas.records).met) =
    both-marked shelf_chain.next atlas.records.shelves atlas.records.first_shelf atlas.records.unused_shelves c.args.links.now c.bits-first.result c.bits-first_unused.result
    c.args.marks.now c.mark_onto.new.marks c.mark_onto-2.new.marks c.requires.links first unused c.requires.marked c.in_default.ensures.marked c.in_default-mark_onto.ensures.marked in
    let marked : IsMarkedBy c.mark_onto-2.new.marks (met_by (shelf_walks atlas.records)) =
    subst (λ (ns : List ℕ). IsMarkedBy c.mark_onto-2.new.marks ((shelf_walk atlas.records).met ++ ns)) (sym (append-nil (unused_shelf_walk atlas.records).met)) both in
    let count : length c.mark_onto-2.new.marks ≡ length atlas.records.shelves =
    c.mark_onto-2.auto.marks ∙ c.mark_onto.auto.marks ∙ c.requires.marks ∙ links-length shelf_chain.next atlas.records.shelves c.args.links.now c.requires.links in
    let walks = walks-by shelf_chain.next atlas.records.shelves atlas.records.first_shelf c.args.links.now c.bits-first.result c.requires.links first in
    let unused_walks = walks-by shelf_chain.next atlas.records.shelves atlas.records.unused_shelves c.args.links.now c.bits-first_unused.result c.requires.links unused in
    let all : c.mark_onto-2.new.steps ≡ links_in (shelf_walks atlas.records) =
    omega (arith, c.in_default.ensures.steps, c.in_default-mark_onto.ensures.steps, ap (λ (w : Walked). length w.met) walks, ap (λ (w : Walked). length w.met) unused_walks, c.requires.steps) in
    λ more. all
    ∙ none-further atlas.records more (shelf_walks atlas.records) c.mark_onto-2.new.marks (length atlas.records.shelves)
    (sym (ap (λ (w : Walked). w.end) walks) ∙ c.in_default.ensures.end, (sym (ap (λ (w : Walked). w.end) unused_walks) ∙ c.in_default-mark_onto.ensures.end, tt))
    count marked (c.if-not-all_marked.ensures.missing refl (met_by (shelf_walks atlas.records)) marked)
