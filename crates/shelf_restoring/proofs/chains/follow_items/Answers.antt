use Rattle.std.proofs.Common.{◌≡◌, ℕ, ◌+◌, List, length, subst, sym, ap, refl, ◌∙◌, [], ◌++◌, map}
use Rattle.std.specs.List.{AllByRecursion}
use Rattle.etagere_links.specs.Links.{bits_of, link_of}
use Rattle.etagere_links.specs.Marks.{IsMarkedBy}
use Rattle.shelf_records.specs.RecordLists.{item_numbers, item_walk, shelf_walk, unused_item_walk}
use Rattle.etagere_links.specs.Lists.{HasEachOnce}
use Rattle.shelf_records.specs.Records.{item_chain}
use Rattle.etagere_links.specs.Walks.{Walked}
use Rattle.shelf_records.specs.AtlasRecords.{AtlasRecords}
use Rattle.shelf_records.specs.Private.Restoring.{HasChain, chain_entry}
use Rattle.shelf_records.specs.Snapshots.{IsBroken}
use Rattle.shelf_records.specs.StandsFor.{IsShared}
use Rattle.shelf_restoring.proofs.Loaded.ChainsWalked.{once-back, once-swapped}
use Rattle.shelf_restoring.proofs.Loaded.WalksBroken.{unused_items-broken}
use Rattle.shelf_restoring.proofs.Loaded.WalksBy.{breaks-by, links-length, walks-by}
use Rattle.std.proofs.lemmas.Result.{err_from_is_err_and}
use Rattle.etagere_links.specs.LinksRead.{links_in, links_until}
use Rattle.etagere_links.specs.WalkFaults.{links_by}
use Rattle.etagere_links.proofs.ReadLinks.{met_by}
use Rattle.shelf_restoring.specs.RestoringSteps.{StopsAfter, item_walks}
use Rattle.shelf_restoring.proofs.Loaded.LinksFollowed.{chains-end, first-refused, items-counted, items-met, items-on, none-further, walk-once}
use Rattle.shelf_restoring.proofs.chains.follow_items.Goals as goal

pub returns-in-Err-clause-fault : goal.returns-in-Err-clause-fault
returns-in-Err-clause-fault c =
    let atlas = c.args.atlas.now in
    let start : c.bits-first.result ≡ bits_of atlas.records.unused_items =
    c.bits-first.ensures.value ∙ ap bits_of (c.unused_items.ensures ∙ ap (λ (a : AtlasRecords). a.records.unused_items) c.atlas.view_is) in
    subst (IsBroken atlas) (sym c.restore_fault.ensures)
    (unused_items-broken atlas c.args.marks.now c.in-Err.fault
    (breaks-by item_chain.next atlas.records.items atlas.records.unused_items c.args.links.now c.bits-first.result c.args.marks.now c.in-Err.fault c.requires.links start c.in-Err.ensures.fault)
    c.requires.marked)

pub walk_chains-requires-clause-marked : goal.walk_chains-requires-clause-marked
walk_chains-requires-clause-marked c =
    let atlas = c.args.atlas.now in
    let unused : List ℕ = (unused_item_walk atlas.records).met in
    let start : c.bits-first.result ≡ bits_of atlas.records.unused_items =
    c.bits-first.ensures.value ∙ ap bits_of (c.unused_items.ensures ∙ ap (λ (a : AtlasRecords). a.records.unused_items) c.atlas.view_is) in
    let walks = walks-by item_chain.next atlas.records.items atlas.records.unused_items c.args.links.now c.bits-first.result c.requires.links start in
    subst (λ (w : Walked). IsMarkedBy c.mark_onto.new.marks w.met) walks (c.in_default.ensures.marked [] c.requires.marked)

pub returns-then-not-all_marked-clause-fault : goal.returns-then-not-all_marked-clause-fault
returns-then-not-all_marked-clause-fault c =
    let atlas = c.args.atlas.now in
    let unused : List ℕ = (unused_item_walk atlas.records).met in
    let start : c.bits-first.result ≡ bits_of atlas.records.unused_items =
    c.bits-first.ensures.value ∙ ap bits_of (c.unused_items.ensures ∙ ap (λ (a : AtlasRecords). a.records.unused_items) c.atlas.view_is) in
    let walks = walks-by item_chain.next atlas.records.items atlas.records.unused_items c.args.links.now c.bits-first.result c.requires.links start in
    let numbers : List ℕ = (shelf_walk atlas.records).met in
    let marked : IsMarkedBy c.walk_chains.new.marks (unused ++ item_numbers (map (chain_entry atlas.records) numbers)) =
    subst (λ (ns : List ℕ). IsMarkedBy c.walk_chains.new.marks (unused ++ item_numbers (map (chain_entry atlas.records) ns))) c.requires.numbers c.in_ok-lists.ensures.marked in
    let count : length c.walk_chains.new.marks ≡ length atlas.records.items =
    c.walk_chains.auto.marks ∙ c.mark_onto.auto.marks ∙ c.requires.marks ∙ links-length item_chain.next atlas.records.items c.args.links.now c.requires.links in
    λ (shared : IsShared atlas).
    c.if-not-all_marked.ensures.missing refl (unused ++ item_numbers (map (chain_entry atlas.records) numbers)) marked
    (subst (λ (n : ℕ). HasEachOnce n (unused ++ item_numbers (map (chain_entry atlas.records) numbers))) (sym count)
    (once-swapped atlas.records numbers unused (length atlas.records.items) shared.items))

pub returns-clause-ok : goal.returns-clause-ok
returns-clause-ok c =
    let atlas = c.args.atlas.now in
    let unused : List ℕ = (unused_item_walk atlas.records).met in
    let start : c.bits-first.result ≡ bits_of atlas.records.unused_items =
    c.bits-first.ensures.value ∙ ap bits_of (c.unused_items.ensures ∙ ap (λ (a : AtlasRecords). a.records.unused_items) c.atlas.view_is) in
    let walks = walks-by item_chain.next atlas.records.items atlas.records.unused_items c.args.links.now c.bits-first.result c.requires.links start in
    let numbers : List ℕ = (shelf_walk atlas.records).met in
    let marked : IsMarkedBy c.walk_chains.new.marks (unused ++ item_numbers (map (chain_entry atlas.records) numbers)) =
    subst (λ (ns : List ℕ). IsMarkedBy c.walk_chains.new.marks (unused ++ item_numbers (map (chain_entry atlas.records) ns))) c.requires.numbers c.in_ok-lists.ensures.marked in
    let count : length c.walk_chains.new.marks ≡ length atlas.records.items =
    c.walk_chains.auto.marks ∙ c.mark_onto.auto.marks ∙ c.requires.marks ∙ links-length item_chain.next atlas.records.items c.args.links.now c.requires.links in
    let once : HasEachOnce (length atlas.records.items) (unused ++ item_numbers (map (chain_entry atlas.records) numbers)) =
    subst (λ (n : ℕ). HasEachOnce n (unused ++ item_numbers (map (chain_entry atlas.records) numbers))) count
    (c.if-not-all_marked.ensures.all refl (unused ++ item_numbers (map (chain_entry atlas.records) numbers)) marked) in
    record {
      chains = subst (AllByRecursion (HasChain atlas.records)) c.requires.numbers c.in_ok-lists.ensures.chains;
      unused_end = sym (ap (λ (w : Walked). w.end) walks) ∙ c.in_default.ensures.end;
      once = once-back unused (item_numbers (map (chain_entry atlas.records) numbers)) (length atlas.records.items) once;
      next_fits = c.requires.fit;
      unused_fits = ap link_of (sym start) ∙ c.bits-first.ensures.link ∙ c.unused_items.ensures ∙ ap (λ (a : AtlasRecords). a.records.unused_items) c.atlas.view_is;
    }

pub returns-in-Err-clause-until : goal.returns-in-Err-clause-until
returns-in-Err-clause-until c =
    let atlas = c.args.atlas.now in
    let start : c.bits-first.result ≡ bits_of atlas.records.unused_items =
    c.bits-first.ensures.value ∙ ap bits_of (c.unused_items.ensures ∙ ap (λ (a : AtlasRecords). a.records.unused_items) c.atlas.view_is) in
    let walks = walks-by item_chain.next atlas.records.items atlas.records.unused_items c.args.links.now c.bits-first.result c.requires.links start in
    let steps = c.mark_onto.new.steps in
    λ more. subst (StopsAfter (c.args.steps.now + links_until (length atlas.records.items) more [] (item_walks atlas.records)) steps) (sym c.restore_fault.ensures)
    (first-refused atlas.records (length atlas.records.items) more c.args.steps.now steps (unused_item_walk atlas.records) (map (item_walk atlas.records) (shelf_walk atlas.records).met) c.args.marks.now c.in-Err.fault c.requires.marked
    (breaks-by item_chain.next atlas.records.items atlas.records.unused_items c.args.links.now c.bits-first.result c.args.marks.now c.in-Err.fault c.requires.links start c.in-Err.ensures.fault)
    (walk-once item_chain.next atlas.records.items atlas.records.unused_items c.requires.few)
    (subst (λ (w : Walked). steps ≡ c.args.steps.now + links_by w c.in-Err.fault) walks c.in-Err.ensures.read))

pub returns-in_err-lists-clause-until : goal.returns-in_err-lists-clause-until
returns-in_err-lists-clause-until c =
    let atlas = c.args.atlas.now in
    let start : c.bits-first.result ≡ bits_of atlas.records.unused_items =
    c.bits-first.ensures.value ∙ ap bits_of (c.unused_items.ensures ∙ ap (λ (a : AtlasRecords). a.records.unused_items) c.atlas.view_is) in
    let walks = walks-by item_chain.next atlas.records.items atlas.records.unused_items c.args.links.now c.bits-first.result c.requires.links start in
    let marked : IsMarkedBy c.mark_onto.new.marks (unused_item_walk atlas.records).met =
    subst (λ (w : Walked). IsMarkedBy c.mark_onto.new.marks w.met) walks (c.in_default.ensures.marked [] c.requires.marked) in
    let fault = c.in_err-lists.field-0.0 in
    let steps = c.walk_chains.new.steps in
    let passed = err_from_is_err_and c.from_residual.result c.from_residual.ensures.1 in
    rw (passed.1, passed.2) (λ more. subst (λ (n : ℕ). StopsAfter n steps fault)
    (ap (λ (ns : List ℕ). c.mark_onto.new.steps + links_until (length atlas.records.items) more (unused_item_walk atlas.records).met (map (item_walk atlas.records) ns)) c.requires.numbers
    ∙ items-on atlas.records more c.args.steps.now c.mark_onto.new.steps c.mark_onto.new.marks (sym (ap (λ (w : Walked). w.end) walks) ∙ c.in_default.ensures.end) marked
    (subst (λ (w : Walked). c.mark_onto.new.steps ≡ c.args.steps.now + length w.met) walks c.in_default.ensures.steps))
    (c.in_err-lists.ensures.until more))

pub returns-then-not-all_marked-clause-until : goal.returns-then-not-all_marked-clause-until
returns-then-not-all_marked-clause-until c =
    let atlas = c.args.atlas.now in
    let unused : List ℕ = (unused_item_walk atlas.records).met in
    let start : c.bits-first.result ≡ bits_of atlas.records.unused_items =
    c.bits-first.ensures.value ∙ ap bits_of (c.unused_items.ensures ∙ ap (λ (a : AtlasRecords). a.records.unused_items) c.atlas.view_is) in
    let walks = walks-by item_chain.next atlas.records.items atlas.records.unused_items c.args.links.now c.bits-first.result c.requires.links start in
    let numbers : List ℕ = (shelf_walk atlas.records).met in
    let marked : IsMarkedBy c.walk_chains.new.marks (met_by (item_walks atlas.records)) =
    subst (λ (ns : List ℕ). IsMarkedBy c.walk_chains.new.marks (unused ++ ns))
    (ap (λ (ns : List ℕ). item_numbers (map (chain_entry atlas.records) ns)) c.requires.numbers ∙ sym (items-met atlas.records numbers)) c.in_ok-lists.ensures.marked in
    let count : length c.walk_chains.new.marks ≡ length atlas.records.items =
    c.walk_chains.auto.marks ∙ c.mark_onto.auto.marks ∙ c.requires.marks ∙ links-length item_chain.next atlas.records.items c.args.links.now c.requires.links in
    let all : c.walk_chains.new.steps ≡ c.args.steps.now + links_in (item_walks atlas.records) =
    items-counted atlas.records c.args.steps.now c.mark_onto.new.steps c.walk_chains.new.steps
    (subst (λ (w : Walked). c.mark_onto.new.steps ≡ c.args.steps.now + length w.met) walks c.in_default.ensures.steps)
    (c.in_ok-lists.ensures.steps ∙ ap (λ (ns : List ℕ). c.mark_onto.new.steps + length (item_numbers (map (chain_entry atlas.records) ns))) c.requires.numbers) in
    λ more. all
    ∙ ap (λ (n : ℕ). c.args.steps.now + n)
    (none-further atlas.records more (item_walks atlas.records) c.walk_chains.new.marks (length atlas.records.items)
    (sym (ap (λ (w : Walked). w.end) walks) ∙ c.in_default.ensures.end, chains-end atlas.records numbers (subst (AllByRecursion (HasChain atlas.records)) c.requires.numbers c.in_ok-lists.ensures.chains))
    count marked (c.if-not-all_marked.ensures.missing refl (met_by (item_walks atlas.records)) marked))

pub returns-clause-all : goal.returns-clause-all
returns-clause-all c =
    let atlas = c.args.atlas.now in
    let start : c.bits-first.result ≡ bits_of atlas.records.unused_items =
    c.bits-first.ensures.value ∙ ap bits_of (c.unused_items.ensures ∙ ap (λ (a : AtlasRecords). a.records.unused_items) c.atlas.view_is) in
    let walks = walks-by item_chain.next atlas.records.items atlas.records.unused_items c.args.links.now c.bits-first.result c.requires.links start in
    items-counted atlas.records c.args.steps.now c.mark_onto.new.steps c.walk_chains.new.steps
    (subst (λ (w : Walked). c.mark_onto.new.steps ≡ c.args.steps.now + length w.met) walks c.in_default.ensures.steps)
    (c.in_ok-lists.ensures.steps ∙ ap (λ (ns : List ℕ). c.mark_onto.new.steps + length (item_numbers (map (chain_entry atlas.records) ns))) c.requires.numbers)
