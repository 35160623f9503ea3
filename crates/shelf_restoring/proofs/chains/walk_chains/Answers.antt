use Rattle.std.proofs.Common.{◌≡◌, ℕ, ◌+◌, ◌-◌, List, length, get_or, subst, sym, ap, refl, arith, ◌∙◌, [], ◌∷◌, ◌++◌, map, take}
use Rattle.std.proofs.lemmas.List.{length-append}
use Rattle.etagere_links.specs.Links.{bits_of, link_of}
use Rattle.etagere_links.specs.Marks.{IsMarkedBy}
use Rattle.shelf_records.specs.RecordLists.{first_item_of, item_numbers, item_walk, unused_item_walk}
use Rattle.shelf_records.specs.Records.{item_chain}
use Rattle.etagere_links.specs.Walks.{Walked, walk}
use Rattle.etagere_links.proofs.MarkLemmas.{marked-length}
use Rattle.shelf_records.specs.AtlasRecords.{AtlasRecords}
use Rattle.shelf_records.specs.Private.Restoring.{HasChain, chain_entry, items_met}
use Rattle.shelf_records.specs.Snapshots.{IsBroken}
use Rattle.shelf_restoring.proofs.Loaded.ChainsWalked.{both-length, each-next, images-next, items-next, marks-next}
use Rattle.shelf_restoring.proofs.Loaded.WalksBroken.{chain-broken}
use Rattle.shelf_restoring.proofs.Loaded.WalksBy.{breaks-by, links-length, walks-by}
use Rattle.etagere_links.specs.LinksRead.{links_until}
use Rattle.etagere_links.specs.WalkFaults.{links_by}
use Rattle.shelf_restoring.specs.RestoringSteps.{StopsAfter}
use Rattle.shelf_restoring.proofs.Loaded.LinksFollowed.{chain-refused}
use Rattle.shelf_restoring.proofs.chains.walk_chains.Goals as goal

pub returns-in_default-clause-bound : goal.returns-in_default-clause-bound
returns-in_default-clause-bound c =
    omega (arith, marked-length c.args.marks.now (unused_item_walk c.args.atlas.now.records).met c.requires.marked, c.requires.marks, links-length item_chain.next c.args.atlas.now.records.items c.args.links.now c.requires.links)

pub returns-in_default-with_capacity-clause-bound : goal.returns-in_default-with_capacity-clause-bound
returns-in_default-with_capacity-clause-bound c =
    omega (arith, marked-length c.args.marks.now (unused_item_walk c.args.atlas.now.records).met c.requires.marked, c.requires.marks, links-length item_chain.next c.args.atlas.now.records.items c.args.links.now c.requires.links)

pub mark_onto-requires-clause-steps : goal.mark_onto-requires-clause-steps
mark_onto-requires-clause-steps c =
    let lists = c.args.atlas.now.records in
    let kept = c.loop-number.invariant in
    let items : List ℕ = item_numbers (map (chain_entry lists) (take c.loop-number.number-index c.args.numbers.now)) in
    omega (arith, kept.steps, both-length c.loop-number.marks (unused_item_walk lists).met items kept.marked, c.loop-number.auto.marks, c.requires.marks, c.requires.steps, c.requires.few, links-length item_chain.next lists.items c.args.links.now c.requires.links)

pub returns-in-Err-clause-fault : goal.returns-in-Err-clause-fault
returns-in-Err-clause-fault c =
    let atlas = c.args.atlas.now in
    let number : ℕ = get_or c.args.numbers.now c.loop-number.number-index 0 in
    let start : c.bits-first.result ≡ bits_of (first_item_of atlas.records.shelves number) =
    c.bits-first.ensures.value ∙ ap bits_of (c.first_item_link.ensures ∙ ap (λ ss. first_item_of ss c.from.result) (c.shelves.ensures ∙ ap (λ (a : AtlasRecords). a.records.shelves) c.atlas.view_is) ∙ ap (first_item_of atlas.records.shelves) c.from.ensures) in
    subst (IsBroken atlas) (sym c.restore_fault.ensures)
    (chain-broken atlas c.loop-number.marks c.args.numbers.now c.loop-number.number-index number c.in-Err.fault c.requires.numbers c.loop-number-test.true refl
    (breaks-by item_chain.next atlas.records.items (first_item_of atlas.records.shelves number) c.args.links.now c.bits-first.result c.loop-number.marks c.in-Err.fault c.requires.links start c.in-Err.ensures.fault)
    c.loop-number.invariant.marked)

pub returns-in-Err-clause-bound : goal.returns-in-Err-clause-bound
returns-in-Err-clause-bound c =
    let lists = c.args.atlas.now.records in
    let kept = c.loop-number.invariant in
    let items : List ℕ = item_numbers (map (chain_entry lists) (take c.loop-number.number-index c.args.numbers.now)) in
    omega (arith, kept.steps, both-length c.loop-number.marks (unused_item_walk lists).met items kept.marked, c.loop-number.auto.marks, c.requires.marks, c.in-Err.ensures.bound, links-length item_chain.next lists.items c.args.links.now c.requires.links)

pub loop-number-preserved : goal.loop-number-preserved
loop-number-preserved c =
    let atlas = c.args.atlas.now in
    let kept = c.loop-number.invariant in
    let numbers = c.args.numbers.now in
    let i = c.loop-number.number-index in
    let within = c.loop-number-test.true in
    let number : ℕ = get_or numbers i 0 in
    let unused : List ℕ = (unused_item_walk atlas.records).met in
    let items : List ℕ = item_numbers (map (chain_entry atlas.records) (take i numbers)) in
    let link : c.first_item_link.result ≡ first_item_of atlas.records.shelves number =
    c.first_item_link.ensures ∙ ap (λ ss. first_item_of ss c.from.result) (c.shelves.ensures ∙ ap (λ (a : AtlasRecords). a.records.shelves) c.atlas.view_is) ∙ ap (first_item_of atlas.records.shelves) c.from.ensures in
    let start : c.bits-first.result ≡ bits_of (first_item_of atlas.records.shelves number) = c.bits-first.ensures.value ∙ ap bits_of link in
    let walks : walk c.args.links.now c.bits-first.result ≡ item_walk atlas.records number =
    walks-by item_chain.next atlas.records.items (first_item_of atlas.records.shelves number) c.args.links.now c.bits-first.result c.requires.links start in
    let more : ℕ = c.mark_onto.new.steps - c.loop-number.steps in
    let counted : more ≡ items_met atlas.records number = omega (arith, c.in_default-mark_onto.ensures.steps, ap (λ (w : Walked). length w.met) walks) in
    record {
      met = c.in_default-mark_onto.ensures.met
          ∙ ap (λ (ns : List ℕ). ns ++ (walk c.args.links.now c.bits-first.result).met) kept.met
          ∙ ap (λ (w : Walked). items ++ w.met) walks
          ∙ sym (items-next atlas.records numbers i number within refl);
      counts = c.push_reserved.ensures.items
          ∙ ap (λ (ns : List ℕ). ns ++ more ∷ []) kept.counts
          ∙ ap (λ (n : ℕ). map (items_met atlas.records) (take i numbers) ++ n ∷ []) counted
          ∙ images-next (items_met atlas.records) numbers i number within refl;
      long = omega (arith, c.push_reserved.ensures.len, kept.long, c.push_reserved.new.self.ok, c.loop-number.counts.ok);
      capacity = c.push_reserved.ensures.capacity ∙ kept.capacity;
      marked = marks-next atlas.records unused numbers i number c.mark_onto.new.marks within refl
          (subst (λ (w : Walked). IsMarkedBy c.mark_onto.new.marks ((unused ++ items) ++ w.met)) walks (c.in_default-mark_onto.ensures.marked (unused ++ items) kept.marked));
      chains = each-next (HasChain atlas.records) numbers i number within refl kept.chains
          (record {
            end = sym (ap (λ (w : Walked). w.end) walks) ∙ c.in_default-mark_onto.ensures.end;
            first_fits = ap link_of (sym start) ∙ c.bits-first.ensures.link ∙ link;
          });
      room = c.in_default-mark_onto.ensures.room ∙ kept.room;
      steps = omega (arith, kept.steps, c.in_default-mark_onto.ensures.steps, ap (λ (w : Walked). length w.met) walks, ap length (items-next atlas.records numbers i number within refl), length-append items (item_walk atlas.records number).met);
    }

pub returns-clause-bound : goal.returns-clause-bound
returns-clause-bound c =
    let lists = c.args.atlas.now.records in
    let kept = c.loop-number.invariant in
    let items : List ℕ = item_numbers (map (chain_entry lists) (take c.loop-number.number-index c.args.numbers.now)) in
    omega (arith, kept.steps, both-length c.loop-number.marks (unused_item_walk lists).met items kept.marked, c.loop-number.auto.marks, c.requires.marks, links-length item_chain.next lists.items c.args.links.now c.requires.links)

pub returns-in-Err-clause-until : goal.returns-in-Err-clause-until
returns-in-Err-clause-until c =
    let atlas = c.args.atlas.now in
    let kept = c.loop-number.invariant in
    let number : ℕ = get_or c.args.numbers.now c.loop-number.number-index 0 in
    let start : c.bits-first.result ≡ bits_of (first_item_of atlas.records.shelves number) =
    c.bits-first.ensures.value ∙ ap bits_of (c.first_item_link.ensures ∙ ap (λ ss. first_item_of ss c.from.result) (c.shelves.ensures ∙ ap (λ (a : AtlasRecords). a.records.shelves) c.atlas.view_is) ∙ ap (first_item_of atlas.records.shelves) c.from.ensures) in
    let walks = walks-by item_chain.next atlas.records.items (first_item_of atlas.records.shelves number) c.args.links.now c.bits-first.result c.requires.links start in
    let steps = c.mark_onto.new.steps in
    let counted : steps ≡ c.loop-number.steps + links_by (item_walk atlas.records number) c.in-Err.fault =
    subst (λ (w : Walked). steps ≡ c.loop-number.steps + links_by w c.in-Err.fault) walks c.in-Err.ensures.read in
    λ more. subst (StopsAfter (c.args.steps.now + links_until (length atlas.records.items) more (unused_item_walk atlas.records).met (map (item_walk atlas.records) c.args.numbers.now)) steps) (sym c.restore_fault.ensures)
    (chain-refused atlas.records c.args.numbers.now (unused_item_walk atlas.records).met c.loop-number.number-index more c.args.steps.now c.loop-number.steps steps c.loop-number.marks c.in-Err.fault c.loop-number-test.true c.requires.few kept.chains kept.marked
    (breaks-by item_chain.next atlas.records.items (first_item_of atlas.records.shelves number) c.args.links.now c.bits-first.result c.loop-number.marks c.in-Err.fault c.requires.links start c.in-Err.ensures.fault)
    kept.steps counted)
