use Rattle.std.proofs.Common.{◌≡◌, ℕ, ◌+◌, ◌-◌, ◌<◌, List, length, get_or, subst, sym, ap, refl, arith, ◌∙◌, [], ◌∷◌, ◌++◌, map, take}
use Rattle.std.proofs.lemmas.List.{length-append, take_all}
use Rattle.std.specs.List.{AllByRecursion}
use Rattle.etagere_links.specs.Links.{bits_of, link_of}
use Rattle.etagere_links.specs.Marks.{IsMarkedBy}
use Rattle.shelf_records.specs.RecordLists.{first_free_of, free_walk, walked_entry}
use Rattle.shelf_records.specs.Records.{free_list}
use Rattle.etagere_links.specs.Walks.{Walked, walk}
use Rattle.etagere_links.proofs.MarkLemmas.{marked-length}
use Rattle.shelf_records.specs.AtlasRecords.{AtlasRecords}
use Rattle.shelf_records.specs.Private.Restoring.{HasFree, free_numbers, frees_met}
use Rattle.shelf_records.specs.Snapshots.{IsBroken}
use Rattle.shelf_restoring.proofs.Loaded.ChainsWalked.{each-next, free-next, images-next}
use Rattle.shelf_restoring.proofs.Loaded.WalksBroken.{free-broken}
use Rattle.shelf_restoring.proofs.Loaded.WalksBy.{breaks-by, links-length, walks-by}
use Rattle.etagere_links.specs.LinksRead.{links_until}
use Rattle.etagere_links.specs.WalkFaults.{links_by}
use Rattle.shelf_restoring.specs.RestoringSteps.{StopsAfter}
use Rattle.shelf_restoring.proofs.Loaded.LinksFollowed.{free-refused, frees-counted, frees-go}
use Rattle.shelf_restoring.proofs.free_lists.follow_free_lists.Goals as goal

pub mark_onto-requires-clause-steps : goal.mark_onto-requires-clause-steps
mark_onto-requires-clause-steps c =
    let lists = c.args.atlas.now.records in
    let kept = c.loop-number.invariant in
    let free : List ℕ = free_numbers (map (walked_entry lists) (take c.loop-number.number-index c.args.numbers.now)) in
    omega (arith, kept.steps, marked-length c.loop-number.marks free kept.marked, c.loop-number.auto.marks, c.requires.marks, c.requires.steps, c.requires.few, links-length free_list.next lists.items c.args.links.now c.requires.links)

pub returns-in-Err-clause-bound : goal.returns-in-Err-clause-bound
returns-in-Err-clause-bound c =
    let lists = c.args.atlas.now.records in
    let kept = c.loop-number.invariant in
    let free : List ℕ = free_numbers (map (walked_entry lists) (take c.loop-number.number-index c.args.numbers.now)) in
    omega (arith, kept.steps, marked-length c.loop-number.marks free kept.marked, c.loop-number.auto.marks, c.requires.marks, c.in-Err.ensures.bound, links-length free_list.next lists.items c.args.links.now c.requires.links)

pub returns-clause-bound : goal.returns-clause-bound
returns-clause-bound c =
    let lists = c.args.atlas.now.records in
    let kept = c.loop-number.invariant in
    let free : List ℕ = free_numbers (map (walked_entry lists) (take c.loop-number.number-index c.args.numbers.now)) in
    omega (arith, kept.steps, marked-length c.loop-number.marks free kept.marked, c.loop-number.auto.marks, c.requires.marks, links-length free_list.next lists.items c.args.links.now c.requires.links)

pub returns-in-Err-clause-fault : goal.returns-in-Err-clause-fault
returns-in-Err-clause-fault c =
    let atlas = c.args.atlas.now in
    let kept = c.loop-number.invariant in
    let numbers = c.args.numbers.now in
    let i = c.loop-number.number-index in
    let within = c.loop-number-test.true in
    let number : ℕ = get_or numbers i 0 in
    let link : c.first_free_link.result ≡ first_free_of atlas.records.shelves number =
    c.first_free_link.ensures ∙ ap (λ ss. first_free_of ss c.from.result) (c.shelves.ensures ∙ ap (λ (a : AtlasRecords). a.records.shelves) c.atlas.view_is) ∙ ap (first_free_of atlas.records.shelves) c.from.ensures in
    let start : c.bits-first.result ≡ bits_of (first_free_of atlas.records.shelves number) = c.bits-first.ensures.value ∙ ap bits_of link in
    subst (IsBroken atlas) (sym c.free_fault.ensures)
    (free-broken atlas c.loop-number.marks i number c.in-Err.fault c.requires.once (subst (λ (ns : List ℕ). i < length ns) c.requires.numbers within) (ap (λ (ns : List ℕ). get_or ns i 0) c.requires.numbers)
    (breaks-by free_list.next atlas.records.items (first_free_of atlas.records.shelves number) c.args.links.now c.bits-first.result c.loop-number.marks c.in-Err.fault c.requires.links start c.in-Err.ensures.fault)
    (subst (λ (ns : List ℕ). IsMarkedBy c.loop-number.marks (free_numbers (map (walked_entry atlas.records) (take i ns)))) c.requires.numbers kept.marked))

pub loop-number-preserved : goal.loop-number-preserved
loop-number-preserved c =
    let atlas = c.args.atlas.now in
    let kept = c.loop-number.invariant in
    let numbers = c.args.numbers.now in
    let i = c.loop-number.number-index in
    let within = c.loop-number-test.true in
    let number : ℕ = get_or numbers i 0 in
    let link : c.first_free_link.result ≡ first_free_of atlas.records.shelves number =
    c.first_free_link.ensures ∙ ap (λ ss. first_free_of ss c.from.result) (c.shelves.ensures ∙ ap (λ (a : AtlasRecords). a.records.shelves) c.atlas.view_is) ∙ ap (first_free_of atlas.records.shelves) c.from.ensures in
    let start : c.bits-first.result ≡ bits_of (first_free_of atlas.records.shelves number) = c.bits-first.ensures.value ∙ ap bits_of link in
    let free : List ℕ = free_numbers (map (walked_entry atlas.records) (take i numbers)) in
    let walks : walk c.args.links.now c.bits-first.result ≡ free_walk atlas.records number =
    walks-by free_list.next atlas.records.items (first_free_of atlas.records.shelves number) c.args.links.now c.bits-first.result c.requires.links start in
    let more : ℕ = c.mark_onto.new.steps - c.loop-number.steps in
    let counted : more ≡ frees_met atlas.records number = omega (arith, c.in_default-mark_onto.ensures.steps, ap (λ (w : Walked). length w.met) walks) in
    record {
      met = c.in_default-mark_onto.ensures.met
          ∙ ap (λ (ns : List ℕ). ns ++ (walk c.args.links.now c.bits-first.result).met) kept.met
          ∙ ap (λ (w : Walked). free ++ w.met) walks
          ∙ sym (free-next atlas.records numbers i number within refl);
      counts = c.push_reserved.ensures.items
          ∙ ap (λ (ns : List ℕ). ns ++ more ∷ []) kept.counts
          ∙ ap (λ (n : ℕ). map (frees_met atlas.records) (take i numbers) ++ n ∷ []) counted
          ∙ images-next (frees_met atlas.records) numbers i number within refl;
      long = omega (arith, c.push_reserved.ensures.len, kept.long, c.push_reserved.new.self.ok, c.loop-number.counts.ok);
      capacity = c.push_reserved.ensures.capacity ∙ kept.capacity;
      marked = subst (IsMarkedBy c.mark_onto.new.marks) (sym (free-next atlas.records numbers i number within refl))
          (subst (λ (w : Walked). IsMarkedBy c.mark_onto.new.marks (free ++ w.met)) walks (c.in_default-mark_onto.ensures.marked free kept.marked));
      free = each-next (HasFree atlas.records) numbers i number within refl kept.free
          (record {
            end = sym (ap (λ (w : Walked). w.end) walks) ∙ c.in_default-mark_onto.ensures.end;
            first_fits = ap link_of (sym start) ∙ c.bits-first.ensures.link ∙ link;
          });
      room = c.in_default-mark_onto.ensures.room ∙ kept.room;
      steps = omega (arith, kept.steps, c.in_default-mark_onto.ensures.steps, ap (λ (w : Walked). length w.met) walks, ap length (free-next atlas.records numbers i number within refl), length-append free (free_walk atlas.records number).met);
    }

pub returns-in-Err-clause-until : goal.returns-in-Err-clause-until
returns-in-Err-clause-until c =
    let atlas = c.args.atlas.now in
    let kept = c.loop-number.invariant in
    let numbers = c.args.numbers.now in
    let i = c.loop-number.number-index in
    let within = c.loop-number-test.true in
    let number : ℕ = get_or numbers i 0 in
    let link : c.first_free_link.result ≡ first_free_of atlas.records.shelves number =
    c.first_free_link.ensures ∙ ap (λ ss. first_free_of ss c.from.result) (c.shelves.ensures ∙ ap (λ (a : AtlasRecords). a.records.shelves) c.atlas.view_is) ∙ ap (first_free_of atlas.records.shelves) c.from.ensures in
    let start : c.bits-first.result ≡ bits_of (first_free_of atlas.records.shelves number) = c.bits-first.ensures.value ∙ ap bits_of link in
    let walks : walk c.args.links.now c.bits-first.result ≡ free_walk atlas.records number =
    walks-by free_list.next atlas.records.items (first_free_of atlas.records.shelves number) c.args.links.now c.bits-first.result c.requires.links start in
    let steps = c.mark_onto.new.steps in
    subst (StopsAfter (c.args.steps.now + links_until 0 0 [] (map (free_walk atlas.records) numbers)) steps) (sym c.free_fault.ensures)
    (free-refused atlas.records numbers i c.args.steps.now c.loop-number.steps steps c.loop-number.marks c.in-Err.fault within c.requires.few kept.free kept.marked
    (breaks-by free_list.next atlas.records.items (first_free_of atlas.records.shelves number) c.args.links.now c.bits-first.result c.loop-number.marks c.in-Err.fault c.requires.links start c.in-Err.ensures.fault)
    kept.steps (subst (λ (w : Walked). steps ≡ c.loop-number.steps + links_by w c.in-Err.fault) walks c.in-Err.ensures.read))

pub returns-clause-all : goal.returns-clause-all
returns-clause-all c =
    let lists = c.args.atlas.now.records in
    let numbers = c.args.numbers.now in
    let all : take c.loop-number.number-index numbers ≡ numbers = take_all c.loop-number.number-index numbers c.loop-number-test.false in
    frees-counted lists numbers c.args.steps.now c.loop-number.steps
    (subst (λ (ns : List ℕ). c.loop-number.steps ≡ c.args.steps.now + length (free_numbers (map (walked_entry lists) ns))) all c.loop-number.invariant.steps)

pub returns-clause-own : goal.returns-clause-own
returns-clause-own c =
    let lists = c.args.atlas.now.records in
    let numbers = c.args.numbers.now in
    let all : take c.loop-number.number-index numbers ≡ numbers = take_all c.loop-number.number-index numbers c.loop-number-test.false in
    frees-go lists numbers c.loop-number.marks (subst (AllByRecursion (HasFree lists)) all c.loop-number.invariant.free)
    (subst (λ (ns : List ℕ). IsMarkedBy c.loop-number.marks (free_numbers (map (walked_entry lists) ns))) all c.loop-number.invariant.marked)
