use Rattle.std.proofs.Common.{◌≡◌, ℕ, ◌+◌, ◌∙◌, [], add_assoc, ap, arith, length, subst, sym}
use Rattle.shelf_restoring.proofs.Loaded.ChainsWalked.{once-walked}
use Rattle.std.proofs.lemmas.Result.{err_from_is_err_and}
use Rattle.etagere_links.specs.LinksRead.{links_in, links_until}
use Rattle.shelf_restoring.specs.RestoringSteps.{StopsAfter, free_walks, item_walks, links_followed, shelf_walks}
use Rattle.shelf_restoring.proofs.Loaded.LinksFollowed.{all-followed, all-links, shelves-go}
use Rattle.shelf_restoring.proofs.walking.walk_records.Goals as goal

pub walk_free_lists-requires-clause-once : goal.walk_free_lists-requires-clause-once
walk_free_lists-requires-clause-once c =
    once-walked c.args.atlas.now c.in_ok-walked.ensures.ok

pub returns-in_err-numbers-clause-until : goal.returns-in_err-numbers-clause-until
returns-in_err-numbers-clause-until c =
    let lists = c.args.atlas.now.records in
    let passed = err_from_is_err_and c.from_residual.result c.from_residual.ensures.1 in
    rw (passed.1, passed.2) (c.in_err-numbers.ensures.until (links_until (length lists.items) (links_until 0 0 [] (free_walks lists)) [] (item_walks lists)))

pub returns-in_err-walked-clause-until : goal.returns-in_err-walked-clause-until
returns-in_err-walked-clause-until c =
    let atlas = c.args.atlas.now in
    let more : ℕ = links_until 0 0 [] (free_walks atlas.records) in
    let items : ℕ = links_until (length atlas.records.items) more [] (item_walks atlas.records) in
    let fault = c.in_err-walked.field-0.0 in
    let passed = err_from_is_err_and c.from_residual-in_err-walked.result c.from_residual-in_err-walked.ensures.1 in
    rw (passed.1, passed.2) (subst (λ (n : ℕ). StopsAfter n c.walk_items.new.steps fault)
    (ap (λ (n : ℕ). n + items) c.in_ok-numbers.ensures.all ∙ sym (shelves-go atlas c.in_ok-numbers.numbers.items items c.in_ok-numbers.ensures.ok))
    (c.in_err-walked.ensures.until more))

pub returns-in_err-free_lists-clause-until : goal.returns-in_err-free_lists-clause-until
returns-in_err-free_lists-clause-until c =
    let atlas = c.args.atlas.now in
    let more : ℕ = links_until 0 0 [] (free_walks atlas.records) in
    let fault = c.in_err-free_lists.field-0.0 in
    let all = all-followed atlas c.in_ok-numbers.numbers.items c.in_ok-numbers.ensures.ok c.in_ok-walked.ensures.ok in
    let counted : c.walk_items.new.steps + more ≡ links_followed atlas.records =
    ap (λ (n : ℕ). n + more) (c.in_ok-walked.ensures.all ∙ ap (λ (n : ℕ). n + links_in (item_walks atlas.records)) c.in_ok-numbers.ensures.all)
    ∙ add_assoc (links_in (shelf_walks atlas.records)) (links_in (item_walks atlas.records)) more ∙ sym all in
    let passed = err_from_is_err_and c.from_residual-in_err-free_lists.result c.from_residual-in_err-free_lists.ensures.1 in
    rw (passed.1, passed.2) (subst (λ (n : ℕ). StopsAfter n c.walk_free_lists.new.steps fault) counted c.in_err-free_lists.ensures.until)

pub returns-then-not-links_back-clause-until : goal.returns-then-not-links_back-clause-until
returns-then-not-links_back-clause-until c =
    c.in_ok-free_lists.ensures.all ∙ omega (
      arith,
      c.in_ok-walked.ensures.all,
      c.in_ok-numbers.ensures.all,
      all-links c.args.atlas.now c.in_ok-numbers.numbers.items c.in_ok-numbers.ensures.ok c.in_ok-walked.ensures.ok c.in_ok-free_lists.ensures.own,
    )

pub returns-clause-end : goal.returns-clause-end
returns-clause-end c =
    all-links c.args.atlas.now c.in_ok-numbers.numbers.items c.in_ok-numbers.ensures.ok c.in_ok-walked.ensures.ok c.in_ok-free_lists.ensures.own
