use Rattle.std.proofs.Common.{ℕ, ◌<◌, Option, Some, length, ap, subst}
use Rattle.std.specs.Prelude.{IfSome}
use Rattle.shelf_records.specs.Neighbours.{HasNeighbours}
use Rattle.etagere_links.proofs.RecordChanges.{length-changed_by}
use Rattle.shelf_records.specs.declared.records.LinkedItem.{LinkedItem}
use Rattle.shelf_records.specs.RecordLists.{Records}
use Rattle.shelf_records.specs.Records.{free_list, item_chain}
use Rattle.shelf_records.proofs.NeighbourFrames.{neighbours-changed}
use Rattle.shelf_model.specs.Choice.{Placement}
use Rattle.shelf_store.specs.Private.PlacementTaken.{item_record, rest_item, with_rest_written}
use Rattle.shelf_store.proofs.taking.give_item.Goals as goal

-- the record of the rest of an item
abbrev written : Placement → ℕ → Records → LinkedItem
written found rest records =
    rest_item (item_record records.items found.item) found.width found.shelf (item_record records.items rest).generation

-- what is there stays there when that is written
rest-kept : (found : Placement) (rest : ℕ) (records : Records) → rest < length records.items → rest < length (with_rest_written found rest records).items
rest-kept found rest records within =
    rw (length-changed_by (λ _. written found rest records) records.items (Some rest)) within

in_shelf-kept : (found : Placement) (rest number : ℕ) (records : Records) → HasNeighbours item_chain records.items number → HasNeighbours item_chain (with_rest_written found rest records).items number
in_shelf-kept found rest number records has =
    neighbours-changed item_chain (λ _. written found rest records) records.items (Some rest) number (λ x was k e. absurd (cc e)) (λ x was k e. absurd (cc e)) has

in_free_list-kept : (found : Placement) (rest number : ℕ) (records : Records) → HasNeighbours free_list records.items number → HasNeighbours free_list (with_rest_written found rest records).items number
in_free_list-kept found rest number records has =
    neighbours-changed free_list (λ _. written found rest records) records.items (Some rest) number (λ x was k e. absurd (cc e)) (λ x was k e. absurd (cc e)) has

pub give_front-requires-clause-rest : goal.give_front-requires-clause-rest
give_front-requires-clause-rest c =
    let records : Records = c.args.records.now in
    let within : c.in-Some.rest < length records.items =
    subst (λ (o : Option ℕ). IfSome o (λ number. number < length records.items)) c.in-Some.is c.requires.there.for_rest in
    rw c.write_item_rest.ensures (rest-kept c.args.found.now c.in-Some.rest records within)

pub give_front-requires-clause-next : goal.give_front-requires-clause-next
give_front-requires-clause-next c =
    rw (c.write_item_rest.ensures, ap (λ (p : Placement). p.item) c.found.view_is)
    (in_shelf-kept c.args.found.now c.in-Some.rest c.args.found.now.item c.args.records.now c.requires.there.in_shelf)

pub give_front-requires-clause-free : goal.give_front-requires-clause-free
give_front-requires-clause-free c =
    rw (c.write_item_rest.ensures, ap (λ (p : Placement). p.item) c.found.view_is)
    (in_free_list-kept c.args.found.now c.in-Some.rest c.args.found.now.item c.args.records.now c.requires.there.in_free_list)
