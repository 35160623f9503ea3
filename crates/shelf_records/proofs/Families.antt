-- The links of the records of a shelf atlas: each is a field of its own.
use Rattle.std.proofs.Common.{refl}
use Rattle.shelf_records.specs.Families.{IsFamily}
use Rattle.shelf_records.specs.Records.{item_chain, free_list, shelf_chain}

pub item_chain-laws : IsFamily item_chain
item_chain-laws =
    record { next = λ link x. refl; previous = λ link x. refl; next_stays = λ link x. refl; previous_stays = λ link x. refl }

pub free_list-laws : IsFamily free_list
free_list-laws =
    record { next = λ link x. refl; previous = λ link x. refl; next_stays = λ link x. refl; previous_stays = λ link x. refl }

pub shelf_chain-laws : IsFamily shelf_chain
shelf_chain-laws =
    record { next = λ link x. refl; previous = λ link x. refl; next_stays = λ link x. refl; previous_stays = λ link x. refl }
