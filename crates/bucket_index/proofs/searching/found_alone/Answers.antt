use Rattle.std.proofs.Common.{◌≡◌, ℕ, ◌<◌, Bool, Option, None, Some, List, get_or, length, map, take, refl, ap, sym, ◌∙◌, arith}
use Rattle.std.proofs.lemmas.Option.{slice_get_read}
use Rattle.std.specs.Option.{option_map_or}
use Rattle.std.specs.Prelude.{◌^◌}
use Rattle.etagere_base.specs.declared.sides.Sides.{Sides}
use Rattle.etagere_base.specs.Least.{first_least}
use Rattle.bucketed_records.specs.declared.records.KeptShelf.{KeptShelf}
use Rattle.bucket_index.specs.Private.Missed.{AreWithoutBut}
use Rattle.bucket_index.specs.Private.Searching.{kept_waste, limit_beside, waste_below}
use Rattle.bucket_index.proofs.LimitedWaste.{at_rank, limited}
use Rattle.bucket_index.proofs.MissedShelves.{alone-best, nothing-before}
use Rattle.bucket_index.proofs.searching.found_alone.Goals as goal

-- what the shelf wastes, whose height fits 16 bits, by the limit where nothing was found before
found : (adds : Bool) (sides : Sides) (shelves : List KeptShelf) (number end limit : ℕ) (kept : KeptShelf) (below : Option ℕ) → number < length shelves
    → kept ≡ get_or shelves number kept → kept.shelf.height < 2 ^ 16 → number < end → AreWithoutBut number end adds sides shelves → limit ≡ limit_beside adds sides None
    → below ≡ waste_below limit sides kept
    → option_map_or (λ rank. Some (at_rank number rank)) below None ≡ first_least (map (kept_waste adds sides) (take end shelves))
found adds sides shelves number end limit kept below within read small low without limits is =
    ap (λ (o : Option ℕ). option_map_or (λ rank. Some (at_rank number rank)) o None) (is ∙ ap (λ (n : ℕ). waste_below n sides kept) limits)
    ∙ sym (limited adds sides kept None number small)
    ∙ alone-best adds sides shelves number end kept (slice_get_read shelves (length shelves) number kept refl within read) low without

pub returns-then-number-end : goal.returns-then-number-end
returns-then-number-end c = nothing-before c.args.adds c.args.sides.now c.args.shelves.now c.args.number c.args.end c.if-number-end.true c.requires.without

pub returns-in_err-rank : goal.returns-in_err-rank
returns-in_err-rank c =
    c.from_residual.ensures
    ∙ found c.args.adds c.args.sides.now c.args.shelves.now c.args.number c.args.end c.limit_beside-limit.result c.index-shelves-number.result None (omega (arith, c.if-number-end.false, c.requires.end))
    c.index-shelves-number.is c.waste_below.ensures.small c.if-number-end.false c.requires.without c.limit_beside-limit.ensures (sym c.in_err-rank.was ∙ c.waste_below.ensures.value)

pub returns : goal.returns
returns c =
    found c.args.adds c.args.sides.now c.args.shelves.now c.args.number c.args.end c.limit_beside-limit.result c.index-shelves-number.result (Some c.in_ok-rank.rank) (omega (arith, c.if-number-end.false, c.requires.end))
    c.index-shelves-number.is c.waste_below.ensures.small c.if-number-end.false c.requires.without c.limit_beside-limit.ensures (sym c.in_ok-rank.was ∙ c.waste_below.ensures.value)
