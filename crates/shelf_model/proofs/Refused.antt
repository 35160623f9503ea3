-- A size has no place exactly where there is a reason, and the widest that is free tells whether there is room.
use Rattle.std.proofs.Common.{◌≡◌, ℕ, zero, suc, ◌≤◌, ◌+◌, Bool, true, false, cond, Option, None, Some, List, [], ◌∷◌, nat_le, nat_lt, refl, ap, arith, subst, sym, ◌∙◌}
use Rattle.std.proofs.lemmas.Bool.Decides.{nat_tests}
use Rattle.std.specs.Prelude.{◌↔◌, ◌==◌, ◌&&◌, ◌||◌, IsTrue, filter, is_some, option_and_then, slice_get}
use Rattle.std.specs.Option.{option_map_or}
use Rattle.etagere_base.specs.declared.frames.Frame.{Frame}
use Rattle.etagere_base.specs.declared.geometry.Size.{Size}
use Rattle.etagere_base.specs.declared.faults.SizeRefusal.TheVariants as sizes
use Rattle.etagere_base.specs.declared.sides.Sides.{Sides}
use Rattle.etagere_base.specs.Frames.{across_side, asked, is_not_positive, is_too_long, rounded}
use Rattle.etagere_base.specs.Refusing.{is_taller_than_atlas, is_wider_than_column}
use Rattle.etagere_base.specs.Sides.{side}
use Rattle.etagere_base.proofs.AskedSides.{asked-sides}
use Rattle.shelf_model.specs.declared.faults.Refusal.{Refusal}
use Rattle.shelf_model.specs.declared.faults.Refusal.TheVariants.{NotPositive, TooLong, WiderThanColumn, TallerThanAtlas, NoRoom, NoRecords}
use Rattle.shelf_model.specs.Choice.{Placement, chosen, placement_of, shelf_height, splits}
use Rattle.shelf_model.specs.Laws.{FitsShelf}
use Rattle.shelf_model.specs.Refusal.{has_no_room, lacks_records, of_size, refusal, widest_for}
use Rattle.shelf_model.specs.RefusalLaws.{HasNoRoom, SomeFits}
use Rattle.shelf_model.specs.State.{AtlasState, Item, Shelf, is_free, items_in_use}
use Rattle.shelf_model.specs.Valid.{IsValid}
use Rattle.shelf_model.specs.Widest.{free_width, greatest, widest_free, widest_in}
use Rattle.shelf_model.proofs.Chosen.ChosenByRule.{chosen-by_rule, none_chosen-none_fits}

-- an item that is free and as wide
record SomeWide (width : ℕ) (items : List Item) : Type 0 where
  number : ℕ
  item : Item
  at : slice_get items number ≡ Some item
  free : is_free item ≡ true
  wide : width ≤ item.width

-- the widest free item is one
some-wide : (width : ℕ) (items : List Item) → 1 ≤ width → width ≤ greatest free_width items → SomeWide width items
some-wide width [] positive wide = absurd (omega arith)
some-wide width (item ∷ items) positive wide =
    by_test
    (λ there.
    let found = some-wide width items positive there in
    record { number = suc found.number; item = found.item; at = found.at; free = found.free; wide = found.wide })
    (is_free item) refl (nat_le width (greatest free_width items)) refl
  where
    by_test : (width ≤ greatest free_width items → SomeWide width (item ∷ items)) → (free : Bool) → is_free item ≡ free → (behind : Bool) → nat_le width (greatest free_width items) ≡ behind → SomeWide width (item ∷ items)
    by_test later free e true f = later (grind (arith, nat_tests))
    by_test later true e false f =
        record { number = 0; item = item; at = refl; free = e; wide = let own : free_width item ≡ item.width = ap (λ b. cond b item.width 0) e in grind (arith, nat_tests, own, wide, positive) }
    by_test later false e false f = absurd (let own : free_width item ≡ 0 = ap (λ b. cond b item.width 0) e in grind (arith, nat_tests, own, wide, positive))

-- none is wider
wide-most : (items : List Item) (number : ℕ) (item : Item) → slice_get items number ≡ Some item → is_free item ≡ true → item.width ≤ greatest free_width items
wide-most [] number item at free = absurd (cc)
wide-most (x ∷ items) zero item at free =
    let same : x ≡ item = cc in
    let own : free_width item ≡ item.width = ap (λ b. cond b item.width 0) free in
    omega (arith, own, ap free_width same)
wide-most (x ∷ items) (suc number) item at free = omega (arith, wide-most items number item at free)

-- where the widest is as wide, a shelf fits
pub widest-fits : (width height : ℕ) (shelves : List Shelf) → 1 ≤ width → width ≤ widest_free height shelves → SomeFits width height shelves
widest-fits width height [] positive wide = absurd (omega arith)
widest-fits width height (shelf ∷ shelves) positive wide =
    by_test
    (λ there.
    let found = widest-fits width height shelves positive there in
    record { number = suc found.number; shelf = found.shelf; at = found.at; fits = found.fits })
    (nat_le height shelf.height) refl (nat_le width (widest_free height shelves)) refl wide
  where
    by_test : (width ≤ widest_free height shelves → SomeFits width height (shelf ∷ shelves))
        → (b : Bool) → nat_le height shelf.height ≡ b → (behind : Bool) → nat_le width (widest_free height shelves) ≡ behind
        → width ≤ greatest widest_in (cond b (shelf ∷ filter (λ (shelf : Shelf). nat_le height shelf.height) shelves) (filter (λ (shelf : Shelf). nat_le height shelf.height) shelves))
        → SomeFits width height (shelf ∷ shelves)
    by_test later b e true f there = later (grind (arith, nat_tests))
    by_test later true e false f there =
        let here : width ≤ widest_in shelf = grind (arith, nat_tests, there) in
        let found = some-wide width shelf.items positive here in
        record {
          number = 0;
          shelf = shelf;
          at = refl;
          fits = record { tall = grind (arith, nat_tests); number = found.number; item = found.item; at = found.at; free = found.free; wide = found.wide };
        }
    by_test later false e false f there = later there

-- where a shelf fits, the widest is as wide
pub fits-widest : (width height : ℕ) (shelves : List Shelf) (number : ℕ) (shelf : Shelf) → slice_get shelves number ≡ Some shelf → FitsShelf width height shelf → width ≤ widest_free height shelves
fits-widest width height [] number shelf at fits = absurd (cc)
fits-widest width height (x ∷ shelves) zero shelf at fits =
    let same : x ≡ shelf = cc in
    let tall : nat_le height x.height ≡ true = rw same (let h : height ≤ shelf.height = fits.tall in grind (arith, nat_tests)) in
    let own : width ≤ widest_in shelf = omega (arith, fits.wide, wide-most shelf.items fits.number fits.item fits.at fits.free) in
    rw tall (omega (arith, own, ap widest_in same))
fits-widest width height (x ∷ shelves) (suc number) shelf at fits = by_test (nat_le height x.height) (fits-widest width height shelves number shelf at fits)
  where
    by_test : (b : Bool) → width ≤ widest_free height shelves
        → width ≤ greatest widest_in (cond b (x ∷ filter (λ (shelf : Shelf). nat_le height shelf.height) shelves) (filter (λ (shelf : Shelf). nat_le height shelf.height) shelves))
    by_test true later = omega (arith, later)
    by_test false later = later

-- sides that are neither missing nor too long are sides
sides-tests : (w h : ℕ) → (w == 0 || h == 0) ≡ false → (nat_lt 65535 w || nat_lt 65535 h) ≡ false
    → ((nat_lt 0 w && nat_le w 65535) && (nat_lt 0 h && nat_le h 65535)) ≡ true
sides-tests w h there short = grind (arith, nat_tests)

sides-missing : (w h : ℕ) → (w == 0 || h == 0) ≡ true → ((nat_lt 0 w && nat_le w 65535) && (nat_lt 0 h && nat_le h 65535)) ≡ false
sides-missing w h missing = grind (arith, nat_tests)

sides-long : (w h : ℕ) → (nat_lt 65535 w || nat_lt 65535 h) ≡ true → ((nat_lt 0 w && nat_le w 65535) && (nat_lt 0 h && nat_le h 65535)) ≡ false
sides-long w h long = grind (arith, nat_tests)

not-above : (n m : ℕ) → nat_lt m n ≡ false → nat_le n m ≡ true
not-above n m h = grind (arith, nat_tests)

above : (n m : ℕ) → nat_lt m n ≡ true → nat_le n m ≡ false
above n m h = grind (arith, nat_tests)

and-false : (b : Bool) → (b && false) ≡ false
and-false true = refl
and-false false = refl

module _ (frame : Frame) (size : Size) where
  abbrev sides : Sides
  sides = rounded frame size

  abbrev given : Bool → Bool → Bool → Option Sides
  given b wide tall = cond b (cond (wide && tall) (Some sides) None) None

  -- what is asked for, where no reason of the sides alone holds
  pub asked-rounded : is_not_positive size ≡ false → is_too_long size ≡ false → is_wider_than_column frame size ≡ false → is_taller_than_atlas frame size ≡ false
      → asked frame size ≡ Some (rounded frame size)
  asked-rounded there short narrow low =
      ap (λ b. given b (nat_le sides.along frame.column_width) (nat_le sides.across (across_side frame))) (sides-tests (side size.width) (side size.height) there short)
      ∙ ap (λ b. given true b (nat_le sides.across (across_side frame))) (not-above sides.along frame.column_width narrow)
      ∙ ap (given true true) (not-above sides.across (across_side frame) low)

  -- where one does, nothing is
  asked-missing : is_not_positive size ≡ true → asked frame size ≡ None
  asked-missing missing = ap (λ b. given b (nat_le sides.along frame.column_width) (nat_le sides.across (across_side frame))) (sides-missing (side size.width) (side size.height) missing)

  asked-long : is_too_long size ≡ true → asked frame size ≡ None
  asked-long long = ap (λ b. given b (nat_le sides.along frame.column_width) (nat_le sides.across (across_side frame))) (sides-long (side size.width) (side size.height) long)

  abbrev nothing : Option Sides
  nothing = None

  either-none : (b : Bool) → cond b nothing nothing ≡ nothing
  either-none true = refl
  either-none false = refl

  asked-wide : is_wider_than_column frame size ≡ true → asked frame size ≡ None
  asked-wide wide =
      ap (λ b. given ((nat_lt 0 (side size.width) && nat_le (side size.width) 65535) && (nat_lt 0 (side size.height) && nat_le (side size.height) 65535)) b (nat_le sides.across (across_side frame))) (above sides.along frame.column_width wide)
      ∙ either-none ((nat_lt 0 (side size.width) && nat_le (side size.width) 65535) && (nat_lt 0 (side size.height) && nat_le (side size.height) 65535))

  asked-tall : is_taller_than_atlas frame size ≡ true → asked frame size ≡ None
  asked-tall tall =
      ap (given ((nat_lt 0 (side size.width) && nat_le (side size.width) 65535) && (nat_lt 0 (side size.height) && nat_le (side size.height) 65535)) (nat_le sides.along frame.column_width)) (above sides.across (across_side frame) tall)
      ∙ ap (λ b. cond ((nat_lt 0 (side size.width) && nat_le (side size.width) 65535) && (nat_lt 0 (side size.height) && nat_le (side size.height) 65535)) (cond b (Some sides) None) None) (and-false (nat_le sides.along frame.column_width))
      ∙ either-none ((nat_lt 0 (side size.width) && nat_le (side size.width) 65535) && (nat_lt 0 (side size.height) && nat_le (side size.height) 65535))

module _ (state : AtlasState) (valid : IsValid state) (size : Size) where
  -- what is asked for
  abbrev asks : Sides
  asks = rounded state.frame size

  abbrev height : ℕ
  height = shelf_height state.frame asks.across

  -- where no shelf has room, nothing is chosen
  chosen-no_room : has_no_room state asks ≡ true → chosen state asks ≡ None
  chosen-no_room none = by_choice (chosen state asks) refl
    where
      by_choice : (o : Option Placement) → chosen state asks ≡ o → o ≡ None
      by_choice None e = refl
      by_choice (Some placement) e =
          let rule = chosen-by_rule state valid asks placement e in
          let wide : asks.along ≤ widest_for state asks = fits-widest asks.along height state.shelves placement.shelf rule.shelf rule.at rule.fits in
          absurd (grind (arith, nat_tests, wide, none))

  -- where one has, something is
  chosen-room : asked state.frame size ≡ Some asks → has_no_room state asks ≡ false → (placement : Placement) × (chosen state asks ≡ Some placement)
  chosen-room is room = by_choice (chosen state asks) refl
    where
      by_choice : (o : Option Placement) → chosen state asks ≡ o → (placement : Placement) × (chosen state asks ≡ Some placement)
      by_choice None e =
          let positive : 1 ≤ asks.along = (asked-sides 65535 state.frame size asks valid.frame is).along in
          let wide : asks.along ≤ widest_for state asks = grind (arith, nat_tests, room) in
          let found = widest-fits asks.along height state.shelves positive wide in
          absurd (none_chosen-none_fits state valid asks e found.number found.shelf found.at found.fits)
      by_choice (Some placement) e = (placement, e)

  -- the place of what is asked for, by what is chosen
  abbrev placed : Option Sides → Option Placement
  placed o =
      option_and_then
      (λ sides. option_and_then
      (λ placement. cond (nat_le (items_in_use state.shelves + splits placement) 65535) (Some placement) None)
      (chosen state sides))
      o

  abbrev with_records : Option Placement → Option Placement
  with_records o = option_and_then (λ placement. cond (nat_le (items_in_use state.shelves + splits placement) 65535) (Some placement) None) o

  abbrev lacks : Option Placement → Bool
  lacks o = option_map_or (λ placement. nat_lt 65535 (items_in_use state.shelves + splits placement)) o false

  -- the reasons, by their tests
  abbrev first_reason : Bool → Bool → Bool → Bool → Bool → Bool → Option Refusal
  first_reason missing long wide tall no_room no_records =
      option_map_or
      (λ reason. Some (of_size reason))
      (cond missing (Some sizes.NotPositive)
      (cond long (Some sizes.TooLong)
      (cond wide (Some sizes.WiderThanColumn)
      (cond tall (Some sizes.TallerThanAtlas) None))))
      (cond no_room (Some (NoRoom (widest_for state asks))) (cond no_records (Some NoRecords) None))

  -- there is no reason exactly where there is a place
  pub exact : (refusal state size ≡ None) ↔ IsTrue (is_some (placement_of state size))
  exact =
      by_tests (is_not_positive size) (is_too_long size) (is_wider_than_column state.frame size) (is_taller_than_atlas state.frame size) (has_no_room state asks) refl refl refl refl refl
    where
      neither : (o : Option Refusal) (p : Option Placement) (reason : Refusal) → o ≡ Some reason → p ≡ None → (o ≡ None) ↔ IsTrue (is_some p)
      neither o p reason e f = (λ h. absurd (cc), λ h. absurd (let no : false ≡ true = subst IsTrue (ap is_some f) h in cc))

      by_records : (p : Placement) (b : Bool) → nat_le (items_in_use state.shelves + splits p) 65535 ≡ b
          → (cond (nat_lt 65535 (items_in_use state.shelves + splits p)) (Some NoRecords) None ≡ None) ↔ IsTrue (is_some (cond b (Some p) None))
      by_records p true e =
          let few : nat_lt 65535 (items_in_use state.shelves + splits p) ≡ false = grind (arith, nat_tests) in
          (λ h. refl, λ h. ap (λ b. cond b (Some NoRecords) None) few)
      by_records p false e =
          let many : nat_lt 65535 (items_in_use state.shelves + splits p) ≡ true = grind (arith, nat_tests) in
          (λ h. absurd (let reason : Some NoRecords ≡ None = ap (λ b. cond b (Some NoRecords) None) (sym many) ∙ h in cc), λ h. absurd (cc))

      by_tests : (missing long wide tall no_room : Bool) → is_not_positive size ≡ missing → is_too_long size ≡ long → is_wider_than_column state.frame size ≡ wide → is_taller_than_atlas state.frame size ≡ tall → has_no_room state asks ≡ no_room
          → (first_reason missing long wide tall no_room (lacks_records state asks) ≡ None) ↔ IsTrue (is_some (placement_of state size))
      by_tests true long wide tall no_room a b c d e = neither _ _ NotPositive refl (ap placed (asked-missing state.frame size a))
      by_tests false true wide tall no_room a b c d e = neither _ _ TooLong refl (ap placed (asked-long state.frame size b))
      by_tests false false true tall no_room a b c d e = neither _ _ WiderThanColumn refl (ap placed (asked-wide state.frame size c))
      by_tests false false false true no_room a b c d e = neither _ _ TallerThanAtlas refl (ap placed (asked-tall state.frame size d))
      by_tests false false false false true a b c d e =
          neither _ _ (NoRoom (widest_for state asks)) refl (ap placed (asked-rounded state.frame size a b c d) ∙ ap with_records (chosen-no_room e))
      by_tests false false false false false a b c d e =
          let is = asked-rounded state.frame size a b c d in
          let found = chosen-room is e in
          let place : placement_of state size ≡ with_records (Some found.0) = ap placed is ∙ ap with_records found.1 in
          let lack : lacks_records state asks ≡ lacks (Some found.0) = ap lacks found.1 in
          rw (place, lack) (by_records found.0 (nat_le (items_in_use state.shelves + splits found.0) 65535) refl)

  -- no room is the reason exactly where no shelf fits
  pub no_room : (widest : ℕ) → (refusal state size ≡ Some (NoRoom widest)) ↔ HasNoRoom state size widest
  no_room widest =
      by_tests (is_not_positive size) (is_too_long size) (is_wider_than_column state.frame size) (is_taller_than_atlas state.frame size) (has_no_room state asks) (lacks_records state asks) refl refl refl refl refl
    where
      by_tests : (missing long wide tall none records : Bool) → is_not_positive size ≡ missing → is_too_long size ≡ long → is_wider_than_column state.frame size ≡ wide → is_taller_than_atlas state.frame size ≡ tall → has_no_room state asks ≡ none
          → (first_reason missing long wide tall none records ≡ Some (NoRoom widest)) ↔ HasNoRoom state size widest
      by_tests true long wide tall none records a b c d e = (λ h. absurd (cc), λ h. absurd (let asked_none = asked-missing state.frame size a in let some = h.asks in cc))
      by_tests false true wide tall none records a b c d e = (λ h. absurd (cc), λ h. absurd (let asked_none = asked-long state.frame size b in let some = h.asks in cc))
      by_tests false false true tall none records a b c d e = (λ h. absurd (cc), λ h. absurd (let asked_none = asked-wide state.frame size c in let some = h.asks in cc))
      by_tests false false false true none records a b c d e = (λ h. absurd (cc), λ h. absurd (let asked_none = asked-tall state.frame size d in let some = h.asks in cc))
      by_tests false false false false true records a b c d e = (
        λ h.
            record {
              asks = asked-rounded state.frame size a b c d;
              none = λ found.
                  let wide : asks.along ≤ widest_for state asks = fits-widest asks.along height state.shelves found.number found.shelf found.at found.fits in
                  grind (arith, nat_tests, wide, e);
              widest = cc;
            },
        λ h. let same = h.widest in ap (λ w. Some (NoRoom w)) (sym same),
      )
      by_tests false false false false false true a b c d e = (λ h. absurd (cc), λ h. absurd (room h))
        where
          room : HasNoRoom state size widest → ⊥
          room h =
              let positive : 1 ≤ asks.along = (asked-sides 65535 state.frame size asks valid.frame h.asks).along in
              let wide : asks.along ≤ widest_for state asks = grind (arith, nat_tests, e) in
              h.none (widest-fits asks.along height state.shelves positive wide)
      by_tests false false false false false false a b c d e = (λ h. absurd (cc), λ h. absurd (room h))
        where
          room : HasNoRoom state size widest → ⊥
          room h =
              let positive : 1 ≤ asks.along = (asked-sides 65535 state.frame size asks valid.frame h.asks).along in
              let wide : asks.along ≤ widest_for state asks = grind (arith, nat_tests, e) in
              h.none (widest-fits asks.along height state.shelves positive wide)
