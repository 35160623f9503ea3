-- Texts that save an atlas, from what was read, written and restored.
use Rattle.std.proofs.Common.{◌≡◌, ◌<◌, ℕ, List, Option, Some, length, subst, sym}
use Rattle.std.specs.Prelude.{IfNone, IfOk, IfSome, Result, Ok, Err}
use Rattle.std.specs.Result.{result_ok}
use Rattle.c_answers.specs.Calls.{IsWritten}
use Rattle.c_answers.specs.Saving.{IsSavedBeyond, IsSavedIn}

-- what is there of a text that was written, where each such text has it
pub some_of : {V E : Type 0} (Was Is : V → Type 0) (written : Result V E) (text : Option V) → text ≡ result_ok written
    → IfOk written Was → ((one : V) → Was one → Is one) → IfSome text Is
some_of Was Is (Ok one) text same was on = subst (λ other. IfSome other Is) (sym same) (on one was)
some_of Was Is (Err fault) text same was on = subst (λ other. IfSome other Is) (sym same) tt

-- what was made has what each has that is made
pub ok_is : {V E : Type 0} (Was : V → Type 0) (made : Result V E) (one : V) → result_ok made ≡ Some one → IfOk made Was → Was one
ok_is Was (Ok other) one same was = subst (λ found. IfSome found Was) same was
ok_is Was (Err fault) one same was = subst (λ found. IfNone found (Was one)) (sym same) tt

-- what was made has it, where each such one has it
pub ok_on : {V E : Type 0} (Was Is : V → Type 0) (made : Result V E) → IfOk made Was
    → ((one : V) → Was one → Is one) → IfOk made Is
ok_on Was Is (Ok one) was on = on one was
ok_on Was Is (Err fault) was on = tt

module _ {S : Type 0} (SavesIt : List ℕ → S → Type 0) (held : Option S) (state : S) (is : held ≡ Some state) (text : List ℕ)
    (saves : SavesIt text state) where
  pub saved_in : (old new : List ℕ) (count : ℕ) → IsWritten text old new count
      → IfSome held (λ state. IsSavedIn SavesIt state old new count)
  saved_in old new count written =
      subst (λ other. IfSome other (λ state. IsSavedIn SavesIt state old new count)) (sym is)
      (record { text = text; saves = saves; written = written })

  pub saved_beyond : (room count : ℕ) → room < length text → count ≡ length text
      → IfSome held (λ state. IsSavedBeyond SavesIt state room count)
  saved_beyond room count longer counted =
      subst (λ other. IfSome other (λ state. IsSavedBeyond SavesIt state room count)) (sym is)
      (record { text = text; saves = saves; longer = longer; counted = counted })
