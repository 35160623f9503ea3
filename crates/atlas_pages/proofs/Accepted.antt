-- Options of pages without a fault: an atlas can be made of them, and there may be a page; and there may be more.
use Rattle.std.proofs.Common.{◌≡◌, ℕ, ◌≤◌, ◌==◌, Bool, true, false, cond, Option, None, Some, refl, arith}
use Rattle.std.proofs.lemmas.Bool.Decides.{nat_tests}
use Rattle.etagere_base.specs.declared.faults.OptionsFault.{OptionsFault}
use Rattle.etagere_base.specs.Frames.{IsAccepted, longest_side, options_fault}
use Rattle.atlas_pages.specs.declared.faults.PagesFault.TheVariants.{NoPages}
use Rattle.atlas_pages.specs.declared.options.PageOptions.{PageOptions}
use Rattle.atlas_pages.specs.Pages.{ArePageOptions, or_no_pages}

-- there is no fault of an atlas where there is none of pages
pub atlas-accepted : (options : PageOptions) → ArePageOptions options → IsAccepted longest_side options.size options.atlas
atlas-accepted options none = by_fault (options_fault longest_side options.size options.atlas) none
  where
    by_fault : (o : Option OptionsFault) → or_no_pages options.most_pages o ≡ None → o ≡ None
    by_fault None h = refl
    by_fault (Some fault) h = absurd (cc)

-- more pages are no fault
pub or_no_pages-more : (few most : ℕ) (o : Option OptionsFault) → few ≤ most → or_no_pages few o ≡ None → or_no_pages most o ≡ None
or_no_pages-more few most (Some fault) more h = absurd (cc)
or_no_pages-more few most None more h = by_test (few == 0) (most == 0) refl refl h
  where
    by_test : (a b : Bool) → (few == 0) ≡ a → (most == 0) ≡ b → cond a (Some NoPages) None ≡ None → cond b (Some NoPages) None ≡ None
    by_test a false some is h = refl
    by_test true true some is h = h
    by_test false true some is h = absurd (grind (arith, nat_tests))
