-- Snapshots that stand for pages: one more of both, the page of a number, and what they can't be.
use Rattle.std.proofs.Common.{◌≡◌, ℕ, zero, suc, ◌≤◌, Some, List, [], ◌∷◌, ◌++◌, length, refl, ap, sym, ◌∙◌, subst, arith, Result, Ok, Err}
use Rattle.std.specs.Prelude.{IfErr, IfOk, slice_get}
use Rattle.std.specs.List.{AllByRecursion}
use Rattle.etagere_base.specs.declared.frames.Frame.{Frame}
use Rattle.etagere_base.proofs.EachLemmas.{Each-get, Each-weaken}
use Rattle.shelf_model.specs.State.{AtlasState}
use Rattle.snapshot_records.specs.declared.shelves.AtlasSnapshot.{AtlasSnapshot}
use Rattle.shelf_records.specs.Snapshots.{snapshot_records}
use Rattle.shelf_records.specs.StandsFor.{StandsFor}
use Rattle.shelf_restoring.proofs.Loaded.WalksRestore.{stands-whole}
use Rattle.atlas_pages.specs.declared.faults.PagesRestoreFault.{PagesRestoreFault}
use Rattle.atlas_pages.specs.declared.faults.PagesRestoreFault.TheVariants.{Options, TooManyPages, Page, OtherFrame, Memory}
use Rattle.atlas_pages.specs.declared.options.PageOptions.{PageOptions}
use Rattle.atlas_pages.specs.declared.saving.PagesSnapshot.{PagesSnapshot}
use Rattle.atlas_pages.specs.Pages.{ArePageOptions, PagesState, page_frame}
use Rattle.atlas_pages.specs.Promises.{IsPage, KeepsPagesPromises}
use Rattle.atlas_pages.specs.Private.Restored.{IsRefusedAt}
use Rattle.atlas_pages.specs.Saved.{ArePagesBroken, BrokenPagesStandForNone, EachStandsFor, PagesStandFor, PagesStandForOne}

-- one more of both
pub stands-more : (saved : List AtlasSnapshot) (pages : List AtlasState) (snapshot : AtlasSnapshot) (page : AtlasState)
    → EachStandsFor saved pages → StandsFor (snapshot_records snapshot) page
    → EachStandsFor (saved ++ snapshot ∷ []) (pages ++ page ∷ [])
stands-more [] [] snapshot page each here = (here, tt)
stands-more [] (p ∷ pages) snapshot page each here = absurd each
stands-more (s ∷ saved) [] snapshot page each here = absurd each
stands-more (s ∷ saved) (p ∷ pages) snapshot page each here = (each.0, stands-more saved pages snapshot page each.1 here)

-- there are as many of both
pub stands-length : (saved : List AtlasSnapshot) (pages : List AtlasState) → EachStandsFor saved pages → length saved ≡ length pages
stands-length [] [] each = refl
stands-length [] (p ∷ pages) each = absurd each
stands-length (s ∷ saved) [] each = absurd each
stands-length (s ∷ saved) (p ∷ pages) each = ap suc (stands-length saved pages each.1)

-- what a snapshot of a number stands for
record StandsAt (pages : List AtlasState) (n : ℕ) (snapshot : AtlasSnapshot) : Type 0 where
  page : AtlasState
  at : slice_get pages n ≡ Some page
  stands : StandsFor (snapshot_records snapshot) page

stands-at : (saved : List AtlasSnapshot) (pages : List AtlasState) (n : ℕ) (snapshot : AtlasSnapshot) → EachStandsFor saved pages
    → slice_get saved n ≡ Some snapshot → StandsAt pages n snapshot
stands-at [] pages n snapshot each at = absurd (cc)
stands-at (s ∷ saved) [] n snapshot each at = absurd each
stands-at (s ∷ saved) (p ∷ pages) zero snapshot each at =
    let same : s ≡ snapshot = cc in
    record { page = p; at = refl; stands = subst (λ (x : AtlasSnapshot). StandsFor (snapshot_records x) p) same each.0 }
stands-at (s ∷ saved) (p ∷ pages) (suc n) snapshot each at =
    let later = stands-at saved pages n snapshot each.1 at in
    record { page = later.page; at = later.at; stands = later.stands }

-- snapshots stand for one list of pages
stand-one : (saved : List AtlasSnapshot) (pages others : List AtlasState) → EachStandsFor saved pages → EachStandsFor saved others → pages ≡ others
stand-one [] [] [] one two = refl
stand-one [] (p ∷ pages) others one two = absurd one
stand-one [] [] (q ∷ others) one two = absurd two
stand-one (s ∷ saved) [] others one two = absurd one
stand-one (s ∷ saved) (p ∷ pages) [] one two = absurd two
stand-one (s ∷ saved) (p ∷ pages) (q ∷ others) one two =
    ap (λ (x : AtlasState). x ∷ pages) (one.0.spelled ∙ sym two.0.spelled)
    ∙ ap (λ (l : List AtlasState). q ∷ l) (stand-one saved pages others one.1 two.1)

pub pages-one : PagesStandForOne
pages-one snapshot state other one two =
    ap (λ (o : PageOptions). record { options = o; pages = state.pages }) (one.options ∙ sym two.options)
    ∙ ap (λ (l : List AtlasState). record { options = other.options; pages = l })
    (stand-one snapshot.pages.items state.pages other.pages one.pages two.pages)

-- a snapshot that breaks a rule stands for none
pub pages-none : BrokenPagesStandForNone
pages-none snapshot state (Options fault) broken stands = let accepted = stands.accepted in absurd (cc)
pages-none snapshot state TooManyPages broken stands = absurd (omega (arith, broken, stands.few))
pages-none snapshot state (Page page fault) broken stands =
    let there = stands-at snapshot.pages.items state.pages page broken.snapshot stands.pages broken.is_saved in
    absurd (broken.rule (stands-whole (snapshot_records broken.snapshot)
    (subst (StandsFor (snapshot_records broken.snapshot)) there.stands.spelled there.stands) fault broken.broken))
pages-none snapshot state (OtherFrame page) broken stands =
    let there = stands-at snapshot.pages.items state.pages page broken.snapshot stands.pages broken.is_saved in
    absurd (broken.other (sym (ap (λ (s : AtlasState). s.frame) there.stands.spelled)
    ∙ Each-get (λ (p : AtlasState). p.frame ≡ page_frame snapshot.options) state.pages page there.page there.at stands.frames))
pages-none snapshot state Memory broken stands = refl

-- what is refused of one snapshot is broken of all
pub refused-broken : (snapshot : PagesSnapshot) (frame : Frame) (number : ℕ) (saved : AtlasSnapshot) (fault : PagesRestoreFault)
    → frame ≡ page_frame snapshot.options → slice_get snapshot.pages.items number ≡ Some saved → IsRefusedAt frame number saved fault
    → ArePagesBroken snapshot fault
refused-broken snapshot frame number saved (Page page fault) same at refused =
    record {
      snapshot = saved;
      is_saved = ap (slice_get snapshot.pages.items) refused.0 ∙ at;
      broken = refused.1;
      rule = refused.2;
    }
refused-broken snapshot frame number saved (OtherFrame page) same at refused =
    record {
      snapshot = saved;
      is_saved = ap (slice_get snapshot.pages.items) refused.0 ∙ at;
      other = λ is. refused.1 (is ∙ sym same);
    }
refused-broken snapshot frame number saved Memory same at refused = tt
refused-broken snapshot frame number saved (Options fault) same at refused = absurd refused
refused-broken snapshot frame number saved TooManyPages same at refused = absurd refused

-- pages are saved as what stands for them
pub stands-saved : (state : PagesState) (snapshot : PagesSnapshot) → KeepsPagesPromises state → snapshot.options ≡ state.options
    → EachStandsFor snapshot.pages.items state.pages → PagesStandFor snapshot state
stands-saved state snapshot keeps same each =
    let few = keeps.few in
    record {
      options = sym same;
      accepted = rw same keeps.options;
      few = omega (arith, few, stands-length snapshot.pages.items state.pages each, ap (λ (o : PageOptions). o.most_pages) same);
      pages = each;
      frames = Each-weaken (IsPage state.options) (λ (p : AtlasState). p.frame ≡ page_frame snapshot.options) state.pages
          (λ p is. is.frame ∙ ap page_frame (sym same)) keeps.pages;
    }

-- pages that were restored are those that a snapshot stands for
pub stands-restored : (snapshot : PagesSnapshot) (pages : List AtlasState)
    → ArePageOptions snapshot.options → length snapshot.pages.items ≤ snapshot.options.most_pages
    → EachStandsFor snapshot.pages.items pages → AllByRecursion (IsPage snapshot.options) pages
    → PagesStandFor snapshot (record { options = snapshot.options; pages = pages })
stands-restored snapshot pages accepted few each are =
    record {
      options = refl;
      accepted = accepted;
      few = few;
      pages = each;
      frames = Each-weaken (IsPage snapshot.options) (λ (p : AtlasState). p.frame ≡ page_frame snapshot.options) pages (λ p is. is.frame) are;
    }

-- what an answer says, said otherwise
pub ok-then : {A B : Type 0} (P Q : A → Type 0) (r : Result A B) → IfOk r P → ((a : A) → P a → Q a) → IfOk r Q
ok-then P Q (Ok a) holds then = then a holds
ok-then P Q (Err b) holds then = tt

pub err-then : {A B : Type 0} (P Q : B → Type 0) (r : Result A B) → IfErr r P → ((b : B) → P b → Q b) → IfErr r Q
err-then P Q (Ok a) holds then = tt
err-then P Q (Err b) holds then = then b holds
