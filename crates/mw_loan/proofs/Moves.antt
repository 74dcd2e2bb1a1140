-- Each step on a box keeps the rule, and the rule holds of a new box. Used by: calls of src/loan_box.rt.
use Rattle.std.proofs.Common.{◌≡◌, ◌≢◌, ◌⊎◌, ℕ, zero, suc, ◌<◌, List, [], ◌∷◌, ◌++◌, length, set, Some, None, Option, Bool, true, false, true≢false, refl, sym, ap, ◌∙◌, subst, ⊎_elim, eqb}
use Rattle.std.specs.Prelude.{slice_index}
use mathlib.Core.Option.{some, none, some-ne-none, some-injective}
use lib.ListN.{get_elem?}
use prog.Atomic.{either}
use Rattle.atomic_table.specs.Table.{State, Me, Act, keeps, takes, gives, step, stepped, Allows, Enters, Valid, carried_after, opening, rest}
use Rattle.atomic_table.proofs.Lists.{at_set, at_snoc, exchanged}
use Rattle.mw_loan.specs.declared.views.Role.{Role}
use Rattle.mw_loan.specs.declared.views.Role.TheVariants.{Nobody, Owner, Borrower, Opener}
use Rattle.mw_loan.specs.declared.views.Stage.{Stage}
use Rattle.mw_loan.specs.declared.views.Stage.TheVariants.{Empty, Waiting, Borrowed, Returned, Open}
use Rattle.mw_loan.specs.declared.views.View.{View}
use Rattle.mw_loan.specs.Rule.{FitsAs, HasAt, Holds, LastsFrom, is_home, is_left, nobody, stage_of, viewed}
use Rattle.mw_loan.specs.Plays.{borrowed, borrower, came, left_by, opened, opener, owner, put_back, reopened, stranger}

module _ {T : Type 0} where
  -- the facts of all views, after one of them has changed
  abbrev All : Stage → ℕ → ℕ → Option T → List (View T) → Type 0
  All stage owner holder left views = (by : ℕ) (view : View T) → get_elem? views by ≡ some view → FitsAs view.role stage owner holder left view.left by

  all_set : (stage : Stage) (owner holder : ℕ) (left : Option T) (views : List (View T)) (by : ℕ) (now : View T)
      → ((other : ℕ) (view : View T) → other ≢ by → get_elem? views other ≡ some view → FitsAs view.role stage owner holder left view.left other)
      → FitsAs now.role stage owner holder left now.left by → All stage owner holder left (set views by now)
  all_set stage owner holder left views by now others mine other view e =
      ⊎_elim
      (λ (x : (other ≡ by) × (now ≡ view)). subst (λ (y : ℕ × View T). FitsAs y.1.role stage owner holder left y.1.left y.0) (λ i. (sym x.0 i, x.1 i)) mine)
      (λ (x : (other ≢ by) × (get_elem? views other ≡ some view)). others other view x.0 x.1)
      (at_set views by other now view e)

  -- at an empty box every thread is nobody
  none_at_empty : (role : Role) (who holder now other : ℕ) (left is known : Option T) (stage : Stage) (by : ℕ) → FitsAs role Empty who holder left known by → FitsAs role stage now other is known by
  none_at_empty Nobody who holder now other left is known stage by fits = tt
  none_at_empty Owner who holder now other left is known stage by fits = absurd (true≢false (sym fits.2))
  none_at_empty Borrower who holder now other left is known stage by fits = absurd (cc)
  none_at_empty Opener who holder now other left is known stage by fits = absurd (cc)

  -- at an open box every other thread is nobody
  none_at_open : (role : Role) (who holder now other : ℕ) (left is known : Option T) (stage : Stage) (by mine : ℕ) → mine ≡ holder → by ≢ mine → FitsAs role Open who holder left known by → FitsAs role stage now other is known by
  none_at_open Nobody who holder now other left is known stage by mine own apart fits = tt
  none_at_open Owner who holder now other left is known stage by mine own apart fits = absurd (true≢false (sym fits.2))
  none_at_open Borrower who holder now other left is known stage by mine own apart fits = absurd (cc)
  none_at_open Opener who holder now other left is known stage by mine own apart fits = absurd (apart (fits.0 ∙ sym own))

  -- what other threads know while a thread borrows the value, or gives it back
  others_at_home : (role : Role) (who holder other : ℕ) (left known : Option T) (stage : Stage) (by : ℕ) → is_home stage ≡ true → FitsAs role stage who holder left known by → FitsAs role Borrowed who other left known by
  others_at_home Nobody who holder other left known stage by home fits = tt
  others_at_home Owner who holder other left known stage by home fits = (fits.0, fits.1, refl)
  others_at_home Borrower who holder other left known stage by home fits = absurd (true≢false (sym home ∙ ap is_home fits.2))
  others_at_home Opener who holder other left known stage by home fits = absurd (true≢false (sym home ∙ ap is_home fits.1))

  others_at_loan : (role : Role) (who holder : ℕ) (left known : Option T) (by mine : ℕ) → mine ≡ holder → by ≢ mine → FitsAs role Borrowed who holder left known by → FitsAs role Returned who holder left known by
  others_at_loan Nobody who holder left known by mine own apart fits = tt
  others_at_loan Owner who holder left known by mine own apart fits = (fits.0, fits.1, refl)
  others_at_loan Borrower who holder left known by mine own apart fits = absurd (apart (fits.0 ∙ sym own))
  others_at_loan Opener who holder left known by mine own apart fits = absurd (cc)

  -- what they know while the owner opens its box again
  others_at_end : (role : Role) (who holder other : ℕ) (left known : Option T) (stage : Stage) (by mine : ℕ) → is_home stage ≡ true → mine ≡ who → by ≢ mine → FitsAs role stage who holder left known by → FitsAs role Open who other left known by
  others_at_end Nobody who holder other left known stage by mine home own apart fits = tt
  others_at_end Owner who holder other left known stage by mine home own apart fits = absurd (apart (fits.0 ∙ sym own))
  others_at_end Borrower who holder other left known stage by mine home own apart fits = absurd (true≢false (sym home ∙ ap is_home fits.2))
  others_at_end Opener who holder other left known stage by mine home own apart fits = absurd (true≢false (sym home ∙ ap is_home fits.1))

  -- what is known to have been left, or else this
  abbrev known_or : Option T → T → T
  known_or None other = other
  known_or (Some left) other = left

  -- what a seat has taken
  abbrev content_of : List (ℕ × Option T) → Option T
  content_of [] = None
  content_of (x ∷ xs) = x.1

  module _ (lasts : T → T → Type 0) where
    abbrev S : Type 0
    S = State (Option T) (View T)

    -- a new box
    pub begins : (words : List ℕ) (homes : List (Option T)) → words ≡ 0 ∷ [] → homes ≡ None ∷ [] → Holds lasts (opening words homes nobody)
    begins words homes e f = record {
      number = 0;
      word = e;
      home = some None;
      slot = ap (λ l. Rattle.std.proofs.Common.map some l) f;
      owner = 0;
      holder = 0;
      left = None;
      has = refl;
      fits = fit;
    }
      where
        fit : All Empty 0 0 None (nobody ∷ [])
        fit zero view e = subst (λ (v : View T). FitsAs v.role Empty 0 0 None v.left 0) (some-injective _ _ e) tt
        fit (suc by) view e = absurd (some-ne-none view (sym e))

    -- a thread comes
    pub comes : (slots : ℕ) → Enters (Holds lasts) slots 0 (λ n w. came (step slots 0 0 0 none) (nobody, []) n (w, []))
    comes slots s h sized bound = (nobody, record { number = h.number; word = h.word; home = h.home; slot = h.slot; owner = h.owner; holder = h.holder; left = h.left; has = h.has; fits = fit }, refl)
      where
        fit : All (stage_of h.number) h.owner h.holder h.left (s.views ++ nobody ∷ [])
        fit by view e = ⊎_elim (λ was. h.fits by view was) (λ (same : nobody ≡ view). subst (λ (v : View T). FitsAs v.role (stage_of h.number) h.owner h.holder h.left v.left by) same tt) (at_snoc s.views nobody view by e)

    number_found : (s : S) (h : Holds lasts s) (n : ℕ) → slice_index s.words 0 ≡ n → h.number ≡ n
    number_found s h n e = sym (ap (λ l. slice_index l 0) h.word) ∙ e

    -- a thread that finds another number changes nothing
    stays : (s : S) (h : Holds lasts s) (id : ℕ) (v : View T) → get_elem? s.views id ≡ some v → Holds lasts (stepped s 0 (slice_index s.words 0) id [] v keeps)
    stays s h id v at = record {
      number = h.number;
      word = ap (λ l. set l 0 (slice_index l 0)) h.word;
      home = h.home;
      slot = h.slot;
      owner = h.owner;
      holder = h.holder;
      left = h.left;
      has = h.has;
      fits = all_set (stage_of h.number) h.owner h.holder h.left s.views id v (λ other view apart e. h.fits other view e) (h.fits id v at);
    }

    -- a thread opens an empty box
    pub opens : (slots id : ℕ) → Allows (Holds lasts) slots id stranger 0 (λ n. either (eqb n 0) 4 n) (opened (step slots 0 0 4 none) stranger)
    opens slots id s h sized at bound = exchanged (slice_index s.words 0) 0 4
        (λ x. (w : View T) × (a : Act (Option T)) × Valid s.homes [] a × Holds lasts (stepped s 0 x id [] w a) × opened (step slots 0 0 4 none) stranger (slice_index s.words 0) (w, carried_after [] a))
        hit (λ ne. (nobody, keeps, tt, stays s h id nobody at, λ e. absurd (ne e)))
      where
        hit : slice_index s.words 0 ≡ 0 → (w : View T) × (a : Act (Option T)) × Valid s.homes [] a × Holds lasts (stepped s 0 4 id [] w a) × opened (step slots 0 0 4 none) stranger (slice_index s.words 0) (w, carried_after [] a)
        hit e = let is = number_found s h 0 e in
            let there : h.home ≡ some None = subst (λ n. HasAt lasts (stage_of n) h.left h.home) is h.has in (
              viewed Opener None,
              takes 0 None,
              ap (λ l. get_elem? l 0) h.slot ∙ ap some there,
              record {
                number = 4;
                word = ap (λ l. set l 0 4) h.word;
                home = none;
                slot = ap (λ l. set l 0 none) h.slot;
                owner = h.owner;
                holder = id;
                left = h.left;
                has = refl;
                fits = all_set Open h.owner id h.left s.views id (viewed Opener None)
                    (λ other view apart e. none_at_empty view.role h.owner h.holder h.owner id h.left h.left view.left Open other (subst (λ n. FitsAs view.role (stage_of n) h.owner h.holder h.left view.left other) is (h.fits other view e))) (refl, refl);
              },
              λ _. refl,
            )

    -- it leaves a value
    pub leaves : (slots id : ℕ) (value : T) → lasts value value → Allows (Holds lasts) slots id (opener (Some value)) 0 (λ _. 1) (λ _. left_by (step slots 0 1 0 none) (opener (Some value)) 1)
    leaves slots id value lasting s h sized at bound = let mine = h.fits id (viewed Opener None) at in (
      viewed Owner (Some value),
      gives,
      tt,
      record {
        number = 1;
        word = ap (λ l. set l 0 1) h.word;
        home = some (Some value);
        slot = ap (λ l. set l 0 (some (Some value))) h.slot;
        owner = id;
        holder = h.holder;
        left = Some value;
        has = (value, refl, lasting);
        fits = all_set Waiting id h.holder (Some value) s.views id (viewed Owner (Some value))
            (λ other view apart e. none_at_open view.role h.owner h.holder id h.holder h.left (Some value) view.left Waiting other id mine.0 apart
            (subst (λ t. FitsAs view.role t h.owner h.holder h.left view.left other) mine.1 (h.fits other view e)))
            (refl, refl, refl);
      },
      λ other e. ap (λ (me : Me (Option T) (View T)). (viewed Owner (content_of me.1), [])) e,
    )

    -- it closes an empty box
    pub closes : (slots id : ℕ) → Allows (Holds lasts) slots id (opener None) 0 (λ _. 0) (λ _. put_back (step slots 0 0 0 none) (opener None) 0)
    closes slots id s h sized at bound = let mine = h.fits id (viewed Opener None) at in (
      nobody,
      gives,
      tt,
      record {
        number = 0;
        word = ap (λ l. set l 0 0) h.word;
        home = some None;
        slot = ap (λ l. set l 0 (some None)) h.slot;
        owner = h.owner;
        holder = h.holder;
        left = h.left;
        has = refl;
        fits = all_set Empty h.owner h.holder h.left s.views id nobody
            (λ other view apart e. none_at_open view.role h.owner h.holder h.owner h.holder h.left h.left view.left Empty other id mine.0 apart
            (subst (λ t. FitsAs view.role t h.owner h.holder h.left view.left other) mine.1 (h.fits other view e)))
            tt;
      },
      refl,
    )

    -- what a box has in which a value is
    record HasValue (left home : _) : Type 0 where
      was : T
      value : T
      is : home ≡ some (Some value)
      left_is : left ≡ Some was
      goes_on : lasts was value

    has_from : (left : Option T) (home : mathlib.Core.Option.Option (Option T)) (value : T) → home ≡ some (Some value) → LastsFrom lasts left value → HasValue left home
    has_from None home value is goes_on = absurd goes_on
    has_from (Some was) home value is goes_on = record { was = was; value = value; is = is; left_is = refl; goes_on = goes_on }

    has_value : (stage : Stage) (left : Option T) (home : mathlib.Core.Option.Option (Option T)) → is_home stage ≡ true → HasAt lasts stage left home → HasValue left home
    has_value Empty left home at has = absurd (true≢false (sym at))
    has_value Waiting left home at has = has_from left home has.0 has.1 has.2
    has_value Borrowed left home at has = absurd (true≢false (sym at))
    has_value Returned left home at has = has_from left home has.0 has.1 has.2
    has_value Open left home at has = absurd (true≢false (sym at))

    -- a thread borrows the value
    pub borrows : (slots id from : ℕ) → is_home (stage_of from) ≡ true → Allows (Holds lasts) slots id stranger 0 (λ n. either (eqb n from) 2 n) (borrowed lasts (step slots 0 from 2 none) stranger)
    borrows slots id from there s h sized at bound = exchanged (slice_index s.words 0) from 2
        (λ x. (w : View T) × (a : Act (Option T)) × Valid s.homes [] a × Holds lasts (stepped s 0 x id [] w a) × borrowed lasts (step slots 0 from 2 none) stranger (slice_index s.words 0) (w, carried_after [] a))
        hit (λ ne. (nobody, keeps, tt, stays s h id nobody at, λ e. absurd (ne e)))
      where
        hit : slice_index s.words 0 ≡ from → (w : View T) × (a : Act (Option T)) × Valid s.homes [] a × Holds lasts (stepped s 0 2 id [] w a) × borrowed lasts (step slots 0 from 2 none) stranger (slice_index s.words 0) (w, carried_after [] a)
        hit e = let is = number_found s h from e in let home : is_home (stage_of h.number) ≡ true = ap (λ n. is_home (stage_of n)) is ∙ there in
            let has = has_value (stage_of h.number) h.left h.home home h.has in (
              viewed Borrower (Some has.was),
              takes 0 (Some has.value),
              ap (λ l. get_elem? l 0) h.slot ∙ ap some has.is,
              record {
                number = 2;
                word = ap (λ l. set l 0 2) h.word;
                home = none;
                slot = ap (λ l. set l 0 none) h.slot;
                owner = h.owner;
                holder = id;
                left = h.left;
                has = refl;
                fits = all_set Borrowed h.owner id h.left s.views id (viewed Borrower (Some has.was))
                    (λ other view apart e. others_at_home view.role h.owner h.holder id h.left view.left (stage_of h.number) other home (h.fits other view e)) (refl, sym has.left_is, refl);
              },
              λ _. record { left = has.was; value = has.value; is = refl; goes_on = has.goes_on },
            )

    -- it gives the value back
    pub returns : (slots id : ℕ) (left value : T) → lasts left value → Allows (Holds lasts) slots id (borrower left (Some value)) 0 (λ _. 3) (λ _. put_back (step slots 0 3 0 none) (borrower left (Some value)) 3)
    returns slots id left value lasting s h sized at bound = let mine = h.fits id (viewed Borrower (Some left)) at in (
      nobody,
      gives,
      tt,
      record {
        number = 3;
        word = ap (λ l. set l 0 3) h.word;
        home = some (Some value);
        slot = ap (λ l. set l 0 (some (Some value))) h.slot;
        owner = h.owner;
        holder = h.holder;
        left = h.left;
        has = (value, refl, subst (λ known. LastsFrom lasts known value) mine.1 lasting);
        fits = all_set Returned h.owner h.holder h.left s.views id nobody
            (λ other view apart e. others_at_loan view.role h.owner h.holder h.left view.left other id mine.0 apart
            (subst (λ t. FitsAs view.role t h.owner h.holder h.left view.left other) mine.2 (h.fits other view e)))
            tt;
      },
      refl,
    )

    -- the owner opens its box again
    pub reopens : (slots id from : ℕ) (was : T) → is_home (stage_of from) ≡ true → Allows (Holds lasts) slots id (owner was) 0 (λ n. either (eqb n from) 4 n) (reopened lasts (step slots 0 from 4 none) (owner was))
    reopens slots id from was there s h sized at bound = exchanged (slice_index s.words 0) from 4
        (λ x. (w : View T) × (a : Act (Option T)) × Valid s.homes [] a × Holds lasts (stepped s 0 x id [] w a) × reopened lasts (step slots 0 from 4 none) (owner was) (slice_index s.words 0) (w, carried_after [] a))
        hit (λ ne. (viewed Owner (Some was), keeps, tt, stays s h id (viewed Owner (Some was)) at, λ left same. ((λ e. absurd (ne e)), (λ _. same))))
      where
        mine : (id ≡ h.owner) × (Some was ≡ h.left) × (is_left (stage_of h.number) ≡ true)
        mine = h.fits id (viewed Owner (Some was)) at

        hit : slice_index s.words 0 ≡ from → (w : View T) × (a : Act (Option T)) × Valid s.homes [] a × Holds lasts (stepped s 0 4 id [] w a) × reopened lasts (step slots 0 from 4 none) (owner was) (slice_index s.words 0) (w, carried_after [] a)
        hit e = let is = number_found s h from e in let home : is_home (stage_of h.number) ≡ true = ap (λ n. is_home (stage_of n)) is ∙ there in
            let has = has_value (stage_of h.number) h.left h.home home h.has in (
              viewed Opener None,
              takes 0 (Some has.value),
              ap (λ l. get_elem? l 0) h.slot ∙ ap some has.is,
              record {
                number = 4;
                word = ap (λ l. set l 0 4) h.word;
                home = none;
                slot = ap (λ l. set l 0 none) h.slot;
                owner = h.owner;
                holder = id;
                left = h.left;
                has = refl;
                fits = all_set Open h.owner id h.left s.views id (viewed Opener None)
                    (λ other view apart e. others_at_end view.role h.owner h.holder id h.left view.left (stage_of h.number) other id home mine.0 apart (h.fits other view e)) (refl, refl);
              },
              λ left same. (
                (λ _. record { value = has.value; is = refl; goes_on = subst (λ (l : T). lasts l has.value) (ap (λ (known : Option T). known_or known was) (sym has.left_is ∙ sym mine.1 ∙ ap (λ (me : Me (Option T) (View T)). me.0.left) same)) has.goes_on }),
                (λ ne. absurd (ne e)),
              ),
            )

    -- the same at a seat of which it is known what it is
    pub opens_as : (slots id : ℕ) (me : Me (Option T) (View T)) → me ≡ stranger → Allows (Holds lasts) slots id me 0 (λ n. either (eqb n 0) 4 n) (opened (step slots 0 0 4 none) me)
    opens_as slots id me is = subst (λ (m : Me (Option T) (View T)). Allows (Holds lasts) slots id m 0 (λ n. either (eqb n 0) 4 n) (opened (step slots 0 0 4 none) m)) (sym is) (opens slots id)

    pub leaves_as : (slots id : ℕ) (me : Me (Option T) (View T)) (value : T) → me ≡ opener (Some value) → lasts value value → Allows (Holds lasts) slots id me 0 (λ _. 1) (λ _. left_by (step slots 0 1 0 none) me 1)
    leaves_as slots id me value is lasting = subst (λ (m : Me (Option T) (View T)). Allows (Holds lasts) slots id m 0 (λ _. 1) (λ _. left_by (step slots 0 1 0 none) m 1)) (sym is) (leaves slots id value lasting)

    pub borrows_as : (slots id from : ℕ) (me : Me (Option T) (View T)) → me ≡ stranger → is_home (stage_of from) ≡ true → Allows (Holds lasts) slots id me 0 (λ n. either (eqb n from) 2 n) (borrowed lasts (step slots 0 from 2 none) me)
    borrows_as slots id from me is home = subst (λ (m : Me (Option T) (View T)). Allows (Holds lasts) slots id m 0 (λ n. either (eqb n from) 2 n) (borrowed lasts (step slots 0 from 2 none) m)) (sym is) (borrows slots id from home)

    pub returns_as : (slots id : ℕ) (me : Me (Option T) (View T)) (left value : T) → me ≡ borrower left (Some value) → lasts left value → Allows (Holds lasts) slots id me 0 (λ _. 3) (λ _. put_back (step slots 0 3 0 none) me 3)
    returns_as slots id me left value is lasting = subst (λ (m : Me (Option T) (View T)). Allows (Holds lasts) slots id m 0 (λ _. 3) (λ _. put_back (step slots 0 3 0 none) m 3)) (sym is) (returns slots id left value lasting)

    pub reopens_as : (slots id from : ℕ) (me : Me (Option T) (View T)) (was : T) → me ≡ owner was → is_home (stage_of from) ≡ true → Allows (Holds lasts) slots id me 0 (λ n. either (eqb n from) 4 n) (reopened lasts (step slots 0 from 4 none) me)
    reopens_as slots id from me was is home = subst (λ (m : Me (Option T) (View T)). Allows (Holds lasts) slots id m 0 (λ n. either (eqb n from) 4 n) (reopened lasts (step slots 0 from 4 none) m)) (sym is) (reopens slots id from was home)

    pub closes_as : (slots id : ℕ) (me : Me (Option T) (View T)) → me ≡ opener None → Allows (Holds lasts) slots id me 0 (λ _. 0) (λ _. put_back (step slots 0 0 0 none) me 0)
    closes_as slots id me is = subst (λ (m : Me (Option T) (View T)). Allows (Holds lasts) slots id m 0 (λ _. 0) (λ _. put_back (step slots 0 0 0 none) m 0)) (sym is) (closes slots id)

-- what a seat has that has one slot: its content, and how it changes
module _ {T : Type 0} where
  pub taken : (me : Me (Option T) (View T)) (view : View T) (content : Option T) → me ≡ (view, (0, content) ∷ []) → me.1 ≡ (0, content) ∷ rest me.1
  taken me view content is = let slots = ap (λ (m : Me (Option T) (View T)). m.1) is in slots ∙ ap (λ l. (0, content) ∷ rest l) (sym slots)

  pub found : (me : Me (Option T) (View T)) (view : View T) (content result : Option T) → me ≡ (view, (0, content) ∷ []) → me.1 ≡ (0, result) ∷ rest me.1 → result ≡ content
  found me view content result is has = ap (λ (l : List (ℕ × Option T)). content_of l) (sym has ∙ ap (λ (m : Me (Option T) (View T)). m.1) is)

  pub put : (me next : Me (Option T) (View T)) (view : View T) (content new : Option T) → me ≡ (view, (0, content) ∷ []) → next ≡ (me.0, (0, new) ∷ rest me.1) → next ≡ (view, (0, new) ∷ [])
  put me next view content new is has = has ∙ ap (λ (m : Me (Option T) (View T)). (m.0, (0, new) ∷ rest m.1)) is

  pub same_content : (one other : T) → Some one ≡ Some other → one ≡ other
  same_content one other is = ap (λ (known : Option T). known_or known one) is
