-- Words of the tenants' files, and the entries of changes in them, stay in range: after a call, at an opening, and at a
-- start. Used by: ArrivalsAndStarts, RunsAreSound.
use Rattle.std.specs.Prelude.{ℕ, zero, suc, ◌≡◌, ◌<◌, ◌≤◌, ◌==◌, ◌&&◌, ◌||◌, Bool, true, false, if◌then◌else◌, nat_lt, List, [], ◌∷◌, length, slice_set, bytes_eq, Option, Some, None}
use Rattle.std.specs.Option.{option_map}
use Rattle.std.proofs.Common.{refl, sym, subst, arith}
use Rattle.std.proofs.lemmas.Bool.Decides.{nat_tests}
use Rattle.std.proofs.lemmas.List.{get_or_past}
use Rattle.std.proofs.lemmas.List.Elements.{All-set}
use Rattle.std.proofs.lemmas.Slice.Eq.{bytes_eq-Decides}
use Rattle.mw_words.specs.declared.jobs.Entry.{Entry}
use Rattle.mw_words.specs.declared.jobs.Job.{Job}
use Rattle.mw_words.specs.declared.jobs.Job.TheVariants.{Get, Cas}
use Rattle.mw_words.specs.declared.limits.TheConstants.{MAX_VALUE, MAX_WORDS}
use Rattle.mw_words.specs.declared.statuses.Status.{Status}
use Rattle.mw_words.specs.Change.{AreWords, is_change, put, word_at}
use Rattle.mw_look.specs.declared.steps.Call.{Call}
use Rattle.mw_look.specs.declared.steps.Call.TheVariants.{Prepare as PrepareCall, Seal as SealCall, Settle as SettleCall, Cancel as CancelCall}
use Rattle.mw_actor.specs.declared.points.Slot.{Slot}
use Rattle.mw_actor.specs.ActorState.{ActorState, entries_of_job, own_entries}
use Rattle.mw_actor.specs.Ranges.{IsFormed}
use Rattle.mw_world.specs.declared.outcomes.Outcome.{Outcome}
use Rattle.mw_world.specs.declared.outcomes.Outcome.TheVariants.{Good, Fail}
use Rattle.mw_world.specs.Files.State.{File, Place, Empty, Prepared, Sealed, file_of, entries_in, entries_at, broken}
use Rattle.mw_world.specs.Maps.{upd}
use Rattle.mw_world.specs.declared.config.Config.{Config}
use Rattle.mw_world.specs.declared.step_labels.StepLabel.TheVariants.{Nothing}
use Rattle.mw_world.specs.Definition.Calls.{Called, breaks, called_at, doubt_of, ends, faults, filed, goes_well, is_made, moved_if, place_for, skips}
use Rattle.mw_world.specs.declared.events.Interrupted.{Interrupted}
use Rattle.mw_world.specs.Definition.Events.{Found}
use Rattle.mw_world.specs.Definition.Restarts.{UnderWay, stopped_call, doubt_if, doubt_then, found_of, is_sealed_then, may_all_be_found, may_be_found, may_fail, may_find, may_interrupt, nothing_found, opened_file, stopped_at, takes, under_way}
use Rattle.mw_world.specs.Definition.State.{State, TenantState, tenants_of}
use Rattle.mw_world.specs.Definition.Turns.{Made, moved}
use Rattle.mw_law_runs.proofs.GuardedEvents.{first_holds, second_holds}
use Rattle.mw_law_runs.specs.Files.{AreEntries, FileFits, FilesFit}

-- words that fit, one by one
pub words_fit : (words : List ℕ) (address : ℕ) → AreWords words → word_at words address ≤ MAX_VALUE
words_fit words address are = by_test (nat_lt address (length words)) refl
  where
    by_test : (b : Bool) → nat_lt address (length words) ≡ b → word_at words address ≤ MAX_VALUE
    by_test true is = are address 0 (grind (arith, nat_tests, is))
    by_test false is = subst (λ (n : ℕ). n ≤ MAX_VALUE) (sym (get_or_past words address 0 (grind (arith, nat_tests, is)))) (omega arith)

-- a change's words fit
puts_fit : (entries : List Entry) (words : List ℕ) → AreEntries entries → AreWords words → AreWords (put words entries)
puts_fit [] words fit are = are
puts_fit (entry ∷ entries) words fit are =
    let both = first_and_rest entry entries fit in
    puts_fit entries (slice_set words entry.addr entry.new) both.1 (All-set (λ (value : ℕ). value ≤ MAX_VALUE) words entry.addr entry.new both.0 are)
  where
    first_and_rest : (entry : Entry) (entries : List Entry) → AreEntries (entry ∷ entries) → (entry.new ≤ MAX_VALUE) × AreEntries entries
    first_and_rest entry entries fit = (grind (arith, nat_tests, fit), grind (arith, nat_tests, fit))

-- what a request writes fits
pub own_fit : (job : Job) → IsFormed job → AreEntries (entries_of_job job)
own_fit (Get address) formed = refl
own_fit (Cas entries) formed = by_change entries.items formed
  where
    by_change : (entries : List Entry) → is_change MAX_WORDS entries ≡ true → AreEntries entries
    by_change entries is = grind (arith, nat_tests, is)

place_set : (places : ℕ → Place) (place other : ℕ) (to : Place) → AreEntries (entries_in to) → ((place : ℕ) → AreEntries (entries_in (places place))) → AreEntries (entries_in (upd places place to other))
place_set places place other to here there = grind (arith, nat_tests, here, there other)

-- A file after a call that went well, and after one in which the device failed.
filed_fits : (call : Call) (file : File) (slot place : ℕ) (entries : List Entry) → AreEntries entries → FileFits file → FileFits (filed call file slot place entries)
filed_fits PrepareCall file slot place entries fit fits = record { contents = fits.contents; places = λ other. place_set file.places place other (Prepared entries) fit fits.places; doubt = fits.doubt }
filed_fits SealCall file slot place entries fit fits = record {
  contents = puts_fit (entries_at file place) file.contents (fits.places place) fits.contents;
  places = λ other. place_set file.places place other (Sealed (entries_at file place)) (fits.places place) fits.places;
  doubt = fits.doubt;
}
filed_fits SettleCall file slot place entries fit fits = record { contents = fits.contents; places = λ other. place_set file.places place other Empty refl fits.places; doubt = fits.doubt }
filed_fits CancelCall file slot place entries fit fits = record { contents = fits.contents; places = λ other. place_set file.places place other Empty refl fits.places; doubt = fits.doubt }

broken_fits : (file : File) (doubt : List Entry) → AreEntries doubt → FileFits file → FileFits (broken file doubt)
broken_fits file doubt fit fits = record { contents = fits.contents; places = fits.places; doubt = fit }

doubt_fits : (call : Call) (file : File) (place : ℕ) → FileFits file → AreEntries (doubt_of call (entries_at file place))
doubt_fits SealCall file place fits = fits.places place
doubt_fits PrepareCall file place fits = refl
doubt_fits SettleCall file place fits = refl
doubt_fits CancelCall file place fits = refl

-- A new file, and one that was opened.
pub new_fits : (words : List ℕ) → AreWords words → FileFits (file_of words)
new_fits words are = record { contents = are; places = λ place. refl; doubt = refl }

pub opened_fits : (words : List ℕ) (fails : Option ℕ) → AreWords words → FileFits (opened_file words fails)
opened_fits words None are = new_fits words are
opened_fits words (Some number) are = broken_fits (file_of words) [] refl (new_fits words are)

-- A start: what an interrupted call leaves in doubt, and what may be found.
abbrev CallFits : Option UnderWay → Type 0
CallFits None = Unit {0}
CallFits (Some call) = AreEntries call.entries

module _ (config : Config) (state : State) (fit : FilesFit state) where
  stopped_fits : (made : ℕ) (found : Option ActorState) → CallFits (stopped_at config state made found)
  stopped_fits made None = tt
  stopped_fits made (Some actor) = by_called (called_at actor.point)
    where
      by_called : (called : Option Called) → CallFits (option_map (stopped_call config state actor made) called)
      by_called None = tt
      by_called (Some called) =
          (fit actor.tenant).places (place_for called.call (state.tenant_states actor.tenant).file (state.tenant_states actor.tenant).quota called.change.slot)

  under_way_fits : (interrupted : Option Interrupted) → CallFits (under_way config state interrupted)
  under_way_fits None = tt
  under_way_fits (Some interrupted) = stopped_fits interrupted.made (state.worker_states interrupted.worker).actor

in_doubt_fits : (call : Call) (doubt entries : List Entry) (made : ℕ) → AreEntries doubt → AreEntries entries → AreEntries (doubt_if call doubt made entries)
in_doubt_fits SealCall doubt entries made old new = by_test (made == 0)
  where
    by_test : (b : Bool) → AreEntries (if b then doubt else entries)
    by_test true = old
    by_test false = new
in_doubt_fits PrepareCall doubt entries made old new = old
in_doubt_fits SettleCall doubt entries made old new = old
in_doubt_fits CancelCall doubt entries made old new = old

doubt_then_fits : (file : File) (call : Option UnderWay) → FileFits file → CallFits call → AreEntries (doubt_then file call)
doubt_then_fits file None fits called = fits.doubt
doubt_then_fits file (Some call) fits called = in_doubt_fits call.call file.doubt call.entries call.made fits.doubt called

same_words : (words others : List ℕ) → bytes_eq words others ≡ true → AreWords others → AreWords words
same_words words others is are = subst AreWords (sym ((bytes_eq-Decides words others).0 is)) are

taken_fits : (before : List ℕ) (doubt : List Entry) (words : List ℕ) → takes before doubt words ≡ true → AreEntries doubt → AreWords before → AreWords words
taken_fits before [] words is fit are = absurd (grind (arith, is))
taken_fits before (entry ∷ entries) words is fit are = same_words words (put before (entry ∷ entries)) is (puts_fit (entry ∷ entries) before fit are)

found_fits : (is_sealed : Bool) (before : List ℕ) (doubt : List Entry) (words : List ℕ) → may_find is_sealed before doubt words ≡ true → AreEntries doubt → AreWords before → AreWords words
found_fits true before doubt words is fit are = same_words words (put before doubt) is (puts_fit doubt before fit are)
found_fits false before doubt words is fit are = by_test (bytes_eq words before) refl is
  where
    by_test : (b : Bool) → bytes_eq words before ≡ b → (b || takes before doubt words) ≡ true → AreWords words
    by_test true same may = same_words words before same are
    by_test false other may = taken_fits before doubt words may fit are

middle : (one two three : Bool) → (one && two && three) ≡ true → two ≡ true
middle true true three is = refl
middle true false three is = absurd (grind (arith, is))
middle false two three is = absurd (grind (arith, is))

module _ (config : Config) (state : State) (founds : List Found) (fit : FilesFit state) where
  one_found : (tenant : ℕ) (found : Found) → may_be_found config state tenant found ≡ true → AreWords found.words
  one_found tenant found may =
      let file = (state.tenant_states tenant).file in
      let call = under_way config state found.interrupted in
      found_fits (is_sealed_then call) file.contents (doubt_then file call) found.words
      (middle (may_interrupt config state tenant found.interrupted) (may_find (is_sealed_then call) file.contents (doubt_then file call) found.words) (may_fail found.opening_calls found.fails_at) may)
      (doubt_then_fits file call (fit tenant) (under_way_fits config state fit found.interrupted)) (fit tenant).contents

  among_all : (many tenant : ℕ) → may_all_be_found config state founds many ≡ true → tenant < many → may_be_found config state tenant (found_of founds tenant) ≡ true
  among_all zero tenant may low = absurd (omega (arith, low))
  among_all (suc many) tenant may low = by_test (tenant == many) refl (among_all many tenant)
    where
      by_test : (b : Bool) → (tenant == many) ≡ b → (may_all_be_found config state founds many ≡ true → tenant < many → may_be_found config state tenant (found_of founds tenant) ≡ true)
          → may_be_found config state tenant (found_of founds tenant) ≡ true
      by_test true is others =
          subst (λ (n : ℕ). may_be_found config state n (found_of founds n) ≡ true) (grind (arith, nat_tests, is))
          (second_holds (may_all_be_found config state founds many) (may_be_found config state many (found_of founds many)) may)
      by_test false is others =
          others (first_holds (may_all_be_found config state founds many) (may_be_found config state many (found_of founds many)) may) (grind (arith, nat_tests, is, low))

  no_words : AreWords []
  no_words index none low = absurd (omega (arith, low))

  pub all_found : (length founds == tenants_of config) ≡ true → may_all_be_found config state founds (tenants_of config) ≡ true → (tenant : ℕ) → AreWords (found_of founds tenant).words
  all_found many may tenant = by_test (nat_lt tenant (tenants_of config)) refl
    where
      by_test : (b : Bool) → nat_lt tenant (tenants_of config) ≡ b → AreWords (found_of founds tenant).words
      by_test true is = one_found tenant (found_of founds tenant) (among_all (tenants_of config) tenant may (grind (arith, nat_tests, is)))
      by_test false is = subst (λ (found : Found). AreWords found.words) (sym (get_or_past founds tenant nothing_found (grind (arith, nat_tests, is, many)))) no_words

-- Files still fit after one tenant's state is replaced by one whose file fits.
tenant_state_set : (tenant_states : ℕ → TenantState) (tenant other : ℕ) (tenant_state : TenantState) → FileFits tenant_state.file → ((tenant : ℕ) → FileFits (tenant_states tenant).file) → FileFits (upd tenant_states tenant tenant_state other).file
tenant_state_set tenant_states tenant other tenant_state here there = by_test (other == tenant) refl
  where
    by_test : (b : Bool) → (other == tenant) ≡ b → FileFits (if b then tenant_state else tenant_states other).file
    by_test true is = here
    by_test false is = there other

module _ (state : State) (worker : ℕ) (actor : ActorState) (fit : FilesFit state) (entries : AreEntries (own_entries actor)) where
  after_made : (made : Made) (next : State) → FileFits made.file → moved_if state worker actor (Some made) ≡ Some next → FilesFit next
  after_made made next fits is = subst FilesFit (some_same (moved state worker actor made) next is) (λ tenant. tenant_state_set state.tenant_states actor.tenant tenant _ fits fit)
    where
      some_same : (one next : State) → Some one ≡ Some next → one ≡ next
      some_same one next is = cc

  after_none : (next : State) → moved_if state worker actor None ≡ Some next → FilesFit next
  after_none next is = absurd (none_some next is)
    where
      none_some : (next : State) → None ≡ Some next → ⊥
      none_some next e = cc

  broken_if : (test : Bool) (call : Call) (change : Slot) (place : ℕ) (next : State)
      → moved_if state worker actor (if test then Some (breaks state actor change (state.tenant_states actor.tenant).file call place) else None) ≡ Some next → FilesFit next
  broken_if true call change place next is =
      let file = (state.tenant_states actor.tenant).file in
      after_made (breaks state actor change file call place) next (broken_fits file (doubt_of call (entries_at file place)) (doubt_fits call file place (fit actor.tenant)) (fit actor.tenant)) is
  broken_if false call change place next is = after_none next is

  -- a call, by whether it starts, whether the file had failed, and whether it can be made
  pub called_fits : (starts had_failed can_be : Bool) (call : Call) (change : Slot) (status : Status) (place calls : ℕ) (outcome : Outcome) (next : State)
      → moved_if state worker actor (ends state actor change (state.tenant_states actor.tenant).file starts had_failed can_be call status place calls outcome) ≡ Some next → FilesFit next
  called_fits false had_failed can_be call change status place calls Good next is = after_made (skips state actor change (state.tenant_states actor.tenant).file) next (fit actor.tenant) is
  called_fits false had_failed can_be call change status place calls (Fail number) next is = after_none next is
  called_fits true true can_be call change status place calls Good next is =
      after_made (faults state actor change (state.tenant_states actor.tenant).file (state.tenant_states actor.tenant).file Nothing) next (fit actor.tenant) is
  called_fits true true can_be call change status place calls (Fail number) next is = after_none next is
  called_fits true false true call change status place calls Good next is =
      let file = (state.tenant_states actor.tenant).file in
      after_made (goes_well state actor change file call status place) next (filed_fits call file change.slot place (own_entries actor) entries (fit actor.tenant)) is
  called_fits true false true call change status place calls (Fail number) next is = broken_if (is_made calls number) call change place next is
  called_fits true false false call change status place calls outcome next is = after_none next is
