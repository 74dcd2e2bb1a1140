-- When a request's call on its file starts, the file can make it, and the change's record place is as the call needs it.
-- Used by: calls_can_start, calls_have_words, mw_table, mw_law_threads.
use Rattle.std.specs.Prelude.{ℕ, zero, suc, ◌≡◌, ◌+◌, ◌<◌, ◌≤◌, ◌&&◌, if◌then◌else◌, ◌==◌, ◌⊎◌, Bool, true, false, not, nat_lt, List, length}
use Rattle.std.proofs.Common.{refl, sym, ap, subst, ◌∙◌, inl, inr, arith}
use Rattle.std.proofs.lemmas.Bool.Decides.{nat_tests}
use Rattle.mw_words.specs.declared.jobs.Entry.{Entry}
use Rattle.mw_words.specs.declared.statuses.Status.{Status}
use Rattle.mw_words.specs.declared.statuses.Status.TheVariants.{Draft, Open, YesDirty, Yes, No, DoneYes, DoneNo}
use Rattle.mw_words.specs.Change.{is_change}
use Rattle.mw_look.specs.declared.steps.Call.{Call}
use Rattle.mw_look.specs.declared.steps.Call.TheVariants.{Prepare as PrepareCall, Seal as SealCall, Settle as SettleCall, Cancel as CancelCall}
use Rattle.mw_actor.specs.ActorState.{ActorState, own_entries}
use Rattle.mw_world.specs.Files.State.{File, Place, Empty, Prepared, Sealed, empty_from, entries_at, entries_in, is_apart, is_empty, is_prepared, is_sealed, share_a_word}
use Rattle.mw_world.specs.declared.config.Config.{Config}
use Rattle.mw_world.specs.Claim.Headline.{CanBeMade}
use Rattle.mw_world.specs.Claim.Invariant.{placed}
use Rattle.mw_world.specs.Definition.Calls.{Called, can_be_made, fails_on, is_formed, place_for, starts_from, suits}
use Rattle.mw_world.specs.Definition.State.{State, tenant_at, tenants_of}
use Rattle.mw_law_runs.specs.RunInvariant.{IsSound}
use Rattle.mw_law_runs.proofs.RunsAreSound.{runs_are_sound}
use Rattle.mw_law_runs.proofs.GuardedEvents.{first_holds, second_holds}
use Rattle.mw_law_store.specs.Files.Files.{HasFiles}
use Rattle.mw_law_store.proofs.Files.Filed.{empty_there}
use Rattle.mw_law_store.proofs.Files.CallsCanBeMade.{calls_can_be_made}
use Rattle.mw_law_store.proofs.Files.RunsKeepFiles.{runs_have_files}
use Rattle.mw_rule.specs.Calls.CallStarts.{CallsCanStart, CallsHaveWords, CanStart, HasPrepared, IsFitFor}

below : (n limit : ℕ) → nat_lt n limit ≡ true → n < limit
below n limit is = grind (arith, nat_tests, is)

is_below : (n limit : ℕ) → n < limit → nat_lt n limit ≡ true
is_below n limit low = grind (arith, nat_tests, low)

-- Places.

empty_is : (place : Place) → is_empty place ≡ true → place ≡ Empty
empty_is Empty is = refl
empty_is (Prepared entries) is = absurd (cc)
empty_is (Sealed entries) is = absurd (cc)

prepared_is : (place : Place) → is_prepared place ≡ true → place ≡ Prepared (entries_in place)
prepared_is Empty is = absurd (cc)
prepared_is (Prepared entries) is = refl
prepared_is (Sealed entries) is = absurd (cc)

sealed_is : (place : Place) → is_sealed place ≡ true → place ≡ Sealed (entries_in place)
sealed_is Empty is = absurd (cc)
sealed_is (Prepared entries) is = absurd (cc)
sealed_is (Sealed entries) is = refl

sealed_some : (place : Place) → is_sealed place ≡ true → is_empty place ≡ false
sealed_some Empty is = absurd (cc)
sealed_some (Prepared entries) is = refl
sealed_some (Sealed entries) is = refl

prepared_some : (place : Place) → is_prepared place ≡ true → is_empty place ≡ false
prepared_some Empty is = absurd (cc)
prepared_some (Prepared entries) is = refl
prepared_some (Sealed entries) is = refl

-- the entries in the place of a change that is in its file
entries_placed : (status : Status) (entries : List Entry) → is_empty (placed status entries) ≡ false → entries_in (placed status entries) ≡ entries
entries_placed Draft entries some = absurd (cc)
entries_placed Open entries some = refl
entries_placed YesDirty entries some = refl
entries_placed Yes entries some = refl
entries_placed (No entry value) entries some = refl
entries_placed DoneYes entries some = absurd (cc)
entries_placed (DoneNo entry value) entries some = absurd (cc)

here_or_on : (one other : ℕ) → one ≤ other → (one ≡ other) ⊎ (one + 1 ≤ other)
here_or_on one other low = by_test (one == other) refl
  where
    by_test : (test : Bool) → (one == other) ≡ test → (one ≡ other) ⊎ (one + 1 ≤ other)
    by_test true is = inl (grind (arith, nat_tests, is))
    by_test false is = inr (grind (arith, nat_tests, is, low))

here_or_less : (one other : ℕ) → one < suc other → (one ≡ other) ⊎ (one < other)
here_or_less one other low = by_test (one == other) refl
  where
    by_test : (test : Bool) → (one == other) ≡ test → (one ≡ other) ⊎ (one < other)
    by_test true is = inl (grind (arith, nat_tests, is))
    by_test false is = inr (grind (arith, nat_tests, is, low))

-- no place below the lowest empty one is empty
used_below : (file : File) (first left other : ℕ) → first ≤ other → other < empty_from file first left → is_empty (file.places other) ≡ false
used_below file first zero other low high = absurd (omega (arith, low, high))
used_below file first (suc left) other low high = by_test (is_empty (file.places first)) refl high (used_below file (first + 1) left other)
  where
    by_first : (first ≡ other) ⊎ (first + 1 ≤ other) → is_empty (file.places first) ≡ false → (first + 1 ≤ other → is_empty (file.places other) ≡ false) → is_empty (file.places other) ≡ false
    by_first (inl here) is on = subst (λ (k : ℕ). is_empty (file.places k) ≡ false) here is
    by_first (inr after) is on = on after

    by_test : (test : Bool) → is_empty (file.places first) ≡ test → other < (if test then first else empty_from file (first + 1) left)
        → (first + 1 ≤ other → other < empty_from file (first + 1) left → is_empty (file.places other) ≡ false) → is_empty (file.places other) ≡ false
    by_test true is less on = absurd (omega (arith, low, less))
    by_test false is less on = by_first (here_or_on first other low) is (λ after. on after less)

-- no sealed place among the first so many shares a word with these entries
each_apart : (file : File) (entries : List Entry) (places other : ℕ) → is_apart file entries places ≡ true → other < places → is_sealed (file.places other) ≡ true
    → share_a_word entries (entries_at file other) ≡ false
each_apart file entries zero other is low sealed = absurd (omega (arith, low))
each_apart file entries (suc place) other is low sealed =
    by_place (here_or_less other place low)
    (each_apart file entries place other (first_holds (is_apart file entries place) (not (is_sealed (file.places place) && share_a_word entries (entries_at file place))) is))
  where
    last : not (is_sealed (file.places place) && share_a_word entries (entries_at file place)) ≡ true
    last = second_holds (is_apart file entries place) (not (is_sealed (file.places place) && share_a_word entries (entries_at file place))) is

    not_both : (one two : Bool) → not (one && two) ≡ true → one ≡ true → two ≡ false
    not_both one two is here = grind (arith, is, here)

    by_place : (other ≡ place) ⊎ (other < place) → (other < place → is_sealed (file.places other) ≡ true → share_a_word entries (entries_at file other) ≡ false)
        → share_a_word entries (entries_at file other) ≡ false
    by_place (inl here) on =
        subst (λ (k : ℕ). share_a_word entries (entries_at file k) ≡ false) (sym here)
        (not_both (is_sealed (file.places place)) (share_a_word entries (entries_at file place)) last (subst (λ (k : ℕ). is_sealed (file.places k) ≡ true) here sealed))
    by_place (inr less) on = on less sealed

module _ (config : Config) (state : State) (sound : IsSound config state) (has : HasFiles config state) (tenant : ℕ) (there : tenant < tenants_of config) where
  abbrev file : File
  file = (state.tenant_states tenant).file

  abbrev places : ℕ
  places = (state.tenant_states tenant).quota

  -- each change in the file is one of the file's words, in one of the places of the quota
  record IsKept (place : ℕ) : Type 0 where
    within : place < places
    formed : is_change (length file.contents) (entries_at file place) ≡ true

  kept : (place : ℕ) → is_empty (file.places place) ≡ false → IsKept place
  kept place some =
      let at = has.places.in_use tenant place there some in
      let seq = (state.cells.gates at.slot).seq in
      let change = state.history.change at.slot seq in
      let stands = ap (λ (n : ℕ). file.places n) (sym at.is) ∙ has.places.there tenant at.slot at.in_file in
      let entries : entries_at file place ≡ change = ap entries_in stands ∙ entries_placed (state.history.fate at.slot seq) change at.in_file.in_file in
      let formed = (sound.memory.claims.formed at.slot seq (sound.memory.claims.claimed at.slot at.in_file.taken)).1 in
      let words : (tenant_at config (state.history.tenant at.slot seq)).words ≡ length file.contents =
      ap (λ (n : ℕ). (tenant_at config n).words) at.in_file.same_tenant ∙ sym (has.told tenant there).long in
      record {
        within = subst (λ (n : ℕ). n < places) at.is (has.places.within tenant at.slot at.in_file);
        formed = (λ i. is_change (sym words i) (entries i)) ∙ formed;
      }

  prepared_fits : (place : ℕ) → is_prepared (file.places place) ≡ true → HasPrepared file places place
  prepared_fits place is =
      let its = kept place (prepared_some (file.places place) is) in
      record { within = its.within; stands = prepared_is (file.places place) is; formed = its.formed }

  -- the place suits the call, so it is as the call needs it
  fit : (call : Call) (slot : ℕ) (entries : List Entry) → can_be_made call file places (place_for call file places slot) entries ≡ true → IsFitFor call file places (place_for call file places slot) entries
  fit PrepareCall slot entries can =
      let low = below (empty_from file 0 places) places (second_holds (is_formed PrepareCall file entries) (suits PrepareCall file places (empty_from file 0 places)) can) in
      record {
        within = low;
        empty = empty_is (file.places (empty_from file 0 places)) (empty_there file 0 places (omega (arith, low)));
        lowest = λ other less. used_below file 0 places other (omega arith) less;
        formed = first_holds (is_formed PrepareCall file entries) (suits PrepareCall file places (empty_from file 0 places)) can;
      }
  fit SealCall slot entries can =
      let place = file.place_of slot in
      let both = first_holds (nat_lt place places && is_prepared (file.places place)) (is_apart file (entries_at file place) places) can in
      let apart = second_holds (nat_lt place places && is_prepared (file.places place)) (is_apart file (entries_at file place) places) can in
      record {
        prepared = prepared_fits place (second_holds (nat_lt place places) (is_prepared (file.places place)) both);
        apart = λ other sealed. each_apart file (entries_at file place) places other apart (kept other (sealed_some (file.places other) sealed)).within sealed;
      }
  fit SettleCall slot entries can =
      let place = file.place_of slot in
      let sealed = second_holds (nat_lt place places) (is_sealed (file.places place)) can in
      let its = kept place (sealed_some (file.places place) sealed) in
      record { within = its.within; stands = sealed_is (file.places place) sealed; formed = its.formed }
  fit CancelCall slot entries can = prepared_fits (file.place_of slot) (second_holds (nat_lt (file.place_of slot) places) (is_prepared (file.places (file.place_of slot))) can)

  -- its place is one of those of the quota
  within_so : (call : Call) (place : ℕ) (entries : List Entry) → IsFitFor call file places place entries → place < places
  within_so PrepareCall place entries fits = fits.within
  within_so SealCall place entries fits = fits.prepared.within
  within_so SettleCall place entries fits = fits.within
  within_so CancelCall place entries fits = fits.within

  pub can_start : (actor : ActorState) (called : Called) → actor.tenant ≡ tenant → starts_from called.call (state.cells.statuses called.change.slot) ≡ true → fails_on called.call file ≡ false
      → CanBeMade config state actor called file places → CanStart config actor called file places
  can_start actor called same starts fine can =
      let done = can.call starts fine in
      let fits = fit called.call called.change.slot (own_entries actor) done in
      record {
        long = (has.told tenant there).long ∙ ap (λ (n : ℕ). (tenant_at config n).words) (sym same);
        within = within_so called.call (place_for called.call file places called.change.slot) (own_entries actor) fits;
        can = done;
        fit = fits;
      }

pub calls_have_words : CallsHaveWords
calls_have_words config openings events state worker actor called played at =
    let sound = (runs_are_sound config openings events state played).0 in
    let can = calls_can_be_made config state worker actor called sound (runs_have_files config openings events state played) at.sits at.comes_to in
    let low = (sound.counts.worker_states worker actor at.sits).tenant in
    record { tenant = low; slot = can.slot; status = can.slot; door = is_below actor.tenant (tenants_of config) low }

pub calls_can_start : CallsCanStart
calls_can_start config openings events state worker actor called played at starts fine =
    let sound = (runs_are_sound config openings events state played).0 in
    let has = runs_have_files config openings events state played in
    can_start config state sound has actor.tenant (sound.counts.worker_states worker actor at.sits).tenant actor called refl starts fine
    (calls_can_be_made config state worker actor called sound has at.sits at.comes_to)
