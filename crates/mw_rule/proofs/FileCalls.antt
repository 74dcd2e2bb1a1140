-- Each step of a call on a file keeps the table's rule (`specs/Rule`), and the whole call adds one event to the table's run.
-- Used by: file_calls_keep_the_rule, file_calls_are_events.
use Rattle.std.specs.Prelude.{ℕ, ◌≡◌, ◌<◌, Bool, true, false, List, [], ◌∷◌, ◌++◌, slice_index, slice_set, Some, None}
use Rattle.std.proofs.Common.{refl, sym, ap, subst, ◌∙◌, append-nil, inr}
use mathlib.Core.Option.{some}
use lib.ListN.{get_elem?}
use Rattle.atomic_table.specs.Table.{State as Table, keeps}
use Rattle.mw_words.specs.declared.jobs.Entry.{Entry}
use Rattle.mw_words.specs.declared.places.At.TheVariants.{Door as AtDoor, Status as AtStatus}
use Rattle.mw_words.specs.declared.statuses.Status.{Status}
use Rattle.mw_words.specs.Patterns.{unpacked_status}
use Rattle.mw_words.proofs.PatternLaws.{status_round}
use Rattle.mw_look.specs.declared.steps.Call.{Call}
use Rattle.mw_look.specs.declared.steps.Call.TheVariants.{Prepare as PrepareCall, Seal as SealCall, Settle as SettleCall, Cancel as CancelCall}
use Rattle.mw_look.specs.Places.{pack}
use Rattle.mw_look.specs.Steps.{op_of}
use Rattle.mw_actor.specs.ActorState.{ActorState, own_entries}
use Rattle.mw_world.specs.Files.State.{entries_at}
use Rattle.mw_world.specs.declared.outcomes.Outcome.{Outcome}
use Rattle.mw_world.specs.declared.outcomes.Outcome.TheVariants.{Good, Fail}
use Rattle.mw_world.specs.declared.config.Config.{Config}
use Rattle.mw_world.specs.declared.step_labels.StepLabel.TheVariants.{Nothing}
use Rattle.mw_world.specs.Claim.BitExactness.{IsBitExact}
use Rattle.mw_world.specs.Definition.Calls.{Called as CallOn, breaks, can_be_made, device_calls, doubt_of, faults, goes_well, is_made, place_for, skips, starts_from}
use Rattle.mw_world.specs.Definition.Events.{WorldEvent, File as FileEvent}
use Rattle.mw_world.specs.Definition.State.{TenantStart}
use Rattle.mw_rule.specs.Calls.CallEnds.{exchange_of, fault_of, load_of}
use Rattle.mw_rule.specs.Calls.FileTokens.{TellsFile, file_told, file_token_broken, file_token_filed}
use Rattle.mw_rule.specs.Calls.CallStarts.{CanStart, IsAtCall}
use Rattle.mw_rule.specs.declared.file_token.FileToken.{FileToken}
use Rattle.mw_rule.proofs.Calls.CallEndLaws.{calls_end_well, calls_find_faults, calls_meet_faults, calls_skip}
use Rattle.mw_rule.proofs.Calls.TokensAfterCalls.{file_tokens_follow_calls, file_tokens_follow_faults}
use Rattle.mw_rule.proofs.Calls.CallStartLaws.{calls_can_start}
use Rattle.mw_rule.proofs.FromLaws.{runs_are_bit_exact}
use Rattle.mw_rule.specs.declared.views.Finished.{Finished}
use Rattle.mw_rule.specs.declared.views.HeldFile.{HeldFile}
use Rattle.mw_rule.specs.declared.views.View.{View}
use Rattle.mw_rule.specs.RunEvents.{FileCallsEndOn, FileCallsFindFaultsOn, FileCallsLoadOn, FileCallsMeetFaultsOn, events_loaded, starts_by}
use Rattle.mw_rule.specs.FileCalls.{Calls, LoadedAs, LearnsFileCall, broken_so, fails, filed_so, place_held, places_held, went}
use Rattle.mw_rule.specs.Laws.{FileCallsEndWell, FileCallsFindFaults, FileCallsLoad, FileCallsMeetFaults}
use Rattle.mw_rule.specs.Layout.{index_of}
use Rattle.mw_rule.specs.Rule.{Each, HoldsFile, TableInvariant, WentOnFor}
use Rattle.mw_rule.specs.Ways.{made_of_bits}
use Rattle.mw_rule.proofs.FileCallRule.{call_moves}
use Rattle.mw_rule.proofs.Known.{at_call, held_after, held_file, own_file, same_quota, same_right, starts_so, status_is, tells, tells_call, words}
use Rattle.mw_rule.proofs.SplitLaws.{looks_as}
use Rattle.mw_rule.proofs.ViewAfterStep.{Moved}

-- what the thread learns from a call
went_of : (config : Config) (begun : (ℕ → TenantStart) → List WorldEvent → Type 0) (s : Table ActorState View) (tied : TableInvariant config begun s) (more : List WorldEvent) (id index bits : ℕ) (old : View) (went_well : Bool)
    (held : HeldFile) (after : FileToken)
    → (moved : Moved config begun s tied more id index bits old (went went_well) (record held { file = after; found = None } ∷ []) (λ noted. noted ≡ [])) → LearnsFileCall went_well held after old moved.view
went_of config begun s tied more id index bits old went_well held after moved = record {
  files = record {
    goes_on = moved.goes_on;
    right = moved.right;
    same_mine = moved.mine ∙ ap (λ (more : List Finished). old.mine ++ more) moved.ends ∙ append-nil old.mine;
  };
  token = moved.token;
  ready = moved.ready;
  keeps = moved.same_files;
}

-- What a load of a status leaves, and what the thread learns from it.
record LoadsSo (config : Config) (begun : (ℕ → TenantStart) → List WorldEvent → Type 0) (s : Table ActorState View) (tied : TableInvariant config begun s) (more : List WorldEvent) (id index bits : ℕ) (Tells : View → Type 0) : Type 0 where
  pub view : View
  pub run : WentOnFor config begun s tied more (record { words = slice_set s.words index bits; homes = s.homes; views = slice_set s.views id view }) view
  pub told : Tells view

-- The thread's token gives the worker.
run_of : (config : Config) (begun : (ℕ → TenantStart) → List WorldEvent → Type 0) (s next : Table ActorState View) (tied : TableInvariant config begun s) (one worker : ℕ) (outcome : Outcome) (view : View) → one ≡ worker
    → WentOnFor config begun s tied (FileEvent one outcome ∷ []) next view → WentOnFor config begun s tied (FileEvent worker outcome ∷ []) next view
run_of config begun s next tied one worker outcome view same run = subst (λ (its : ℕ). WentOnFor config begun s tied (FileEvent its outcome ∷ []) next view) same run

-- a file token stays its tenant's
file_token_tenant : (call : Call) (file_token : FileToken) (slot place : ℕ) (entries : List Entry) → (file_token_filed call file_token slot place entries).tenant ≡ file_token.tenant
file_token_tenant PrepareCall file_token slot place entries = refl
file_token_tenant SealCall file_token slot place entries = refl
file_token_tenant SettleCall file_token slot place entries = refl
file_token_tenant CancelCall file_token slot place entries = refl

module _ (config : Config) (begun : (ℕ → TenantStart) → List WorldEvent → Type 0) (s : Table ActorState View) (tied : TableInvariant config begun s) (id : ℕ) (old : View) (at : get_elem? s.views id ≡ some old)
    (worker : ℕ) (actor : ActorState) (called : CallOn) (held : HeldFile) (by : Calls old worker actor called held) where
  abbrev quota : ℕ
  quota = (tied.state.tenant_states actor.tenant).quota

  -- the place that the call is about: in the world, and as the thread knows it
  abbrev place_there : ℕ
  place_there = place_for called.call (tied.state.tenant_states actor.tenant).file (tied.state.tenant_states actor.tenant).quota called.change.slot

  same_place : place_there ≡ place_held old called held
  same_place = (tells_call config begun s tied id old at worker actor called held by).place
      ∙ ap (λ (places : ℕ). place_for called.call (file_told held.file) places called.change.slot) (same_quota config begun s tied id old at worker actor called held by)

  module _ (status : Status) (found : held.found ≡ Some (record { worker = worker; status = status })) (sound : fails old called held ≡ false) where
    start : CanStart config actor called (tied.state.tenant_states actor.tenant).file (tied.state.tenant_states actor.tenant).quota
    start = calls_can_start config tied.past.openings (tied.past.before ++ tied.events) tied.state by.token.worker actor called tied.past.played (at_call config begun s tied id old at worker actor called held by)
        (starts_so config begun s tied id old at worker actor called held by status found) ((tells_call config begun s tied id old at worker actor called held by).fails ∙ sound)

    abbrev index : ℕ
    index = index_of config.pool (AtStatus called.change.slot)

    end_moves : (make : ℕ → ℕ) → ((bits : ℕ) → make bits ≡ made_of_bits (op_of (exchange_of called status)) bits)
        → Moved config begun s tied (FileEvent by.token.worker Good ∷ []) id index (make (slice_index s.words index)) old (went true) (record held { file = filed_so old actor called held; found = None } ∷ [])
        (λ noted. noted ≡ [])
    end_moves make makes =
        let state = tied.state in
        let file = (state.tenant_states actor.tenant).file in
        let is = status_is config begun s tied id old at worker actor called held by status found in
        let made = goes_well state actor called.change file called.call (state.cells.statuses called.change.slot) place_there in
        let ends = calls_end_well config tied.past.openings (tied.past.before ++ tied.events) state by.token.worker actor called tied.past.played
        (at_call config begun s tied id old at worker actor called held by) (starts_so config begun s tied id old at worker actor called held by status found)
        ((tells_call config begun s tied id old at worker actor called held by).fails ∙ sound) in
        let after = filed_so old actor called held in
        let same = file_token_tenant called.call held.file called.change.slot (place_held old called held) (own_entries actor) ∙ by.its in
        let told : TellsFile quota config.pool after made.file =
        subst (λ (place : ℕ). TellsFile quota config.pool (file_token_filed called.call held.file called.change.slot place (own_entries actor)) made.file) same_place
        (file_tokens_follow_calls quota config.pool called.change.slot place_there called.call (own_entries actor) held.file file (tells config begun s tied id old at worker actor called held by) start.within) in
        call_moves config begun s tied id old at by.token by.has.only actor by.carries called by.comes_to Good (exchange_of called (state.cells.statuses called.change.slot)) _ made true refl ends
        (own_file config begun s tied id old at worker actor called held by) index make (record held { file = after; found = None } ∷ []) refl
        (subst (λ (one : Status). (bits : ℕ) → make bits ≡ made_of_bits (op_of (exchange_of called one)) bits) (sym is) makes)
        (same_right config begun s tied id old at worker actor called held by (record held { file = after; found = None }) same)
        (held_after config begun s tied id old at worker actor called held by made after same told)

    -- the device call of this number failed
    break_moves : (number : ℕ) → is_made (device_calls called.call (entries_at (file_told held.file) (place_held old called held))) number ≡ true → (make : ℕ → ℕ)
        → ((bits : ℕ) → make bits ≡ made_of_bits (op_of (fault_of actor)) bits)
        → Moved config begun s tied (FileEvent by.token.worker (Fail number) ∷ []) id (index_of config.pool (AtDoor actor.tenant)) (make (slice_index s.words (index_of config.pool (AtDoor actor.tenant)))) old
        (went false) (record held { file = broken_so old called held; found = None } ∷ []) (λ noted. noted ≡ [])
    break_moves number is_one make makes =
        let state = tied.state in
        let file = (state.tenant_states actor.tenant).file in
        let telling = tells_call config begun s tied id old at worker actor called held by in
        let made = breaks state actor called.change file called.call place_there in
        let known : is_made (device_calls called.call (entries_at file place_there)) number ≡ true =
        ap (λ (calls : ℕ). is_made calls number) (telling.calls start.within ∙ ap (λ (place : ℕ). device_calls called.call (entries_at (file_told held.file) place)) (sym telling.place ∙ same_place)) ∙ is_one in
        let ends = calls_meet_faults config tied.past.openings (tied.past.before ++ tied.events) state by.token.worker actor called number tied.past.played
        (at_call config begun s tied id old at worker actor called held by) (starts_so config begun s tied id old at worker actor called held by status found) (telling.fails ∙ sound) known in
        let after = broken_so old called held in
        let told : TellsFile quota config.pool after made.file =
        subst (λ (place : ℕ). TellsFile quota config.pool (file_token_broken held.file (doubt_of called.call (entries_at (file_told held.file) place))) made.file) same_place
        (file_tokens_follow_faults quota config.pool place_there called.call held.file file (tells config begun s tied id old at worker actor called held by) start.within) in
        call_moves config begun s tied id old at by.token by.has.only actor by.carries called by.comes_to (Fail number) (fault_of actor) _ made false refl ends
        (own_file config begun s tied id old at worker actor called held by) (index_of config.pool (AtDoor actor.tenant)) make (record held { file = after; found = None } ∷ []) refl makes
        (same_right config begun s tied id old at worker actor called held by (record held { file = after; found = None }) by.its)
        (held_after config begun s tied id old at worker actor called held by made after by.its told)

  -- the file had failed before
  fail_moves : (status : Status) → held.found ≡ Some (record { worker = worker; status = status }) → fails old called held ≡ true → (make : ℕ → ℕ)
      → ((bits : ℕ) → make bits ≡ made_of_bits (op_of (fault_of actor)) bits)
      → Moved config begun s tied (FileEvent by.token.worker Good ∷ []) id (index_of config.pool (AtDoor actor.tenant)) (make (slice_index s.words (index_of config.pool (AtDoor actor.tenant)))) old
      (went false) (record held { file = held.file; found = None } ∷ []) (λ noted. noted ≡ [])
  fail_moves status found failed make makes =
      let state = tied.state in
      let file = (state.tenant_states actor.tenant).file in
      let made = faults state actor called.change file file Nothing in
      let ends = calls_find_faults config tied.past.openings (tied.past.before ++ tied.events) state by.token.worker actor called tied.past.played
      (at_call config begun s tied id old at worker actor called held by) (starts_so config begun s tied id old at worker actor called held by status found)
      ((tells_call config begun s tied id old at worker actor called held by).fails ∙ failed) in
      call_moves config begun s tied id old at by.token by.has.only actor by.carries called by.comes_to Good (fault_of actor) _ made false refl ends
      (own_file config begun s tied id old at worker actor called held by) (index_of config.pool (AtDoor actor.tenant)) make (record held { file = held.file; found = None } ∷ []) refl makes
      (same_right config begun s tied id old at worker actor called held by (record held { file = held.file; found = None }) by.its)
      (held_after config begun s tied id old at worker actor called held by made held.file by.its (tells config begun s tied id old at worker actor called held by))

  -- the call doesn't start from the status
  skip_moves : starts_from called.call (tied.state.cells.statuses called.change.slot) ≡ false → (make : ℕ → ℕ) → ((bits : ℕ) → make bits ≡ bits)
      → Moved config begun s tied (FileEvent by.token.worker Good ∷ []) id (index_of config.pool (AtStatus called.change.slot)) (make (slice_index s.words (index_of config.pool (AtStatus called.change.slot)))) old
      (went true) (record held { file = held.file; found = None } ∷ []) (λ noted. noted ≡ [])
  skip_moves else make makes =
      let state = tied.state in
      let file = (state.tenant_states actor.tenant).file in
      let made = skips state actor called.change file in
      let ends = calls_skip config tied.past.openings (tied.past.before ++ tied.events) state by.token.worker actor called tied.past.played
      (at_call config begun s tied id old at worker actor called held by) else in
      call_moves config begun s tied id old at by.token by.has.only actor by.carries called by.comes_to Good (load_of called) _ made true refl ends
      (own_file config begun s tied id old at worker actor called held by) (index_of config.pool (AtStatus called.change.slot)) make (record held { file = held.file; found = None } ∷ []) refl makes
      (same_right config begun s tied id old at worker actor called held by (record held { file = held.file; found = None }) by.its)
      (held_after config begun s tied id old at worker actor called held by made held.file by.its (tells config begun s tied id old at worker actor called held by))

  -- the call starts from it, and nothing has happened yet
  abbrev found_there : HeldFile
  found_there = record held { found = Some (record { worker = worker; status = tied.state.cells.statuses called.change.slot }) }

  found_holds : starts_from called.call (tied.state.cells.statuses called.change.slot) ≡ true → Each (HoldsFile config tied.state) (found_there ∷ [])
  found_holds starts =
      let fit = held_file config begun s tied id old at worker actor called held by in
      let here = at_call config begun s tied id old at worker actor called held by in (
        record {
          there = fit.there;
          tells = fit.tells;
          waits = record {
            actor = actor;
            called = called;
            at_call = subst (λ (one : ℕ). IsAtCall tied.state one actor called) by.has.own here;
            its = sym by.its;
            is = refl;
            starts = starts;
          };
        },
        tt,
      )

  bit_exact_now : IsBitExact config tied.state
  bit_exact_now = runs_are_bit_exact config tied.past.openings (tied.past.before ++ tied.events) tied.state tied.past.played

  loads_so : (starts : Bool) → starts_from called.call (tied.state.cells.statuses called.change.slot) ≡ starts → (make : ℕ → ℕ) → ((bits : ℕ) → make bits ≡ bits)
      → LoadsSo config begun s tied (events_loaded starts worker) id (index_of config.pool (AtStatus called.change.slot)) (make (slice_index s.words (index_of config.pool (AtStatus called.change.slot))))
      (LoadedAs starts worker actor called held (tied.state.cells.statuses called.change.slot) old)
  loads_so false is make makes =
      let moved = skip_moves is make makes in
      let index = index_of config.pool (AtStatus called.change.slot) in
      record {
        view = moved.view;
        run = run_of config begun s _ tied by.token.worker worker Good moved.view by.has.own moved.run;
        told = went_of config begun s tied (FileEvent by.token.worker Good ∷ []) id index (make (slice_index s.words index)) old true held held.file moved;
      }
  loads_so true is make makes =
      let looks = looks_as config begun id (index_of config.pool (AtStatus called.change.slot)) old make (found_there ∷ []) old.plain_loads (inr (by.token, [], by.has.only)) makes s tied at
      (same_right config begun s tied id old at worker actor called held by found_there by.its) (found_holds is) in
      record {
        view = looks.view;
        run = looks.run;
        told = record {
          files = record { goes_on = looks.goes_on; right = looks.right; same_mine = looks.same_mine };
          learned_run = looks.learned_run;
          in_range = bit_exact_now.fit (AtStatus called.change.slot);
          same_token = looks.same_token;
          keeps = looks.same_files;
          within = λ sound. (may_start is sound).0;
          can = λ sound. (may_start is sound).1;
        };
      }
    where
      may_start : starts_from called.call (tied.state.cells.statuses called.change.slot) ≡ true → fails old called held ≡ false
          → (place_held old called held < places_held old called held)
          × (can_be_made called.call (file_told held.file) (places_held old called held) (place_held old called held) (own_entries actor) ≡ true)
      may_start starts sound =
          let telling = tells_call config begun s tied id old at worker actor called held by in
          let even = same_quota config begun s tied id old at worker actor called held by in
          let start = calls_can_start config tied.past.openings (tied.past.before ++ tied.events) tied.state by.token.worker actor called tied.past.played
          (at_call config begun s tied id old at worker actor called held by) starts (telling.fails ∙ sound) in (
            subst (λ (place : ℕ). place < places_held old called held) same_place (subst (λ (places : ℕ). place_there < places) even start.within),
            ap (λ (places : ℕ). can_be_made called.call (file_told held.file) places (place_for called.call (file_told held.file) places called.change.slot) (own_entries actor)) (sym even) ∙ sym telling.can ∙ start.can,
          )

module _ (config : Config) (begun : (ℕ → TenantStart) → List WorldEvent → Type 0) where
  pub calls_end_on : FileCallsEndOn config begun
  calls_end_on id worker view actor called held status make by found sound makes s tied at =
      let moved = end_moves config begun s tied id view at worker actor called held by status found sound make makes in
      let index = index_of config.pool (AtStatus called.change.slot) in
      let bits = tied.ties (AtStatus called.change.slot) (words config begun s tied id view at worker actor called held by).status
      ∙ ap (pack (AtStatus called.change.slot)) (status_is config begun s tied id view at worker actor called held by status found) in
      record {
        new = moved.view;
        is_told = (
          bits,
          went_of config begun s tied (FileEvent by.token.worker Good ∷ []) id index (make (slice_index s.words index)) view true held (filed_so view actor called held) moved,
        );
        run = run_of config begun s _ tied by.token.worker worker Good moved.view by.has.own moved.run;
      }

  pub calls_end : FileCallsEndWell config begun
  calls_end slots id worker me actor called held status make by found sound makes s tied homes at low =
      let on = calls_end_on id worker me.0 actor called held status make by found sound makes s tied at in (on.new, keeps, tt, on.run.on.after, on.is_told)

  pub calls_meet_faults_on : FileCallsMeetFaultsOn config begun
  calls_meet_faults_on id worker number view actor called held status make by found sound is_one makes s tied at =
      let moved = break_moves config begun s tied id view at worker actor called held by status found sound number is_one make makes in
      let index = index_of config.pool (AtDoor actor.tenant) in
      record {
        new = moved.view;
        is_told = went_of config begun s tied (FileEvent by.token.worker (Fail number) ∷ []) id index (make (slice_index s.words index)) view false held (broken_so view called held) moved;
        run = run_of config begun s _ tied by.token.worker worker (Fail number) moved.view by.has.own moved.run;
      }

  pub calls_break : FileCallsMeetFaults config begun
  calls_break slots id worker number me actor called held status make by found sound is_one makes s tied homes at low =
      let on = calls_meet_faults_on id worker number me.0 actor called held status make by found sound is_one makes s tied at in (on.new, keeps, tt, on.run.on.after, on.is_told)

  pub calls_find_faults_on : FileCallsFindFaultsOn config begun
  calls_find_faults_on id worker view actor called held status make by found failed makes s tied at =
      let moved = fail_moves config begun s tied id view at worker actor called held by status found failed make makes in
      let index = index_of config.pool (AtDoor actor.tenant) in
      record {
        new = moved.view;
        is_told = went_of config begun s tied (FileEvent by.token.worker Good ∷ []) id index (make (slice_index s.words index)) view false held held.file moved;
        run = run_of config begun s _ tied by.token.worker worker Good moved.view by.has.own moved.run;
      }

  pub calls_fail : FileCallsFindFaults config begun
  calls_fail slots id worker me actor called held status make by found failed makes s tied homes at low =
      let on = calls_find_faults_on id worker me.0 actor called held status make by found failed makes s tied at in (on.new, keeps, tt, on.run.on.after, on.is_told)

  pub calls_load_on : FileCallsLoadOn config begun
  calls_load_on id worker view actor called held make by makes s tied at =
      let status = tied.state.cells.statuses called.change.slot in
      let index = index_of config.pool (AtStatus called.change.slot) in
      let found = slice_index s.words index in
      let bits = tied.ties (AtStatus called.change.slot) (words config begun s tied id view at worker actor called held by).status in
      let read : unpacked_status found ≡ Some status =
      ap unpacked_status bits ∙ status_round status ((bit_exact_now config begun s tied id view at worker actor called held by).fit (AtStatus called.change.slot)) in
      let loads = loads_so config begun s tied id view at worker actor called held by (starts_from called.call status) refl make makes in
      record {
        new = loads.view;
        is_told = record {
          status = status;
          is = bits;
          read = read;
          loaded = loads.told;
        };
        run = subst (λ (starts : Bool). WentOnFor config begun s tied (events_loaded starts worker) (record { words = slice_set s.words index (make found); homes = s.homes; views = slice_set s.views id loads.view }) loads.view)
            (sym (ap (starts_by called.call) read)) loads.run;
      }

  pub calls_load : FileCallsLoad config begun
  calls_load slots id worker me actor called held make by makes s tied homes at low =
      let on = calls_load_on id worker me.0 actor called held make by makes s tied at in (on.new, keeps, tt, on.run.on.after, on.is_told)
