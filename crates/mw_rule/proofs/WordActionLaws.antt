-- The table's rule (`specs/Rule`) allows each action of a thread on a word, and the table's run is extended by exactly that
-- action's events.
-- Used by: moves_are_of_the_run, mw_table.
use Rattle.std.specs.Prelude.{ℕ, zero, suc, ◌<◌, Bool, true, false, ◌≡◌, List, [], ◌∷◌, ◌++◌, length, map, slice_index, slice_set, Option, Some}
use Rattle.std.proofs.Common.{refl, sym, ap, subst, ◌∙◌, inl, inr}
use Rattle.std.proofs.lemmas.List.{get_or-set_same}
use mathlib.Core.Option.{some, some-ne-none}
use lib.ListN.{get_elem?}
use Rattle.atomic_table.specs.Table.{State as Table, keeps}
use Rattle.mw_words.specs.declared.statuses.Status.{Status}
use Rattle.mw_look.specs.declared.observations.Got.TheVariants.{Word as Bits}
use Rattle.mw_actor.specs.ActorState.{ActorState}
use Rattle.mw_world.specs.declared.config.Config.{Config}
use Rattle.mw_world.specs.Claim.Headline.{IsExecution}
use Rattle.mw_world.specs.Definition.Calls.{Called as CallOn, starts_from}
use Rattle.mw_world.specs.Definition.Extent.{has_place}
use Rattle.mw_world.specs.Definition.Events.{WorldEvent}
use Rattle.mw_world.specs.Definition.State.{IsConfig, TenantStart, State, world_at}
use Rattle.mw_rule.specs.declared.views.Finished.{Finished}
use Rattle.mw_rule.specs.declared.views.HeldFile.{HeldFile}
use Rattle.mw_rule.specs.declared.views.WorkerToken.{WorkerToken}
use Rattle.mw_rule.specs.declared.views.View.{View}
use Rattle.mw_rule.specs.Steps.{LearnsPlainLoad, comes, told}
use Rattle.mw_rule.specs.KnownRuns.{KnownRun, ExtendsKnownRun, known_run_of}
use Rattle.mw_rule.specs.FileCalls.{LoadedAs, went}
use Rattle.mw_rule.specs.Layout.{index_of, words_of}
use Rattle.mw_rule.specs.WordActions.{Breaks, Comes, Exchanges, FindsFault, Loads, Looks, WordAction, ActionsAreAllowed, ActionsChangeWords, ActionsExtendRuns, StandsAt, Steps, WentOn, WentOnAt, events_by, index_by, bits_left, told_by}
use Rattle.mw_rule.specs.Rule.{Each, Fits, IsHandedOut, IsLive, IsRunOf, TableInvariant, BitsMatch, WentOnFor}
use Rattle.mw_rule.specs.Ways.{finds}
use Rattle.mw_rule.proofs.KnownRunLaws.{on_with_more}
use Rattle.mw_rule.proofs.Layouts.{places_in_table}
use Rattle.mw_rule.proofs.FileCalls.{calls_end_on, calls_find_faults_on, calls_load_on, calls_meet_faults_on}
use Rattle.mw_rule.proofs.StepRule.{first_steps_on, steps_on}
use Rattle.mw_rule.proofs.SplitLaws.{looks_on}
use Rattle.mw_rule.proofs.ViewAfterStep.{live_fits}

-- a thread that has a token is live, and stays live when the token changes
by_token : (view : View) (one : WorkerToken) → view.tokens ≡ one ∷ [] → IsLive view
by_token view one only = inr (one, [], only)

changed_token : (old new : View) (one : WorkerToken) (f : WorkerToken → WorkerToken) → old.tokens ≡ one ∷ [] → new.tokens ≡ map f old.tokens → IsLive new
changed_token old new one f only is = by_token new (f one) (is ∙ ap (map f) only)

-- a thread that may make an action is live, before it and after it
lives : (view : View) (move : WordAction view) → IsLive view
lives view (Steps worker op drives) = by_token view drives.token drives.has.only
lives view (Comes worker actor may) = by_token view may.token may.has.only
lives view (Looks index live) = live
lives view (Loads worker actor called held by) = by_token view by.token by.has.only
lives view (Exchanges worker actor called held status by found sound) = by_token view by.token by.has.only
lives view (Breaks worker number actor called held status by found sound is_one) = by_token view by.token by.has.only
lives view (FindsFault worker actor called held status by found failed) = by_token view by.token by.has.only

looked_lives : (index bits : ℕ) (old new : View) → LearnsPlainLoad index bits old new → IsLive old → IsLive new
looked_lives index bits old new looked (inl flag) = inl (looked.goes_on.same_spent ∙ flag)
looked_lives index bits old new looked (inr has_some) = inr (has_some.0, has_some.1, looked.same_token ∙ has_some.2)

loaded_lives : (starts : Bool) (worker : ℕ) (actor : ActorState) (called : CallOn) (held : HeldFile) (status : Status) (old new : View) (one : WorkerToken) → old.tokens ≡ one ∷ []
    → LoadedAs starts worker actor called held status old new → IsLive new
loaded_lives true worker actor called held status old new one only loaded = by_token new one (loaded.same_token ∙ only)
loaded_lives false worker actor called held status old new one only loaded = changed_token old new one (went true) only loaded.token

lives_on : (view : View) (move : WordAction view) (bits : ℕ) (new : View) → told_by view move bits new → IsLive new
lives_on view (Steps worker op drives) bits new is_told = changed_token view new drives.token (told (finds op bits)) drives.has.only is_told.token
lives_on view (Comes worker actor may) bits new is_told =
    changed_token view new may.token (λ one. told (Bits bits) (comes actor is_told.request is_told.begun one)) may.has.only is_told.token
lives_on view (Looks index live) bits new is_told = looked_lives index bits view new is_told live
lives_on view (Loads worker actor called held by) bits new is_told =
    loaded_lives (starts_from called.call is_told.status) worker actor called held is_told.status view new by.token by.has.only is_told.loaded
lives_on view (Exchanges worker actor called held status by found sound) bits new is_told = changed_token view new by.token (went true) by.has.only is_told.1.token
lives_on view (Breaks worker number actor called held status by found sound is_one) bits new is_told = changed_token view new by.token (went false) by.has.only is_told.token
lives_on view (FindsFault worker actor called held status by found failed) bits new is_told = changed_token view new by.token (went false) by.has.only is_told.token

-- a read at the index that was set
set_there : (views : List View) (id : ℕ) (old new : View) → get_elem? views id ≡ some old → get_elem? (slice_set views id new) id ≡ some new
set_there [] id old new is = absurd (some-ne-none old (sym is))
set_there (one ∷ views) zero old new is = refl
set_there (one ∷ views) (suc id) old new is = set_there views id old new is

-- what is true stays true of the same run, given by equal parts
fits_so : (config its : Config) (openings other : ℕ → TenantStart) (state : State) (events all : List WorldEvent) (view : View) → config ≡ its → openings ≡ other → events ≡ all
    → Fits config openings state events view → Fits its other state all view
fits_so config its openings other state events all view one two three fits =
    subst (λ (c : Config). Fits c other state all view) one
    (subst (λ (o : ℕ → TenantStart). Fits config o state all view) two (subst (λ (e : List WorldEvent). Fits config openings state e view) three fits))

played_so : (config its : Config) (openings other : ℕ → TenantStart) (state : State) (events all : List WorldEvent) → config ≡ its → openings ≡ other → events ≡ all
    → IsExecution config openings events state → IsExecution its other all state
played_so config its openings other state events all one two three played =
    subst (λ (c : Config). IsExecution c other all state) one
    (subst (λ (o : ℕ → TenantStart). IsExecution config o all state) two (subst (λ (e : List WorldEvent). IsExecution config openings e state) three played))

-- a run that hands out their replies does so, given by equal parts
handed_so : (config its : Config) (openings other : ℕ → TenantStart) (events all : List WorldEvent) (mine : List Finished) → config ≡ its → openings ≡ other → events ≡ all
    → Each (IsHandedOut config (world_at config openings) events) mine → Each (IsHandedOut its (world_at its other) all) mine
handed_so config its openings other events all mine one two three handed =
    subst (λ (c : Config). Each (IsHandedOut c (world_at c other) all) mine) one
    (subst (λ (o : ℕ → TenantStart). Each (IsHandedOut config (world_at config o) all) mine) two (subst (λ (e : List WorldEvent). Each (IsHandedOut config (world_at config openings) e) mine) three handed))

-- the world has what the table has at an index
stands_so : (config its : Config) (state : State) (words : List ℕ) (index : ℕ) → config ≡ its → BitsMatch config state.cells words → StandsAt its state index (slice_index words index)
stands_so config its state words index same ties at there is =
    sym (ap (slice_index words) (ap (λ (c : Config). index_of c.pool at) same ∙ is)) ∙ ties at (ap (λ (c : Config). has_place c at) same ∙ there)

-- and it has what was set there
set_stands : (config its : Config) (state : State) (words : List ℕ) (index bits : ℕ) → config ≡ its → IsConfig config → length words ≡ words_of config
    → BitsMatch config state.cells (slice_set words index bits) → StandsAt its state index bits
set_stands config its state words index bits same is_config long ties at there is =
    let here : index_of config.pool at ≡ index = ap (λ (c : Config). index_of c.pool at) same ∙ is in
    let low : index_of config.pool at < length words =
    subst (λ (n : ℕ). index_of config.pool at < n) (sym long) (places_in_table config at is_config (ap (λ (c : Config). has_place c at) same ∙ there)) in
    sym (get_or-set_same words index bits 0 (subst (λ (n : ℕ). n < length words) here low)) ∙ stands_so config its state (slice_set words index bits) index same ties at there is

-- The run that a thread's action extends is one that extends what the thread was told.
pub told_on : (more : List WorldEvent) (old new : View) → WentOn more old new → ExtendsKnownRun old.learned_run new.known_run
told_on more old new went =
    subst (λ (known : Option KnownRun). ExtendsKnownRun old.learned_run known) (sym went.known_run) (on_with_more old.config old.learned_run went.openings went.before went.events more went.follows.told)

module _ (config : Config) (begun : (ℕ → TenantStart) → List WorldEvent → Type 0) where
  went_on : (s : Table ActorState View) (tied : TableInvariant config begun s) (id index bits : ℕ) (old new : View) (more : List WorldEvent) → get_elem? s.views id ≡ some old → IsLive old → IsLive new
      → WentOnFor config begun s tied more (record { words = slice_set s.words index bits; homes = s.homes; views = slice_set s.views id new }) new → WentOnAt index (slice_index s.words index) bits more old new
  went_on s tied id index bits old new more at live live_on went =
      let run = went.on in
      let past = tied.past in
      let after = run.after in
      let fits = live_fits config past.openings tied.state tied.events old live (tied.fits id old at) in
      let same = sym fits.same_config in
      let later = live_fits config after.past.openings after.state after.events new live_on (after.fits id new (set_there s.views id old new at)) in
      record {
        run = record {
          openings = past.openings;
          before = past.before;
          events = tied.events;
          state = tied.state;
          next = after.state;
          no_starts = past.no_starts;
          follows = subst (λ (c : Config). IsRunOf c past.openings past.before tied.events old) same (tied.known id old at);
          known_run = went.known_run ∙ (λ i. Some (known_run_of (same i) (run.same_openings i) (run.same_before i) (run.events i)));
          played = played_so config old.config past.openings past.openings tied.state (past.before ++ tied.events) (past.before ++ tied.events) same refl refl past.played;
          goes_on = played_so config old.config after.past.openings past.openings after.state (after.past.before ++ after.events) (past.before ++ (tied.events ++ more)) same run.same_openings
              (λ i. run.same_before i ++ run.events i) after.past.played;
          knew = fits_so config old.config past.openings past.openings tied.state tied.events tied.events old same refl refl fits;
          knows = fits_so config old.config after.past.openings past.openings after.state after.events (tied.events ++ more) new same run.same_openings run.events later;
          handed = handed_so config old.config after.past.openings past.openings (after.past.before ++ after.events) (past.before ++ (tied.events ++ more)) new.mine same run.same_openings
              (λ i. run.same_before i ++ run.events i) (after.known id new (set_there s.views id old new at)).handed;
        };
        stood = stands_so config old.config tied.state s.words index same tied.ties;
        stands = set_stands config old.config after.state s.words index bits same past.played.made tied.long after.ties;
      }

  pub moves_go_on : ActionsExtendRuns config begun
  moves_go_on id view (Steps worker op drives) make makes s tied at = steps_on config begun id worker view op make drives makes s tied at
  moves_go_on id view (Comes worker actor may) make makes s tied at = first_steps_on config begun id worker view actor make may makes s tied at
  moves_go_on id view (Looks index live) make makes s tied at = looks_on config begun id index view make live makes s tied at
  moves_go_on id view (Loads worker actor called held by) make makes s tied at = calls_load_on config begun id worker view actor called held make by makes s tied at
  moves_go_on id view (Exchanges worker actor called held status by found sound) make makes s tied at =
      calls_end_on config begun id worker view actor called held status make by found sound makes s tied at
  moves_go_on id view (Breaks worker number actor called held status by found sound is_one) make makes s tied at =
      calls_meet_faults_on config begun id worker number view actor called held status make by found sound is_one makes s tied at
  moves_go_on id view (FindsFault worker actor called held status by found failed) make makes s tied at =
      calls_find_faults_on config begun id worker view actor called held status make by found failed makes s tied at

  pub moves_change_words : ActionsChangeWords config begun
  moves_change_words slots id me move make makes s tied homes at low =
      let index = index_by config me.0 move in
      let bits = slice_index s.words index in
      let on = moves_go_on id me.0 move make makes s tied at in
      let went = went_on s tied id index (make bits) me.0 on.new (events_by me.0 move bits) at (lives me.0 move) (lives_on me.0 move bits on.new on.is_told) on.run in
      (on.new, keeps, tt, on.run.on.after, (on.is_told, subst (λ (left : ℕ). WentOnAt index bits left (events_by me.0 move bits) me.0 on.new) (makes bits) went))

  pub moves_are_allowed : ActionsAreAllowed config begun
  moves_are_allowed slots id me move make makes s tied homes at low =
      let on = moves_change_words slots id me move make makes s tied homes at low in (on.0, on.1, on.2, on.3, (on.4.0, on.4.1.run))
