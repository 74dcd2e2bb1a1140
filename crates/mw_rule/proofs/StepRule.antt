-- A step of a request, also its first one, keeps the table's rule (`specs/Rule`).
-- Used by: steps_keep_the_rule, the_run_goes_on.
use Rattle.std.specs.Prelude.{ℕ, ◌≡◌, ◌≤◌, ◌<◌, true, false, List, [], ◌∷◌, ◌++◌, length, map, slice_index, slice_set, Option, Some, None}
use Rattle.std.proofs.Common.{refl, sym, ap, subst, ◌∙◌, append-nil, inl, inr, arith}
use Rattle.std.proofs.lemmas.Bool.Decides.{nat_tests}
use Rattle.std.proofs.lemmas.List.{length-append}
use Rattle.std.proofs.lemmas.Option.{same_Some}
use mathlib.Core.Option.{some}
use lib.ListN.{get_elem?}
use Rattle.atomic_table.specs.Table.{State as Table, keeps}
use Rattle.mw_words.specs.declared.jobs.Job.{Job}
use Rattle.mw_words.specs.declared.jobs.Job.TheVariants.{Get, Cas}
use Rattle.mw_words.specs.declared.places.At.TheVariants.{Door as AtDoor}
use Rattle.mw_words.specs.declared.replies.Reply.{Reply}
use Rattle.mw_words.specs.Change.{is_well_formed}
use Rattle.mw_look.specs.declared.observations.Got.{Got}
use Rattle.mw_look.specs.declared.observations.Got.TheVariants.{Word as Bits}
use Rattle.mw_look.specs.declared.steps.Op.{Op}
use Rattle.mw_look.specs.Observations.{observation_of, observation_of_bits}
use Rattle.mw_look.specs.Places.{pack}
use Rattle.mw_look.specs.Steps.{Step, Load, Change, File, op_of, place, place_of}
use Rattle.mw_look.proofs.PlaceLaws.{packs_are_seen, place_of_bits}
use Rattle.mw_actor.specs.declared.points.Point.{Point}
use Rattle.mw_actor.specs.declared.points.Point.TheVariants.{Read}
use Rattle.mw_actor.specs.ActorState.{ActorState, first}
use Rattle.mw_actor.specs.Asks.{asks}
use Rattle.mw_actor.specs.Program.{replied}
use Rattle.mw_world.specs.declared.config.Config.{Config}
use Rattle.mw_world.specs.Claim.Headline.{IsExecution}
use Rattle.mw_world.specs.Definition.Calls.{called_at}
use Rattle.mw_world.specs.Definition.Cells.{Cells, read}
use Rattle.mw_world.specs.Definition.Extent.{has_place}
use Rattle.mw_world.specs.Definition.Events.{WorldEvent, Come}
use Rattle.mw_world.specs.Definition.State.{TenantStart, State, tenant_at, tenants_of}
use Rattle.mw_world.specs.Definition.Turns.{may_make}
use Rattle.mw_rule.specs.FromLaws.{IsBeginning, SealedChange, sealed_of}
use Rattle.mw_rule.proofs.FromLaws.{reads_find_their_way, runs_are_bit_exact}
use Rattle.mw_rule.specs.declared.views.Finished.{Finished}
use Rattle.mw_rule.specs.declared.views.WorkerToken.{WorkerToken}
use Rattle.mw_rule.specs.declared.views.View.{View}
use Rattle.mw_rule.specs.Steps.{FindsWayAt, IsFound, Notes, AddsFinishedIf, LearnsStep, comes, stepped, told, told_as, actor_after}
use Rattle.mw_rule.specs.KnownRuns.{known_run_of, plain}
use Rattle.mw_rule.specs.RunBehind.{Arrives}
use Rattle.mw_rule.specs.RunEvents.{FirstStepsGoOn, StepsGoOn, events_of}
use Rattle.mw_rule.specs.Laws.{FirstStepsKeepTheRule, StepsKeepTheRule}
use Rattle.mw_rule.specs.Layout.{index_of}
use Rattle.mw_rule.specs.Rule.{Each, Fits, Holds, TableInvariant, BitsMatch, WentOnFor}
use Rattle.mw_rule.specs.Prefixes.{seen_at}
use Rattle.mw_rule.specs.Ways.{finds, made_of_bits}
use Rattle.mw_rule.proofs.ArrivalNumbers.{arrivals_more, asked_in_run, plain_arrivals}
use Rattle.mw_rule.proofs.HeldFiles.{all_held_on, come_beside, step_beside}
use Rattle.mw_rule.proofs.KnownRunLaws.{plain_more}
use Rattle.mw_rule.proofs.Preservation.{ties_on}
use Rattle.mw_rule.proofs.WorkerStretches.{played_on, stays_there}
use Rattle.mw_rule.proofs.RequestsInRuns.{same_did}
use Rattle.mw_rule.proofs.RequestEvents.{Reached, after_come, come_holds, come_leads, steps}
use Rattle.mw_rule.proofs.ViewAfterStep.{Moved, live_fits, moves, told_worker}
use Rattle.mw_rule.proofs.Words.{cells_after, observation_after, step_other, step_packs, step_tells}

-- the place of a step that may be made is there
pub place_there : (config : Config) (step : Step) → may_make config step ≡ true → has_place config (place step) ≡ true
place_there config (Load at) may = may
place_there config (Change kind at from to) may = may
place_there config (File call slot) may = absurd (false_true may)
  where
    false_true : false ≡ true → ⊥
    false_true e = cc

-- A read finds its way in the words after a run.
way_at : (config : Config) (openings : ℕ → TenantStart) (events : List WorldEvent) (state : State) (worker : ℕ) (actor : ActorState) → IsExecution config openings events state
    → (state.worker_states worker).actor ≡ Some actor → FindsWayAt state.cells actor.point
way_at config openings events state worker actor played sits = by_point actor.point refl
  where
    by_point : (point : Point) → actor.point ≡ point → FindsWayAt state.cells point
    by_point (Read look) is = reads_find_their_way config openings events state worker actor look played sits is
    by_point point is = tt

module _ (config : Config) (begun : (ℕ → TenantStart) → List WorldEvent → Type 0) (s : Table ActorState View) (tied : TableInvariant config begun s) (id : ℕ) (old : View) (at : get_elem? s.views id ≡ some old)
    (token : WorkerToken) (only : old.tokens ≡ token ∷ []) where
  pub its_fits : Fits config tied.past.openings tied.state tied.events old
  its_fits = live_fits config tied.past.openings tied.state tied.events old (inr (token, [], only)) (tied.fits id old at)

  pub its_holds : Holds config tied.past.openings tied.state tied.events token
  its_holds = (subst (Each (Holds config tied.past.openings tied.state tied.events)) only its_fits.token).0

  -- a step of the request that the thread carries
  module _ (actor : ActorState) (carries : token.actor ≡ Some actor) (running : replied actor ≡ None) (no_call : called_at actor.point ≡ None) (make : ℕ → ℕ)
      (makes : (bits : ℕ) → make bits ≡ made_of_bits (op_of (asks actor)) bits) where
    step_found : (index : ℕ) → index ≡ index_of config.pool (place (asks actor)) → IsFound (finds (op_of (asks actor)) (slice_index s.words index)) actor
    step_found index is =
        let state = tied.state in
        let step = asks actor in
        let bit_exact = runs_are_bit_exact config tied.past.openings (tied.past.before ++ tied.events) state tied.past.played in
        let may = (bit_exact.steps token.worker actor (its_holds.actor ∙ carries) running no_call).there in
        let seen : slice_index s.words index ≡ pack (place step) (read state.cells (place step)) = ap (slice_index s.words) is ∙ tied.ties (place step) (place_there config step may) in
        record {
          cells = state.cells;
          is = ap (λ bits. observation_of (place step) (finds (op_of step) bits)) seen ∙ step_tells config step state.cells may (bit_exact.fit (place step));
          way = way_at config tied.past.openings (tied.past.before ++ tied.events) state token.worker actor tied.past.played (its_holds.actor ∙ carries);
        }

    step_moves : (index : ℕ) → index ≡ index_of config.pool (place (asks actor))
        → Moved config begun s tied (events_of token.worker (finds (op_of (asks actor)) (slice_index s.words index)) token.attempt actor) id index (make (slice_index s.words index)) old (told (finds (op_of (asks actor)) (slice_index s.words index))) old.files (Notes (finds (op_of (asks actor)) (slice_index s.words index)) token actor [])
    step_moves index is =
        let state = tied.state in
        let openings = tied.past.openings in
        let before = tied.past.before ++ tied.events in
        let step = asks actor in
        let bits = slice_index s.words index in
        let bit_exact = runs_are_bit_exact config openings before state tied.past.played in
        let may = (bit_exact.steps token.worker actor (its_holds.actor ∙ carries) running no_call).there in
        let right = (bit_exact.steps token.worker actor (its_holds.actor ∙ carries) running no_call).right in
        let there = place_there config step may in
        let seen : bits ≡ pack (place step) (read state.cells (place step)) = ap (slice_index s.words) is ∙ tied.ties (place step) there in
        let told_so : observation_of (place step) (finds (op_of step) bits) ≡ observation_after step state.cells =
        ap (λ b. observation_of (place step) (finds (op_of step) b)) seen ∙ step_tells config step state.cells may (bit_exact.fit (place step)) in
        let made : pack (place step) (read (cells_after step state.cells) (place step)) ≡ make bits =
        step_packs config step state.cells may right ∙ sym (makes bits ∙ ap (made_of_bits (op_of step)) seen) in
        let ties : BitsMatch config (cells_after step state.cells) (slice_set s.words index (make bits)) =
        subst (λ n. BitsMatch config (cells_after step state.cells) (slice_set s.words n (make bits))) (sym is)
        (ties_on config state.cells (cells_after step state.cells) s.words (place step) (make bits) tied.past.played.made there tied.long tied.ties made (λ other apart. step_other step state.cells other apart)) in
        let reached = steps config openings before state state tied.past.played tied.events [] token actor (finds (op_of step) bits) (stays_there config state token.worker)
        (subst (λ all. Holds config openings state all token) (sym (append-nil tied.events)) its_holds) carries running may told_so in
        let there_so : Reached config openings state token.worker tied.events (events_of token.worker (finds (op_of step) bits) token.attempt actor) (told (finds (op_of step) bits) token) (cells_after step state.cells) (Notes (finds (op_of step) bits) token actor []) =
        subst (λ one. Reached config openings state token.worker tied.events (events_of token.worker (finds (op_of step) bits) token.attempt actor) one (cells_after step state.cells) (Notes (finds (op_of step) bits) token actor [])) (ap (told_as (finds (op_of step) bits) token) (sym carries)) reached in
        moves config begun s tied (events_of token.worker (finds (op_of step) bits) token.attempt actor) id index (make bits) old token (told (finds (op_of step) bits)) (cells_after step state.cells) old.files (Notes (finds (op_of step) bits) token actor []) at only its_fits (told_worker (finds (op_of step) bits))
        there_so ties
        (λ tenant. inl (step_beside config tenant state token.worker (replied (actor_after (finds (op_of step) bits) token.attempt actor)))) (λ tenant. refl)
        (all_held_on config openings before state tied.past.played there_so.after (events_of token.worker (finds (op_of step) bits) token.attempt actor) there_so.leads.runs old.files
        (λ tenant few. step_beside config tenant state token.worker (replied (actor_after (finds (op_of step) bits) token.attempt actor))) its_fits.files)

-- A finished request is added after those from before.
notes_behind : (token : WorkerToken) (tenant begun : ℕ) (job : Job) (reply : Option Reply) (old more : List Finished) → AddsFinishedIf token tenant begun job reply [] more → AddsFinishedIf token tenant begun job reply old (old ++ more)
notes_behind token tenant begun job None old more none = ap (λ (all : List Finished). old ++ all) none ∙ append-nil old
notes_behind token tenant begun job (Some reply) old more one = record { place = one.place; no_smaller = one.no_smaller; noted = ap (λ (all : List Finished). old ++ all) one.noted }

pub same_one : (token other : WorkerToken) → token ∷ [] ≡ other ∷ [] → token ≡ other
same_one token other e = cc

-- The same of whichever token and request the thread has.
notes_so : (got : Got) (token other : WorkerToken) (actor another : ActorState) (old new : View) (more : List Finished) → old.tokens ≡ token ∷ [] → old.tokens ≡ other ∷ [] → token.actor ≡ Some actor → other.actor ≡ Some another
    → new.mine ≡ old.mine ++ more → Notes got token actor [] more → Notes got other another old.mine new.mine
notes_so got token other actor another old new more only its carries having mine noted =
    let same = same_one token other (sym only ∙ its) in
    let it = same_Some actor another (sym carries ∙ ap (λ (one : WorkerToken). one.actor) same ∙ having) in
    subst (λ (one : WorkerToken). Notes got one another old.mine new.mine) same
    (subst (λ (one : ActorState). Notes got token one old.mine new.mine) it
    (subst (λ (all : List Finished). Notes got token actor old.mine all) (sym mine)
    (notes_behind (stepped got token actor) actor.tenant token.begun actor.job (replied (actor_after got token.attempt actor)) old.mine more noted)))

-- Of whichever token and request the thread has, the step found what the world has.
found_so : (got : Got) (token other : WorkerToken) (actor another : ActorState) (old : View) → old.tokens ≡ token ∷ [] → old.tokens ≡ other ∷ [] → token.actor ≡ Some actor → other.actor ≡ Some another
    → IsFound got actor → IsFound got another
found_so got token other actor another old only its carries having found =
    subst (λ (one : ActorState). IsFound got one)
    (same_Some actor another (sym carries ∙ ap (λ (one : WorkerToken). one.actor) (same_one token other (sym only ∙ its)) ∙ having)) found

pub steps_on : (config : Config) (begun : (ℕ → TenantStart) → List WorldEvent → Type 0) → StepsGoOn config begun
steps_on config begun id worker view op make drives makes s tied at =
    let step = asks drives.actor in
    let index = index_of config.pool (place_of op) in
    let found = slice_index s.words index in
    let is : index ≡ index_of config.pool (place step) = ap (λ (one : Op). index_of config.pool (place_of one)) (sym drives.is) ∙ ap (index_of config.pool) (place_of_bits step) in
    let moved = step_moves config begun s tied id view at drives.token drives.has.only drives.actor drives.carries drives.running drives.no_call make
    (subst (λ (one : Op). (bits : ℕ) → make bits ≡ made_of_bits one bits) (sym drives.is) makes) index is in
    record {
      new = moved.view;
      is_told = subst (λ (one : Op). LearnsStep (finds one found) view moved.view) drives.is (record {
        goes_on = moved.goes_on;
        right = moved.right;
        token = moved.token;
        ready = moved.ready;
        same_files = moved.same_files;
        ends = λ token actor only carries.
            notes_so (finds (op_of step) found) drives.token token drives.actor actor view moved.view moved.noted drives.has.only only drives.carries carries moved.mine moved.ends;
        found = λ token actor only carries.
            found_so (finds (op_of step) found) drives.token token drives.actor actor view drives.has.only only drives.carries carries
            (step_found config begun s tied id view at drives.token drives.has.only drives.actor drives.carries drives.running drives.no_call make
            (subst (λ (one : Op). (bits : ℕ) → make bits ≡ made_of_bits one bits) (sym drives.is) makes) index is);
      });
      run = subst (λ (more : List WorldEvent). WentOnFor config begun s tied more (record { words = slice_set s.words index (make found); homes = s.homes; views = slice_set s.views id moved.view }) moved.view)
          (λ i. events_of (drives.has.own i) (finds (drives.is i) found) drives.token.attempt drives.actor) moved.run;
    }

pub steps_keep : (config : Config) (begun : (ℕ → TenantStart) → List WorldEvent → Type 0) → StepsKeepTheRule config begun
steps_keep config begun slots id worker me op make drives makes s tied homes at low =
    let on = steps_on config begun id worker me.0 op make drives makes s tied at in (on.new, keeps, tt, on.run.on.after, on.is_told)

-- A request begins with a load of its tenant's door.
first_runs : (worker tenant quota pool : ℕ) (job : Job) → replied (first worker tenant quota pool job) ≡ None
first_runs worker tenant quota pool (Get address) = refl
first_runs worker tenant quota pool (Cas entries) = refl

first_calls_none : (worker tenant quota pool : ℕ) (job : Job) → called_at (first worker tenant quota pool job).point ≡ None
first_calls_none worker tenant quota pool (Get address) = refl
first_calls_none worker tenant quota pool (Cas entries) = refl

first_asks : (worker tenant quota pool : ℕ) (job : Job) → asks (first worker tenant quota pool job) ≡ Load (AtDoor tenant)
first_asks worker tenant quota pool (Get address) = refl
first_asks worker tenant quota pool (Cas entries) = refl

first_way : (cells : Cells) (worker tenant quota pool : ℕ) (job : Job) → FindsWayAt cells (first worker tenant quota pool job).point
first_way cells worker tenant quota pool (Get address) = tt
first_way cells worker tenant quota pool (Cas entries) = tt

no_shorter : (first all : List SealedChange) → IsBeginning first all → length first ≤ length all
no_shorter first all begins = let long = ap (λ changes. length changes) begins.parted in omega (arith, long, length-append first begins.rest)

module _ (config : Config) (begun : (ℕ → TenantStart) → List WorldEvent → Type 0) (s : Table ActorState View) (tied : TableInvariant config begun s) (id : ℕ) (old : View) (at : get_elem? s.views id ≡ some old)
    (token : WorkerToken) (only : old.tokens ≡ token ∷ []) (idle : token.actor ≡ None) (tenant : ℕ) (job : Job) (low : tenant < tenants_of config)
    (may_ask : is_well_formed (tenant_at config tenant).words job ≡ true) (make : ℕ → ℕ) (makes : (bits : ℕ) → make bits ≡ bits) where
  the_first : ActorState
  the_first = first token.worker tenant (tied.state.tenant_states tenant).quota config.pool job

  abbrev number : ℕ
  number = (tied.state.tenant_states tenant).asked

  abbrev so_many : ℕ
  so_many = length (sealed_of tied.past.openings tied.state tenant)

  abbrev index : ℕ
  index = index_of config.pool (AtDoor tenant)

  abbrev begins_with : ActorState → List WorldEvent
  begins_with actor = Come token.worker tenant job ∷ events_of token.worker (Bits (slice_index s.words index)) token.attempt actor

  first_reached : Reached config tied.past.openings tied.state token.worker tied.events (begins_with the_first) (told (Bits (slice_index s.words index)) (comes the_first number so_many token)) tied.state.cells
      (Notes (Bits (slice_index s.words index)) (comes the_first number so_many token) the_first [])
  unfolding the_first
  first_reached =
      let state = tied.state in
      let openings = tied.past.openings in
      let before = tied.past.before ++ tied.events in
      let holds = its_holds config begun s tied id old at token only in
      let actor = first token.worker tenant (state.tenant_states tenant).quota config.pool job in
      let running = first_runs token.worker tenant (state.tenant_states tenant).quota config.pool job in
      let no_call = first_calls_none token.worker tenant (state.tenant_states tenant).quota config.pool job in
      let asks_so : asks actor ≡ Load (AtDoor tenant) = first_asks token.worker tenant (state.tenant_states tenant).quota config.pool job in
      let after = after_come config state token.worker tenant job in
      let leads = come_leads config openings state tied.events token tenant job idle low may_ask holds in
      let came = come_holds config openings state tied.events token tenant job idle low may_ask holds in
      let played = played_on config openings before state tied.past.played token.worker after (Come token.worker tenant job ∷ []) leads in
      let bit_exact = runs_are_bit_exact config openings (before ++ Come token.worker tenant job ∷ []) after played in
      let may = (bit_exact.steps token.worker actor came.actor running no_call).there in
      let there : has_place config (AtDoor tenant) ≡ true = subst (λ (step : Step). has_place config (place step) ≡ true) asks_so (place_there config (asks actor) may) in
      let bits = slice_index s.words index in
      let seen : bits ≡ pack (AtDoor tenant) (read state.cells (AtDoor tenant)) = tied.ties (AtDoor tenant) there in
      let told_so : observation_of (place (asks actor)) (Bits bits) ≡ observation_after (asks actor) after.cells =
      subst (λ (step : Step). observation_of (place step) (Bits bits) ≡ observation_after step after.cells) (sym asks_so)
      (ap (observation_of_bits (AtDoor tenant)) seen ∙ packs_are_seen (AtDoor tenant) (read state.cells (AtDoor tenant)) (bit_exact.fit (AtDoor tenant))) in
      let reached = steps config openings (before ++ Come token.worker tenant job ∷ []) state after played tied.events (Come token.worker tenant job ∷ [])
      (comes actor number so_many token) actor (Bits bits) leads came refl running may told_so in
      subst (λ (cells : Cells). Reached config openings state token.worker tied.events (begins_with actor) (told (Bits bits) (comes actor number so_many token)) cells (Notes (Bits bits) (comes actor number so_many token) actor []))
      (ap (λ (step : Step). cells_after step state.cells) asks_so) reached

  first_found : (actor : ActorState) → actor ≡ the_first → IsFound (Bits (slice_index s.words index)) actor
  unfolding the_first
  first_found actor is =
      let state = tied.state in
      let there : has_place config (AtDoor tenant) ≡ true = grind (arith, nat_tests, low) in
      let bit_exact = runs_are_bit_exact config tied.past.openings (tied.past.before ++ tied.events) state tied.past.played in
      let asks_so : asks actor ≡ Load (AtDoor tenant) = ap asks is ∙ first_asks token.worker tenant (state.tenant_states tenant).quota config.pool job in
      record {
        cells = state.cells;
        is = subst (λ (step : Step). observation_of (place step) (Bits (slice_index s.words index)) ≡ observation_after step state.cells) (sym asks_so)
            (ap (observation_of_bits (AtDoor tenant)) (tied.ties (AtDoor tenant) there) ∙ packs_are_seen (AtDoor tenant) (read state.cells (AtDoor tenant)) (bit_exact.fit (AtDoor tenant)));
        way = subst (λ (one : ActorState). FindsWayAt state.cells one.point) (sym is) (first_way state.cells token.worker tenant (state.tenant_states tenant).quota config.pool job);
      }

  first_moves : (actor : ActorState) → actor ≡ the_first
      → Moved config begun s tied (begins_with actor) id index (make (slice_index s.words index)) old (λ one. told (Bits (slice_index s.words index)) (comes actor number so_many one)) old.files
      (Notes (Bits (slice_index s.words index)) (comes actor number so_many token) actor [])
  first_moves actor is =
      let bits = slice_index s.words index in
      let state = tied.state in
      let there : has_place config (AtDoor tenant) ≡ true = grind (arith, nat_tests, low) in
      let bit_exact = runs_are_bit_exact config tied.past.openings (tied.past.before ++ tied.events) state tied.past.played in
      let seen : pack (AtDoor tenant) (read state.cells (AtDoor tenant)) ≡ make bits = sym (tied.ties (AtDoor tenant) there) ∙ sym (makes bits) in
      let reached : Reached config tied.past.openings state token.worker tied.events (begins_with actor) (told (Bits bits) (comes actor number so_many token)) state.cells (Notes (Bits bits) (comes actor number so_many token) actor []) =
      subst (λ (a : ActorState). Reached config tied.past.openings state token.worker tied.events (begins_with a) (told (Bits bits) (comes a number so_many token)) state.cells (Notes (Bits bits) (comes a number so_many token) a [])) (sym is) first_reached in
      let beside = λ (its : ℕ). come_beside config its state token.worker tenant job (replied (actor_after (Bits bits) token.attempt actor)) in
      moves config begun s tied (begins_with actor) id index (make bits) old token (λ one. told (Bits bits) (comes actor number so_many one)) state.cells old.files (Notes (Bits bits) (comes actor number so_many token) actor []) at only (its_fits config begun s tied id old at token only)
      (λ one. told_worker (Bits bits) (comes actor number so_many one))
      reached (ties_on config state.cells state.cells s.words (AtDoor tenant) (make bits) tied.past.played.made there tied.long tied.ties seen (λ other apart. refl))
      (λ its. inl (beside its)) (λ its. refl)
      (all_held_on config tied.past.openings (tied.past.before ++ tied.events) state tied.past.played reached.after (begins_with actor) reached.leads.runs old.files (λ its few. beside its)
      (its_fits config begun s tied id old at token only).files)

-- the run that the thread knows then has the arrival
first_arrives : (config : Config) (begun : (ℕ → TenantStart) → List WorldEvent → Type 0) (s : Table ActorState View) (tied : TableInvariant config begun s) (id : ℕ) (old : View) (at : get_elem? s.views id ≡ some old)
    (token : WorkerToken) (only : old.tokens ≡ token ∷ []) (tenant : ℕ) (job : Job) (more : List WorldEvent) (new : View) (next : Table ActorState View)
    → WentOnFor config begun s tied (Come token.worker tenant job ∷ more) next new → Arrives token.worker tenant (tied.state.tenant_states tenant).asked job old new
first_arrives config begun s tied id old at token only tenant job more new next run =
    let past = tied.past in
    let all = Come token.worker tenant job ∷ more in
    let asked = asked_in_run config past.openings (past.before ++ tied.events) tied.state tenant past.played in
    let sum = arrivals_more tenant past.before tied.events in
    let plain_sum = arrivals_more tenant past.before (map plain tied.events) in
    let same = plain_arrivals tenant tied.events in
    record {
      known = known_run_of config past.openings past.before (tied.events ++ all);
      is_known = run.known_run ∙ (λ i. Some (known_run_of config (run.on.same_openings i) (run.on.same_before i) (run.on.events i)));
      until = map plain tied.events;
      since = map plain more;
      parted = plain_more tied.events all;
      follows = (tied.known id old at).known;
      number = omega (arith, asked, sum, plain_sum, same);
      idle = λ other its.
          same_did token.worker tied.events ∙ (its_holds config begun s tied id old at token only).made ∙ ap (λ (one : WorkerToken). one.made) (same_one token other (sym only ∙ its));
    }

pub first_steps_on : (config : Config) (begun : (ℕ → TenantStart) → List WorldEvent → Type 0) → FirstStepsGoOn config begun
unfolding the_first
first_steps_on config begun id worker view actor make may makes s tied at =
    let fits = its_fits config begun s tied id view at may.token may.has.only in
    let there : actor.tenant < tenants_of config = subst (λ (one : Config). actor.tenant < tenants_of one) fits.same_config may.tenant in
    let asks_well : is_well_formed (tenant_at config actor.tenant).words actor.job ≡ true =
    subst (λ (one : Config). is_well_formed (tenant_at one actor.tenant).words actor.job ≡ true) fits.same_config may.may_ask in
    let gave = fits.gave actor.tenant there in
    let is : actor ≡ first may.token.worker actor.tenant (tied.state.tenant_states actor.tenant).quota config.pool actor.job =
    may.is ∙ (λ i. first (sym may.has.own i) actor.tenant (sym gave.quota i) (fits.same_config i).pool actor.job) in
    let moved = first_moves config begun s tied id view at may.token may.has.only may.idle actor.tenant actor.job there asks_well make makes actor is in
    let number = (tied.state.tenant_states actor.tenant).asked in
    let many = length (sealed_of tied.past.openings tied.state actor.tenant) in
    let index = index_of config.pool (AtDoor actor.tenant) in
    let bits = slice_index s.words index in
    record {
      new = moved.view;
      is_told = record {
        goes_on = moved.goes_on;
        right = moved.right;
        request = number;
        begun = many;
        arrival = λ token only.
            subst (λ (one : WorkerToken). Arrives one.worker actor.tenant number actor.job view moved.view) (same_one may.token token (sym may.has.only ∙ only))
            (first_arrives config begun s tied id view at may.token may.has.only actor.tenant actor.job (events_of may.token.worker (Bits bits) may.token.attempt actor) moved.view _ moved.run);
        no_fewer = no_shorter (seen_at view.seen actor.tenant) (sealed_of tied.past.openings tied.state actor.tenant) (fits.seen actor.tenant there);
        token = moved.token;
        ready = moved.ready;
        same_files = moved.same_files;
        ends = λ token only.
            subst (λ (one : WorkerToken). Notes (Bits bits) (comes actor number many one) actor view.mine moved.view.mine) (same_one may.token token (sym may.has.only ∙ only))
            (subst (λ (all : List Finished). Notes (Bits bits) (comes actor number many may.token) actor view.mine all) (sym moved.mine)
            (notes_behind (stepped (Bits bits) (comes actor number many may.token) actor) actor.tenant many actor.job (replied (actor_after (Bits bits) may.token.attempt actor)) view.mine moved.noted moved.ends));
        found = first_found config begun s tied id view at may.token may.has.only may.idle actor.tenant actor.job there asks_well make makes actor is;
      };
      run = subst (λ (n : ℕ). WentOnFor config begun s tied (Come n actor.tenant actor.job ∷ events_of n (Bits bits) may.token.attempt actor)
          (record { words = slice_set s.words index (make bits); homes = s.homes; views = slice_set s.views id moved.view }) moved.view) may.has.own moved.run;
    }

pub first_steps_keep : (config : Config) (begun : (ℕ → TenantStart) → List WorldEvent → Type 0) → FirstStepsKeepTheRule config begun
first_steps_keep config begun slots id worker me actor make may makes s tied homes at low =
    let on = first_steps_on config begun id worker me.0 actor make may makes s tied at in (on.new, keeps, tt, on.run.on.after, on.is_told)
