-- A call on a file keeps `HasFiles` (the shared words agree with the tenants' files), however it ends.
-- Used by: calls_keep_files.
use Rattle.std.specs.Prelude.{ℕ, ◌≡◌, ◌<◌, ◌&&◌, Bool, true, false, if◌then◌else◌, nat_lt, Option, Some, None}
use Rattle.std.proofs.Common.{refl, sym, ap, subst, ◌∙◌, arith}
use Rattle.std.proofs.lemmas.Bool.Decides.{nat_tests}
use Rattle.mw_words.specs.declared.doors.Door.{Door}
use Rattle.mw_words.specs.declared.statuses.Status.{Status}
use Rattle.mw_words.specs.declared.statuses.Status.TheVariants.{No}
use Rattle.mw_look.specs.declared.steps.Call.{Call}
use Rattle.mw_look.specs.declared.steps.Call.TheVariants.{Prepare as PrepareCall, Seal as SealCall, Settle as SettleCall, Cancel as CancelCall}
use Rattle.mw_actor.specs.declared.points.Point.{Point}
use Rattle.mw_actor.specs.declared.points.Point.TheVariants.{Prepare, Seal, Settle, Cancel}
use Rattle.mw_actor.specs.declared.points.Slot.{Slot}
use Rattle.mw_actor.specs.declared.points.Task.{Task}
use Rattle.mw_actor.specs.ActorState.{ActorState, own_entries}
use Rattle.mw_world.specs.declared.outcomes.Outcome.{Outcome}
use Rattle.mw_world.specs.declared.outcomes.Outcome.TheVariants.{Good, Fail}
use Rattle.mw_world.specs.Files.State.{File, entries_at, broken}
use Rattle.mw_world.specs.declared.config.Config.{Config}
use Rattle.mw_world.specs.declared.step_labels.StepLabel.TheVariants.{Nothing}
use Rattle.mw_world.specs.Definition.Calls.{Called, breaks, call, call_if, called_at, calling, calls_made, can_be_made, doubt_of, ends, fails_on, faults, goes_well, is_formed, is_made, moved_if, place_for, skips, starts_from}
use Rattle.mw_world.specs.Definition.Extent.{has_slot}
use Rattle.mw_world.specs.Definition.Logical.{logical}
use Rattle.mw_world.specs.Definition.State.{State, tenant_at, tenants_of}
use Rattle.mw_world.specs.Definition.Turns.{moved}
use Rattle.mw_law_runs.specs.Knowledge.Informed.{IsInformed}
use Rattle.mw_law_runs.proofs.Knowledge.Calls.CallGuards.{cancels, prepare_guards, seal_guards, settle_guards}
use Rattle.mw_law_runs.proofs.Knowledge.Updates.Preservation.{upd_here, upd_else}
use Rattle.mw_law_runs.specs.RunInvariant.{IsSound}
use Rattle.mw_law_runs.proofs.FileCalls.{calls_keep_sound}
use Rattle.mw_law_runs.proofs.Obligations.Pins.{some_same, none_some}
use Rattle.mw_law_runs.proofs.RequestsInWorlds.{have_their_requests}
use Rattle.mw_law_runs.proofs.GuardedEvents.{if_slot}
use Rattle.mw_law_store.specs.Files.Files.{HasFiles, places_of}
use Rattle.mw_law_store.specs.Files.Laws.{CallsKeepFiles}
use Rattle.mw_law_store.proofs.Files.Filed.{broken_agrees, broken_placed, empty_there}
use Rattle.mw_law_store.proofs.Files.MovesKeepFiles.{door_fault}
use Rattle.mw_law_store.proofs.Files.PlacesBySlot.{same_due}
use Rattle.mw_law_store.proofs.Files.StepsLeaveFiles.{tenant_state_as, agrees_same, all_filed_same, filed_same, same_tenant_state}
use Rattle.mw_law_store.proofs.Files.Tenants.{AreFiled, are_filed, due, has_files}
use Rattle.mw_law_store.proofs.Files.SuccessfulCalls.{cancel_filed, either_tenant, filed_at, prepare_filed, seal_filed, settle_filed}

-- How a call may end: it doesn't start, the file had failed, it goes well, or the device fails.
module _ (P : State → Type 0) (state : State) (worker : ℕ) (actor : ActorState) (change : Slot) (file : File) (call : Call) (status : Status) (place : ℕ) where
  pub record Ends (starts had_failed can_be : Bool) : Type 0 where
    pub skipped : starts ≡ false → P (moved state worker actor (skips state actor change file))
    pub faulted : starts ≡ true → had_failed ≡ true → P (moved state worker actor (faults state actor change file file Nothing))
    pub well : starts ≡ true → had_failed ≡ false → can_be ≡ true → P (moved state worker actor (goes_well state actor change file call status place))
    pub broke : starts ≡ true → had_failed ≡ false → P (moved state worker actor (breaks state actor change file call place))

  broken_if : (test : Bool) (next : State) → P (moved state worker actor (breaks state actor change file call place))
      → moved_if state worker actor (if test then Some (breaks state actor change file call place) else None) ≡ Some next → P next
  broken_if true next there is = subst P (some_same _ next is) there
  broken_if false next there is = absurd (none_some next is)

  pub ended : (starts had_failed can_be : Bool) (calls : ℕ) (outcome : Outcome) (next : State) → Ends starts had_failed can_be
      → moved_if state worker actor (ends state actor change file starts had_failed can_be call status place calls outcome) ≡ Some next → P next
  ended false had_failed can_be calls Good next all is = subst P (some_same _ next is) (all.skipped refl)
  ended false had_failed can_be calls (Fail number) next all is = absurd (none_some next is)
  ended true true can_be calls Good next all is = subst P (some_same _ next is) (all.faulted refl refl)
  ended true true can_be calls (Fail number) next all is = absurd (none_some next is)
  ended true false true calls Good next all is = subst P (some_same _ next is) (all.well refl refl refl)
  ended true false true calls (Fail number) next all is = broken_if (is_made calls number) next (all.broke refl refl) is
  ended true false false calls outcome next all is = absurd (none_some next is)

had_failed : (call : Call) (file : File) → fails_on call file ≡ true → file.has_failed ≡ true
had_failed PrepareCall file is = is
had_failed SealCall file is = is
had_failed SettleCall file is = is
had_failed CancelCall file is = absurd (not_so is)
  where
    not_so : false ≡ true → ⊥
    not_so e = cc

module _ (config : Config) (state : State) (actor : ActorState) (filed : AreFiled config state) (low : actor.tenant < tenants_of config) (change : Slot) where
  abbrev file : File
  file = (state.tenant_states actor.tenant).file

  -- a call that doesn't start changes nothing
  pub skipped_filed : AreFiled config (moved state actor.worker actor (skips state actor change file))
  skipped_filed =
      all_filed_same config state (moved state actor.worker actor (skips state actor change file)) (record { dues = λ tenant slot. refl; faults = λ tenant. refl; values = λ tenant address. refl })
      (λ tenant. same_tenant_state config state.tenant_states actor.tenant tenant _ (record { file = refl; is_up = refl; places = refl })) filed

  -- a call on a file that had failed finds the fault at the door, as before
  pub faulted_filed : file.has_failed ≡ true → AreFiled config (moved state actor.worker actor (faults state actor change file file Nothing))
  faulted_filed failed =
      all_filed_same config state (moved state actor.worker actor (faults state actor change file file Nothing))
      (record {
        dues = λ tenant slot. refl;
        faults = λ tenant. door_fault state.cells.doors actor.tenant tenant _ (sym failed ∙ (filed actor.tenant low).agrees.failed);
        values = λ tenant address. refl;
      })
      (λ tenant. same_tenant_state config state.tenant_states actor.tenant tenant _ (record { file = refl; is_up = refl; places = refl })) filed

  -- a call in which the device fails leaves the places and the words
  broken_due : (call : Call) (place tenant slot : ℕ) → due (moved state actor.worker actor (breaks state actor change file call place)) tenant slot ≡ due state tenant slot
  broken_due SealCall place tenant slot = refl
  broken_due call place tenant slot = refl

  pub broken_filed : (call : Call) (place : ℕ) → AreFiled config (moved state actor.worker actor (breaks state actor change file call place))
  broken_filed call place =
      let next = moved state actor.worker actor (breaks state actor change file call place) in
      let doubt = doubt_of call (entries_at file place) in
      let mine = filed actor.tenant low in
      let words = (tenant_at config actor.tenant).words in
      let is_up = (state.tenant_states actor.tenant).is_up in
      either_tenant config next actor.tenant
      (filed_at config next actor.tenant _ (upd_here state.tenant_states actor.tenant _)
      (agrees_same words true (next.cells.doors actor.tenant).fault is_up is_up (logical state.cells actor.tenant) (logical next.cells actor.tenant) (broken file doubt)
      (ap (λ (door : Door). door.fault) (upd_here state.cells.doors actor.tenant _)) refl (λ address. refl)
      (broken_agrees words (state.cells.doors actor.tenant).fault is_up (logical state.cells actor.tenant) file mine.agrees doubt))
      (same_due (places_of config state actor.tenant) (due state actor.tenant) (due next actor.tenant) (broken file doubt)
      (broken_placed (places_of config state actor.tenant) (due state actor.tenant) file doubt mine.places) (broken_due call place actor.tenant)))
      (λ other apart there. filed_same config state next other (broken_due call place other) (ap (λ (door : Door). door.fault) (upd_else state.cells.doors actor.tenant other _ apart)) (λ address. refl)
      (tenant_state_as config other (next.tenant_states other) (state.tenant_states other) (upd_else state.tenant_states actor.tenant other _ apart)) (filed other there))

module _ (config : Config) (state next : State) (actor : ActorState) (sound : IsSound config state) (has : HasFiles config state) where
  filed : AreFiled config state
  filed = are_filed config state has

  -- a call of a request, by what it does if it goes well
  by_good : (point : Point) (called : Called) (outcome : Outcome) → let me = record actor { point = point } in IsInformed config state me
      → (starts_from called.call (state.cells.statuses called.change.slot) ≡ true
      → can_be_made called.call (state.tenant_states actor.tenant).file (places_of config state actor.tenant) (place_for called.call (state.tenant_states actor.tenant).file (places_of config state actor.tenant) called.change.slot)
      (own_entries actor) ≡ true
      → AreFiled config (moved state actor.worker me (goes_well state me called.change (state.tenant_states actor.tenant).file called.call (state.cells.statuses called.change.slot)
      (place_for called.call (state.tenant_states actor.tenant).file (places_of config state actor.tenant) called.change.slot))))
      → call_if config state actor.worker me (Some called) outcome ≡ Some next → AreFiled config next
  by_good point called outcome informed good is =
      let me = record actor { point = point } in
      let file = (state.tenant_states actor.tenant).file in
      let places = places_of config state actor.tenant in
      let status = state.cells.statuses called.change.slot in
      let place = place_for called.call file places called.change.slot in
      ended (AreFiled config) state actor.worker me called.change file called.call status place (starts_from called.call status) (fails_on called.call file)
      (can_be_made called.call file places place (own_entries actor)) (calls_made called.call status file place) outcome next
      (record {
        skipped = λ not_so. skipped_filed config state me filed informed.worker_state.tenant called.change;
        faulted = λ so failed. faulted_filed config state me filed informed.worker_state.tenant called.change (had_failed called.call file failed);
        well = λ so fine can. good so can;
        broke = λ so fine. broken_filed config state me filed informed.worker_state.tenant called.change called.call place;
      })
      (if_slot (has_slot config called.change.slot) (moved_if state actor.worker me (calling config state me called outcome)) next is)

  at_cancel : (task : Task) (status : Status) → let me = record actor { point = Cancel task } in IsInformed config state me → state.cells.statuses task.target.slot ≡ status
      → starts_from CancelCall status ≡ true
      → AreFiled config (moved state actor.worker me (goes_well state me task.target (state.tenant_states actor.tenant).file CancelCall status ((state.tenant_states actor.tenant).file.place_of task.target.slot)))
  at_cancel task (No entry value) informed stands starts =
      cancel_filed config state (record actor { point = Cancel task }) filed sound.memory informed.worker_state.tenant task.target informed.live.1 informed.knows.0.at_work.target.same_tenant entry value
      (cancels config state actor task (No entry value) informed stands).0
  at_cancel task status informed stands starts = absurd (not_so starts)
    where
      not_so : false ≡ true → ⊥
      not_so e = cc

  at_point : (point : Point) (outcome : Outcome) → let me = record actor { point = point } in IsInformed config state me → call_if config state actor.worker me (called_at point) outcome ≡ Some next → AreFiled config next
  at_point (Prepare own) outcome informed is =
      let me = record actor { point = Prepare own } in
      let file = (state.tenant_states actor.tenant).file in
      let places = places_of config state actor.tenant in
      by_good (Prepare own) (record { call = PrepareCall; change = own }) outcome informed
      (λ starts can.
      let within = low_place (is_formed PrepareCall file (own_entries actor)) (place_for PrepareCall file places own.slot) places can in
      prepare_filed config state me filed sound.memory informed.worker_state.tenant own informed.live informed.knows.drafted.own.same_tenant (state.cells.statuses own.slot) (place_for PrepareCall file places own.slot)
      (prepare_guards config state actor own informed true false Good).0 informed.knows.drafted.own.same_entries within (empty_there file 0 places (omega (arith, within)))) is
    where
      low_place : (formed : Bool) (place many : ℕ) → (formed && nat_lt place many) ≡ true → place < many
      low_place true place many is = grind (arith, nat_tests, is)
      low_place false place many is = absurd (grind (arith, is))
  at_point (Seal task) outcome informed is =
      let me = record actor { point = Seal task } in
      by_good (Seal task) (record { call = SealCall; change = task.target }) outcome informed
      (λ starts can. seal_filed config state me filed sound.memory informed.worker_state.tenant task.target informed.live.1 informed.knows.0.at_work.target.same_tenant (state.cells.statuses task.target.slot)
      (seal_guards config state actor task informed true false Good starts).0) is
  at_point (Settle task) outcome informed is =
      let me = record actor { point = Settle task } in
      by_good (Settle task) (record { call = SettleCall; change = task.target }) outcome informed
      (λ starts can. settle_filed config state me filed sound.memory informed.worker_state.tenant task.target informed.live.1 informed.knows.0.at_work.target.same_tenant (state.cells.statuses task.target.slot)
      (settle_guards config state actor task informed true false Good starts).0) is
  at_point (Cancel task) outcome informed is =
      by_good (Cancel task) (record { call = CancelCall; change = task.target }) outcome informed
      (λ starts can. at_cancel task (state.cells.statuses task.target.slot) informed refl starts) is
  at_point point outcome informed is = absurd (none_some next is)

by_worker_state : (config : Config) (state next : State) (worker : ℕ) (found : Option ActorState) (outcome : Outcome) → IsSound config state → HasFiles config state → (state.worker_states worker).actor ≡ found
    → call config state worker found outcome ≡ Some next → IsSound config next → HasFiles config next
by_worker_state config state next worker None outcome sound has sits is later = absurd (none_some next is)
by_worker_state config state next worker (Some actor) outcome sound has sits is later =
    let worker_state = have_their_requests config state sound worker actor sits in
    has_files config next later.memory
    (at_point config state next actor sound has actor.point outcome worker_state.informed (subst (λ (n : ℕ). call config state n (Some actor) outcome ≡ Some next) (sym worker_state.same_worker) is))

pub calls_keep_files : CallsKeepFiles
calls_keep_files config state next worker outcome sound has is =
    by_worker_state config state next worker (state.worker_states worker).actor outcome sound has refl is (calls_keep_sound config state next worker outcome sound is)
