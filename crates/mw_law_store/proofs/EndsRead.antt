-- If the status that a read has loaded says that its change is made and finished, the history says so too (`EndsAreRead`). Every event
-- keeps this. For the law `reads_turn_back_for_three_reasons`. Used by: ReadRetryLaws.
use Rattle.std.specs.Prelude.{ℕ, ◌≡◌, ◌≢◌, ◌⊎◌, ◌-◌, ◌==◌, true, false, nat_lt, Option, Some, None}
use Rattle.std.proofs.Common.{refl, sym, ap, subst, ◌∙◌, inl, inr}
use Rattle.mw_words.specs.declared.gates.Gate.{Gate}
use Rattle.mw_words.specs.declared.jobs.Job.{Job}
use Rattle.mw_words.specs.declared.jobs.Job.TheVariants.{Get, Cas}
use Rattle.mw_words.specs.declared.limits.TheConstants.{MAX_ENTRIES, WORN_NUMBER}
use Rattle.mw_words.specs.declared.replies.Reply.{Reply}
use Rattle.mw_words.specs.declared.statuses.Status.{Status}
use Rattle.mw_words.specs.declared.statuses.Status.TheVariants.{DoneYes}
use Rattle.mw_words.specs.declared.words.Word.{Word}
use Rattle.mw_words.specs.declared.words.Word.TheVariants.{Plain, Planted, Held, Dirty}
use Rattle.mw_pool.specs.Moves.{after_pin}
use Rattle.mw_look.specs.declared.observations.Observation.{Observation}
use Rattle.mw_look.specs.declared.observations.Observation.TheVariants.{SawDoor, SawGate, SawRow, SawStatus, SawWord, SawNumber, Won, Lost}
use Rattle.mw_look.specs.declared.points.After.{After}
use Rattle.mw_look.specs.declared.points.After.TheVariants.{Again, Answer}
use Rattle.mw_look.specs.declared.points.Point.{Point as ReadPoint}
use Rattle.mw_look.specs.declared.points.Point.TheVariants.{ReadDoor, ReadWord, ReadRow, ConfirmWord, ReadGate, Pin, ReadStatus, FindEntry, ReadExpected, ReadNew, RecheckWord, Unpin, FreeSlot, LowerDoor}
use Rattle.mw_look.specs.declared.points.Trail.{Trail}
use Rattle.mw_look.specs.declared.points.Trail.TheVariants.{Held as ByHeld, Planted as ByPlanted}
use Rattle.mw_look.specs.Program.{asks_at, first_entry, goes, next_entry, pinned, resumed, same_word, seq_of, slot_of, word_of, word_seen}
use Rattle.mw_look.proofs.RangeLaws.{either_way}
use Rattle.mw_lone.specs.Store.{is_cas}
use Rattle.mw_actor.specs.declared.points.Point.{Point}
use Rattle.mw_actor.specs.declared.points.Point.TheVariants.{Read}
use Rattle.mw_actor.specs.ActorState.{ActorState, first}
use Rattle.mw_actor.specs.Asks.{asks}
use Rattle.mw_actor.specs.Program.{goes as request_goes, replied}
use Rattle.mw_world.specs.declared.outcomes.Outcome.{Outcome}
use Rattle.mw_world.specs.declared.config.Config.{Config}
use Rattle.mw_world.specs.Definition.Calls.{Called, call, call_if, called_at}
use Rattle.mw_world.specs.Definition.Events.{WorldEvent, Come, Step as StepEvent, File as FileEvent, Hand, Restart}
use Rattle.mw_world.specs.Definition.History.{History}
use Rattle.mw_world.specs.Definition.Requests.{came, gave}
use Rattle.mw_world.specs.Definition.Restarts.{restarted}
use Rattle.mw_world.specs.Definition.State.{State, WorkerState}
use Rattle.mw_world.specs.Definition.Turns.{turn}
use Rattle.mw_world.specs.Definition.World.{hand, handed, may_come, step}
use Rattle.mw_law_runs.proofs.Counts.Startable.{may_start}
use Rattle.mw_law_runs.specs.Moves.Guards.{IsLive}
use Rattle.mw_law_runs.specs.Moves.Memory.{Memory}
use Rattle.mw_law_runs.specs.Knowledge.Facts.{CameBy}
use Rattle.mw_law_runs.specs.Knowledge.Informed.{IsInformed, IsPointFor}
use Rattle.mw_law_runs.specs.Knowledge.Live.{AreLiveInRead}
use Rattle.mw_law_runs.specs.Knowledge.Points.{ReadKnows}
use Rattle.mw_law_runs.specs.Knowledge.NextState.{told}
use Rattle.mw_law_runs.specs.Obligations.{OneStepped}
use Rattle.mw_law_runs.specs.RunInvariant.{IsSound}
use Rattle.mw_law_runs.proofs.StepEnds.{Ends}
use Rattle.mw_law_runs.proofs.FileCalls as filing
use Rattle.mw_law_runs.proofs.Knowledge.Updates.Preservation.{upd_else, upd_here}
use Rattle.mw_law_runs.proofs.Knowledge.Guards.Memory.{status_told}
use Rattle.mw_law_runs.proofs.Numbers.{same_or_other}
use Rattle.mw_law_runs.proofs.Obligations.Pins.{none_some, some_same}
use Rattle.mw_law_runs.proofs.RequestsInWorlds.{have_their_requests}
use Rattle.mw_law_runs.proofs.GuardedEvents.{guarded}
use Rattle.mw_law_runs.proofs.StepsKeepInvariant as turning
use Rattle.mw_law_store.proofs.WorldFactLaws.Inside.{is_of_change}
use Rattle.mw_law_store.proofs.ReadKnowledge.{change_of, known_by_trail}

-- if the status that was read says so, the change that the trail leads to is made and done with
abbrev pub IsEnd : History → Trail → Status → Type 0
IsEnd past trail status = status ≡ DoneYes → past.fate (slot_of trail) (seq_of trail) ≡ DoneYes

abbrev pub EndIsRead : History → ReadPoint → Type 0
EndIsRead past (FindEntry trail status entry) = IsEnd past trail status
EndIsRead past (ReadExpected trail status entry) = IsEnd past trail status
EndIsRead past (ReadNew trail status entry expected) = IsEnd past trail status
EndIsRead past (RecheckWord trail status expected new) = IsEnd past trail status
EndIsRead past point = Unit {0}

abbrev pub EndIsReadAt : History → Point → Type 0
EndIsReadAt past (Read look) = EndIsRead past look.point
EndIsReadAt past point = Unit {0}

abbrev pub EndsAreRead : State → Type 0
EndsAreRead state = (worker : ℕ) (actor : ActorState) → (state.worker_states worker).actor ≡ Some actor → EndIsReadAt state.history actor.point

-- That stays while the statuses of changes go on.
module _ (old new : State) (stays : (slot seq : ℕ) → old.history.fate slot seq ≡ DoneYes → new.history.fate slot seq ≡ DoneYes) where
  read_stays : (point : ReadPoint) → EndIsRead old.history point → EndIsRead new.history point
  read_stays (FindEntry trail status entry) read = λ is. stays (slot_of trail) (seq_of trail) (read is)
  read_stays (ReadExpected trail status entry) read = λ is. stays (slot_of trail) (seq_of trail) (read is)
  read_stays (ReadNew trail status entry expected) read = λ is. stays (slot_of trail) (seq_of trail) (read is)
  read_stays (RecheckWord trail status expected written) read = λ is. stays (slot_of trail) (seq_of trail) (read is)
  read_stays point read = tt

  pub end_stays : (point : Point) → EndIsReadAt old.history point → EndIsReadAt new.history point
  end_stays (Read look) read = read_stays look.point read
  end_stays point read = tt

-- Each step of a read keeps that.
module _ (past : History) (address : ℕ) where
  resumed_so : (onward : After) → EndIsRead past (resumed onward)
  resumed_so Again = tt
  resumed_so (Answer value) = tt

  word_so : (word : Word) → EndIsRead past (word_seen word)
  word_so (Plain value) = tt
  word_so (Dirty slot value) = tt
  word_so (Held slot seq) = tt
  word_so (Planted worker number) = tt

  pinned_so : (trail : Trail) (from : Gate) (found : Option Gate) → EndIsRead past (pinned trail from found)
  pinned_so trail from (Some to) = tt
  pinned_so trail from None = tt

  status_so : (trail : Trail) (status : Status) → IsEnd past trail status → EndIsRead past (first_entry trail status)
  status_so (ByHeld slot seq) status is = is
  status_so (ByPlanted worker number row) status is = is

  -- what is observed of the change's status
  abbrev Tells : ReadPoint → Observation → Type 0
  Tells (ReadStatus trail) (SawStatus status) = IsEnd past trail status
  Tells point observation = Unit {0}

  read_goes : (point : ReadPoint) (observation : Observation) → Tells point observation → EndIsRead past point → EndIsRead past (goes address point observation)
  read_goes ReadDoor (SawDoor door) is read = either_way (EndIsRead past) door.fault _ _ (λ e. tt) (λ e. tt)
  read_goes ReadWord (SawWord word) is read = word_so word
  read_goes (ReadRow worker number) (SawRow row) is read = tt
  read_goes (ConfirmWord trail) (SawWord word) is read = either_way (EndIsRead past) (same_word word (word_of trail)) _ _ (λ e. tt) (λ e. tt)
  read_goes (ReadGate trail) (SawGate gate) is read =
      either_way (EndIsRead past) (nat_lt (seq_of trail) WORN_NUMBER) _ _ (λ e. pinned_so trail gate (after_pin gate (seq_of trail))) (λ e. tt)
  read_goes (Pin trail from to) Won is read = tt
  read_goes (Pin trail from to) Lost is read = tt
  read_goes (ReadStatus trail) (SawStatus status) is read = status_so trail status is
  read_goes (FindEntry trail status entry) (SawNumber number) is read =
      either_way (EndIsRead past) (number == address) (ReadExpected trail status entry) (next_entry trail status entry) (λ e. read)
      (λ e. either_way (EndIsRead past) (nat_lt entry (MAX_ENTRIES - 1)) _ _ (λ more. read) (λ last. tt))
  read_goes (ReadExpected trail status entry) (SawNumber expected) is read = read
  read_goes (ReadNew trail status entry expected) (SawNumber new) is read = read
  read_goes (RecheckWord trail status expected new) (SawWord word) is read = tt
  read_goes (Unpin slot seq onward) (SawGate gate) is read = either_way (EndIsRead past) (gate.pins == 1) _ _ (λ e. tt) (λ e. resumed_so onward)
  read_goes (FreeSlot slot seq onward) Won is read = tt
  read_goes (LowerDoor onward) (SawDoor door) is read = resumed_so onward
  read_goes point observation is read = read

same_status : (one other : Status) → SawStatus one ≡ SawStatus other → one ≡ other
same_status one other e = cc

module _ (config : Config) (state : State) (memory : Memory config state) (tenant address : ℕ) where
  end_told : (trail : Trail) (status : Status) → IsLive state (change_of trail) → CameBy state tenant address trail → SawStatus status ≡ SawStatus (state.cells.statuses (slot_of trail)) → IsEnd state.history trail status
  end_told trail status live came told is =
      sym (status_told config state memory tenant (change_of trail) live (known_by_trail state tenant address trail came)) ∙ sym (same_status status _ told) ∙ is

  tells : (point : ReadPoint) (observation : Observation) → AreLiveInRead state point → ReadKnows state tenant address point → Ends state.cells (asks_at tenant address point) observation → Tells state.history address point observation
  tells (ReadStatus trail) (SawStatus status) live came (inl quiet) = end_told trail status live came quiet
  tells (ReadStatus trail) (SawStatus status) live came (inr changes) = absurd changes
  tells (ReadStatus trail) observation live came ends = tt
  tells point observation live came ends = tt

-- a request of a change reads nothing for a reply
of_change : (past : History) (job : Job) (point : Point) → is_cas job ≡ true → IsPointFor job point → EndIsReadAt past point
of_change past (Get address) point is for_job = absurd (false_true is)
  where
    false_true : false ≡ true → ⊥
    false_true e = cc
of_change past (Cas entries) (Read look) is for_job = absurd for_job
of_change past (Cas entries) point is for_job = tt

end_goes : (config : Config) (state : State) (actor : ActorState) (number : ℕ) (point : Point) (observation : Observation) → let me = record actor { point = point } in IsInformed config state me → Ends state.cells (asks me) observation
    → EndIsReadAt state.history point → IsPointFor actor.job (request_goes me number point observation) → EndIsReadAt state.history (request_goes me number point observation)
end_goes config state actor number (Read look) observation informed ends read for_job =
    read_goes state.history look.address look.point observation (tells config state informed.memory look.tenant look.address look.point observation informed.live informed.knows ends) read
end_goes config state actor number point observation informed ends read for_job =
    of_change state.history actor.job (request_goes (record actor { point = point }) number point observation) (is_of_change actor.job point refl informed.for_job) for_job

-- one request goes on, and the others stay at their points
one_goes : (state next : State) (worker : ℕ) (later : ActorState) → OneStepped state next worker later → ((slot seq : ℕ) → state.history.fate slot seq ≡ DoneYes → next.history.fate slot seq ≡ DoneYes)
    → EndIsReadAt next.history later.point → EndsAreRead state → EndsAreRead next
one_goes state next worker later stepped stays itself read other one sits = by_worker (same_or_other other worker)
  where
    by_worker : (other ≡ worker) ⊎ (other ≢ worker) → EndIsReadAt next.history one.point
    by_worker (inl here) = subst (λ (its : ActorState). EndIsReadAt next.history its.point) (some_same later one (sym stepped.goes_on ∙ ap (λ (n : ℕ). (next.worker_states n).actor) (sym here) ∙ sits)) itself
    by_worker (inr apart) = end_stays state next stays one.point (read other one (sym (stepped.others other apart) ∙ sits))

module _ (config : Config) (state next : State) (sound : IsSound config state) (after : IsSound config next) (read : EndsAreRead state) where
  turn_read : (actor : ActorState) → (state.worker_states actor.worker).actor ≡ Some actor → turn config state actor.worker (Some actor) ≡ Some next → EndsAreRead next
  turn_read actor sits is =
      let ended = turning.ended config state next actor sound sits is in
      let later = turning.later config state next actor sound sits is in
      let its = told state actor ended.observation in
      one_goes state next actor.worker its ended.stepped later.done
      (end_stays state next later.done its.point
      (end_goes config state actor _ actor.point ended.observation (have_their_requests config state sound actor.worker actor sits).informed ended.ends (read actor.worker actor sits)
      (after.requests actor.worker its ended.stepped.goes_on).for_job)) read

  turn_by : (worker : ℕ) (found : Option ActorState) → (state.worker_states worker).actor ≡ found → turn config state worker found ≡ Some next → EndsAreRead next
  turn_by worker None sits is = absurd (none_some next is)
  turn_by worker (Some actor) sits is =
      let same = (sound.counts.worker_states worker actor sits).same_worker in
      turn_read actor (subst (λ (n : ℕ). (state.worker_states n).actor ≡ Some actor) (sym same) sits) (subst (λ (n : ℕ). turn config state n (Some actor) ≡ Some next) (sym same) is)

  calls_by_change : (job : Job) (point : Point) (called : Called) → called_at point ≡ Some called → IsPointFor job point → is_cas job ≡ true
  calls_by_change job (Read look) called at for_job = absurd (none_some called at)
  calls_by_change job point called at for_job = is_of_change job point refl for_job

  call_read : (actor : ActorState) (outcome : Outcome) (found : Option Called) → (state.worker_states actor.worker).actor ≡ Some actor → called_at actor.point ≡ found
      → call config state actor.worker (Some actor) outcome ≡ Some next → EndsAreRead next
  call_read actor outcome None sits at is = absurd (none_some next (subst (λ (found : Option Called). call_if config state actor.worker actor found outcome ≡ Some next) at is))
  call_read actor outcome (Some called) sits at is =
      let stepped = filing.stepped config state next actor called outcome sound sits at is in
      let later = filing.later config state next actor called outcome sound sits at is in
      one_goes state next actor.worker _ stepped later.done
      (of_change next.history actor.job _ (calls_by_change actor.job actor.point called at (sound.requests actor.worker actor sits).for_job) (after.requests actor.worker _ stepped.goes_on).for_job) read

  call_by : (worker : ℕ) (found : Option ActorState) (outcome : Outcome) → (state.worker_states worker).actor ≡ found → call config state worker found outcome ≡ Some next → EndsAreRead next
  call_by worker None outcome sits is = absurd (none_some next is)
  call_by worker (Some actor) outcome sits is =
      let same = (sound.counts.worker_states worker actor sits).same_worker in
      call_read actor outcome (called_at actor.point) (subst (λ (n : ℕ). (state.worker_states n).actor ≡ Some actor) (sym same) sits) refl
      (subst (λ (n : ℕ). call config state n (Some actor) outcome ≡ Some next) (sym same) is)

-- a request that begins has read nothing
first_read : (past : History) (worker tenant quota pool : ℕ) (job : Job) → EndIsReadAt past (first worker tenant quota pool job).point
first_read past worker tenant quota pool (Get address) = tt
first_read past worker tenant quota pool (Cas entries) = tt

came_read : (config : Config) (state : State) (worker tenant : ℕ) (job : Job) → EndsAreRead state → EndsAreRead (came config state worker tenant job)
came_read config state worker tenant job read =
    one_goes state (came config state worker tenant job) worker _ (record {
      goes_on = ap (λ (worker_state : WorkerState). worker_state.actor) (upd_here state.worker_states worker _);
      others = λ other apart. ap (λ (worker_state : WorkerState). worker_state.actor) (upd_else state.worker_states worker other _ apart);
    }) (λ slot seq is. is) (first_read state.history worker tenant (state.tenant_states tenant).quota config.pool job) read

gave_read : (state : State) (worker tenant : ℕ) → EndsAreRead state → EndsAreRead (gave state worker tenant)
gave_read state worker tenant read other one sits = by_worker (same_or_other other worker)
  where
    by_worker : (other ≡ worker) ⊎ (other ≢ worker) → EndIsReadAt state.history one.point
    by_worker (inl here) =
        absurd (none_some one (sym (ap (λ (worker_state : WorkerState). worker_state.actor) (upd_here state.worker_states worker _)) ∙ ap (λ (n : ℕ). ((gave state worker tenant).worker_states n).actor) (sym here) ∙ sits))
    by_worker (inr apart) = read other one (sym (ap (λ (worker_state : WorkerState). worker_state.actor) (upd_else state.worker_states worker other _ apart)) ∙ sits)

hand_read : (state next : State) (worker : ℕ) (found : Option ActorState) → EndsAreRead state → hand state worker found ≡ Some next → EndsAreRead next
hand_read state next worker None read is = absurd (none_some next is)
hand_read state next worker (Some actor) read is = by_reply (replied actor) is
  where
    by_reply : (reply : Option Reply) → handed state worker actor.tenant reply ≡ Some next → EndsAreRead next
    by_reply None given = absurd (none_some next given)
    by_reply (Some reply) given = subst EndsAreRead (some_same (gave state worker actor.tenant) next given) (gave_read state worker actor.tenant read)

pub event_read : (config : Config) (state next : State) (event : WorldEvent) → IsSound config state → IsSound config next → EndsAreRead state → step config state event ≡ Some next → EndsAreRead next
event_read config state next (Come worker tenant job) sound after read is =
    guarded EndsAreRead (may_come config state worker tenant job) (came config state worker tenant job) next (λ may. came_read config state worker tenant job read) is
event_read config state next (StepEvent worker) sound after read is = turn_by config state next sound after read worker (state.worker_states worker).actor refl is
event_read config state next (FileEvent worker outcome) sound after read is = call_by config state next sound after read worker (state.worker_states worker).actor outcome refl is
event_read config state next (Hand worker) sound after read is = hand_read state next worker (state.worker_states worker).actor read is
event_read config state next (Restart founds) sound after read is =
    guarded EndsAreRead (may_start config state founds) (restarted config state founds) next (λ may worker actor sits. absurd (none_some actor sits)) is
