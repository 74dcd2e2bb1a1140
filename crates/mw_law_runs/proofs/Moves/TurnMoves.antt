-- A step that is no call on a file changes shared words, history and attempt numbers exactly as its list of moves does.
-- Used by: steps_are_moves.
use Rattle.std.specs.Prelude.{ℕ, ◌≡◌, ◌++◌, ◌==◌, Bool, true, false, cond, List, [], ◌∷◌, Some, None}
use Rattle.std.proofs.Common.{refl, ap, subst, arith}
use Rattle.std.proofs.lemmas.Bool.Decides.{nat_tests}
use Rattle.mw_words.specs.declared.jobs.Job.{Job}
use Rattle.mw_words.specs.declared.jobs.Entry.{Entry}
use Rattle.mw_words.specs.declared.replies.Reply.{Reply}
use Rattle.mw_words.specs.declared.replies.Reply.TheVariants.{Busy as SaysBusy, Fault as SaysFault}
use Rattle.mw_look.specs.declared.observations.Observation.{Observation}
use Rattle.mw_look.specs.declared.observations.Observation.TheVariants.{Won, Lost}
use Rattle.mw_look.specs.declared.points.Trail.{Trail}
use Rattle.mw_look.specs.declared.points.Trail.TheVariants.{Held as ByHeld, Planted as ByPlanted}
use Rattle.mw_look.specs.declared.points.After.{After as AfterRead}
use Rattle.mw_look.specs.declared.points.After.TheVariants.{Again, Answer}
use Rattle.mw_look.specs.declared.points.Point.{Point as ReadPoint}
use Rattle.mw_look.specs.declared.points.Point.TheVariants as look
use Rattle.mw_actor.specs.declared.points.Slot.{Slot}
use Rattle.mw_actor.specs.declared.points.Sweep.TheVariants.{Yes as SweepYes, DoneYes as SweepDoneYes, No as SweepNo, DoneNo as SweepDoneNo}
use Rattle.mw_actor.specs.declared.points.Point.{Point}
use Rattle.mw_actor.specs.declared.points.Point.TheVariants as points
use Rattle.mw_actor.specs.ActorState.{ActorState}
use Rattle.mw_world.specs.Definition.History.{History, StandingAttempt, AttemptIn, standing_at, permission_at}
use Rattle.std.specs.Prelude.{not, is_some, ◌&&◌, if◌then◌else◌}
use Rattle.mw_actor.specs.Asks.{asks}
use Rattle.mw_actor.specs.Program.{replied}
use Rattle.mw_world.specs.Maps.{upd}
use Rattle.mw_world.specs.Definition.StepLabels.{door_label, inspect_label, read_door_label, read_word_label, read_status_label, answer_label}
use Rattle.mw_world.specs.Definition.LabelEffects.{with_label, with_intent}
use Rattle.mw_world.specs.Definition.State.{State, WorkerState}
use Rattle.mw_world.specs.Definition.Turns.{turned, may_make, moved, moved_to, made_of}
use Rattle.mw_world.specs.Definition.Cells.{Cells, read, write}
use Rattle.mw_words.specs.declared.places.At.{At}
use Rattle.mw_words.specs.declared.places.At.TheVariants.{Door as AtDoor, Gate as AtGate, Data, Status as AtStatus}
use Rattle.mw_words.specs.declared.words.Word.TheVariants.{Plain, Planted, Dirty}
use Rattle.mw_words.specs.declared.statuses.Status.TheVariants.{Open, YesDirty, No}
use Rattle.mw_look.specs.Places.{Val, pack}
use Rattle.mw_look.specs.declared.observations.Observation.TheVariants.{SawDoor, SawWord, SawStatus}
use Rattle.mw_look.specs.Program.{slot_of, word_seen, answer, goes as read_goes}
use Rattle.mw_actor.specs.ActorState.{planted, held, entry_of}
use Rattle.mw_actor.specs.Asks.{resolved, released}
use Rattle.mw_actor.specs.RequestEnds.{gave_up}
use Rattle.mw_world.specs.Definition.StepLabels.{give_up_label}
use Rattle.mw_law_runs.specs.Moves.Moves.{made_all}
use Rattle.mw_law_runs.specs.Moves.StepMoves.{SameMemory, TurnsAreMoves, moves_of_turn, moves_told, next_of, set_intent, give_up_moves}

-- a worker that goes on has the same number for its next attempt as the one that it goes on with
same_attempt : (worker_states : ℕ → WorkerState) (worker other : ℕ) (worker_state : WorkerState) → worker_state.attempt ≡ (worker_states worker).attempt → (upd worker_states worker worker_state other).attempt ≡ (worker_states other).attempt
same_attempt worker_states worker other worker_state is = grind (arith, nat_tests, is)

both_attempts : (worker_states : ℕ → WorkerState) (worker other : ℕ) (one two : WorkerState) → one.attempt ≡ two.attempt → (upd worker_states worker one other).attempt ≡ (upd worker_states worker two other).attempt
both_attempts worker_states worker other one two is = grind (arith, nat_tests, is)

-- The label of a read's step changes nothing in the history. Neither does that of a step that finds a reply at its tenant's door or looks at a word.
door_enters : (point : Point) (worker : ℕ) (actor : ActorState) (request : ℕ) (past : History) → with_label (door_label point) worker actor request past ≡ past
door_enters (points.Replied SaysBusy) worker actor request past = refl
door_enters (points.Replied SaysFault) worker actor request past = refl
door_enters point worker actor request past = refl

inspect_enters : (point : Point) (worker : ℕ) (actor : ActorState) (request : ℕ) (past : History) → with_label (inspect_label point) worker actor request past ≡ past
inspect_enters (points.DecideNo task entry value) worker actor request past = refl
inspect_enters point worker actor request past = refl

read_door_enters : (point : ReadPoint) (worker : ℕ) (actor : ActorState) (request : ℕ) (past : History) → with_label (read_door_label point) worker actor request past ≡ past
read_door_enters (look.Replied SaysFault) worker actor request past = refl
read_door_enters point worker actor request past = refl

read_word_enters : (point : ReadPoint) (worker : ℕ) (actor : ActorState) (request : ℕ) (past : History) → with_label (read_word_label point) worker actor request past ≡ past
read_word_enters (look.Replied reply) worker actor request past = refl
read_word_enters point worker actor request past = refl

read_status_enters : (trail : Trail) (worker : ℕ) (actor : ActorState) (request : ℕ) (past : History) → with_label (read_status_label trail) worker actor request past ≡ past
read_status_enters (ByHeld slot seq) worker actor request past = refl
read_status_enters (ByPlanted number attempt row) worker actor request past = refl

answer_enters : (trail : Trail) (after : AfterRead) (worker : ℕ) (actor : ActorState) (request : ℕ) (past : History) → with_label (answer_label trail after) worker actor request past ≡ past
answer_enters trail Again worker actor request past = refl
answer_enters (ByHeld slot seq) (Answer value) worker actor request past = refl
answer_enters (ByPlanted number attempt row) (Answer value) worker actor request past = refl

-- a request made of these parts
abbrev acting : ℕ → ℕ → ℕ → ℕ → Job → List Entry → Point → ActorState
acting worker tenant quota pool job others point = record { worker = worker; tenant = tenant; quota = quota; pool = pool; job = job; others = others; point = point }

-- a value that is written over isn't seen
seen_once : {A : Type 0} → (f : ℕ → A) (i : ℕ) (x y : A) (k : ℕ) → upd f i y k ≡ upd (upd f i x) i y k
seen_once f i x y k = grind (arith, nat_tests)

once_more : {A : Type 0} → (f : ℕ → A) (i : ℕ) (x y : A) → upd f i y ≡ upd (upd f i x) i y
once_more f i x y = λ d k. seen_once f i x y k d

-- the world after the request learned this of its step, which left these shared words
abbrev after : State → ActorState → Cells → Observation → State
after state actor cells observation = moved state actor.worker actor (made_of state actor.worker actor cells observation)

-- it is the world after the moves for what the request learned
abbrev IsTold : State → ActorState → Cells → Observation → Type 0
IsTold state actor cells observation = SameMemory (after state actor cells observation) (made_all state actor.worker (moves_told state actor.worker actor observation))

-- an exchange is made or not, and so are its moves
by_test : (state : State) (actor : ActorState) (test : Bool) (cells : Cells) → IsTold state actor cells Won → IsTold state actor state.cells Lost
    → SameMemory (cond test (after state actor cells Won) (after state actor state.cells Lost))
    (made_all state actor.worker (cond test (moves_told state actor.worker actor Won) (moves_told state actor.worker actor Lost)))
by_test state actor true cells won lost = won
by_test state actor false cells won lost = lost

exchanged : (state : State) (actor : ActorState) (at : At) (from to : Val at) → IsTold state actor (write state.cells at to) Won → IsTold state actor state.cells Lost
    → SameMemory (cond (pack at (read state.cells at) == pack at from) (after state actor (write state.cells at to) Won) (after state actor state.cells Lost))
    (made_all state actor.worker (cond (pack at (read state.cells at) == pack at from) (moves_told state actor.worker actor Won) (moves_told state actor.worker actor Lost)))
exchanged state actor at from to won lost = by_test state actor (pack at (read state.cells at) == pack at from) (write state.cells at to) won lost

-- a request that gives up leaves its pin behind
gives_up : (state : State) (worker tenant quota pool : ℕ) (job : Job) (others : List Entry) (own : Slot) (undecided reply : Reply) (next : ActorState) (observation : Observation) →
    SameMemory (moved_to state worker (acting worker tenant quota pool job others (points.GiveUp own undecided)) next
    (record { cells = state.cells; file = (state.tenant_states tenant).file; observation = observation; label = give_up_label own (points.Replied reply) }))
    (made_all state worker (give_up_moves own (points.Replied reply) ++ set_intent next ∷ []))
gives_up state worker tenant quota pool job others own undecided SaysFault next observation = record { cells = refl; history = refl; attempts = λ other. same_attempt state.worker_states worker other _ refl }
gives_up state worker tenant quota pool job others own undecided reply next observation = record { cells = refl; history = refl; attempts = λ other. same_attempt state.worker_states worker other _ refl }

-- the turn of a worker's request changes memory by its moves
abbrev Turns : State → ActorState → Type 0
Turns state actor = SameMemory (turned state actor.worker actor) (made_all state actor.worker (moves_of_turn state actor.worker actor))

module _ (state : State) (worker tenant quota pool : ℕ) (job : Job) (others : List Entry) (of_tenant address : ℕ) where
  abbrev reading : ReadPoint → ActorState
  reading point = acting worker tenant quota pool job others (points.Read (record { tenant = of_tenant; address = address; point = point }))

  -- a read's turn
  read_turns : (point : ReadPoint) → Turns state (reading point)
  read_turns look.ReadDoor = record { cells = refl; history = ap (λ (past : History). with_intent past worker (next_of state worker (reading (look.ReadDoor)) (SawDoor (state.cells.doors of_tenant)))) (read_door_enters (read_goes address look.ReadDoor (SawDoor (state.cells.doors of_tenant))) worker (reading (look.ReadDoor)) (state.worker_states worker).request state.history); attempts = λ other. same_attempt state.worker_states worker other _ refl }
  read_turns look.ReadWord = record { cells = refl; history = ap (λ (past : History). with_intent past worker (next_of state worker (reading (look.ReadWord)) (SawWord (state.cells.words of_tenant address)))) (read_word_enters (word_seen (state.cells.words of_tenant address)) worker (reading (look.ReadWord)) (state.worker_states worker).request state.history); attempts = λ other. same_attempt state.worker_states worker other _ refl }
  read_turns (look.ReadRow number attempt) = record { cells = refl; history = refl; attempts = λ other. same_attempt state.worker_states worker other _ refl }
  read_turns (look.ConfirmWord trail) = record { cells = refl; history = refl; attempts = λ other. same_attempt state.worker_states worker other _ refl }
  read_turns (look.ReadGate trail) = record { cells = refl; history = refl; attempts = λ other. same_attempt state.worker_states worker other _ refl }
  read_turns (look.FindEntry trail status entry) = record { cells = refl; history = refl; attempts = λ other. same_attempt state.worker_states worker other _ refl }
  read_turns (look.ReadExpected trail status entry) = record { cells = refl; history = refl; attempts = λ other. same_attempt state.worker_states worker other _ refl }
  read_turns (look.ReadNew trail status entry expected) = record { cells = refl; history = refl; attempts = λ other. same_attempt state.worker_states worker other _ refl }
  read_turns (look.Replied reply) = record { cells = refl; history = refl; attempts = λ other. same_attempt state.worker_states worker other _ refl }
  read_turns (look.Unpin slot seq after) = record { cells = refl; history = refl; attempts = λ other. same_attempt state.worker_states worker other _ refl }
  read_turns (look.FreeSlot slot seq after) = record { cells = refl; history = refl; attempts = λ other. same_attempt state.worker_states worker other _ refl }
  read_turns (look.LowerDoor after) = record { cells = refl; history = refl; attempts = λ other. same_attempt state.worker_states worker other _ refl }
  read_turns (look.Pin trail from to) = exchanged state (reading (look.Pin trail from to)) (AtGate (slot_of trail)) (from) (to) (record { cells = refl; history = refl; attempts = λ other. same_attempt state.worker_states worker other _ refl }) (record { cells = refl; history = refl; attempts = λ other. same_attempt state.worker_states worker other _ refl })
  read_turns (look.ReadStatus trail) = record { cells = refl; history = ap (λ (past : History). with_intent past worker (next_of state worker (reading (look.ReadStatus trail)) (SawStatus (state.cells.statuses (slot_of trail))))) (read_status_enters trail worker (reading (look.ReadStatus trail)) (state.worker_states worker).request state.history); attempts = λ other. same_attempt state.worker_states worker other _ refl }
  read_turns (look.RecheckWord trail status expected new) = record { cells = refl; history = ap (λ (past : History). with_intent past worker (next_of state worker (reading (look.RecheckWord trail status expected new)) (SawWord (state.cells.words of_tenant address)))) (answer_enters trail (answer trail (state.cells.words of_tenant address) status expected new) worker (reading (look.RecheckWord trail status expected new)) (state.worker_states worker).request state.history); attempts = λ other. same_attempt state.worker_states worker other _ refl }

-- the turn of a request at each point
pub point_turns : (state : State) (worker tenant quota pool : ℕ) (job : Job) (others : List Entry) (point : Point) → Turns state (acting worker tenant quota pool job others point)
point_turns state worker tenant quota pool job others (points.Read look) = read_turns state worker tenant quota pool job others look.tenant look.address look.point
point_turns state worker tenant quota pool job others points.ReadDoor = record { cells = refl; history = ap (λ (past : History). with_intent past worker (next_of state worker (acting worker tenant quota pool job others (points.ReadDoor)) (SawDoor (state.cells.doors tenant)))) (door_enters (next_of state worker (acting worker tenant quota pool job others (points.ReadDoor)) (SawDoor (state.cells.doors tenant))).point worker (acting worker tenant quota pool job others (points.ReadDoor)) (state.worker_states worker).request state.history); attempts = λ other. same_attempt state.worker_states worker other _ refl }
point_turns state worker tenant quota pool job others (points.Admit from to) = exchanged state (acting worker tenant quota pool job others (points.Admit from to)) (AtDoor tenant) (from) (to) (record { cells = refl; history = refl; attempts = λ other. same_attempt state.worker_states worker other _ refl }) (record { cells = refl; history = refl; attempts = λ other. same_attempt state.worker_states worker other _ refl })
point_turns state worker tenant quota pool job others (points.Claim slot saw_worn from to) = exchanged state (acting worker tenant quota pool job others (points.Claim slot saw_worn from to)) (AtGate slot) (from) (to) (record { cells = refl; history = refl; attempts = λ other. same_attempt state.worker_states worker other _ refl }) (record { cells = refl; history = refl; attempts = λ other. same_attempt state.worker_states worker other _ refl })
point_turns state worker tenant quota pool job others (points.DecideYes task) = exchanged state (acting worker tenant quota pool job others (points.DecideYes task)) (AtStatus task.target.slot) (Open) (YesDirty) (record { cells = refl; history = refl; attempts = λ other. same_attempt state.worker_states worker other _ refl }) (record { cells = refl; history = refl; attempts = λ other. same_attempt state.worker_states worker other _ refl })
point_turns state worker tenant quota pool job others (points.DecideNo task entry value) = exchanged state (acting worker tenant quota pool job others (points.DecideNo task entry value)) (AtStatus task.target.slot) (Open) (No entry value) (record { cells = refl; history = refl; attempts = λ other. same_attempt state.worker_states worker other _ refl }) (record { cells = refl; history = refl; attempts = λ other. same_attempt state.worker_states worker other _ refl })
point_turns state worker tenant quota pool job others (points.PinOther task other from to) = exchanged state (acting worker tenant quota pool job others (points.PinOther task other from to)) (AtGate other.slot) (from) (to) (record { cells = refl; history = refl; attempts = λ other. same_attempt state.worker_states worker other _ refl }) (record { cells = refl; history = refl; attempts = λ other. same_attempt state.worker_states worker other _ refl })
point_turns state worker tenant quota pool job others (points.Clean task entry value) = exchanged state (acting worker tenant quota pool job others (points.Clean task entry value)) (Data tenant (entry_of (acting worker tenant quota pool job others (points.Clean task entry value)) task entry).addr) (Dirty task.target.slot value) (Plain value) (record { cells = refl; history = refl; attempts = λ other. same_attempt state.worker_states worker other _ refl }) (record { cells = refl; history = refl; attempts = λ other. same_attempt state.worker_states worker other _ refl })
point_turns state worker tenant quota pool job others (points.SweepResolve task sweep entry attempt) = exchanged state (acting worker tenant quota pool job others (points.SweepResolve task sweep entry attempt)) (Data tenant (entry_of (acting worker tenant quota pool job others (points.SweepResolve task sweep entry attempt)) task entry).addr) (planted attempt) (Plain (entry_of (acting worker tenant quota pool job others (points.SweepResolve task sweep entry attempt)) task entry).expected) (record { cells = refl; history = refl; attempts = λ other. same_attempt state.worker_states worker other _ refl }) (record { cells = refl; history = refl; attempts = λ other. same_attempt state.worker_states worker other _ refl })
point_turns state worker tenant quota pool job others (points.ScanGate slot saw_worn) = record { cells = refl; history = refl; attempts = λ other. same_attempt state.worker_states worker other _ refl }
point_turns state worker tenant quota pool job others (points.FillStatus own) = record { cells = refl; history = refl; attempts = λ other. same_attempt state.worker_states worker other _ refl }
point_turns state worker tenant quota pool job others (points.FillCount own) = record { cells = refl; history = refl; attempts = λ other. same_attempt state.worker_states worker other _ refl }
point_turns state worker tenant quota pool job others (points.FillAddr own entry) = record { cells = refl; history = refl; attempts = λ other. same_attempt state.worker_states worker other _ refl }
point_turns state worker tenant quota pool job others (points.FillExpected own entry) = record { cells = refl; history = refl; attempts = λ other. same_attempt state.worker_states worker other _ refl }
point_turns state worker tenant quota pool job others (points.FillNew own entry) = record { cells = refl; history = refl; attempts = λ other. same_attempt state.worker_states worker other _ refl }
point_turns state worker tenant quota pool job others (points.Prepare own) = record { cells = refl; history = refl; attempts = λ other. same_attempt state.worker_states worker other _ refl }
point_turns state worker tenant quota pool job others (points.ReadTargetStatus task) = record { cells = refl; history = refl; attempts = λ other. same_attempt state.worker_states worker other _ refl }
point_turns state worker tenant quota pool job others (points.AnnounceRow task entry number) = record { cells = refl; history = refl; attempts = λ other. same_attempt state.worker_states worker other _ refl }
point_turns state worker tenant quota pool job others (points.ReadOtherRow task entry attempt) = record { cells = refl; history = refl; attempts = λ other. same_attempt state.worker_states worker other _ refl }
point_turns state worker tenant quota pool job others (points.ConfirmAttempt task entry attempt other) = record { cells = refl; history = refl; attempts = λ other. same_attempt state.worker_states worker other _ refl }
point_turns state worker tenant quota pool job others (points.ReadDirtyGate task entry slot value) = record { cells = refl; history = refl; attempts = λ other. same_attempt state.worker_states worker other _ refl }
point_turns state worker tenant quota pool job others (points.ConfirmDirty task entry other value) = record { cells = refl; history = refl; attempts = λ other. same_attempt state.worker_states worker other _ refl }
point_turns state worker tenant quota pool job others (points.CheckThenResolve task entry attempt) = record { cells = refl; history = refl; attempts = λ other. same_attempt state.worker_states worker other _ refl }
point_turns state worker tenant quota pool job others (points.ReadOtherGate task other) = record { cells = refl; history = refl; attempts = λ other. same_attempt state.worker_states worker other _ refl }
point_turns state worker tenant quota pool job others (points.ReadCount task) = record { cells = refl; history = refl; attempts = λ other. same_attempt state.worker_states worker other _ refl }
point_turns state worker tenant quota pool job others (points.ReadAddr task count) = record { cells = refl; history = refl; attempts = λ other. same_attempt state.worker_states worker other _ refl }
point_turns state worker tenant quota pool job others (points.ReadExpected task count addr) = record { cells = refl; history = refl; attempts = λ other. same_attempt state.worker_states worker other _ refl }
point_turns state worker tenant quota pool job others (points.ReadNew task count addr expected) = record { cells = refl; history = refl; attempts = λ other. same_attempt state.worker_states worker other _ refl }
point_turns state worker tenant quota pool job others (points.Seal task) = record { cells = refl; history = refl; attempts = λ other. same_attempt state.worker_states worker other _ refl }
point_turns state worker tenant quota pool job others (points.SweepWord task sweep entry) = record { cells = refl; history = refl; attempts = λ other. same_attempt state.worker_states worker other _ refl }
point_turns state worker tenant quota pool job others (points.SweepRow task sweep entry attempt) = record { cells = refl; history = refl; attempts = λ other. same_attempt state.worker_states worker other _ refl }
point_turns state worker tenant quota pool job others (points.SweepConfirm task sweep entry attempt other) = record { cells = refl; history = refl; attempts = λ other. same_attempt state.worker_states worker other _ refl }
point_turns state worker tenant quota pool job others (points.Settle task) = record { cells = refl; history = refl; attempts = λ other. same_attempt state.worker_states worker other _ refl }
point_turns state worker tenant quota pool job others (points.Cancel task) = record { cells = refl; history = refl; attempts = λ other. same_attempt state.worker_states worker other _ refl }
point_turns state worker tenant quota pool job others (points.Unpin slot after) = record { cells = refl; history = refl; attempts = λ other. same_attempt state.worker_states worker other _ refl }
point_turns state worker tenant quota pool job others (points.FreeSlot slot after) = record { cells = refl; history = refl; attempts = λ other. same_attempt state.worker_states worker other _ refl }
point_turns state worker tenant quota pool job others (points.LowerDoor after) = record { cells = refl; history = refl; attempts = λ other. same_attempt state.worker_states worker other _ refl }
point_turns state worker tenant quota pool job others (points.Replied reply) = record { cells = refl; history = refl; attempts = λ other. same_attempt state.worker_states worker other _ refl }
point_turns state worker tenant quota pool job others (points.Inspect task entry) = record { cells = refl; history = ap (λ (past : History). with_intent past worker (next_of state worker (acting worker tenant quota pool job others (points.Inspect task entry)) (SawWord (state.cells.words tenant (entry_of (acting worker tenant quota pool job others (points.Inspect task entry)) task entry).addr)))) (inspect_enters (next_of state worker (acting worker tenant quota pool job others (points.Inspect task entry)) (SawWord (state.cells.words tenant (entry_of (acting worker tenant quota pool job others (points.Inspect task entry)) task entry).addr))).point worker (acting worker tenant quota pool job others (points.Inspect task entry)) (state.worker_states worker).request state.history); attempts = λ other. same_attempt state.worker_states worker other _ refl }
point_turns state worker tenant quota pool job others (points.Plant task entry number) = exchanged state (acting worker tenant quota pool job others (points.Plant task entry number)) (Data tenant (entry_of (acting worker tenant quota pool job others (points.Plant task entry number)) task entry).addr) (Plain (entry_of (acting worker tenant quota pool job others (points.Plant task entry number)) task entry).expected) (Planted worker number) (record { cells = refl; history = ap (λ (standing : ℕ → StandingAttempt). record state.history { standing = standing; permission = upd state.history.permission worker (permission_at (next_of state worker (acting worker tenant quota pool job others (points.Plant task entry number)) Won) (next_of state worker (acting worker tenant quota pool job others (points.Plant task entry number)) Won).point) }) (once_more state.history.standing worker (AttemptIn tenant (entry_of (acting worker tenant quota pool job others (points.Plant task entry number)) task entry).addr number) (standing_at (next_of state worker (acting worker tenant quota pool job others (points.Plant task entry number)) Won) (next_of state worker (acting worker tenant quota pool job others (points.Plant task entry number)) Won).point)); attempts = λ other. both_attempts state.worker_states worker other _ _ refl }) (record { cells = refl; history = refl; attempts = λ other. both_attempts state.worker_states worker other _ _ refl })
point_turns state worker tenant quota pool job others (points.Resolve task entry attempt true) = exchanged state (acting worker tenant quota pool job others (points.Resolve task entry attempt true)) (Data tenant (entry_of (acting worker tenant quota pool job others (points.Resolve task entry attempt true)) task entry).addr) (planted attempt) (resolved true task.target (entry_of (acting worker tenant quota pool job others (points.Resolve task entry attempt true)) task entry)) (record { cells = refl; history = refl; attempts = λ other. same_attempt state.worker_states worker other _ refl }) (record { cells = refl; history = refl; attempts = λ other. same_attempt state.worker_states worker other _ refl })
point_turns state worker tenant quota pool job others (points.Resolve task entry attempt false) = exchanged state (acting worker tenant quota pool job others (points.Resolve task entry attempt false)) (Data tenant (entry_of (acting worker tenant quota pool job others (points.Resolve task entry attempt false)) task entry).addr) (planted attempt) (resolved false task.target (entry_of (acting worker tenant quota pool job others (points.Resolve task entry attempt false)) task entry)) (record { cells = refl; history = refl; attempts = λ other. same_attempt state.worker_states worker other _ refl }) (record { cells = refl; history = refl; attempts = λ other. same_attempt state.worker_states worker other _ refl })
point_turns state worker tenant quota pool job others (points.Release task SweepYes entry) = exchanged state (acting worker tenant quota pool job others (points.Release task SweepYes entry)) (Data tenant (entry_of (acting worker tenant quota pool job others (points.Release task SweepYes entry)) task entry).addr) (held task.target) (released SweepYes task.target (entry_of (acting worker tenant quota pool job others (points.Release task SweepYes entry)) task entry)) (record { cells = refl; history = refl; attempts = λ other. same_attempt state.worker_states worker other _ refl }) (record { cells = refl; history = refl; attempts = λ other. same_attempt state.worker_states worker other _ refl })
point_turns state worker tenant quota pool job others (points.Release task SweepDoneYes entry) = exchanged state (acting worker tenant quota pool job others (points.Release task SweepDoneYes entry)) (Data tenant (entry_of (acting worker tenant quota pool job others (points.Release task SweepDoneYes entry)) task entry).addr) (held task.target) (released SweepDoneYes task.target (entry_of (acting worker tenant quota pool job others (points.Release task SweepDoneYes entry)) task entry)) (record { cells = refl; history = refl; attempts = λ other. same_attempt state.worker_states worker other _ refl }) (record { cells = refl; history = refl; attempts = λ other. same_attempt state.worker_states worker other _ refl })
point_turns state worker tenant quota pool job others (points.Release task SweepNo entry) = exchanged state (acting worker tenant quota pool job others (points.Release task SweepNo entry)) (Data tenant (entry_of (acting worker tenant quota pool job others (points.Release task SweepNo entry)) task entry).addr) (held task.target) (released SweepNo task.target (entry_of (acting worker tenant quota pool job others (points.Release task SweepNo entry)) task entry)) (record { cells = refl; history = refl; attempts = λ other. same_attempt state.worker_states worker other _ refl }) (record { cells = refl; history = refl; attempts = λ other. same_attempt state.worker_states worker other _ refl })
point_turns state worker tenant quota pool job others (points.Release task (SweepDoneNo at_entry found) entry) = exchanged state (acting worker tenant quota pool job others (points.Release task (SweepDoneNo at_entry found) entry)) (Data tenant (entry_of (acting worker tenant quota pool job others (points.Release task (SweepDoneNo at_entry found) entry)) task entry).addr) (held task.target) (released (SweepDoneNo at_entry found) task.target (entry_of (acting worker tenant quota pool job others (points.Release task (SweepDoneNo at_entry found) entry)) task entry)) (record { cells = refl; history = refl; attempts = λ other. same_attempt state.worker_states worker other _ refl }) (record { cells = refl; history = refl; attempts = λ other. same_attempt state.worker_states worker other _ refl })
point_turns state worker tenant quota pool job others (points.GiveUp own undecided) = gives_up state worker tenant quota pool job others own undecided (gave_up (acting worker tenant quota pool job others (points.GiveUp own undecided)) undecided (state.cells.statuses own.slot)) (next_of state worker (acting worker tenant quota pool job others (points.GiveUp own undecided)) (SawStatus (state.cells.statuses own.slot))) (SawStatus (state.cells.statuses own.slot))

-- a world's turn is that of the request
may : (test : Bool) (one next : State) → (if test then Some one else None) ≡ Some next → one ≡ next
may true one next is = cc
may false one next is = cc

by_worker : (state : State) (worker : ℕ) (actor : ActorState) → actor.worker ≡ worker → SameMemory (turned state actor.worker actor) (made_all state actor.worker (moves_of_turn state actor.worker actor))
    → SameMemory (turned state worker actor) (made_all state worker (moves_of_turn state worker actor))
by_worker state worker actor is same = subst (λ (n : ℕ). SameMemory (turned state n actor) (made_all state n (moves_of_turn state n actor))) is same

pub turns_are_moves : TurnsAreMoves
turns_are_moves config state next worker actor is came =
    subst (λ (one : State). SameMemory one (made_all state worker (moves_of_turn state worker actor)))
    (may (not (is_some (replied actor)) && may_make config (asks actor)) (turned state worker actor) next came)
    (by_worker state worker actor is (point_turns state actor.worker actor.tenant actor.quota actor.pool actor.job actor.others actor.point))
