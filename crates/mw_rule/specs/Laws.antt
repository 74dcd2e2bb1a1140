-- States that the rule of the table (`specs/Rule`) holds of new tables, and that whatever threads do keeps it.
-- Used by: src/laws.rt, mw_table. A change here changes these laws, and what `Shared::meet` promises.
use Rattle.std.specs.Prelude.{[], false, length, List, slice_get, Option, Some, true, ℕ, ◌<◌, ◌∷◌, ◌≡◌, ◌≢◌, ◌≤◌}
use Rattle.atomic_table.specs.Table.{Me, Allows, Splits, Joins, opening}
use Rattle.mw_words.specs.declared.places.At.TheVariants.{Door as AtDoor, Status as AtStatus}
use Rattle.mw_words.specs.declared.statuses.Status.{Status}
use Rattle.mw_words.specs.declared.replies.Reply.TheVariants.{Yes as SaysYes}
use Rattle.mw_look.specs.declared.observations.Got.TheVariants.{Word as Bits}
use Rattle.mw_look.specs.declared.steps.Op.{Op}
use Rattle.mw_look.specs.Places.{pack}
use Rattle.mw_look.specs.Steps.{op_of, place_of}
use Rattle.mw_actor.specs.ActorState.{ActorState}
use Rattle.mw_world.specs.Files.State.{entries_at}
use Rattle.mw_world.specs.declared.config.Config.{Config}
use Rattle.mw_world.specs.Claim.Headline.{IsExecution}
use Rattle.mw_world.specs.Definition.Calls.{Called as CallOn, device_calls, is_made}
use Rattle.mw_world.specs.Definition.Events.{WorldEvent}
use Rattle.mw_world.specs.Definition.State.{State, TenantStart, WorkerState, tenants_of}
use Rattle.mw_rule.specs.Calls.CallEnds.{exchange_of, fault_of}
use Rattle.mw_rule.specs.Calls.FileTokens.{file_told}
use Rattle.mw_rule.specs.FromLaws.{put_sealed}
use Rattle.mw_rule.specs.declared.views.Finished.{Finished}
use Rattle.mw_rule.specs.declared.views.HeldFile.{HeldFile}
use Rattle.mw_rule.specs.declared.views.View.{View}
use Rattle.mw_rule.specs.Steps.{LearnsFirstStep, IsNextStep, LearnsPlainLoad, MayCome, IsPrefix, LearnsStep, StoodThere}
use Rattle.mw_rule.specs.KnownRuns.{KnownRun, ExtendsKnownRun, known_run_of}
use Rattle.mw_rule.specs.Splits.{without_file, takes_files, dealt, with_file_given, merges, learns, left_over, maker, meets, note, spent}
use Rattle.mw_rule.specs.FileCalls.{broken_so, Calls, fails, filed_so, Loaded, place_held, LearnsFileCall}
use Rattle.mw_rule.specs.declared.views.WorkerToken.{WorkerToken}
use Rattle.mw_rule.specs.Layout.{index_of, words_of}
use Rattle.mw_rule.specs.Rule.{Each, HoldsFile, IsLive, IsRight, BitsMatch, TableInvariant, times_held, words_given}
use Rattle.mw_rule.specs.Prefixes.{Gave, opening_at, seen_at}
use Rattle.mw_rule.specs.Ways.{made_of_bits, finds}

module _ (config : Config) (begun : (ℕ → TenantStart) → List WorldEvent → Type 0) where
  -- The rule holds of a table that is made of a world after a run with which it may begin. The words are the world's.
  -- The first thread has the tokens of all workers, and files of which it knows true things, no tenant's twice. It
  -- knows that run, or none.
  abbrev pub StartsUnderTheRule : Type 0
  StartsUnderTheRule = (openings : ℕ → TenantStart) (before : List WorldEvent) (state : State) (given : List TenantStart) (known_run : Option KnownRun) (worker_states : ℕ → WorkerState) (files : List HeldFile) (words : List ℕ)
      → begun openings before → ExtendsKnownRun known_run (Some (known_run_of config openings before [])) → IsExecution config openings before state → ((tenant : ℕ) → tenant < tenants_of config → Gave openings state tenant (opening_at given tenant))
      → ((worker : ℕ) → worker < config.workers → worker_states worker ≡ state.worker_states worker)
      → Each (HoldsFile config state) files → ((tenant : ℕ) → times_held tenant files ≤ 1)
      → length words ≡ words_of config → BitsMatch config state.cells words → TableInvariant config begun (opening words [] (maker config given known_run worker_states files))

  -- A step of the request that a thread carries keeps the rule. The thread learns the step and what it found.
  abbrev pub StepsKeepTheRule : Type 0
  StepsKeepTheRule = (slots id worker : ℕ) (me : Me ActorState View) (op : Op) (make : ℕ → ℕ) → IsNextStep me.0 worker op → ((bits : ℕ) → make bits ≡ made_of_bits op bits)
      → Allows (TableInvariant config begun) slots id me (index_of config.pool (place_of op)) make (λ bits next. LearnsStep (finds op bits) me.0 next.0)

  -- A request's first step, with which it comes, keeps the rule. It is a load of its tenant's door.
  abbrev pub FirstStepsKeepTheRule : Type 0
  FirstStepsKeepTheRule = (slots id worker : ℕ) (me : Me ActorState View) (actor : ActorState) (make : ℕ → ℕ) → MayCome me.0 worker actor → ((bits : ℕ) → make bits ≡ bits)
      → Allows (TableInvariant config begun) slots id me (index_of config.pool (AtDoor actor.tenant)) make (λ bits next. LearnsFirstStep actor (Bits bits) me.0 next.0)

  -- A load that is no step of a request keeps the rule. The thread learns the bits that it found.
  abbrev pub PlainLoadsKeepTheRule : Type 0
  PlainLoadsKeepTheRule = (slots id index : ℕ) (me : Me ActorState View) (make : ℕ → ℕ) → IsLive me.0 → ((bits : ℕ) → make bits ≡ bits)
      → Allows (TableInvariant config begun) slots id me index make (λ bits next. LearnsPlainLoad index bits me.0 next.0)

  -- A thread may give its first token to a new thread, with the requests that its worker finished.
  abbrev pub SplitsKeepTheRule : Type 0
  SplitsKeepTheRule = (id : ℕ) (view : View) → Splits {S = ActorState} (TableInvariant config begun) id view (left_over view) (dealt view)

  -- A thread may make a note of what it saw.
  abbrev pub NotesKeepTheRule : Type 0
  NotesKeepTheRule = (id : ℕ) (view : View) → IsLive view → Splits {S = ActorState} (TableInvariant config begun) id view view (note view)

  -- A thread may learn what a note says.
  abbrev pub LearningKeepsTheRule : Type 0
  LearningKeepsTheRule = (id other : ℕ) (view its : View) → IsLive view → IsLive its → its.tokens ≡ [] → Joins {S = ActorState} (TableInvariant config begun) id view other its (learns view its) spent

  -- A thread that saw no more than a note says may take the note as seen by itself.
  abbrev pub MeetingKeepsTheRule : Type 0
  MeetingKeepsTheRule = (id other : ℕ) (view its : View) → IsLive view → IsLive its → its.tokens ≡ [] → IsPrefix (tenants_of view.config) view.seen its.seen
      → Joins {S = ActorState} (TableInvariant config begun) id view other its (meets view its) spent

  -- A thread may merge all that another knew, if that one had seen no less. Two threads meet so: one makes a note,
  -- the other learns it and makes a load; the first merges all that the other knows, makes a load itself, and gives
  -- each its own again. At the end one thread can so know all finished requests.
  abbrev pub MergingKeepsTheRule : Type 0
  MergingKeepsTheRule = (id other : ℕ) (view its : View) → IsLive view → IsLive its → IsPrefix (tenants_of view.config) view.seen its.seen
      → Joins {S = ActorState} (TableInvariant config begun) id view other its (merges view its) spent

  -- A thread may give its first file to another, which makes no steps.
  abbrev pub GivingFilesKeepsTheRule : Type 0
  GivingFilesKeepsTheRule = (id : ℕ) (view : View) → IsLive view → Splits {S = ActorState} (TableInvariant config begun) id view (without_file view) (with_file_given view)

  -- A thread may take the files of another. Nothing else of the other is kept: not what it saw, nor its tokens and
  -- finished requests, if it had any.
  abbrev pub TakingFilesKeepsTheRule : Type 0
  TakingFilesKeepsTheRule = (id other : ℕ) (view its : View) → IsLive view → IsLive its → Joins {S = ActorState} (TableInvariant config begun) id view other its (takes_files view its) spent

  -- The first step of a call on a file, by the thread that has the file, is a load of the status of its change. If
  -- the call doesn't start from the status, this load is the whole call, and it does nothing.
  abbrev pub FileCallsLoad : Type 0
  FileCallsLoad = (slots id worker : ℕ) (me : Me ActorState View) (actor : ActorState) (called : CallOn) (held : HeldFile) (make : ℕ → ℕ) → Calls me.0 worker actor called held → ((bits : ℕ) → make bits ≡ bits)
      → Allows (TableInvariant config begun) slots id me (index_of config.pool (AtStatus called.change.slot)) make (λ bits next. Loaded worker actor called held bits me.0 next.0)

  -- If it starts, and the file has not failed, the thread may end it as a call that went well, by the exchange of the
  -- status. The exchange wins: the word still has the status that was found.
  abbrev pub FileCallsEndWell : Type 0
  FileCallsEndWell = (slots id worker : ℕ) (me : Me ActorState View) (actor : ActorState) (called : CallOn) (held : HeldFile) (status : Status) (make : ℕ → ℕ) → Calls me.0 worker actor called held
      → held.found ≡ Some (record { worker = worker; status = status }) → fails me.0 called held ≡ false → ((bits : ℕ) → make bits ≡ made_of_bits (op_of (exchange_of called status)) bits)
      → Allows (TableInvariant config begun) slots id me (index_of config.pool (AtStatus called.change.slot)) make
      (λ bits next. (bits ≡ pack (AtStatus called.change.slot) status) × LearnsFileCall true held (filed_so me.0 actor called held) me.0 next.0)

  -- Or it may end it as a call in which the device failed, by the fault at the tenant's door. It may name any of the
  -- call's device calls: the rule knows no device.
  abbrev pub FileCallsMeetFaults : Type 0
  FileCallsMeetFaults = (slots id worker number : ℕ) (me : Me ActorState View) (actor : ActorState) (called : CallOn) (held : HeldFile) (status : Status) (make : ℕ → ℕ) → Calls me.0 worker actor called held
      → held.found ≡ Some (record { worker = worker; status = status }) → fails me.0 called held ≡ false
      → is_made (device_calls called.call (entries_at (file_told held.file) (place_held me.0 called held))) number ≡ true → ((bits : ℕ) → make bits ≡ made_of_bits (op_of (fault_of actor)) bits)
      → Allows (TableInvariant config begun) slots id me (index_of config.pool (AtDoor actor.tenant)) make (λ bits next. LearnsFileCall false held (broken_so me.0 called held) me.0 next.0)

  -- If the file had failed before, it may end the call by the fault alone, and what it knows of the file stays.
  abbrev pub FileCallsFindFaults : Type 0
  FileCallsFindFaults = (slots id worker : ℕ) (me : Me ActorState View) (actor : ActorState) (called : CallOn) (held : HeldFile) (status : Status) (make : ℕ → ℕ) → Calls me.0 worker actor called held
      → held.found ≡ Some (record { worker = worker; status = status }) → fails me.0 called held ≡ true → ((bits : ℕ) → make bits ≡ made_of_bits (op_of (fault_of actor)) bits)
      → Allows (TableInvariant config begun) slots id me (index_of config.pool (AtDoor actor.tenant)) make (λ bits next. LearnsFileCall false held held.file me.0 next.0)

-- Facts of views alone.

-- If what a thread knows is right, so are its parts, and it stays right when it learns a note or takes files.
abbrev pub PartsAreRight : Type 0
PartsAreRight = (view other : View) → IsRight view → IsRight (left_over view) × IsRight (dealt view) × IsRight (note view) × IsRight (learns view other)
    × IsRight (without_file view) × IsRight (with_file_given view) × IsRight (takes_files view other)

-- If what two threads of one start know is right, so is what they know after they meet.
abbrev pub MeetingsAreRight : Type 0
MeetingsAreRight = (view its : View) → IsRight view → IsRight its → its.config ≡ view.config → its.openings ≡ view.openings → IsPrefix (tenants_of view.config) view.seen its.seen → IsRight (meets view its)

-- A thread without a token has no finished request. So none is lost if another takes its note or its files.
abbrev pub NotesLoseNothing : Type 0
NotesLoseNothing = (view : View) → IsRight view → view.tokens ≡ [] → view.mine ≡ []

-- If a thread with one token merged another with one token, of another worker, it can give it back. Each then has its
-- own token and the requests that its worker finished, as before. Files stay with the thread that gives back; if
-- neither had any, neither has any then.
abbrev pub MergedPartsAgain : Type 0
MergedPartsAgain = (view its : View) (one other : WorkerToken) → view.tokens ≡ one ∷ [] → its.tokens ≡ other ∷ [] → one.worker ≢ other.worker → IsRight view → IsRight its
    → ((dealt (merges view its)).tokens ≡ view.tokens) × ((dealt (merges view its)).mine ≡ view.mine) × ((left_over (merges view its)).tokens ≡ its.tokens) × ((left_over (merges view its)).mine ≡ its.mine)
    × (view.files ≡ [] → its.files ≡ [] → ((dealt (merges view its)).files ≡ []) × ((left_over (merges view its)).files ≡ []))

-- No two of these requests that were answered YES have one position in one tenant's history. So each has its own change.
abbrev pub HaveOwnChanges : List Finished → Type 0
HaveOwnChanges mine = (index another : ℕ) (one other : Finished) → slice_get mine index ≡ Some one → slice_get mine another ≡ Some other → one.tenant ≡ other.tenant → one.reply ≡ SaysYes
    → other.reply ≡ SaysYes → one.place ≡ other.place → index ≡ another

-- This is so of a thread's finished requests.
abbrev pub ChangesAreOwn : Type 0
ChangesAreOwn = (view : View) → IsRight view → HaveOwnChanges view.mine

-- If a thread made a load, the words of each file that it holds are those that the latest start gave the file's tenant, with all
-- changes that the thread has seen put over them.
abbrev pub FilesAreOfSeen : Type 0
FilesAreOfSeen = (view : View) (index bits : ℕ) → StoodThere view index bits
    → Each (λ held. (file_told held.file).contents ≡ put_sealed (words_given view held.file.tenant) (seen_at view.seen held.file.tenant)) view.files
