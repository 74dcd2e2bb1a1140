-- Defines how the table's run (the run of the world that leads to the table's words) grows: each step of a request adds its
-- own events, and nothing else adds any.
-- Used by: src/laws.rt, mw_table.
use Rattle.std.specs.Prelude.{ℕ, Bool, true, false, ◌≡◌, List, [], ◌∷◌, ◌++◌, slice_index, slice_set, Option, Some, None}
use mathlib.Core.Option.{some}
use lib.ListN.{get_elem?}
use Rattle.atomic_table.specs.Table.{State as Table}
use Rattle.mw_words.specs.declared.places.At.TheVariants.{Door as AtDoor, Status as AtStatus}
use Rattle.mw_words.specs.declared.statuses.Status.{Status}
use Rattle.mw_words.specs.Patterns.{unpacked_status}
use Rattle.mw_words.specs.declared.replies.Reply.{Reply}
use Rattle.mw_look.specs.declared.observations.Got.{Got}
use Rattle.mw_look.specs.declared.observations.Got.TheVariants.{Word as Bits}
use Rattle.mw_look.specs.declared.steps.Call.{Call}
use Rattle.mw_look.specs.declared.steps.Op.{Op}
use Rattle.mw_look.specs.Places.{pack}
use Rattle.mw_look.specs.Steps.{op_of, place_of}
use Rattle.mw_actor.specs.ActorState.{ActorState}
use Rattle.mw_actor.specs.Program.{replied}
use Rattle.mw_world.specs.Files.State.{entries_at}
use Rattle.mw_world.specs.declared.outcomes.Outcome.TheVariants.{Good, Fail}
use Rattle.mw_world.specs.declared.config.Config.{Config}
use Rattle.mw_world.specs.Definition.Calls.{Called as CallOn, device_calls, is_made, starts_from}
use Rattle.mw_world.specs.Definition.Events.{WorldEvent, Come, Step, File as FileEvent, Hand}
use Rattle.mw_world.specs.Definition.State.{TenantStart, tenants_of}
use Rattle.mw_rule.specs.Calls.CallEnds.{exchange_of, fault_of}
use Rattle.mw_rule.specs.Calls.FileTokens.{file_told}
use Rattle.mw_rule.specs.declared.views.HeldFile.{HeldFile}
use Rattle.mw_rule.specs.declared.views.View.{View}
use Rattle.mw_rule.specs.Steps.{LearnsFirstStep, IsNextStep, LearnsPlainLoad, MayCome, IsPrefix, LearnsStep, actor_after}
use Rattle.mw_rule.specs.Splits.{without_file, takes_files, dealt, with_file_given, merges, learns, left_over, meets, note, spent}
use Rattle.mw_rule.specs.FileCalls.{Calls, Loaded, LearnsFileCall, broken_so, fails, filed_so, place_held}
use Rattle.mw_rule.specs.Layout.{index_of}
use Rattle.mw_rule.specs.Rule.{Continues, IsLive, TableInvariant, WentOnFor}
use Rattle.mw_rule.specs.Ways.{finds, made_of_bits}

-- a reply that is there is handed out
abbrev pub hand_out : ℕ → Option Reply → List WorldEvent
hand_out worker None = []
hand_out worker (Some reply) = Hand worker ∷ []

-- the events of a step of a worker's request that found this
abbrev pub events_of : ℕ → Got → ℕ → ActorState → List WorldEvent
events_of worker got attempt actor = Step worker ∷ hand_out worker (replied (actor_after got attempt actor))

-- whether the call starts from the status that was read, if one was
abbrev pub starts_by : Call → Option Status → Bool
starts_by call None = false
starts_by call (Some status) = starts_from call status

-- the events of a load of a status: if the call starts from it none, else the call, which does nothing
abbrev pub events_loaded : Bool → ℕ → List WorldEvent
events_loaded true worker = []
events_loaded false worker = FileEvent worker Good ∷ []

module _ (config : Config) (begun : (ℕ → TenantStart) → List WorldEvent → Type 0) where
  -- A thread changes the word at this index. Depending on the bits that were there, the table's run gets these
  -- events, and the thread learns this and knows the whole new run.
  pub record StepsOn (s : Table ActorState View) (tied : TableInvariant config begun s) (id index : ℕ) (make : ℕ → ℕ) (more : ℕ → List WorldEvent) (tells : ℕ → View → Type 0) : Type 0 where
    pub new : View
    pub is_told : tells (slice_index s.words index) new
    pub run : WentOnFor config begun s tied (more (slice_index s.words index))
        (record { words = slice_set s.words index (make (slice_index s.words index)); homes = s.homes; views = slice_set s.views id new }) new

  -- A step of the request that a thread carries adds this step and, if the request has its reply then, its hand-out.
  abbrev pub StepsGoOn : Type 0
  StepsGoOn = (id worker : ℕ) (view : View) (op : Op) (make : ℕ → ℕ) (drives : IsNextStep view worker op) → ((bits : ℕ) → make bits ≡ made_of_bits op bits)
      → (s : Table ActorState View) (tied : TableInvariant config begun s) → get_elem? s.views id ≡ some view
      → StepsOn s tied id (index_of config.pool (place_of op)) make (λ bits. events_of worker (finds op bits) drives.token.attempt drives.actor) (λ bits new. LearnsStep (finds op bits) view new)

  -- A request's first step adds, before these, that the request came.
  abbrev pub FirstStepsGoOn : Type 0
  FirstStepsGoOn = (id worker : ℕ) (view : View) (actor : ActorState) (make : ℕ → ℕ) (may : MayCome view worker actor) → ((bits : ℕ) → make bits ≡ bits)
      → (s : Table ActorState View) (tied : TableInvariant config begun s) → get_elem? s.views id ≡ some view
      → StepsOn s tied id (index_of config.pool (AtDoor actor.tenant)) make (λ bits. Come worker actor.tenant actor.job ∷ events_of worker (Bits bits) may.token.attempt actor)
      (λ bits new. LearnsFirstStep actor (Bits bits) view new)

  -- A load that is no step of a request adds no event.
  abbrev pub PlainLoadsGoOn : Type 0
  PlainLoadsGoOn = (id index : ℕ) (view : View) (make : ℕ → ℕ) → IsLive view → ((bits : ℕ) → make bits ≡ bits) → (s : Table ActorState View) (tied : TableInvariant config begun s) → get_elem? s.views id ≡ some view
      → StepsOn s tied id index make (λ bits. []) (λ bits new. LearnsPlainLoad index bits view new)

  -- A call on a file adds one event: that it was made. The exchange of the status adds it, for a call that went well.
  abbrev pub FileCallsEndOn : Type 0
  FileCallsEndOn = (id worker : ℕ) (view : View) (actor : ActorState) (called : CallOn) (held : HeldFile) (status : Status) (make : ℕ → ℕ) → Calls view worker actor called held
      → held.found ≡ Some (record { worker = worker; status = status }) → fails view called held ≡ false → ((bits : ℕ) → make bits ≡ made_of_bits (op_of (exchange_of called status)) bits)
      → (s : Table ActorState View) (tied : TableInvariant config begun s) → get_elem? s.views id ≡ some view
      → StepsOn s tied id (index_of config.pool (AtStatus called.change.slot)) make (λ bits. FileEvent worker Good ∷ [])
      (λ bits new. (bits ≡ pack (AtStatus called.change.slot) status) × LearnsFileCall true held (filed_so view actor called held) view new)

  -- The fault at the door adds it, for a call in which the device call of this number failed.
  abbrev pub FileCallsMeetFaultsOn : Type 0
  FileCallsMeetFaultsOn = (id worker number : ℕ) (view : View) (actor : ActorState) (called : CallOn) (held : HeldFile) (status : Status) (make : ℕ → ℕ) → Calls view worker actor called held
      → held.found ≡ Some (record { worker = worker; status = status }) → fails view called held ≡ false
      → is_made (device_calls called.call (entries_at (file_told held.file) (place_held view called held))) number ≡ true → ((bits : ℕ) → make bits ≡ made_of_bits (op_of (fault_of actor)) bits)
      → (s : Table ActorState View) (tied : TableInvariant config begun s) → get_elem? s.views id ≡ some view
      → StepsOn s tied id (index_of config.pool (AtDoor actor.tenant)) make (λ bits. FileEvent worker (Fail number) ∷ []) (λ bits new. LearnsFileCall false held (broken_so view called held) view new)

  -- The fault at the door adds it, for a call on a file that had failed before.
  abbrev pub FileCallsFindFaultsOn : Type 0
  FileCallsFindFaultsOn = (id worker : ℕ) (view : View) (actor : ActorState) (called : CallOn) (held : HeldFile) (status : Status) (make : ℕ → ℕ) → Calls view worker actor called held
      → held.found ≡ Some (record { worker = worker; status = status }) → fails view called held ≡ true → ((bits : ℕ) → make bits ≡ made_of_bits (op_of (fault_of actor)) bits)
      → (s : Table ActorState View) (tied : TableInvariant config begun s) → get_elem? s.views id ≡ some view
      → StepsOn s tied id (index_of config.pool (AtDoor actor.tenant)) make (λ bits. FileEvent worker Good ∷ []) (λ bits new. LearnsFileCall false held held.file view new)

  -- The load of the status adds it, for a call that doesn't start from the status. For one that does, it adds no event.
  abbrev pub FileCallsLoadOn : Type 0
  FileCallsLoadOn = (id worker : ℕ) (view : View) (actor : ActorState) (called : CallOn) (held : HeldFile) (make : ℕ → ℕ) → Calls view worker actor called held → ((bits : ℕ) → make bits ≡ bits)
      → (s : Table ActorState View) (tied : TableInvariant config begun s) → get_elem? s.views id ≡ some view
      → StepsOn s tied id (index_of config.pool (AtStatus called.change.slot)) make (λ bits. events_loaded (starts_by called.call (unpacked_status bits)) worker)
      (λ bits new. Loaded worker actor called held bits view new)

  -- Splitting what a thread knows into these two parts adds no event.
  abbrev pub PartsOn : (View → Type 0) → (View → View) → (View → View) → Type 0
  PartsOn May left right = (id : ℕ) (view : View) → May view → (s : Table ActorState View) (tied : TableInvariant config begun s) → get_elem? s.views id ≡ some view
      → Continues config begun s tied [] (record { words = s.words; homes = s.homes; views = slice_set s.views id (left view) ++ right view ∷ [] })

  -- So it is when a thread gives a token away, makes a note, or gives a file away.
  abbrev pub PartsGoOn : Type 0
  PartsGoOn = PartsOn (λ view. Unit {0}) left_over dealt × PartsOn IsLive (λ view. view) note × PartsOn IsLive without_file with_file_given

  -- Merging what two threads know in this way adds no event.
  abbrev pub JoinsOn : (View → View → Type 0) → (View → View → View) → Type 0
  JoinsOn May both = (id other : ℕ) (view its : View) → IsLive view → IsLive its → May view its → (s : Table ActorState View) (tied : TableInvariant config begun s) → get_elem? s.views id ≡ some view
      → ¬ (other ≡ id) → get_elem? (slice_set s.views id (both view its)) other ≡ some its
      → Continues config begun s tied [] (record { words = s.words; homes = s.homes; views = slice_set (slice_set s.views id (both view its)) other spent })

  -- So it is when a thread learns a note, takes it as seen, merges all that another knew, or takes another's files.
  abbrev pub JoinsGoOn : Type 0
  JoinsGoOn = JoinsOn (λ view its. its.tokens ≡ []) learns × JoinsOn (λ view its. (its.tokens ≡ []) × IsPrefix (tenants_of view.config) view.seen its.seen) meets × JoinsOn (λ view its. IsPrefix (tenants_of view.config) view.seen its.seen) merges
      × JoinsOn (λ view its. Unit {0}) takes_files
