-- If a step takes no pin, the request's slots stay live (taken under the number by which it knows them) at its next point.
-- Used by: live_slots_go_on.
use Rattle.std.specs.Prelude.{ℕ, ◌==◌, ◌-◌, ◌+◌, Bool, true, false, Option, Some, None, nat_lt, List}
use Rattle.mw_words.specs.declared.gates.Gate.{Gate}
use Rattle.mw_words.specs.declared.jobs.Entry.{Entry}
use Rattle.mw_words.specs.declared.limits.TheConstants.{MAX_ENTRIES, WORN_NUMBER}
use Rattle.mw_words.specs.declared.statuses.Status.{Status}
use Rattle.mw_words.specs.declared.replies.Reply.TheVariants.{Fault as HasFailed}
use Rattle.mw_words.specs.declared.words.Word.{Word}
use Rattle.mw_words.specs.declared.words.Word.TheVariants.{Plain, Planted, Held, Dirty}
use Rattle.mw_pool.specs.Moves.{after_pin}
use Rattle.mw_look.specs.declared.observations.Observation.{Observation}
use Rattle.mw_look.specs.declared.observations.Observation.TheVariants.{SawDoor, SawGate, SawRow, SawWord, SawStatus, SawNumber, Won, Lost, Filed}
use Rattle.mw_look.specs.declared.points.After.{After as ReadAfter}
use Rattle.mw_look.specs.declared.points.After.TheVariants.{Again, Answer}
use Rattle.mw_look.specs.declared.points.Point.{Point as ReadPoint}
use Rattle.mw_look.specs.declared.points.Point.TheVariants as read
use Rattle.mw_look.specs.declared.points.Trail.{Trail}
use Rattle.mw_look.specs.declared.points.Trail.TheVariants.{Held as ByHeld, Planted as ByPlanted}
use Rattle.mw_look.specs.Program.{goes as read_goes, word_seen, pinned, first_entry, next_entry, address_seen, resumed, same_word, word_of, slot_of, seq_of}
use Rattle.mw_look.proofs.RangeLaws.{either_way}
use Rattle.mw_look.specs.Runs.{holds_at}
use Rattle.mw_actor.specs.declared.points.After.{After}
use Rattle.mw_actor.specs.declared.points.After.TheVariants.{Work, GiveUp as ThenGiveUp, Reply as ThenReply}
use Rattle.mw_actor.specs.declared.points.Point.{Point}
use Rattle.mw_actor.specs.declared.points.Point.TheVariants.{Read}
use Rattle.mw_actor.specs.declared.points.Task.{Task}
use Rattle.mw_actor.specs.ActorState.{ActorState}
use Rattle.mw_actor.specs.Help.{others_read}
use Rattle.mw_actor.specs.Program.{goes}
use Rattle.mw_law_runs.proofs.Requests.StageLaws.{goes_leads}
use Rattle.mw_actor.specs.Stages.{Stage, Outside, Entering, Seeking, Claiming, WritingStatus, WritingCount, WritingAddr, WritingExpected, WritingNew, Preparing, Checking, Inspecting, Holding, Deciding, Working, Nearing, Pinning, Fetching, Leaving, Freeing, Lowering, GivingUp, stage, Resumes, OnTask, Scans, Leads}
use Rattle.mw_world.specs.Definition.State.{State}
use Rattle.mw_law_runs.specs.Knowledge.Laws.{LiveSlotsGoOn}
use Rattle.mw_law_runs.specs.Knowledge.Live.{IsLiveTask, AreLiveAfter, AreLiveAt, IsLiveHold, AreLiveInRead, AreLive, TakesNoPinAt, TakesNoPinInRead}

module _ (state : State) where
  pub resumes : (onward : After) → AreLiveAfter state onward → Resumes (AreLiveAt state) onward
  resumes (Work task) live = (λ alone. live, λ other. live)
  resumes (ThenGiveUp own undecided) live = live
  resumes (ThenReply reply) live = tt

  pub on_task : (task : Task) → IsLiveTask state task → OnTask (AreLiveAt state) task
  on_task task live = record {
    checks = live;
    works = live;
    nears = λ other apart. live;
    turns_back = (λ alone. (λ one. (live.0, live.0), λ two. (live.0, live.0)), λ other. (live.1, (live.0, live.0)));
    ends = λ reply alone. (live.0, tt);
    gives_up = λ alone. live.0;
    leaves_and_gives_up = λ undecided other. (live.1, live.0);
  }

  scans : Scans (AreLiveAt state)
  scans = (tt, λ slot from to claims. tt, λ reply. tt)

  leads : (actor : ActorState) (others : List Entry) (now : Stage) (observation : Observation) → TakesNoPinAt now observation → AreLiveAt state now → Leads (AreLiveAt state) actor others now observation
  leads actor others Outside observation none live = (tt, λ from to. tt, tt)
  leads actor others (Entering from to) Won none live = tt
  leads actor others (Entering from to) Lost none live = tt
  leads actor others Seeking observation none live = scans
  leads actor others (Claiming slot from to) Won none live = absurd none
  leads actor others (Claiming slot from to) Lost none live = scans
  leads actor others (WritingStatus own) Won none live = live
  leads actor others (WritingCount own) Won none live = live
  leads actor others (WritingAddr own entry) Won none live = live
  leads actor others (WritingExpected own entry) Won none live = live
  leads actor others (WritingNew own entry) Won none live = (λ more. live, λ last. live)
  leads actor others (Preparing own) (Filed went_well) none live = (λ well. (live, live), λ failed. live)
  leads actor others (Checking task) observation none live = (λ is_open. live, on_task task live)
  leads actor others (Inspecting task entry) observation none live = (live, live, λ held more. live, λ held last. live, on_task task live)
  leads actor others (Holding task entry) observation none live = (live, on_task task live)
  leads actor others (Deciding task) observation none live = (live, on_task task live)
  leads actor others (Working task) observation none live = on_task task live
  leads actor others (Nearing task other) observation none live = (live, live, λ from to pins. live)
  leads actor others (Pinning task other from to) Won none live = absurd none
  leads actor others (Pinning task other from to) Lost none live = live
  leads actor others (Fetching task) observation none live = (live, λ some. live)
  leads actor others (Leaving slot onward) (SawGate gate) none live = (λ last. live, λ more. resumes onward live.1)
  leads actor others (Freeing slot onward) Won none live = live.1
  leads actor others (Lowering onward) (SawDoor door) none live = resumes onward live
  leads actor others (GivingUp own) (SawStatus status) none live = tt
  leads actor others now observation none live = live

  pub of_stage : (point : Point) → AreLiveAt state (stage point) → AreLive state point
  of_stage (Read look) live = absurd live
  of_stage point live = live

  -- a read's slot
  word_goes : (word : Word) → AreLiveInRead state (word_seen word)
  word_goes (Plain value) = tt
  word_goes (Dirty slot value) = tt
  word_goes (Held slot seq) = tt
  word_goes (Planted worker number) = tt

  pinned_goes : (trail : Trail) (gate : Gate) (to : Option Gate) → AreLiveInRead state (pinned trail gate to)
  pinned_goes trail gate (Some to) = tt
  pinned_goes trail gate None = tt

  entry_goes : (trail : Trail) (status : Status) → IsLiveHold state (holds_at (read.ReadStatus trail)) → AreLiveInRead state (first_entry trail status)
  entry_goes (ByHeld slot seq) status live = live
  entry_goes (ByPlanted worker number row) status live = live

  next_goes : (trail : Trail) (status : Status) (entry : ℕ) → IsLiveHold state (holds_at (read.ReadStatus trail)) → AreLiveInRead state (next_entry trail status entry)
  next_goes trail status entry live =
      either_way (AreLiveInRead state) (nat_lt entry (MAX_ENTRIES - 1)) (read.FindEntry trail status (entry + 1)) (read.Unpin (slot_of trail) (seq_of trail) Again) (λ more. live) (λ last. live)

  address_goes : (trail : Trail) (status : Status) (entry : ℕ) (is : Bool) → IsLiveHold state (holds_at (read.ReadStatus trail)) → AreLiveInRead state (address_seen trail status entry is)
  address_goes trail status entry true live = live
  address_goes trail status entry false live = next_goes trail status entry live

  resumed_goes : (onward : ReadAfter) → AreLiveInRead state (resumed onward)
  resumed_goes Again = tt
  resumed_goes (Answer value) = tt

  read_goes_on : (address : ℕ) (point : ReadPoint) (observation : Observation) → TakesNoPinInRead point observation → AreLiveInRead state point → AreLiveInRead state (read_goes address point observation)
  read_goes_on address read.ReadDoor (SawDoor door) none live = either_way (AreLiveInRead state) door.fault (read.Replied HasFailed) read.ReadWord (λ e. tt) (λ e. tt)
  read_goes_on address read.ReadWord (SawWord word) none live = word_goes word
  read_goes_on address (read.ReadRow worker number) (SawRow row) none live = tt
  read_goes_on address (read.ConfirmWord trail) (SawWord word) none live =
      either_way (AreLiveInRead state) (same_word word (word_of trail)) (read.ReadGate trail) read.ReadDoor (λ e. tt) (λ e. tt)
  read_goes_on address (read.ReadGate trail) (SawGate gate) none live =
      either_way (AreLiveInRead state) (nat_lt (seq_of trail) WORN_NUMBER) (pinned trail gate (after_pin gate (seq_of trail))) read.ReadDoor
      (λ low. pinned_goes trail gate (after_pin gate (seq_of trail))) (λ worn. tt)
  read_goes_on address (read.Pin trail from to) Won none live = absurd none
  read_goes_on address (read.Pin trail from to) Lost none live = tt
  read_goes_on address (read.ReadStatus trail) (SawStatus status) none live = entry_goes trail status live
  read_goes_on address (read.FindEntry trail status entry) (SawNumber number) none live = address_goes trail status entry (number == address) live
  read_goes_on address (read.ReadExpected trail status entry) (SawNumber expected) none live = live
  read_goes_on address (read.ReadNew trail status entry expected) (SawNumber new) none live = live
  read_goes_on address (read.RecheckWord trail status expected new) (SawWord word) none live = live
  read_goes_on address (read.Unpin slot seq onward) (SawGate gate) none live =
      either_way (AreLiveInRead state) (gate.pins == 1) (read.FreeSlot slot seq onward) (resumed onward) (λ last. live) (λ more. resumed_goes onward)
  read_goes_on address (read.FreeSlot slot seq onward) Won none live = tt
  read_goes_on address (read.LowerDoor onward) (SawDoor door) none live = resumed_goes onward
  read_goes_on address point observation none live = live

pub live_slots_go_on : LiveSlotsGoOn
live_slots_go_on state actor next (Read look) observation none live = read_goes_on state look.address look.point observation none live
live_slots_go_on state actor next point observation none live =
    of_stage state (goes actor next point observation)
    (goes_leads (AreLiveAt state) actor next point observation (leads state actor (others_read actor.others point observation) (stage point) observation none live))
