-- In every run, a read begins again only for one of the three reasons in `specs/ReadRetries`.
-- Used by: reads_turn_back_for_three_reasons, mw_rule.
use Rattle.std.specs.Prelude.{ℕ, zero, suc, ◌≡◌, ◌<◌, ◌≤◌, ◌⊎◌, ◌+◌, ◌-◌, ◌*◌, ◌==◌, ◌&&◌, not, Bool, true, false, cond, nat_le, nat_lt, if◌then◌else◌, List, length, Option, Some, None}
use Rattle.std.proofs.Common.{refl, sym, ap, subst, ◌∙◌, inl, inr, arith}
use Rattle.std.proofs.lemmas.Bool.Decides.{nat_tests}
use Rattle.mw_words.specs.declared.gates.Gate.{Gate}
use Rattle.mw_words.specs.declared.jobs.Entry.{Entry}
use Rattle.mw_words.specs.declared.limits.TheConstants.{MAX_ENTRIES, MAX_PINS, MAX_WORKERS, WORN_NUMBER}
use Rattle.mw_words.specs.declared.places.At.TheVariants.{Gate as AtGate}
use Rattle.mw_words.specs.declared.statuses.Status.{Status}
use Rattle.mw_words.specs.declared.statuses.Status.TheVariants.{DoneYes}
use Rattle.mw_words.specs.declared.words.Word.{Word}
use Rattle.mw_words.specs.declared.words.Word.TheVariants.{Plain, Planted, Held, Dirty}
use Rattle.mw_words.specs.Change.{is_change}
use Rattle.mw_pool.specs.Moves.{after_pin}
use Rattle.mw_look.specs.Runs.{Hold, holds_at, if_same}
use Rattle.mw_look.specs.declared.observations.Observation.{Observation}
use Rattle.mw_look.specs.declared.observations.Observation.TheVariants.{SawGate, Won, Lost}
use Rattle.mw_look.specs.declared.points.After.{After}
use Rattle.mw_look.specs.declared.points.After.TheVariants.{Again, Answer}
use Rattle.mw_look.specs.declared.points.Point.{Point as ReadPoint}
use Rattle.mw_look.specs.declared.points.Point.TheVariants.{ReadDoor, ReadWord, ReadRow, ConfirmWord, ReadGate, Pin, ReadStatus, FindEntry, ReadExpected, ReadNew, RecheckWord, Unpin, FreeSlot, LowerDoor, Replied}
use Rattle.mw_look.specs.declared.points.Trail.{Trail}
use Rattle.mw_look.specs.declared.points.Trail.TheVariants.{Held as ByHeld, Planted as ByPlanted}
use Rattle.mw_look.specs.Program.{address_seen, asks_at, first_entry, goes, is_over, pinned, pinning, resumed, same_word, seq_of, slot_of, value_of, word_of, word_seen}
use Rattle.mw_actor.specs.declared.points.After.{After as Onward}
use Rattle.mw_actor.specs.declared.points.After.TheVariants.{Work, GiveUp as ThenGiveUp, Reply as ThenReply}
use Rattle.mw_actor.specs.declared.points.Point.{Point}
use Rattle.mw_actor.specs.declared.points.Point.TheVariants.{Read}
use Rattle.mw_actor.specs.declared.points.Task.{Task}
use Rattle.mw_actor.specs.ActorState.{ActorState, is_alone}
use Rattle.mw_actor.specs.Balance.{pins_after, pins_at, task_pins}
use Rattle.mw_actor.specs.Stages.{Stage, WritingStatus, WritingCount, WritingAddr, WritingExpected, WritingNew, Preparing, Checking, Inspecting, Holding, Deciding, Working, Nearing, Pinning, Fetching, Leaving, Freeing, Lowering, GivingUp, stage}
use Rattle.mw_world.specs.declared.config.Config.{Config}
use Rattle.mw_world.specs.Claim.Headline.{IsExecution}
use Rattle.mw_world.specs.Claim.Obligations.{IsFrom}
use Rattle.mw_world.specs.Definition.Cells.{Cells}
use Rattle.mw_world.specs.Definition.Changes.{done}
use Rattle.mw_world.specs.Definition.Counts.{counted, over_workers, pin_of, pins_held}
use Rattle.mw_world.specs.Definition.Events.{WorldEvent}
use Rattle.mw_world.specs.Definition.State.{State, TenantStart, WorkerState, tenant_at}
use Rattle.mw_law_runs.specs.Moves.Guards.{IsLive}
use Rattle.mw_law_runs.specs.Knowledge.Facts.{CameBy, IsKnown}
use Rattle.mw_law_runs.specs.Knowledge.Live.{AreLive, AreLiveInRead}
use Rattle.mw_law_runs.specs.Knowledge.Points.{Knows, ReadKnows}
use Rattle.mw_law_runs.specs.RunInvariant.{IsSound}
use Rattle.mw_law_runs.proofs.Knowledge.Reads.Memory.{entry_told}
use Rattle.mw_law_runs.proofs.Obligations.Pins.{none_some}
use Rattle.mw_law_runs.proofs.RunsAreSound.{events_keep_sound, runs_are_sound}
use Rattle.mw_law_store.specs.WorldFacts.{HasSeen, HasSeenAt, IsSoughtFrom}
use Rattle.mw_law_store.specs.ReadRetries.{HasReason, FindsItsWay, ReadsFindTheirWay, ReadsTurnBackForThreeReasons, begins_again, is_as_named}
use Rattle.mw_law_store.proofs.Beginnings.{played_by_events}
use Rattle.mw_law_store.proofs.EndsRead.{EndIsRead, EndIsReadAt, EndsAreRead, IsEnd, event_read}
use Rattle.mw_law_store.proofs.WorldFactLaws.{runs_have_world_facts}
use Rattle.mw_law_store.proofs.ReadKnowledge.{change_of, entry_by_trail, known_by_trail}
use Rattle.mw_law_store.proofs.TakenNumbers.{AreLow, event_low}

true_false : true ≡ false → ⊥
true_false e = cc

false_true : false ≡ true → ⊥
false_true e = cc

-- What every event keeps, besides what other files prove of runs.
pub record IsMindful (state : State) : Type 0 where
  pub low : AreLow state.cells
  pub ends : EndsAreRead state

pub runs_are_mindful : (config : Config) (openings : ℕ → TenantStart) (events : List WorldEvent) (state : State) → IsExecution config openings events state → IsMindful state
runs_are_mindful config openings =
    played_by_events config openings (λ events state. IsMindful state)
    (record { low = λ slot taken. absurd (false_true taken); ends = λ worker actor sits. absurd (none_some actor sits) })
    (λ events event state next played mindful is.
    let sound = runs_are_sound config openings events state played in
    let after = events_keep_sound config state next event played.made sound.0 sound.1 is in
    record { low = event_low config state next event sound.0 mindful.low is; ends = event_read config state next event sound.0 after.0 mindful.ends is })

-- A request holds at most three pins of a slot.

same_few : (one other : ℕ) → if_same one other ≤ 1
same_few one other = by_test (one == other)
  where
    by_test : (test : Bool) → ◌≤◌ (cond test 1 0) 1
    by_test true = omega arith
    by_test false = omega arith

hold_few : (slot : ℕ) (held : Option Hold) → pin_of slot held ≤ 1
hold_few slot None = omega arith
hold_few slot (Some hold) = same_few hold.slot slot

task_few : (slot : ℕ) (task : Task) → task_pins slot task ≤ 2
task_few slot task = omega (arith, same_few task.own.slot slot, by_test (is_alone task))
  where
    by_test : (test : Bool) → cond test 0 (if_same task.target.slot slot) ≤ 1
    by_test true = omega arith
    by_test false = same_few task.target.slot slot

after_few : (slot : ℕ) (onward : Onward) → pins_after slot onward ≤ 2
after_few slot (Work task) = task_few slot task
after_few slot (ThenGiveUp own undecided) = omega (arith, same_few own.slot slot)
after_few slot (ThenReply reply) = omega arith

own_few : (slot own : ℕ) → if_same own slot ≤ 3
own_few slot own = omega (arith, same_few own slot)

work_few : (slot : ℕ) (task : Task) → task_pins slot task ≤ 3
work_few slot task = omega (arith, task_few slot task)

stage_few : (slot : ℕ) (now : Stage) → pins_at slot now ≤ 3
stage_few slot (WritingStatus own) = own_few slot own.slot
stage_few slot (WritingCount own) = own_few slot own.slot
stage_few slot (WritingAddr own entry) = own_few slot own.slot
stage_few slot (WritingExpected own entry) = own_few slot own.slot
stage_few slot (WritingNew own entry) = own_few slot own.slot
stage_few slot (Preparing own) = own_few slot own.slot
stage_few slot (GivingUp own) = own_few slot own.slot
stage_few slot (Checking task) = work_few slot task
stage_few slot (Inspecting task entry) = work_few slot task
stage_few slot (Holding task entry) = work_few slot task
stage_few slot (Deciding task) = work_few slot task
stage_few slot (Working task) = work_few slot task
stage_few slot (Nearing task other) = work_few slot task
stage_few slot (Pinning task other from to) = work_few slot task
stage_few slot (Fetching task) = work_few slot task
stage_few slot (Leaving given onward) = omega (arith, same_few given.slot slot, after_few slot onward)
stage_few slot (Freeing given onward) = omega (arith, after_few slot onward)
stage_few slot (Lowering onward) = omega (arith, after_few slot onward)
stage_few slot now = omega arith

held_few : (slot : ℕ) (point : Point) → pins_held slot point ≤ 3
held_few slot (Read look) = omega (arith, hold_few slot (holds_at look.point))
held_few slot point = stage_few slot (stage point)

worker_state_few : (counts : ActorState → ℕ) (found : Option ActorState) → ((actor : ActorState) → counts actor ≤ 3) → counted counts found ≤ 3
worker_state_few counts None few = omega arith
worker_state_few counts (Some actor) few = few actor

all_few : (counts : ActorState → ℕ) (worker_states : ℕ → WorkerState) (workers : ℕ) → ((actor : ActorState) → counts actor ≤ 3) → over_workers counts worker_states workers ≤ 3 * workers
all_few counts worker_states zero few = omega arith
all_few counts worker_states (suc worker) few = omega (arith, all_few counts worker_states worker few, worker_state_few counts (worker_states worker).actor few)

one_more : (test : Bool) → (if test then 1 else 0) ≤ 1
one_more true = omega arith
one_more false = omega arith

module _ (config : Config) (state : State) (sound : IsSound config state) where
  pins_few : (slot : ℕ) → config.workers ≤ MAX_WORKERS → (state.cells.gates slot).pins < MAX_PINS
  pins_few slot workers =
      let all = all_few (λ actor. pins_held slot actor.point) state.worker_states config.workers (λ actor. held_few slot actor.point) in
      omega (arith, sound.counts.counts.pins slot, all, one_more (state.history.stays slot (state.cells.gates slot).seq), workers)

  -- The number of a change that was claimed is not the worn one.
  number_low : (slot seq : ℕ) → AreLow state.cells → state.history.is_claimed slot seq ≡ true → seq < WORN_NUMBER
  number_low slot seq low claimed = by_latest (sound.memory.claims.latest slot seq claimed)
    where
      by_latest : (seq < (state.cells.gates slot).seq) ⊎ ((seq ≡ (state.cells.gates slot).seq) × ((state.cells.gates slot).taken ≡ true)) → seq < WORN_NUMBER
      by_latest (inl earlier) = let fits = (sound.memory.fits (AtGate slot)).1 in omega (arith, earlier, fits)
      by_latest (inr now) = let below = low slot now.1 in omega (arith, now.0, below)

  -- The last entry that a slot can have, if the read comes to it, is the word's.
  no_longer : (words : ℕ) (entries : List Entry) → is_change words entries ≡ true → length entries ≤ MAX_ENTRIES
  no_longer words entries is = grind (arith, nat_tests, is)

  module _ (tenant address : ℕ) (trail : Trail) (came : CameBy state tenant address trail) (live : IsLive state (change_of trail)) where
    abbrev change : List Entry
    change = state.history.change (slot_of trail) (seq_of trail)

    known : IsKnown state tenant (change_of trail)
    known = known_by_trail state tenant address trail came

    last_entry : (entry : ℕ) → IsSoughtFrom state.history trail address entry → MAX_ENTRIES - 1 ≤ entry → state.cells.addrs (slot_of trail) entry ≡ address
    last_entry entry sought late = by_index (entry_by_trail state tenant address trail came)
      where
        few : length change ≤ MAX_ENTRIES
        few = no_longer (tenant_at config (state.history.tenant (slot_of trail) (seq_of trail))).words change (sound.memory.claims.formed (slot_of trail) (seq_of trail) known.is_claimed).1

        by_index : IsFrom change 0 address → state.cells.addrs (slot_of trail) entry ≡ address
        by_index from = by_test (nat_lt from.index entry) refl
          where
            by_test : (test : Bool) → nat_lt from.index entry ≡ test → state.cells.addrs (slot_of trail) entry ≡ address
            by_test true is = absurd (sought from.index (grind (arith, nat_tests, is)) from.entry.within from.entry.same)
            by_test false is =
                let here : from.index ≡ entry = grind (arith, nat_tests, is, few, late, from.entry.within) in
                let stands = (entry_told config state sound.memory tenant (change_of trail) live known from.index from.entry.within).addr in
                subst (λ (index : ℕ). state.cells.addrs (slot_of trail) index ≡ address) here (stands ∙ from.entry.same)

  -- A word is never held by a change that is made and done with.
  held_not_over : (tenant address slot seq : ℕ) (status : Status) → IsEnd state.history (ByHeld slot seq) status → state.cells.words tenant address ≡ word_of (ByHeld slot seq) → is_over (ByHeld slot seq) status ≡ false
  held_not_over tenant address slot seq DoneYes end is = absurd ((sound.memory.references.held tenant address slot seq is).not_done (end refl))
  held_not_over tenant address slot seq status end is = refl

  not_over : (tenant address : ℕ) (trail : Trail) (status : Status) → IsEnd state.history trail status → state.cells.words tenant address ≡ word_of trail → is_over trail status ≡ false
  not_over tenant address (ByHeld slot seq) status end is = held_not_over tenant address slot seq status end is
  not_over tenant address (ByPlanted worker number row) status end is = refl

  finds : (tenant address : ℕ) (point : ReadPoint) → config.workers ≤ MAX_WORKERS → AreLow state.cells → EndIsRead state.history point → HasSeen state.history address point
      → AreLiveInRead state point → ReadKnows state tenant address point → FindsItsWay state.cells tenant address point
  finds tenant address (ReadGate trail) workers low end seen live came =
      (number_low (slot_of trail) (seq_of trail) low (known_by_trail state tenant address trail came).is_claimed, pins_few (slot_of trail) workers)
  finds tenant address (FindEntry trail status entry) workers low end seen live came = last_entry tenant address trail came live entry seen
  finds tenant address (RecheckWord trail status expected new) workers low end seen live came = not_over tenant address trail status end
  finds tenant address point workers low end seen live came = tt

pub reads_find_their_way : ReadsFindTheirWay
reads_find_their_way config openings events state worker actor look played sits at =
    let sound = (runs_are_sound config openings events state played).0 in
    let mindful = runs_are_mindful config openings events state played in
    let stands = (sound.requests worker actor sits).stands in
    let seen = ((runs_have_world_facts config openings events state played).worker_states worker actor sits).seen in
    finds config state sound look.tenant look.address look.point played.made.workers.1 mindful.low
    (subst (EndIsReadAt state.history) at (mindful.ends worker actor sits)) (subst (HasSeenAt state.history) at seen)
    (subst (AreLive state) at stands.live) (subst (Knows state actor) at stands.knows)

-- If a read finds its way so, it turns back only for one of the three reasons.

-- if the read begins again and the good end of a test does not, the test has failed
failed : (test : Bool) (one other : ReadPoint) → begins_again one ≡ false → begins_again (cond test one other) ≡ true → test ≡ false
failed true one other none is = absurd (true_false (sym is ∙ none))
failed false one other none is = refl

-- nothing begins again if neither end does
neither : (test : Bool) (one other : ReadPoint) → begins_again one ≡ false → begins_again other ≡ false → begins_again (cond test one other) ≡ false
neither true one other here there = here
neither false one other here there = there

resumed_none : (onward : After) → begins_again (LowerDoor onward) ≡ false → begins_again (resumed onward) ≡ false
resumed_none Again none = none
resumed_none (Answer value) none = refl

-- words that are found to be the same are the same
same_word_is : (word other : Word) → same_word word other ≡ true → word ≡ other
same_word_is (Plain value) (Plain other) is = grind (arith, nat_tests, is)
same_word_is (Planted worker attempt) (Planted other number) is = grind (arith, nat_tests, is)
same_word_is (Held slot seq) (Held other number) is = grind (arith, nat_tests, is)
same_word_is (Dirty slot value) (Dirty other number) is = grind (arith, nat_tests, is)
same_word_is word other is = cc

module _ (cells : Cells) (tenant address : ℕ) where
  abbrev told_at : ReadPoint → Observation
  told_at point = done (asks_at tenant address point) cells (λ after observation. observation)

  pinned_none : (trail : Trail) (gate : Gate) → seq_of trail < WORN_NUMBER → gate.pins < MAX_PINS → is_as_named gate (seq_of trail) ≡ true → begins_again (pinning trail gate) ≡ false
  pinned_none trail gate low few named =
      let lower : nat_lt (seq_of trail) WORN_NUMBER ≡ true = grind (arith, nat_tests, low) in
      let has : (gate.taken && nat_le 1 gate.pins && nat_lt gate.pins MAX_PINS && (gate.seq == seq_of trail)) ≡ true = grind (arith, nat_tests, few, named) in
      ap (λ (test : Bool). begins_again (cond test (pinned trail gate (after_pin gate (seq_of trail))) ReadDoor)) lower
      ∙ ap (λ (test : Bool). begins_again (pinned trail gate (cond test (Some (record gate { pins = gate.pins + 1 })) None))) has

  at_gate : (trail : Trail) (gate : Gate) → seq_of trail < WORN_NUMBER → gate.pins < MAX_PINS → begins_again (pinning trail gate) ≡ true → is_as_named gate (seq_of trail) ≡ false
  at_gate trail gate low few is = by_test (is_as_named gate (seq_of trail)) refl
    where
      by_test : (test : Bool) → is_as_named gate (seq_of trail) ≡ test → test ≡ false
      by_test true named = absurd (true_false (sym is ∙ pinned_none trail gate low few named))
      by_test false other = refl

  word_none : (word : Word) → begins_again (word_seen word) ≡ false
  word_none (Plain value) = refl
  word_none (Dirty slot value) = refl
  word_none (Held slot seq) = refl
  word_none (Planted worker number) = refl

  first_none : (trail : Trail) (status : Status) → begins_again (first_entry trail status) ≡ false
  first_none (ByHeld slot seq) status = refl
  first_none (ByPlanted worker number row) status = refl

  -- the read finds the entry of the word before it has looked at the last one
  entry_none : (trail : Trail) (status : Status) (entry number : ℕ) → (MAX_ENTRIES - 1 ≤ entry → number ≡ address) → begins_again (address_seen trail status entry (number == address)) ≡ false
  entry_none trail status entry number last = by_tests (number == address) (nat_lt entry (MAX_ENTRIES - 1)) refl refl
    where
      by_tests : (same more : Bool) → (number == address) ≡ same → nat_lt entry (MAX_ENTRIES - 1) ≡ more
          → begins_again (cond same (ReadExpected trail status entry) (cond more (FindEntry trail status (entry + 1)) (Unpin (slot_of trail) (seq_of trail) Again))) ≡ false
      by_tests true more is much = refl
      by_tests false true is much = refl
      by_tests false false is much =
          let late : MAX_ENTRIES - 1 ≤ entry = grind (arith, nat_tests, much) in
          let same = last late in
          absurd (grind (arith, nat_tests, is, same))

  at_word : (slot seq : ℕ) (same over : Bool) (value : ℕ) → (same ≡ true → over ≡ false) → begins_again (Unpin slot seq (cond (same && not over) (Answer value) Again)) ≡ true → same ≡ false
  at_word slot seq false over value held is = refl
  at_word slot seq true false value held is = absurd (false_true is)
  at_word slot seq true true value held is = absurd (true_false (held refl))

  at_pin : (trail : Trail) (from to : Gate) (test : Bool) → begins_again (goes address (Pin trail from to) (cond test Won Lost)) ≡ true → HasReason (Pin trail from to) (cond test Won Lost)
  at_pin trail from to true is = absurd (false_true is)
  at_pin trail from to false is = tt

  at_unpin : (slot seq : ℕ) (onward : After) (gate : Gate) → begins_again (Unpin slot seq onward) ≡ false → begins_again (goes address (Unpin slot seq onward) (SawGate gate)) ≡ false
  at_unpin slot seq Again gate none = absurd (true_false none)
  at_unpin slot seq (Answer value) gate none = neither (gate.pins == 1) _ _ refl refl

  at_free : (slot seq : ℕ) (onward : After) → begins_again (FreeSlot slot seq onward) ≡ false → begins_again (LowerDoor onward) ≡ false
  at_free slot seq Again none = none
  at_free slot seq (Answer value) none = refl

  pub reason_at : (point : ReadPoint) → FindsItsWay cells tenant address point → begins_again point ≡ false → begins_again (goes address point (told_at point)) ≡ true → HasReason point (told_at point)
  reason_at ReadDoor finds none is = absurd (true_false none)
  reason_at ReadWord finds none is = absurd (true_false (sym is ∙ word_none (cells.words tenant address)))
  reason_at (ReadRow worker attempt) finds none is = absurd (false_true is)
  reason_at (ConfirmWord trail) finds none is = failed (same_word (cells.words tenant address) (word_of trail)) (ReadGate trail) ReadDoor refl is
  reason_at (ReadGate trail) finds none is = at_gate trail (cells.gates (slot_of trail)) finds.0 finds.1 is
  reason_at (Pin trail from to) finds none is = at_pin trail from to _ (subst (λ (told : Observation). begins_again (goes address (Pin trail from to) told) ≡ true) refl is)
  reason_at (ReadStatus trail) finds none is = absurd (true_false (sym is ∙ first_none trail (cells.statuses (slot_of trail))))
  reason_at (FindEntry trail status entry) finds none is = absurd (true_false (sym is ∙ entry_none trail status entry (cells.addrs (slot_of trail) entry) finds))
  reason_at (ReadExpected trail status entry) finds none is = absurd (false_true is)
  reason_at (ReadNew trail status entry expected) finds none is = absurd (false_true is)
  reason_at (RecheckWord trail status expected new) finds none is =
      let word = cells.words tenant address in
      at_word (slot_of trail) (seq_of trail) (same_word word (word_of trail)) (is_over trail status) (value_of trail status expected new) (λ same. finds (same_word_is word (word_of trail) same)) is
  reason_at (Unpin slot seq onward) finds none is = absurd (true_false (sym is ∙ at_unpin slot seq onward (cells.gates slot) none))
  reason_at (FreeSlot slot seq onward) finds none is = absurd (true_false (sym is ∙ at_free slot seq onward none))
  reason_at (LowerDoor onward) finds none is = absurd (true_false (sym is ∙ resumed_none onward none))
  reason_at (Replied reply) finds none is = absurd (false_true is)

pub reads_turn_back_for_three_reasons : ReadsTurnBackForThreeReasons
reads_turn_back_for_three_reasons config openings events state worker actor look played sits at none is =
    reason_at state.cells look.tenant look.address look.point (reads_find_their_way config openings events state worker actor look played sits at) none is
