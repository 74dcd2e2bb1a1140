-- What a step of a read gives the simulation: a failed file, a value, or a slot to give back. Used by: ChangeSteps, StepsByPoint.
use Rattle.std.specs.Prelude.{ℕ, ◌≡◌, ◌≤◌, ◌<◌, ◌⊎◌, ◌&&◌, Bool, true, false, cond, List, Option, Some}
use Rattle.std.proofs.Common.{refl, sym, ap, subst, ◌∙◌, inl, inr, arith}
use Rattle.std.proofs.lemmas.Bool.Decides.{nat_tests}
use Rattle.mw_words.specs.declared.doors.Door.{Door}
use Rattle.mw_words.specs.declared.jobs.Entry.{Entry}
use Rattle.mw_words.specs.declared.jobs.Job.{Job}
use Rattle.mw_words.specs.declared.jobs.Job.TheVariants.{Get, Cas}
use Rattle.mw_words.specs.declared.replies.Reply.{Reply}
use Rattle.mw_words.specs.declared.replies.Reply.TheVariants.{Val, Yes as SaysYes, No as SaysNo, Fault as SaysFault}
use Rattle.mw_words.specs.declared.rows.Row.{Row}
use Rattle.mw_words.specs.declared.statuses.Status.{Status}
use Rattle.mw_words.specs.declared.statuses.Status.TheVariants.{Draft, Open, YesDirty, Yes, No, DoneYes, DoneNo}
use Rattle.mw_words.specs.declared.words.Word.{Word}
use Rattle.mw_words.specs.declared.words.Word.TheVariants.{Plain, Planted, Held, Dirty}
use Rattle.mw_words.specs.Change.{is_well_formed, word_at}
use Rattle.mw_look.specs.declared.observations.Observation.{Observation}
use Rattle.mw_look.specs.declared.observations.Observation.TheVariants.{SawDoor}
use Rattle.mw_look.specs.declared.points.After.{After}
use Rattle.mw_look.specs.declared.points.After.TheVariants.{Again, Answer}
use Rattle.mw_look.specs.declared.points.Point.{Point}
use Rattle.mw_look.specs.declared.points.Point.TheVariants.{ReadDoor, ReadWord, ReadStatus, RecheckWord, Unpin, FreeSlot, LowerDoor, Replied}
use Rattle.mw_look.specs.declared.points.Trail.{Trail}
use Rattle.mw_look.specs.declared.points.Trail.TheVariants.{Held as ByHeld, Planted as ByPlanted}
use Rattle.mw_look.specs.Program.{Reading, answer, first_entry, goes, same_word, seq_of, slot_of, word_seen}
use Rattle.mw_look.proofs.RangeLaws.{either_way}
use Rattle.mw_actor.specs.declared.points.Point.TheVariants.{Read}
use Rattle.mw_actor.specs.ActorState.{ActorState, entry_at}
use Rattle.mw_actor.specs.Asks.{asks}
use Rattle.mw_world.specs.declared.config.Config.{Config}
use Rattle.mw_world.specs.Definition.Counts.{frees_at}
use Rattle.mw_world.specs.Definition.History.{expected}
use Rattle.mw_world.specs.Definition.Logical.{held_value}
use Rattle.mw_world.specs.Definition.StepLabels.{read_label}
use Rattle.mw_world.specs.Definition.State.{State, tenant_at}
use Rattle.mw_law_runs.specs.Counts.Alone.{IsAloneWith}
use Rattle.mw_law_runs.proofs.Counts.Room.{who-frees-is-alone}
use Rattle.mw_law_runs.specs.Moves.Values.{value_told}
use Rattle.mw_law_runs.specs.Knowledge.Facts.{CameByPlanted}
use Rattle.mw_law_runs.specs.Knowledge.Informed.{IsInformed, IsPointFor}
use Rattle.mw_law_runs.specs.Obligations.{IsOwnerOf, IsUnfinished}
use Rattle.mw_law_runs.specs.RunInvariant.{IsSound}
use Rattle.mw_law_runs.proofs.StepEnds.{Ends}
use Rattle.mw_law_runs.proofs.Obligations.Pins.{counted_once}
use Rattle.mw_law_runs.proofs.RequestsInWorlds.{have_their_requests}
use Rattle.mw_law_store.specs.Files.Files.{HasFiles}
use Rattle.mw_law_store.specs.Due.{Answers, Dropping, Retiring, told}
use Rattle.mw_law_store.specs.WorldFacts.{HasWorldFacts}
use Rattle.mw_law_store.specs.Refinement.{told_of}
use Rattle.mw_law_store.proofs.DecidedChangesFit.{value_is_now}
use Rattle.mw_law_store.proofs.WordValues.{answer_is, reads_new}
use Rattle.mw_law_store.proofs.SimulationSteps.Given.{Given}

-- A slot that is freed.

-- There is a reply.
pub record SaysSome (said : Option Reply) : Type 0 where
  pub reply : Reply
  pub is : said ≡ Some reply

-- a change that is done with has a reply
over_tells : (fault_decided : Bool) (status : Status) (change : List Entry) → (IsUnfinished status → ⊥) → SaysSome (told fault_decided status change)
over_tells true status change over = record { reply = SaysFault; is = refl }
over_tells false Draft change over = absurd (over tt)
over_tells false Open change over = absurd (over tt)
over_tells false YesDirty change over = absurd (over tt)
over_tells false Yes change over = absurd (over tt)
over_tells false (No entry value) change over = absurd (over tt)
over_tells false DoneYes change over = record { reply = SaysYes; is = refl }
over_tells false (DoneNo entry value) change over = record { reply = SaysNo (entry_at change entry).addr value; is = refl }

false_true : false ≡ true → ⊥
false_true e = cc

some_of : (one : ℕ) → one ≡ 1 → 1 ≤ one
some_of one is = omega (arith, is)

module _ (config : Config) (state : State) (sound : IsSound config state) where
  -- the change of a slot that a request will free has its reply
  pub freed_tells : (worker slot seq : ℕ) (actor : ActorState) → (state.worker_states worker).actor ≡ Some actor → frees_at slot actor.point ≡ 1 → (state.cells.gates slot).seq ≡ seq
      → SaysSome (told_of state.history slot seq)
  freed_tells worker slot seq actor sits frees same =
      subst (λ (number : ℕ). SaysSome (told_of state.history slot number)) same
      (over_tells (state.history.is_fault_decided slot number_now) (state.history.fate slot number_now) (state.history.change slot number_now)
      (λ unfinished. by_owner (sound.releasers.unfinished slot alone.taken unfinished)))
    where
      number_now : ℕ
      number_now = (state.cells.gates slot).seq

      alone : IsAloneWith state worker slot
      alone = who-frees-is-alone config state worker slot actor sound.counts sits (some_of (frees_at slot actor.point) frees)

      by_owner : IsOwnerOf state slot number_now ⊎ (state.history.stays slot number_now ≡ true) → ⊥
      by_owner (inl owner) = omega (arith, owner.pin, alone.none_held (state.history.owner slot number_now) owner.actor owner.is)
      by_owner (inr stays) = false_true (sym (alone.none_left number_now) ∙ stays)

-- A read.

-- it reads its word
reads_of : (job : Job) (look : Reading) → IsPointFor job (Read look) → job ≡ Get look.address
reads_of (Get address) look is = ap (λ (n : ℕ). Get n) (sym is)
reads_of (Cas entries) look is = absurd is

-- if a read by an attempt replies, it replies what the change expects at the word, and the word still has the attempt
planted_answers : (worker number : ℕ) (row : Row) (word : Word) (status : Status) (was written value : ℕ)
    → answer (ByPlanted worker number row) word status was written ≡ Answer value → (value ≡ was) × (word ≡ Planted worker number)
planted_answers worker number row word status was written value is = by_test (same_word word (Planted worker number)) refl is
  where
    same_planted : (one : Word) → same_word one (Planted worker number) ≡ true → one ≡ Planted worker number
    same_planted (Plain found) e = absurd (grind (arith, e))
    same_planted (Held slot seq) e = absurd (grind (arith, e))
    same_planted (Dirty slot found) e = absurd (grind (arith, e))
    same_planted (Planted other attempt) e =
        let both : (other ≡ worker) × (attempt ≡ number) = (grind (arith, nat_tests, e), grind (arith, nat_tests, e)) in
        ap (λ (n : ℕ). Planted n attempt) both.0 ∙ ap (λ (n : ℕ). Planted worker n) both.1

    by_test : (test : Bool) → same_word word (Planted worker number) ≡ test → cond (test && true) (Answer was) Again ≡ Answer value → (value ≡ was) × (word ≡ Planted worker number)
    by_test true same answers = (sym (same_answer answers), same_planted word same)
      where
        same_answer : Answer was ≡ Answer value → was ≡ value
        same_answer e = cc
    by_test false same answers = absurd (not_so answers)
      where
        not_so : Again ≡ Answer value → ⊥
        not_so e = cc

retiring_not : Retiring ≡ Dropping → ⊥
retiring_not e = cc

module _ (config : Config) (state : State) (sound : IsSound config state) (has : HasFiles config state) (world_facts : HasWorldFacts state) (actor : ActorState) (look : Reading) where
  -- the request, at a point of the read
  abbrev at : Point → ActorState
  at point = record actor { point = Read (record look { point = point }) }

  abbrev Sits : Point → Type 0
  Sits point = (state.worker_states actor.worker).actor ≡ Some (at point)

  -- a step from this point to that one gives what its label says
  abbrev Gives : Point → Point → Type 0
  Gives point after = Given state (at point) (at after) (read_label point after)

  informed : (point : Point) → Sits point → IsInformed config state (at point)
  informed point sits = (have_their_requests config state sound actor.worker (at point) sits).informed

  its_job : (point : Point) → Sits point → actor.job ≡ Get look.address
  its_job point sits = reads_of actor.job (record look { point = point }) (informed point sits).for_job

  within : (point : Point) → Sits point → look.address < (tenant_at config actor.tenant).words
  within point sits =
      let formed = subst (λ (job : Job). is_well_formed (tenant_at config actor.tenant).words job ≡ true) (its_job point sits) (informed point sits).worker_state.job in
      grind (arith, nat_tests, formed)

  -- the value of a word now, by the word's bits
  says_now : (point : Point) (word : Word) → Sits point → (state.tenant_states actor.tenant).is_up ≡ true → state.cells.words look.tenant look.address ≡ word
      → word_at (state.tenant_states actor.tenant).file.contents look.address ≡ value_told state look.address word
  says_now point word sits up is =
      value_is_now config state actor.tenant look.address sound has (informed point sits).worker_state.tenant up (within point sits)
      ∙ ap (λ (one : Word). value_told state look.address one) (ap (λ (tenant : ℕ). state.cells.words tenant look.address) (sym (informed point sits).ready.0) ∙ is)

  door_gives : (door : Door) → Sits ReadDoor → state.cells.doors look.tenant ≡ door → Gives ReadDoor (goes look.address ReadDoor (SawDoor door))
  door_gives door sits is =
      either_way (Gives ReadDoor) door.fault (Replied SaysFault) ReadWord
      (λ fault. (has.told actor.tenant (informed ReadDoor sits).worker_state.tenant).fault
      ∙ ap (λ (one : Door). one.fault) (ap (λ (tenant : ℕ). state.cells.doors tenant) (sym (informed ReadDoor sits).ready.0) ∙ is) ∙ fault)
      (λ works. tt)

  word_gives : (word : Word) → Sits ReadWord → state.cells.words look.tenant look.address ≡ word → Gives ReadWord (word_seen word)
  word_gives (Plain value) sits is = record {
    value = value;
    looks = record {
      address = look.address;
      reads = its_job ReadWord sits;
      says = says_now ReadWord (Plain value) sits ((world_facts.worker_states actor.worker (at ReadWord) sits).up refl) is;
    };
    answers = refl;
  }
  word_gives (Dirty slot value) sits is = record {
    value = value;
    looks = record {
      address = look.address;
      reads = its_job ReadWord sits;
      says = says_now ReadWord (Dirty slot value) sits ((world_facts.worker_states actor.worker (at ReadWord) sits).up refl) is;
    };
    answers = refl;
  }
  word_gives (Held slot seq) sits is = tt
  word_gives (Planted worker number) sits is = tt

  status_gives : (trail : Trail) → Sits (ReadStatus trail) → Gives (ReadStatus trail) (first_entry trail (state.cells.statuses (slot_of trail)))
  status_gives (ByHeld slot seq) sits = λ acquired. record {
    address = look.address;
    reads = its_job (ReadStatus (ByHeld slot seq)) sits;
    says = reads_new config state (at (ReadStatus (ByHeld slot seq))) look slot seq sound has world_facts refl sits acquired;
  }
  status_gives (ByPlanted worker number row) sits = tt

  recheck_gives : (trail : Trail) (status : Status) (was written : ℕ) (word : Word) (after : After) → Sits (RecheckWord trail status was written)
      → state.cells.words look.tenant look.address ≡ word → answer trail word status was written ≡ after
      → Gives (RecheckWord trail status was written) (Unpin (slot_of trail) (seq_of trail) after)
  recheck_gives trail status was written word Again sits is comes = tt
  recheck_gives (ByHeld slot seq) status was written word (Answer value) sits is comes =
      let point = RecheckWord (ByHeld slot seq) status was written in
      let found = answer_is slot seq word status was written value comes in
      let seen = (world_facts.worker_states actor.worker (at point) sits).seen in
      record {
        reading = look;
        slot = slot;
        seq = seq;
        status = status;
        was = was;
        written = written;
        is = refl;
        acquired = (sound.memory.references.held look.tenant look.address slot seq (is ∙ found.1)).acquired;
        answers =
            ap (λ (one : ℕ). Answers (Val one))
            (found.0 ∙ ap (λ (one : ℕ). held_value status one written) seen.0 ∙ ap (λ (one : ℕ). held_value status (expected state.history slot seq look.address) one) seen.1);
      }
  recheck_gives (ByPlanted worker number row) status was written word (Answer value) sits is comes =
      let point = RecheckWord (ByPlanted worker number row) status was written in
      let found = planted_answers worker number row word status was written value comes in
      let with_facts = world_facts.worker_states actor.worker (at point) sits in
      let came : CameByPlanted state look.tenant look.address worker number row = (informed point sits).knows in
      record {
        value = value;
        looks = record {
          address = look.address;
          reads = its_job point sits;
          says =
              says_now point (Planted worker number) sits (with_facts.up refl) (is ∙ found.1)
              ∙ ap (λ (one : Row). expected state.history one.slot one.seq look.address) (came.row.row (is ∙ found.1))
              ∙ sym (found.0 ∙ with_facts.seen.0);
        };
        answers = refl;
      }

  free_gives : (slot seq : ℕ) (onward : After) (after : Point) → Sits (FreeSlot slot seq onward) → Gives (FreeSlot slot seq onward) after
  free_gives slot seq onward after sits =
      let here = informed (FreeSlot slot seq onward) sits in
      let tells = freed_tells config state sound actor.worker slot seq (at (FreeSlot slot seq onward)) sits (counted_once slot slot refl) here.live.seq in
      record {
        its = (here.knows.is_claimed, here.knows.same_tenant ∙ here.ready.0);
        live = (here.live.taken, here.live.seq);
        reply = tells.reply;
        has_reply = tells.is;
      }

  pub read_gives : (point : Point) (observation : Observation) → Sits point → Ends state.cells (asks (at point)) observation → Gives point (goes look.address point observation)
  read_gives ReadDoor observation sits (inl quiet) =
      subst (λ (one : Observation). Gives ReadDoor (goes look.address ReadDoor one)) (sym quiet) (door_gives (state.cells.doors look.tenant) sits refl)
  read_gives ReadDoor observation sits (inr changes) = absurd changes
  read_gives ReadWord observation sits (inl quiet) =
      subst (λ (one : Observation). Gives ReadWord (goes look.address ReadWord one)) (sym quiet) (word_gives (state.cells.words look.tenant look.address) sits refl)
  read_gives ReadWord observation sits (inr changes) = absurd changes
  read_gives (ReadStatus trail) observation sits (inl quiet) =
      subst (λ (one : Observation). Gives (ReadStatus trail) (goes look.address (ReadStatus trail) one)) (sym quiet) (status_gives trail sits)
  read_gives (ReadStatus trail) observation sits (inr changes) = absurd changes
  read_gives (RecheckWord trail status was written) observation sits (inl quiet) =
      let word = state.cells.words look.tenant look.address in
      subst (λ (one : Observation). Gives (RecheckWord trail status was written) (goes look.address (RecheckWord trail status was written) one)) (sym quiet)
      (recheck_gives trail status was written word (answer trail word status was written) sits refl refl)
  read_gives (RecheckWord trail status was written) observation sits (inr changes) = absurd changes
  read_gives (FreeSlot slot seq onward) observation sits ends = free_gives slot seq onward (goes look.address (FreeSlot slot seq onward) observation) sits
  read_gives (LowerDoor onward) observation sits ends = λ falls. absurd (retiring_not falls)
  read_gives point observation sits ends = tt
