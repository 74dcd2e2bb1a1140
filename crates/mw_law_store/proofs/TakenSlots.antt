-- Which slots are taken after a request's step, and how many its tenant's door counts, for each label (addition to the
-- history). Used by: Turned.
use Rattle.std.specs.Prelude.{ℕ, ◌≡◌, ◌⊎◌, ◌+◌, ◌-◌, Bool, true, false}
use Rattle.std.proofs.Common.{refl, sym, ap, subst, ◌∙◌, inl, inr}
use Rattle.std.proofs.lemmas.Bool.{cases_eq}
use Rattle.mw_words.specs.declared.doors.Door.{Door}
use Rattle.mw_words.specs.declared.gates.Gate.{Gate}
use Rattle.mw_words.specs.declared.places.At.TheVariants.{Door as AtDoor, Gate as AtGate}
use Rattle.mw_words.specs.declared.replies.Reply.TheVariants.{Busy as SaysBusy, Fault as SaysFault}
use Rattle.mw_look.specs.declared.observations.Observation.{Observation}
use Rattle.mw_look.specs.declared.observations.Observation.TheVariants.{Won, Lost}
use Rattle.mw_look.specs.declared.points.After.{After as AfterRead}
use Rattle.mw_look.specs.declared.points.After.TheVariants.{Again, Answer}
use Rattle.mw_look.specs.declared.points.Point.{Point as ReadPoint}
use Rattle.mw_look.specs.declared.points.Point.TheVariants as look
use Rattle.mw_look.specs.declared.points.Trail.{Trail}
use Rattle.mw_look.specs.declared.points.Trail.TheVariants.{Held as ByHeld, Planted as ByPlanted}
use Rattle.mw_look.specs.Program.{Reading, freed, slot_of, asks_at as asks_in_read}
use Rattle.mw_actor.specs.declared.points.Point.{Point}
use Rattle.mw_actor.specs.declared.points.Point.TheVariants.{Read, ReadDoor, Admit, Claim, Inspect, DecideNo, Resolve, Release, PinOther, Unpin, FreeSlot, LowerDoor, GiveUp, Replied}
use Rattle.mw_actor.specs.declared.points.Slot.{Slot}
use Rattle.mw_actor.specs.declared.points.Sweep.{Sweep}
use Rattle.mw_actor.specs.declared.points.Sweep.TheVariants.{Yes as SweepYes}
use Rattle.mw_actor.specs.ActorState.{ActorState, entry_of}
use Rattle.mw_actor.specs.Asks.{asks_at}
use Rattle.mw_world.specs.Maps.{upd}
use Rattle.mw_world.specs.declared.step_labels.StepLabel.{StepLabel}
use Rattle.mw_world.specs.declared.step_labels.StepLabel.TheVariants.{Nothing, Admitted, Claimed, Freed, Lowered as IsLowered}
use Rattle.mw_world.specs.Definition.Cells.{Cells, write}
use Rattle.mw_world.specs.Definition.StepLabels.{door_label, inspect_label, resolve_label, release_label, give_up_label, read_door_label, read_word_label, read_status_label, answer_label, recheck_label, read_label, read_point, won_label, exchange_label, label_of}
use Rattle.mw_law_runs.specs.Counts.Ready.{IsReady, IsReadReady}
use Rattle.mw_law_runs.proofs.Knowledge.Updates.Preservation.{upd_here, upd_else}
use Rattle.mw_law_runs.proofs.StepEnds.{Ends}
use Rattle.mw_law_store.proofs.Stepped.{Left, same_gates, same_doors, live_same, live_set}
use Rattle.mw_law_store.specs.Refinement.{is_live}

-- which slots are taken after a step with this label
abbrev pub TakenBy : StepLabel → Cells → Cells → Type 0
TakenBy (Claimed own) old new = (slot seq : ℕ) → is_live new slot seq → (is_live old slot seq) ⊎ ((slot ≡ own.slot) × (seq ≡ own.seq))
TakenBy (Freed one) old new = ((slot seq : ℕ) → is_live new slot seq → is_live old slot seq) × (is_live new one.slot one.seq → ⊥)
TakenBy label old new = (slot seq : ℕ) → is_live new slot seq → is_live old slot seq

-- how many slots the tenant's door counts
abbrev pub CountedBy : StepLabel → ℕ → Cells → Cells → Type 0
CountedBy Admitted tenant old new = (new.doors tenant).used ≡ (old.doors tenant).used + 1
CountedBy IsLowered tenant old new = (new.doors tenant).used ≡ (old.doors tenant).used - 1
CountedBy label tenant old new = (new.doors tenant).used ≡ (old.doors tenant).used

abbrev pub Frame : StepLabel → ℕ → Cells → Cells → Type 0
Frame label tenant old new = TakenBy label old new × CountedBy label tenant old new

-- labels that say nothing of slots
abbrev IsPlain : StepLabel → Type 0
IsPlain Admitted = ⊥
IsPlain (Claimed own) = ⊥
IsPlain (Freed slot) = ⊥
IsPlain IsLowered = ⊥
IsPlain label = Unit {0}

plain : (label : StepLabel) (tenant : ℕ) (old new : Cells) → IsPlain label → ((slot seq : ℕ) → is_live new slot seq → is_live old slot seq) → (new.doors tenant).used ≡ (old.doors tenant).used → Frame label tenant old new
plain Admitted tenant old new is fewer same = absurd is
plain (Claimed own) tenant old new is fewer same = absurd is
plain (Freed slot) tenant old new is fewer same = absurd is
plain IsLowered tenant old new is fewer same = absurd is
plain label tenant old new is fewer same = (fewer, same)

door_plain : (after : Point) → IsPlain (door_label after)
door_plain (Replied SaysBusy) = tt
door_plain (Replied SaysFault) = tt
door_plain after = tt

inspect_plain : (after : Point) → IsPlain (inspect_label after)
inspect_plain (DecideNo task entry value) = tt
inspect_plain after = tt

give_up_plain : (own : Slot) (after : Point) → IsPlain (give_up_label own after)
give_up_plain own (Replied SaysFault) = tt
give_up_plain own after = tt

resolve_plain : (was_open : Bool) (target : Slot) (address : ℕ) → IsPlain (resolve_label was_open target address)
resolve_plain true target address = tt
resolve_plain false target address = tt

release_plain : (sweep : Sweep) (target : Slot) (address : ℕ) → IsPlain (release_label sweep target address)
release_plain SweepYes target address = tt
release_plain sweep target address = tt

abbrev IsNoSlotStep : Point → Type 0
IsNoSlotStep (Admit from to) = ⊥
IsNoSlotStep (Claim slot saw_worn from to) = ⊥
IsNoSlotStep point = Unit {0}

won_plain : (actor : ActorState) (point : Point) → IsNoSlotStep point → IsPlain (won_label actor point)
won_plain actor (Admit from to) is = is
won_plain actor (Claim slot saw_worn from to) is = is
won_plain actor (Resolve task entry attempt was_open) is = resolve_plain was_open task.target (entry_of actor task entry).addr
won_plain actor (Release task sweep entry) is = release_plain sweep task.target (entry_of actor task entry).addr
won_plain actor point is = tt

exchange_plain : (actor : ActorState) (point : Point) (observation : Observation) → IsNoSlotStep point → IsPlain (exchange_label actor point observation)
exchange_plain actor point Won is = won_plain actor point is
exchange_plain actor point observation is = tt

answer_plain : (trail : Trail) (after : AfterRead) → IsPlain (answer_label trail after)
answer_plain trail Again = tt
answer_plain (ByHeld slot seq) (Answer value) = tt
answer_plain (ByPlanted worker attempt row) (Answer value) = tt

status_plain : (trail : Trail) → IsPlain (read_status_label trail)
status_plain (ByHeld slot seq) = tt
status_plain (ByPlanted worker attempt row) = tt

recheck_plain : (trail : Trail) (after : ReadPoint) → IsPlain (recheck_label trail after)
recheck_plain trail (look.Unpin slot seq next) = answer_plain trail next
recheck_plain trail after = tt

read_door_plain : (after : ReadPoint) → IsPlain (read_door_label after)
read_door_plain (look.Replied SaysFault) = tt
read_door_plain after = tt

read_word_plain : (after : ReadPoint) → IsPlain (read_word_label after)
read_word_plain (look.Replied reply) = tt
read_word_plain after = tt

abbrev IsNoSlotRead : ReadPoint → Type 0
IsNoSlotRead (look.FreeSlot slot seq next) = ⊥
IsNoSlotRead (look.LowerDoor next) = ⊥
IsNoSlotRead point = Unit {0}

read_plain : (point after : ReadPoint) → IsNoSlotRead point → IsPlain (read_label point after)
read_plain look.ReadDoor after is = read_door_plain after
read_plain look.ReadWord after is = read_word_plain after
read_plain (look.ReadStatus trail) after is = status_plain trail
read_plain (look.RecheckWord trail status expected new) after is = recheck_plain trail after
read_plain (look.FreeSlot slot seq next) after is = is
read_plain (look.LowerDoor next) after is = is
read_plain point after is = tt

-- the slots that may be taken after one gate is set
live_at : (old new : Cells) (place : ℕ) (gate : Gate) → new ≡ write old (AtGate place) gate → (slot seq : ℕ) → is_live new slot seq → (is_live old slot seq) ⊎ ((slot ≡ place) × (gate.taken ≡ true) × (gate.seq ≡ seq))
live_at old new place gate is slot seq lives = elim (cases_eq slot place) [
  | inl same ↦
      let set = ap (λ (cells : Cells). cells.gates slot) is ∙ ap (upd old.gates place gate) same ∙ upd_here old.gates place gate in
      inr (same, ap (λ (g : Gate). g.taken) (sym set) ∙ lives.0, ap (λ (g : Gate). g.seq) (sym set) ∙ lives.1)
  | inr other ↦
      let set = ap (λ (cells : Cells). cells.gates slot) is ∙ upd_else old.gates place slot gate other in
      inl (ap (λ (g : Gate). g.taken) (sym set) ∙ lives.0, ap (λ (g : Gate). g.seq) (sym set) ∙ lives.1)
]

won_lost : Won ≡ Lost → ⊥
won_lost e = cc

false_true : false ≡ true → ⊥
false_true e = cc

module _ (old new : Cells) where
  -- a slot is freed
  free_frame : (slot seq tenant : ℕ) → new ≡ write old (AtGate slot) (freed seq) → (new.doors tenant).used ≡ (old.doors tenant).used → Frame (Freed (record { slot = slot; seq = seq })) tenant old new
  free_frame slot seq tenant is same = (
    (
      live_set old new slot (freed seq) is (λ taken. absurd (false_true taken)),
      λ lives. false_true (sym (ap (λ (cells : Cells). (cells.gates slot).taken) is ∙ ap (λ (g : Gate). g.taken) (upd_here old.gates slot (freed seq))) ∙ lives.0),
    ),
    same,
  )

  -- a door counts one slot less
  lower_used : (tenant : ℕ) → new ≡ write old (AtDoor tenant) (record (old.doors tenant) { used = (old.doors tenant).used - 1 }) → (new.doors tenant).used ≡ (old.doors tenant).used - 1
  lower_used tenant is = ap (λ (cells : Cells). (cells.doors tenant).used) is ∙ ap (λ (door : Door). door.used) (upd_here old.doors tenant (record (old.doors tenant) { used = (old.doors tenant).used - 1 }))

  used_same : (tenant : ℕ) → new.doors ≡ old.doors → (new.doors tenant).used ≡ (old.doors tenant).used
  used_same tenant is = ap (λ (doors : ℕ → Door). (doors tenant).used) is

  read_frame : (actor : ActorState) (reading : Reading) (point after : ReadPoint) (observation : Observation) → reading.tenant ≡ actor.tenant → IsReadReady point → Ends old (asks_in_read reading.tenant reading.address point) observation
      → Left (asks_in_read reading.tenant reading.address point) old observation new → Frame (read_label point after) actor.tenant old new
  read_frame actor reading (look.Pin trail from to) after observation same ready ends left =
      plain Nothing actor.tenant old new tt (pinned left) (used_same actor.tenant (same_doors (asks_in_read reading.tenant reading.address (look.Pin trail from to)) old new observation tt left))
    where
      found : Ends old (asks_in_read reading.tenant reading.address (look.Pin trail from to)) observation → observation ≡ Won → old.gates (slot_of trail) ≡ from
      found (inl quiet) is = absurd (won_lost (sym is ∙ quiet.1))
      found (inr changes) is = changes.1

      pinned : Left (asks_in_read reading.tenant reading.address (look.Pin trail from to)) old observation new → (slot seq : ℕ) → is_live new slot seq → is_live old slot seq
      pinned (inl won) =
          live_set old new (slot_of trail) to won.1
          (λ taken. (ap (λ (g : Gate). g.taken) (found ends won.0) ∙ ready.was_taken, ap (λ (g : Gate). g.seq) (found ends won.0) ∙ sym ready.same_number))
      pinned (inr lost) = live_same old new (ap (λ (cells : Cells). cells.gates) lost.1)
  read_frame actor reading (look.Unpin slot seq next) after observation same ready ends left =
      plain Nothing actor.tenant old new tt (live_set old new slot _ left (λ taken. (taken, refl)))
      (used_same actor.tenant (same_doors (asks_in_read reading.tenant reading.address (look.Unpin slot seq next)) old new observation tt left))
  read_frame actor reading (look.FreeSlot slot seq next) after observation same ready ends left =
      free_frame slot seq actor.tenant left (used_same actor.tenant (same_doors (asks_in_read reading.tenant reading.address (look.FreeSlot slot seq next)) old new observation tt left))
  read_frame actor reading (look.LowerDoor next) after observation same ready ends left = (
    live_same old new (same_gates (asks_in_read reading.tenant reading.address (look.LowerDoor next)) old new observation tt left),
    subst (λ (tenant : ℕ). (new.doors tenant).used ≡ (old.doors tenant).used - 1) same (lower_used reading.tenant left),
  )
  read_frame actor reading point after observation same ready ends left =
      plain (read_label point after) actor.tenant old new (read_plain point after tt) (live_same old new (same_gates (asks_in_read reading.tenant reading.address point) old new observation tt left))
      (used_same actor.tenant (same_doors (asks_in_read reading.tenant reading.address point) old new observation tt left))

  -- A step leaves gates and its tenant's door as its label says.
  pub frames : (actor : ActorState) (point after : Point) (observation : Observation) → IsReady actor point → Ends old (asks_at actor point) observation → Left (asks_at actor point) old observation new
      → Frame (label_of actor point observation after) actor.tenant old new
  frames actor (Read reading) after observation ready ends left = read_frame actor reading reading.point (read_point after) observation ready.0 ready.1 ends left
  frames actor ReadDoor after observation ready ends left =
      plain (door_label after) actor.tenant old new (door_plain after) (live_same old new (same_gates (asks_at actor ReadDoor) old new observation tt left)) (used_same actor.tenant (same_doors (asks_at actor ReadDoor) old new observation tt left))
  frames actor (Inspect task entry) after observation ready ends left =
      plain (inspect_label after) actor.tenant old new (inspect_plain after) (live_same old new (same_gates (asks_at actor (Inspect task entry)) old new observation tt left))
      (used_same actor.tenant (same_doors (asks_at actor (Inspect task entry)) old new observation tt left))
  frames actor (GiveUp own undecided) after observation ready ends left =
      plain (give_up_label own after) actor.tenant old new (give_up_plain own after) (live_same old new (same_gates (asks_at actor (GiveUp own undecided)) old new observation tt left))
      (used_same actor.tenant (same_doors (asks_at actor (GiveUp own undecided)) old new observation tt left))
  frames actor (Admit from to) after observation ready ends left = by_left left
    where
      found : Ends old (asks_at actor (Admit from to)) observation → observation ≡ Won → old.doors actor.tenant ≡ from
      found (inl quiet) is = absurd (won_lost (sym is ∙ quiet.1))
      found (inr changes) is = changes.1

      by_left : Left (asks_at actor (Admit from to)) old observation new → Frame (exchange_label actor (Admit from to) observation) actor.tenant old new
      by_left (inl won) = subst (λ (one : Observation). Frame (exchange_label actor (Admit from to) one) actor.tenant old new) (sym won.0) (
        live_same old new (ap (λ (cells : Cells). cells.gates) won.1),
        ap (λ (cells : Cells). (cells.doors actor.tenant).used) won.1 ∙ ap (λ (door : Door). door.used) (upd_here old.doors actor.tenant to) ∙ ready.one_more
            ∙ ap (λ (door : Door). door.used + 1) (sym (found ends won.0)),
      )
      by_left (inr lost) = subst (λ (one : Observation). Frame (exchange_label actor (Admit from to) one) actor.tenant old new) (sym lost.0)
          (live_same old new (ap (λ (cells : Cells). cells.gates) lost.1), used_same actor.tenant (ap (λ (cells : Cells). cells.doors) lost.1))
  frames actor (Claim slot saw_worn from to) after observation ready ends left = by_left left
    where
      by_left : Left (asks_at actor (Claim slot saw_worn from to)) old observation new → Frame (exchange_label actor (Claim slot saw_worn from to) observation) actor.tenant old new
      by_left (inl won) = subst (λ (one : Observation). Frame (exchange_label actor (Claim slot saw_worn from to) one) actor.tenant old new) (sym won.0) (
        (λ k l lives. elim (live_at old new slot to won.1 k l lives) [
          | inl was ↦ inl was
          | inr here ↦ inr (here.0, sym here.2 ∙ ready.same_number)
        ]),
        used_same actor.tenant (ap (λ (cells : Cells). cells.doors) won.1),
      )
      by_left (inr lost) = subst (λ (one : Observation). Frame (exchange_label actor (Claim slot saw_worn from to) one) actor.tenant old new) (sym lost.0)
          (live_same old new (ap (λ (cells : Cells). cells.gates) lost.1), used_same actor.tenant (ap (λ (cells : Cells). cells.doors) lost.1))
  frames actor (PinOther task other from to) after observation ready ends left =
      plain (exchange_label actor (PinOther task other from to) observation) actor.tenant old new (exchange_plain actor (PinOther task other from to) observation tt) (pinned left)
      (used_same actor.tenant (same_doors (asks_at actor (PinOther task other from to)) old new observation tt left))
    where
      found : Ends old (asks_at actor (PinOther task other from to)) observation → observation ≡ Won → old.gates other.slot ≡ from
      found (inl quiet) is = absurd (won_lost (sym is ∙ quiet.1))
      found (inr changes) is = changes.1

      pinned : Left (asks_at actor (PinOther task other from to)) old observation new → (slot seq : ℕ) → is_live new slot seq → is_live old slot seq
      pinned (inl won) =
          live_set old new other.slot to won.1
          (λ taken. (ap (λ (g : Gate). g.taken) (found ends won.0) ∙ ready.1.was_taken, ap (λ (g : Gate). g.seq) (found ends won.0) ∙ sym ready.1.same_number))
      pinned (inr lost) = live_same old new (ap (λ (cells : Cells). cells.gates) lost.1)
  frames actor (Unpin slot onward) after observation ready ends left =
      plain (exchange_label actor (Unpin slot onward) observation) actor.tenant old new (exchange_plain actor (Unpin slot onward) observation tt) (live_set old new slot.slot _ left (λ taken. (taken, refl)))
      (used_same actor.tenant (same_doors (asks_at actor (Unpin slot onward)) old new observation tt left))
  frames actor (FreeSlot slot onward) after observation ready ends left =
      free_frame slot.slot slot.seq actor.tenant left (used_same actor.tenant (same_doors (asks_at actor (FreeSlot slot onward)) old new observation tt left))
  frames actor (LowerDoor onward) after observation ready ends left =
      (live_same old new (same_gates (asks_at actor (LowerDoor onward)) old new observation tt left), lower_used actor.tenant left)
  frames actor point after observation ready ends left =
      plain (exchange_label actor point observation) actor.tenant old new (exchange_plain actor point observation tt) (live_same old new (same_gates (asks_at actor point) old new observation tt left))
      (used_same actor.tenant (same_doors (asks_at actor point) old new observation tt left))
