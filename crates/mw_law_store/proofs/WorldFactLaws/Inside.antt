-- A request passes its tenant's door only if the door has no fault; and a change's request is never at a point of a read.
-- Used by: EndsRead, ChangeSteps, StepsByPoint, among others.
use Rattle.std.specs.Prelude.{ℕ, ◌≡◌, ◌⊎◌, ◌+◌, Bool, true, false, cond, nat_lt}
use Rattle.std.proofs.Common.{refl, ap, inl, inr}
use Rattle.mw_words.specs.declared.doors.Door.{Door}
use Rattle.mw_words.specs.declared.jobs.Job.{Job}
use Rattle.mw_words.specs.declared.jobs.Job.TheVariants.{Get, Cas}
use Rattle.mw_words.specs.declared.places.At.TheVariants.{Door as AtDoor}
use Rattle.mw_words.specs.declared.replies.Reply.TheVariants.{Fault as SaysFault}
use Rattle.mw_pool.specs.declared.doors.Admission.TheVariants.{Fault as HasFailed, Busy as IsBusy, To}
use Rattle.mw_lone.specs.Store.{is_cas}
use Rattle.mw_look.specs.declared.observations.Observation.{Observation}
use Rattle.mw_look.specs.declared.observations.Observation.TheVariants.{SawDoor}
use Rattle.mw_look.specs.declared.points.Point.{Point as ReadPoint}
use Rattle.mw_look.specs.declared.points.Point.TheVariants.{ReadDoor as DoorOfRead, ReadWord as WordOfRead, Replied as RepliedOfRead}
use Rattle.mw_look.specs.Program.{Reading, goes as read_goes}
use Rattle.mw_look.specs.Steps.{Load}
use Rattle.mw_actor.specs.declared.points.Point.{Point}
use Rattle.mw_actor.specs.declared.points.Point.TheVariants.{Read, ReadDoor, Replied}
use Rattle.mw_actor.specs.ActorState.{ActorState}
use Rattle.mw_actor.specs.Admission.{admitted}
use Rattle.mw_actor.specs.Asks.{asks_at}
use Rattle.mw_actor.specs.Program.{goes}
use Rattle.mw_world.specs.Definition.History.{History}
use Rattle.mw_law_runs.specs.Counts.Ready.{IsReady}
use Rattle.mw_law_runs.specs.Knowledge.Informed.{IsPointFor}
use Rattle.mw_law_store.specs.WorldFacts.{HasSeenAt, is_inside, read_is_inside}

false_true : false ≡ true → ⊥
false_true e = cc

-- At this point a request loads its tenant's door, and observes one that has no fault.
pub record FindsNoFault (actor : ActorState) (point : Point) (observation : Observation) : Type 0 where
  pub door : Door
  pub is : observation ≡ SawDoor door
  pub has_none : door.fault ≡ false
  pub asks : asks_at actor point ≡ Load (AtDoor actor.tenant)

by_door : (actor : ActorState) (next : ℕ) (door : Door) (test : Bool) → door.fault ≡ test → is_inside (admitted next door (cond test HasFailed (cond (nat_lt door.used actor.quota) (To (record door { used = door.used + 1 })) IsBusy))) ≡ true
    → FindsNoFault actor ReadDoor (SawDoor door)
by_door actor next door true fault is = absurd (false_true is)
by_door actor next door false fault is = record { door = door; is = refl; has_none = fault; asks = refl }

module _ (actor : ActorState) (look : Reading) (same : look.tenant ≡ actor.tenant) where
  read_by_door : (door : Door) (test : Bool) → door.fault ≡ test → read_is_inside (cond test (RepliedOfRead SaysFault) WordOfRead) ≡ true
      → FindsNoFault actor (Read (record look { point = DoorOfRead })) (SawDoor door)
  read_by_door door true fault is = absurd (false_true is)
  read_by_door door false fault is = record { door = door; is = refl; has_none = fault; asks = ap (λ (tenant : ℕ). Load (AtDoor tenant)) same }

  read_inside : (point : ReadPoint) (observation : Observation) → read_is_inside (read_goes look.address point observation) ≡ true → (read_is_inside point ≡ true) ⊎ FindsNoFault actor (Read (record look { point = point })) observation
  read_inside DoorOfRead (SawDoor door) is = inr (read_by_door door door.fault refl is)
  read_inside DoorOfRead observation is = inl is
  read_inside (RepliedOfRead reply) observation is = inl is
  read_inside point observation is = inl refl

pub inside_goes : (actor : ActorState) (next : ℕ) (point : Point) (observation : Observation) → IsReady actor point → is_inside (goes actor next point observation) ≡ true → (is_inside point ≡ true) ⊎ FindsNoFault actor point observation
inside_goes actor next (Read look) observation ready is = read_inside actor look ready.0 look.point observation is
inside_goes actor next ReadDoor (SawDoor door) ready is = inr (by_door actor next door door.fault refl is)
inside_goes actor next ReadDoor observation ready is = inl is
inside_goes actor next (Replied reply) observation ready is = inl is
inside_goes actor next point observation ready is = inl refl

abbrev pub is_read : Point → Bool
is_read (Read look) = true
is_read point = false

-- a request at a point of a change has a change for its job
pub is_of_change : (job : Job) (point : Point) → is_read point ≡ false → IsPointFor job point → is_cas job ≡ true
is_of_change (Cas entries) point is for_job = refl
is_of_change (Get address) (Read look) is for_job = absurd (true_false is)
  where
    true_false : true ≡ false → ⊥
    true_false e = cc
is_of_change (Get address) point is for_job = absurd for_job

-- a change has read nothing that a reply needs
pub unread : (past : History) (job : Job) (point : Point) → is_cas job ≡ true → IsPointFor job point → HasSeenAt past point
unread past (Get address) point is for_job = absurd (false_true is)
unread past (Cas entries) (Read look) is for_job = absurd for_job
unread past (Cas entries) point is for_job = tt
