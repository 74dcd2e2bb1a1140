-- Goals of `Actor::swept` (src/actor/moves.rt).
use Rattle.mw_actor.proofs.actor.Actor.swept.Goals as goal

-- a sweep goes on after a plain word, and keeps what it knows
pub returns-in-Plain : goal.returns-in-Plain
returns-in-Plain c = rw c.in-Plain.is c.next_sweep.ensures

pub returns-in-Planted : goal.returns-in-Planted
returns-in-Planted c = rw c.in-Planted.is c.attempt_swept.ensures

pub returns-in-Held : goal.returns-in-Held
returns-in-Held c = rw c.in-Held.is c.held_swept.ensures

pub returns-in-Dirty : goal.returns-in-Dirty
returns-in-Dirty c = rw c.in-Dirty.is c.dirty_swept.ensures
