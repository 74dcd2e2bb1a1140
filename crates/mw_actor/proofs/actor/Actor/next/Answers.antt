-- Goals of `Actor::next` (src/actor/moves.rt).
use Rattle.mw_actor.proofs.actor.Actor.next.Goals as goal

-- each observation is taken in by the function of its kind
pub returns-in-SawDoor : goal.returns-in-SawDoor
returns-in-SawDoor c = rw c.in-SawDoor.is c.saw_door.ensures

pub returns-in-SawGate : goal.returns-in-SawGate
returns-in-SawGate c = rw c.in-SawGate.is (c.saw_gate.ensures c.args.next)

pub returns-in-SawWord : goal.returns-in-SawWord
returns-in-SawWord c = rw c.in-SawWord.is c.saw_word.ensures

pub returns-in-SawStatus : goal.returns-in-SawStatus
returns-in-SawStatus c = rw c.in-SawStatus.is (c.saw_status.ensures c.args.next)

pub returns-in-SawRow : goal.returns-in-SawRow
returns-in-SawRow c = rw c.in-SawRow.is (c.saw_row.ensures c.args.next)

pub returns-in-SawNumber : goal.returns-in-SawNumber
returns-in-SawNumber c = rw c.in-SawNumber.is (c.saw_number.ensures c.args.next)

pub returns-in-Won : goal.returns-in-Won
returns-in-Won c = rw c.in-Won.is (c.won.ensures c.args.next)

pub returns-in-Lost : goal.returns-in-Lost
returns-in-Lost c = rw c.in-Lost.is (c.lost.ensures c.args.next)

pub returns-in-Filed : goal.returns-in-Filed
returns-in-Filed c = rw c.in-Filed.is (c.filed.ensures c.args.next)
