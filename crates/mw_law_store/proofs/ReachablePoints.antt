-- Defines the points that a request can reach: it gives up only with FAULT or WORN, and frees no slot if it found none.
-- Used by: Noted, Onward, StepEnds, among others.
use Rattle.std.specs.Prelude.{Bool, true, false}
use Rattle.mw_words.specs.declared.replies.Reply.{Reply}
use Rattle.mw_words.specs.declared.replies.Reply.TheVariants.{Fault as SaysFault, Worn as SaysWorn}
use Rattle.mw_actor.specs.declared.points.After.{After}
use Rattle.mw_actor.specs.declared.points.After.TheVariants.{GiveUp as ThenGiveUp, Reply as ThenReply}
use Rattle.mw_actor.specs.declared.points.Point.{Point}
use Rattle.mw_actor.specs.declared.points.Point.TheVariants.{Unpin, FreeSlot, LowerDoor, GiveUp}

-- a reply with which a request gives up whose change is not decided
abbrev pub is_no_answer : Reply → Bool
is_no_answer SaysFault = true
is_no_answer SaysWorn = true
is_no_answer reply = false

-- what may follow when a slot is given back
abbrev pub is_reachable_then : After → Bool
is_reachable_then (ThenGiveUp own undecided) = is_no_answer undecided
is_reachable_then (ThenReply SaysWorn) = false
is_reachable_then onward = true

-- what may follow when the door is lowered
abbrev pub is_meant_lowering : After → Bool
is_meant_lowering (ThenGiveUp own undecided) = is_no_answer undecided
is_meant_lowering onward = true

-- a request can reach this point
abbrev pub is_reachable : Point → Bool
is_reachable (Unpin slot onward) = is_reachable_then onward
is_reachable (FreeSlot slot onward) = is_reachable_then onward
is_reachable (LowerDoor onward) = is_meant_lowering onward
is_reachable (GiveUp own undecided) = is_no_answer undecided
is_reachable point = true
