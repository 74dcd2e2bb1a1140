-- Defines which replies a job can have, whatever a tenant's words are.
-- Used by: src/file_lock/one_call.rt, src/reads.rt, src/serving.rt, src/steps.rt, mw_service.
use Rattle.std.specs.Prelude.{◌≡◌, ◌≢◌, ℕ, Any, IfSome}
use Rattle.mw_words.specs.declared.jobs.Entry.{Entry}
use Rattle.mw_words.specs.declared.jobs.Job.{Job}
use Rattle.mw_words.specs.declared.jobs.Job.TheVariants.{Get, Cas}
use Rattle.mw_words.specs.declared.replies.Reply.{Reply}
use Rattle.mw_words.specs.declared.replies.Reply.TheVariants.{Val, Yes, No, Busy, Fault, Worn}
use Rattle.mw_look.specs.declared.points.Point.{Point as ReadPoint}
use Rattle.mw_look.specs.declared.points.Point.TheVariants.{Replied}
use Rattle.mw_actor.specs.declared.points.Point.{Point}
use Rattle.mw_actor.specs.declared.points.Point.TheVariants.{Read}
use Rattle.mw_actor.specs.Program.{reply_at}

-- This entry explains a NO with this address and value: it is of that address, and expects another value.
pub record IsRefusedBy (addr value : ℕ) (entry : Entry) : Type 0 where
  pub address : entry.addr ≡ addr
  pub other : value ≢ entry.expected

-- The reply to a read is a value or FAULT. The reply to a change is YES, BUSY, FAULT, WORN, or a NO that one of its
-- entries explains.
abbrev pub IsReplyTo : Job → Reply → Type 0
IsReplyTo (Get addr) (Val value) = Unit {0}
IsReplyTo (Get addr) Yes = ⊥
IsReplyTo (Get addr) (No at value) = ⊥
IsReplyTo (Get addr) Busy = ⊥
IsReplyTo (Get addr) Fault = Unit {0}
IsReplyTo (Get addr) Worn = ⊥
IsReplyTo (Cas entries) (Val value) = ⊥
IsReplyTo (Cas entries) Yes = Unit {0}
IsReplyTo (Cas entries) (No at value) = Any (IsRefusedBy at value) entries.items
IsReplyTo (Cas entries) Busy = Unit {0}
IsReplyTo (Cas entries) Fault = Unit {0}
IsReplyTo (Cas entries) Worn = Unit {0}

-- at this point of a read, its reply, if it has one, is one that the read can have
abbrev pub SaysInRead : ℕ → ReadPoint → Type 0
SaysInRead address (Replied reply) = IsReplyTo (Get address) reply
SaysInRead address point = Unit {0}

-- A read is at a point of a read, and its reply, if it has one, is one that it can have. A change's reply, if it has
-- one, is one that it can have.
abbrev pub IsOnItsWay : Job → Point → Type 0
IsOnItsWay (Get address) (Read look) = SaysInRead address look.point
IsOnItsWay (Get address) point = ⊥
IsOnItsWay (Cas entries) point = IfSome (reply_at point) (IsReplyTo (Cas entries))
