-- Defines which calls a session may make of its service, and that the service answered them in order.
-- Used by: mw_connections, mw_workers, replies.rt, session.rt. A new Step needs a case in CanAsk.
use Rattle.std.specs.Prelude.{ℕ, List, IsTrue}
use Rattle.mw_words.specs.Change.{is_well_formed}
use Rattle.mw_session.specs.Transitions.{GoesThrough}
use Rattle.mw_session.specs.Talk.{Call}
use Rattle.mw_session.specs.declared.steps.Bound.{Bound}
use Rattle.mw_session.specs.declared.steps.Bound.TheVariants.{Nobody, Tenant, Admin}
use Rattle.mw_session.specs.declared.steps.Step.{Step}
use Rattle.mw_session.specs.declared.steps.Step.TheVariants.{Refuse, Find, BindAdmin, Ask, Report, Leave, Overrun}

-- These calls, in order, lead from one state of the service to the other, each answered as the service promises. The
-- list may lack a search for a name, because a search changes no state.
abbrev pub AreAnswered : {S : Type 0} → (S → Call → S → Type 0) → S → S → List Call → Type 0
AreAnswered answered old new calls = GoesThrough answered old calls new

-- if the session is bound to a tenant, the tenant has so many words
abbrev pub IsServed : (ℕ → ℕ → Type 0) → Bound → Type 0
IsServed HasWords Nobody = Unit {0}
IsServed HasWords (Tenant number words) = HasWords number words
IsServed HasWords Admin = Unit {0}

-- if the step asks for a job, the job is well formed for the tenant's words
abbrev pub CanAsk : (ℕ → ℕ → Type 0) → Step → Type 0
CanAsk HasWords (Ask number wanted) = (words : ℕ) × HasWords number words × IsTrue (is_well_formed words wanted)
CanAsk HasWords (Refuse wrong) = Unit {0}
CanAsk HasWords (Find name) = Unit {0}
CanAsk HasWords BindAdmin = Unit {0}
CanAsk HasWords Report = Unit {0}
CanAsk HasWords Leave = Unit {0}
CanAsk HasWords Overrun = Unit {0}
