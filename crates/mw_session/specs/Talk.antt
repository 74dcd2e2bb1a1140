-- Defines what a session says to each line, and what it asks the service for. A session begins unbound: it has no tenant yet.
-- Used by: many crates from mw_connections on, laws.rt, service.rt, steps.rt. A new command needs a case here.
use Rattle.std.specs.Prelude.{ℕ, ◌++◌, Bool, List, [], ◌∷◌, nat_lt, if◌then◌else◌, Option, Some, None, Result, Ok, Err}
use Rattle.std.specs.List.{list_all}
use Rattle.mw_words.specs.declared.jobs.Job.{Job}
use Rattle.mw_words.specs.declared.jobs.Job.TheVariants as job
use Rattle.mw_words.specs.declared.replies.Reply.{Reply}
use Rattle.mw_line.specs.declared.requests.LineFault.{LineFault}
use Rattle.mw_line.specs.declared.requests.Request.{Request}
use Rattle.mw_line.specs.declared.requests.Request.TheVariants as request
use Rattle.mw_line.specs.declared.replies.ErrCode.TheVariants as fault
use Rattle.mw_line.specs.declared.replies.Say.{Say}
use Rattle.mw_line.specs.declared.replies.Say.TheVariants as say
use Rattle.mw_line.specs.Replies.{fault_of, text_of}
use Rattle.mw_report.specs.declared.figures.Figures.{Figures}
use Rattle.mw_report.specs.Table.{report}
use Rattle.mw_session.specs.declared.steps.Bound.{Bound}
use Rattle.mw_session.specs.declared.steps.Bound.TheVariants.{Nobody, Tenant, Admin}
use Rattle.mw_session.specs.declared.steps.Step.{Step}
use Rattle.mw_session.specs.declared.steps.Step.TheVariants.{Refuse, Find, BindAdmin, Ask, Report, Leave, Overrun}

-- What is heard of a line: a request, or what is wrong with the line; or that the line was too long.
pub data Heard : Type 0 where
  Said : Result Request LineFault → Heard
  Overlong : Heard

-- What the service answers: the number and the words of the tenant that it was asked to find, if there is one; the
-- reply to a job; the figures for the report.
pub data Answer : Type 0 where
  Found : Option (ℕ × ℕ) → Answer
  Replied : Reply → Answer
  Counted : Figures → Answer

-- A call of the service, with its answer.
pub data Call : Type 0 where
  Finds : (name : List ℕ) → Option (ℕ × ℕ) → Call
  Asks : (tenant : ℕ) → Job → Reply → Call
  Counts : Figures → Call

-- the job's addresses are below the tenant's number of words
abbrev pub reaches : ℕ → Job → Bool
reaches words (job.Get addr) = nat_lt addr words
reaches words (job.Cas entries) = list_all (λ e. nat_lt e.addr words) entries.items

-- What a session does with a request, by what it is bound to. The first fault counts: not bound; bound already; the
-- other kind of session; an address that the tenant doesn't have. Only the search shows that no tenant has a name.
abbrev pub step_for : Bound → Request → Step
step_for bound request.Quit = Leave
step_for Nobody (request.Tenant name) = Find name
step_for Nobody request.Admin = BindAdmin
step_for Nobody (request.Job wanted) = Refuse fault.NotBound
step_for Nobody request.Report = Refuse fault.NotBound
step_for (Tenant number words) (request.Tenant name) = Refuse fault.AlreadyBound
step_for (Tenant number words) request.Admin = Refuse fault.AlreadyBound
step_for (Tenant number words) (request.Job wanted) = if reaches words wanted then Ask number wanted else Refuse fault.AddressRange
step_for (Tenant number words) request.Report = Refuse fault.WrongSession
step_for Admin (request.Tenant name) = Refuse fault.AlreadyBound
step_for Admin request.Admin = Refuse fault.AlreadyBound
step_for Admin (request.Job wanted) = Refuse fault.WrongSession
step_for Admin request.Report = Report

-- What a session does at a line. Faults of the line itself come first.
abbrev pub step_at : Bound → Heard → Step
step_at bound Overlong = Overrun
step_at bound (Said (Err broken)) = Refuse (fault_of broken)
step_at bound (Said (Ok asked)) = step_for bound asked

-- How a talk ends: no line is left (Listens); after QUIT; after a line that is too long (Cuts); or short, at a line
-- that needs an answer of the service when none is left.
pub data End : Type 0 where
  Listens : End
  Quits : End
  Cuts : End
  Short : End

-- A session's text, its calls of the service in order, and how it ends.
pub record Script : Type 0 where
  pub text : List ℕ
  pub calls : List Call
  pub end : End

-- a session that ends at once
abbrev pub ends : End → Script
ends end = record { text = []; calls = []; end = end }

-- this text and these calls, and then the rest
abbrev pub after : List ℕ → List Call → Script → Script
after text calls rest = record { text = text ++ rest.text; calls = calls ++ rest.calls; end = rest.end }

-- one line is said, and then the rest
abbrev pub says : Say → Script → Script
says line rest = after (text_of line) [] rest

-- What a step says and asks, and then the rest, which depends on what the session is then bound to and on the answers
-- that are left.
abbrev pub does : Step → Bound → List Answer → (Bound → List Answer → Script) → Script
does (Refuse wrong) bound answers rest = says (say.Err wrong) (rest bound answers)
does BindAdmin bound answers rest = says say.OkAdmin (rest Admin answers)
does Leave bound answers rest = says say.Bye (ends Quits)
does Overrun bound answers rest = says (say.Err fault.LineTooLong) (ends Cuts)
does (Find name) bound (Found None ∷ answers) rest =
    after (text_of (say.Err fault.NoSuchTenant)) (Finds name.items None ∷ []) (rest bound answers)
does (Find name) bound (Found (Some found) ∷ answers) rest =
    after (text_of (say.Ok found.1)) (Finds name.items (Some found) ∷ []) (rest (Tenant found.0 found.1) answers)
does (Ask tenant wanted) bound (Replied reply ∷ answers) rest =
    after (text_of (say.Store reply)) (Asks tenant wanted reply ∷ []) (rest bound answers)
does Report bound (Counted figures ∷ answers) rest =
    after (report figures.tenants.items figures.pool_free) (Counts figures ∷ []) (rest bound answers)
does (Find name) bound _ rest = ends Short
does (Ask tenant wanted) bound _ rest = ends Short
does Report bound _ rest = ends Short

-- The session of these lines and these answers, from when it is bound so.
abbrev pub talk : Bound → List Heard → List Answer → Script
talk bound [] answers = ends Listens
talk bound (h ∷ heard) answers = does (step_at bound h) bound answers (λ next left. talk next heard left)
