-- Defines which line a client sends for a request, and that the server reads it as that request.
-- Used by: src/client.rt, src/conversation.rt, src/laws.rt, src/requests.rt, mw_client_c. It must match `specs/Grammar` of
-- mw_line.
use Rattle.std.specs.Prelude.{◌≡◌, ℕ, ◌≤◌, ◌++◌, List, codes, IsTrue, Result, Ok}
use Rattle.mw_words.specs.declared.limits.TheConstants.{MAX_VALUE, MAX_WORDS}
use Rattle.mw_words.specs.declared.jobs.Entry.{Entry}
use Rattle.mw_words.specs.Name.{is_name}
use Rattle.mw_words.specs.Change.{is_well_formed}
use Rattle.mw_line.specs.declared.requests.LineFault.{LineFault}
use Rattle.mw_line.specs.declared.requests.Request.{Request}
use Rattle.mw_line.specs.declared.requests.Request.TheVariants as request
use Rattle.mw_line.specs.Grammar.{spelling, Spells}
use Rattle.mw_line.specs.Limits.{Answers, command_of}

-- A request keeps the limits: its name is a name, and its job is well formed for a tenant with the most words.
abbrev pub IsSendable : Request → Type 0
IsSendable (request.Tenant name) = IsTrue (is_name name.items)
IsSendable request.Admin = Unit {0}
IsSendable (request.Job wanted) = IsTrue (is_well_formed MAX_WORDS wanted)
IsSendable request.Report = Unit {0}
IsSendable request.Quit = Unit {0}

-- the line of a request: the text of its command, and a line feed
abbrev pub request_line : Request → List ℕ
request_line r = spelling (command_of r) ++ codes "\n"

-- the values of an entry are values of a word
pub record HasValues (e : Entry) : Type 0 where
  pub expected : e.expected ≤ MAX_VALUE
  pub new : e.new ≤ MAX_VALUE

-- What is sent for a request, without its line feed, spells the request's command. Whoever answers to that command as
-- the server does, answers with this request.
pub record IsReadAsSent (r : Request) : Type 0 where
  pub spells : Spells (command_of r) (spelling (command_of r))
  pub answered : (answer : Result Request LineFault) → Answers (command_of r) answer → answer ≡ Ok r

-- Each request that keeps the limits is read as it was sent.
abbrev pub WhatIsSentIsRead : Type 0
WhatIsSentIsRead = (r : Request) → IsSendable r → IsReadAsSent r
