-- A request that keeps the limits spells a command without a fault, and no other request has that command. So the server
-- reads what was sent.
-- Used by: what_is_sent_is_read.
use Rattle.std.proofs.Common.{◌≡◌, ◌<◌, ◌≤◌, Bool, true, false, leb-true, le-leb, lt-ltb, ltb-true, le-ltb, ◌&&◌, List, [], ◌∷◌, length, None, Result, Ok, Err, refl, sym, ap, ◌∙◌, arith}
use Rattle.std.specs.List.{list_all}
use Rattle.std.proofs.lemmas.Option.{none-some}
use Rattle.mw_words.specs.declared.limits.TheConstants.{MAX_ENTRIES, MAX_VALUE, MAX_WORDS}
use Rattle.mw_words.specs.declared.jobs.Entry.{Entry}
use Rattle.mw_words.specs.declared.jobs.Job.TheVariants as job
use Rattle.mw_words.specs.Change.{is_in_range, is_change, rises}
use Rattle.mw_line.specs.declared.requests.LineFault.{LineFault}
use Rattle.mw_line.specs.declared.requests.Request.{Request}
use Rattle.mw_line.specs.declared.requests.Request.TheVariants as request
use Rattle.mw_line.specs.Grammar.{Command, Tenant, Admin, Get, Cas, Report, Quit, IsCommand}
use Rattle.mw_line.specs.Limits.{addr_fits, values_fit, first_fault, command_of, Answers}
use Rattle.mw_client.specs.RequestLines.{IsSendable, IsReadAsSent}

both : (a b : Bool) → (a && b) ≡ true → (a ≡ true) × (b ≡ true)
both true b h = (refl, h)
both false b h = absurd cc

pub record IsFine (es : List Entry) : Type 0 where
  pub some : 1 ≤ length es
  pub few : length es ≤ MAX_ENTRIES
  pub range : list_all (is_in_range MAX_WORDS) es ≡ true
  pub order : rises es ≡ true

pub fine : (es : List Entry) → is_change MAX_WORDS es ≡ true → IsFine es
fine es h =
    let p = both _ _ h in
    let q = both _ _ p.0 in
    let r = both _ _ q.0 in
    record { some = leb-true 1 (length es) r.0; few = leb-true (length es) MAX_ENTRIES r.1; range = q.1; order = p.1 }

in_range : (e : Entry) → is_in_range MAX_WORDS e ≡ true → (e.addr < MAX_WORDS) × (e.expected ≤ MAX_VALUE) × (e.new ≤ MAX_VALUE)
in_range e h =
    let p = both _ _ h in
    let q = both _ _ p.0 in
    (ltb-true e.addr MAX_WORDS q.0, leb-true e.expected MAX_VALUE q.1, leb-true e.new MAX_VALUE p.1)

-- ---- no fault

all_fit : (es : List Entry) → list_all (is_in_range MAX_WORDS) es ≡ true → (list_all values_fit es ≡ true) × (list_all addr_fits es ≡ true)
all_fit [] h = (refl, refl)
all_fit (e ∷ es) h =
    let p = both _ _ h in
    let r = in_range e p.0 in
    let rest = all_fit es p.1 in
    (rw (le-leb e.expected MAX_VALUE r.1, le-leb e.new MAX_VALUE r.2) rest.0, rw (lt-ltb e.addr MAX_WORDS r.0) rest.1)

no_fault : (es : List Entry) → is_change MAX_WORDS es ≡ true → first_fault (Cas es) ≡ None
no_fault es h =
    let f = fine es h in
    let fit = all_fit es f.range in
    rw (le-ltb MAX_ENTRIES (length es) f.few, fit.0, fit.1, f.order) refl

command : (r : Request) → IsSendable r → IsCommand (command_of r) × (first_fault (command_of r) ≡ None)
command (request.Tenant name) h = (h, refl)
command request.Admin h = (tt, refl)
command (request.Job (job.Get addr)) h = (tt, rw h refl)
command (request.Job (job.Cas entries)) h =
    let some : 0 < length entries.items = omega (arith, (fine entries.items h).some) in
    (some, no_fault entries.items h)
command request.Report h = (tt, refl)
command request.Quit h = (tt, refl)

-- ---- one request for a command

abbrev request_for : Command → Request
request_for (Tenant name) = request.Tenant (record { items = name })
request_for Admin = request.Admin
request_for (Get addr) = request.Job (job.Get addr)
request_for (Cas entries) = request.Job (job.Cas (record { items = entries }))
request_for Report = request.Report
request_for Quit = request.Quit

back : (r : Request) → request_for (command_of r) ≡ r
back (request.Tenant name) = refl
back request.Admin = refl
back (request.Job (job.Get addr)) = refl
back (request.Job (job.Cas entries)) = refl
back request.Report = refl
back request.Quit = refl

answered_so : (r : Request) (c : Command) → c ≡ command_of r → first_fault c ≡ None → (answer : Result Request LineFault) → Answers c answer → answer ≡ Ok r
answered_so r c same none (Ok found) h = ap Ok (sym (back found) ∙ ap request_for (h.1 ∙ same) ∙ back r)
answered_so r c same none (Err wrong) h = absurd (none-some wrong (sym none ∙ h))

pub sent_is_read : (r : Request) → IsSendable r → IsReadAsSent r
sent_is_read r h =
    let c = command r h in
    record { spells = (c.0, refl); answered = answered_so r (command_of r) refl c.1 }
