-- Defines which commands keep the protocol's limits, and the request or the fault with which a line is answered.
-- Used by: mw_session, mw_client, mw_client_c, changes.rt, requests.rt. Change it with docs/PROTOCOL, which has the faults in
-- their order.
use Rattle.std.specs.Prelude.{◌≡◌, ◌&&◌, Bool, length, nat_le, nat_lt, if◌then◌else◌, Option, Some, None, Result, Ok, Err, IsTrue}
use Rattle.std.specs.List.{list_all}
use Rattle.mw_words.specs.declared.limits.TheConstants.{MAX_ENTRIES, MAX_VALUE, MAX_WORDS}
use Rattle.mw_words.specs.declared.jobs.Entry.{Entry}
use Rattle.mw_words.specs.declared.jobs.Job.TheVariants as job
use Rattle.mw_words.specs.Change.{rises, is_well_formed}
use Rattle.mw_line.specs.declared.requests.LineFault.{LineFault}
use Rattle.mw_line.specs.declared.requests.LineFault.TheVariants.{AddressRange, AddressOrder, TooManyEntries, ValueRange}
use Rattle.mw_line.specs.declared.requests.Request.{Request}
use Rattle.mw_line.specs.declared.requests.Request.TheVariants as request
use Rattle.mw_line.specs.Grammar.{Command, Tenant, Admin, Get, Cas, Report, Quit}

-- some tenant may have a word at the entry's address
abbrev pub addr_fits : Entry → Bool
addr_fits e = nat_lt e.addr MAX_WORDS

-- a word can have the entry's values
abbrev pub values_fit : Entry → Bool
values_fit e = nat_le e.expected MAX_VALUE && nat_le e.new MAX_VALUE

-- What is wrong with a command, if anything. Of several faults it is the first in this order, each looked for in all
-- entries: too many entries, a value too large, an address that no tenant has, an address that isn't above the one
-- before it.
abbrev pub first_fault : Command → Option LineFault
first_fault (Tenant name) = None
first_fault Admin = None
first_fault (Get addr) = if nat_lt addr MAX_WORDS then None else Some AddressRange
first_fault (Cas entries) =
    if nat_lt MAX_ENTRIES (length entries) then Some TooManyEntries
    else (if list_all values_fit entries
    then (if list_all addr_fits entries
    then (if rises entries then None else Some AddressOrder)
    else Some AddressRange)
    else Some ValueRange)
first_fault Report = None
first_fault Quit = None

-- the command of a request
abbrev pub command_of : Request → Command
command_of (request.Tenant name) = Tenant name.items
command_of request.Admin = Admin
command_of (request.Job (job.Get addr)) = Get addr
command_of (request.Job (job.Cas entries)) = Cas entries.items
command_of request.Report = Report
command_of request.Quit = Quit

-- if the request is a job, it is well formed for a tenant with the most words
abbrev pub FitsLargestTenant : Request → Type 0
FitsLargestTenant (request.Job wanted) = IsTrue (is_well_formed MAX_WORDS wanted)
FitsLargestTenant (request.Tenant name) = Unit {0}
FitsLargestTenant request.Admin = Unit {0}
FitsLargestTenant request.Report = Unit {0}
FitsLargestTenant request.Quit = Unit {0}

-- the answer to a line that says this command: a request of this command, or the command's first fault
abbrev pub Answers : Command → Result Request LineFault → Type 0
Answers c (Ok r) = (first_fault c ≡ None) × (command_of r ≡ c)
Answers c (Err fault) = first_fault c ≡ Some fault
