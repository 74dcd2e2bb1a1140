-- Defines how many workers a server has, and how many connections it serves at once, by its command line.
-- Used by: src/worker_count.rt; mw_programs, which promises what such an engine does. Change it with docs/OPERATING.
use Rattle.std.specs.Prelude.{ℕ, ◌+◌, min, is_some, if◌then◌else◌, Option, Some, None}
use Rattle.mw_words.specs.declared.limits.TheConstants.{MAX_WORKERS}
use Rattle.mw_config.specs.declared.command_line.Args.{Args}
use Rattle.mw_config.specs.declared.command_line.Listening.{Listening}
use Rattle.mw_config.specs.declared.command_line.Mode.{Mode}
use Rattle.mw_config.specs.declared.command_line.Mode.TheVariants.{Listen, Script}
use Rattle.mw_config.specs.declared.command_line.SharedWorkers.{SharedWorkers}

-- one for this address if it is given
abbrev pub one_for : {A : Type 0} → Option A → ℕ
one_for address = if is_some address then 1 else 0

-- one for the administrator's address, and one for that of the pages
abbrev pub own_workers : Mode → ℕ
own_workers (Listen listening) = one_for listening.admin + one_for listening.http
own_workers (Script path) = 0

-- as many as the command line asks for, and those for the further addresses, but at most MAX_WORKERS
abbrev pub worker_count : Args → ℕ
worker_count args = min MAX_WORKERS (args.workers + own_workers args.mode)

-- as many as share the workers, and one for each further address; or one for each worker
abbrev pub served_with : Args → Listening → Option SharedWorkers → ℕ
served_with args listening (Some shared) = shared.clients + (one_for listening.admin + one_for listening.http)
served_with args listening None = worker_count args

-- how many connections are served at once
abbrev pub served_count : Args → Listening → ℕ
served_count args listening = served_with args listening listening.shared
