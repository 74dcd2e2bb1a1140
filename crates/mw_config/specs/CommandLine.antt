-- Defines what the command line of `mwserve` may ask for: connections, clients, limits of time, file modes, pool and workers. Defines also
-- which words ask for a tenants file, a script, addresses, a pool and workers.
-- Used by: mw_upkeep, mw_server, mw_programs, command_line.rt, lease_terms.rt. Change it with the program's help and docs/OPERATING.
use Rattle.std.specs.Prelude.{◌≡◌, ℕ, ◌≤◌, ◌<◌, [], codes, drop, IfSome, List, None, Option, Some, string_bytes, true, vec_len}
use Rattle.std.specs.Option.{option_map}
use Rattle.std.specs.Str.Parse.{digits_value, without_leading_plus}
use Rattle.clap.specs.Simple.{on_top}
use Rattle.clap.specs.Words.{App, fault_of, first_of, matches_of, new_app, one_of, takes}
use Rattle.mw_main.specs.Commands.{IsGiven}
use Rattle.mw_words.specs.declared.limits.TheConstants.{MAX_POOL, MAX_WORKERS, MAX_CONNECTIONS}
use Rattle.mw_config.specs.declared.command_line.TheConstants.{MAX_CLIENTS, MAX_FAULTS, MAX_HTTP_NAMES, MAX_IDLE, MAX_SOCKET_MODE}
use Rattle.mw_config.specs.ServerOptions.{server_rules}
use Rattle.mw_config.specs.declared.command_line.ArgFault.{ArgFault}
use Rattle.mw_config.specs.declared.command_line.ArgFault.TheVariants as fault
use Rattle.mw_config.specs.declared.command_line.Args.{Args}
use Rattle.mw_config.specs.declared.command_line.Listening.{Listening}
use Rattle.mw_config.specs.declared.command_line.Mode.{Mode}
use Rattle.mw_config.specs.declared.command_line.Mode.TheVariants.{Listen, Script}
use Rattle.mw_config.specs.declared.command_line.SharedWorkers.{SharedWorkers}

-- a number of 1 to most
abbrev pub IsUpTo : ℕ → ℕ → Type 0
IsUpTo most number = (1 ≤ number) × (number ≤ most)

-- There are 1 to MAX_CLIENTS clients. Of so many workers at least one only reads, and at least one doesn't.
pub record AreSharedWell (workers : ℕ) (shared : SharedWorkers) : Type 0 where
  pub clients : IsUpTo MAX_CLIENTS shared.clients
  pub some_read : 1 ≤ shared.readers
  pub some_change : shared.readers < workers

-- The number of connections, if given, is 1 to MAX_CONNECTIONS. The limits of waiting, of silence and of a line's time, where
-- given, are 1 to MAX_IDLE seconds, and so is the time of a lease. A session ends after 1 to MAX_FAULTS faults, if it does for faults. There are at most
-- MAX_HTTP_NAMES names for the pages. A local socket's file mode is at most MAX_SOCKET_MODE.
pub record IsPermittedListening (listening : Listening) : Type 0 where
  pub connections : IfSome listening.connections (IsUpTo MAX_CONNECTIONS)
  pub wait : IfSome listening.wait (IsUpTo MAX_IDLE)
  pub idle : IfSome listening.idle (IsUpTo MAX_IDLE)
  pub line_time : IfSome listening.line_time (IsUpTo MAX_IDLE)
  pub faults : IfSome listening.faults (IsUpTo MAX_FAULTS)
  pub lease : IfSome listening.lease (λ terms. IsUpTo MAX_IDLE terms.seconds)
  pub http_names : vec_len listening.http_names ≤ MAX_HTTP_NAMES
  pub socket_mode : listening.socket_mode ≤ MAX_SOCKET_MODE

abbrev pub IsPermittedMode : Mode → Type 0
IsPermittedMode (Listen listening) = IsPermittedListening listening
IsPermittedMode (Script path) = Unit {0}

-- So many workers may be shared so, if they are shared.
abbrev pub SuitsWorkers : ℕ → Mode → Type 0
SuitsWorkers workers (Listen listening) = IfSome listening.shared (AreSharedWell workers)
SuitsWorkers workers (Script path) = Unit {0}

-- The pool has 1 to MAX_POOL slots, there are 1 to MAX_WORKERS workers, and the mode is permitted.
pub record ArePermittedArgs (args : Args) : Type 0 where
  pub pool : IsUpTo MAX_POOL args.pool
  pub workers : IsUpTo MAX_WORKERS args.workers
  pub mode : IsPermittedMode args.mode
  pub shared : SuitsWorkers args.workers args.mode

-- the command of `mwserve`, as clap reads it
abbrev pub server_command : App
server_command = on_top (λ top. record top { rules = server_rules; has_version = true }) (new_app (codes "mwserve"))

-- clap takes these words: it refuses them only if memory is out
abbrev pub AreTaken : List (List ℕ) → Type 0
AreTaken words = takes server_command words ≡ true

-- the first value of the option of this name that clap reads of these words, of which the first is the program's own name
abbrev pub value_asked : List (List ℕ) → List ℕ → Option (List ℕ)
value_asked words name = first_of name (matches_of server_command words)

-- the text of the option of this name that clap reads a number of: that of its first value or, if none was given, of its default
abbrev pub text_asked : List (List ℕ) → List ℕ → Option (List ℕ)
text_asked words name = one_of name (matches_of server_command words)

-- There is a text. If it is decimal digits, which may have a plus before them, this is their number.
abbrev pub IsNumberOf : Option (List ℕ) → ℕ → Type 0
IsNumberOf (Some text) number = number ≡ digits_value 10 (without_leading_plus text)
IsNumberOf None number = ⊥

-- An address is asked for and no script, or a script and no address. Beside the first address just those of the administrator and of the
-- pages are asked for that are given. `value` tells which value an option has.
abbrev pub IsModeAsked : (List ℕ → Option (List ℕ)) → Mode → Type 0
IsModeAsked value (Listen listening) =
    (value (codes "listen") ≡ Some (string_bytes listening.address)) × (value (codes "script") ≡ None)
    × (value (codes "admin") ≡ option_map string_bytes listening.admin) × (value (codes "http") ≡ option_map string_bytes listening.http)
IsModeAsked value (Script path) = (value (codes "listen") ≡ None) × (value (codes "script") ≡ Some (string_bytes path))

-- This tenants file, this mode, and so many slots and workers are asked for. `text` tells of which text an option's number is read.
pub record AreAskedBy (value text : List ℕ → Option (List ℕ)) (args : Args) : Type 0 where
  pub tenants : value (codes "tenants") ≡ Some (string_bytes args.tenants)
  pub pool : IsNumberOf (text (codes "pool")) args.pool
  pub workers : IsNumberOf (text (codes "workers")) args.workers
  pub mode : IsModeAsked value args.mode

-- The words of a command line, of which the first is the program's own name, ask for this tenants file, this mode, and so many slots and
-- workers: clap finds no fault in them, and reads them so. The path of the tenants file is in the word after `--tenants`, or `--tenants=PATH` is a word.
pub record AreAsked (words : List (List ℕ)) (args : Args) : Type 0 where
  pub faultless : fault_of server_command words ≡ []
  pub read : AreAskedBy (value_asked words) (text_asked words) args
  pub tenants : IsGiven (codes "tenants") (drop 1 words) (string_bytes args.tenants)

-- the fault is clap's
abbrev pub IsRefused : ArgFault → Type 0
IsRefused (fault.Refused refusal) = Unit {0}
IsRefused (fault.Mode rule) = ⊥
IsRefused fault.Memory = ⊥
