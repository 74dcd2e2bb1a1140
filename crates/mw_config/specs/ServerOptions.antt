-- Defines what clap reads of the options of `mwserve`: one rule for each, in the order of the help.
-- Used by: options.rt, CommandLine. Change it with the table there.
use Rattle.std.specs.Prelude.{ℕ, [], ◌∷◌, codes, List, Some, true}
use Rattle.clap.specs.Words.{Rule, new_rule}
use Rattle.clap.specs.declared.builder.action.ArgAction.TheVariants.{Append, Set, SetTrue}
use Rattle.clap.specs.declared.builder.value_parser.ValueParser.TheVariants as parser
use Rattle.mw_words.specs.declared.limits.TheConstants.{MAX_CONNECTIONS, MAX_POOL, MAX_WORKERS}
use Rattle.mw_config.specs.declared.command_line.TheConstants.{MAX_CLIENTS, MAX_FAULTS, MAX_IDLE}

-- an option after which a text is given
abbrev pub text_rule : List ℕ → Rule
text_rule name = record (new_rule name) { long = Some name; action = Some Set; value_names = 1; parser = Some parser.String }

-- an option after which a number of 1 to most is given
abbrev pub number_rule : List ℕ → ℕ → Rule
number_rule name most = record (text_rule name) { parser = Some (parser.Unsigned 1 most) }

-- an option after which nothing is given
abbrev pub flag_rule : List ℕ → Rule
flag_rule name = record (new_rule name) { long = Some name; action = Some SetTrue; parser = Some parser.Bool }

abbrev pub server_rules : List Rule
server_rules =
    record (text_rule (codes "tenants")) { required = true }
    ∷ record (number_rule (codes "pool") MAX_POOL) { defaults = codes "256" ∷ [] }
    ∷ record (number_rule (codes "workers") MAX_WORKERS) { defaults = codes "4" ∷ [] }
    ∷ flag_rule (codes "strict")
    ∷ flag_rule (codes "verbose")
    ∷ flag_rule (codes "journal")
    ∷ flag_rule (codes "times")
    ∷ text_rule (codes "script")
    ∷ text_rule (codes "listen")
    ∷ text_rule (codes "admin")
    ∷ text_rule (codes "http")
    ∷ record (text_rule (codes "http-name")) { action = Some Append }
    ∷ number_rule (codes "connections") MAX_CONNECTIONS
    ∷ number_rule (codes "clients") MAX_CLIENTS
    ∷ number_rule (codes "readers") MAX_WORKERS
    ∷ number_rule (codes "wait") MAX_IDLE
    ∷ number_rule (codes "idle") MAX_IDLE
    ∷ number_rule (codes "line-time") MAX_IDLE
    ∷ number_rule (codes "faults") MAX_FAULTS
    ∷ flag_rule (codes "end-on-failure")
    ∷ text_rule (codes "lease")
    ∷ number_rule (codes "lease-time") MAX_IDLE
    ∷ flag_rule (codes "open")
    ∷ text_rule (codes "mode")
    ∷ []
