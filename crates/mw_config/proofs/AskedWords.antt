-- What clap reads of the words that were given is what they ask for.
-- Used by: read_args.
use Rattle.std.proofs.Common.{◌≡◌, [], ◌∙◌, ℕ, ap, codes, map, sym, refl, subst, drop, string_bytes, List, Option, Some, true}
use Rattle.clap.proofs.WalkLemmas.{first_value-rows, one_text-rows}
use Rattle.clap.specs.Simple.{on_top}
use Rattle.clap.specs.Words.{App, HasMatchesOf, Rule, built, fault_of, first_of, first_value, found_of, is_simple, is_simple_and_free, kind_of, new_app, one_of, one_text, takes}
use Rattle.clap.specs.declared.error.Error.{Error}
use Rattle.clap.specs.declared.error.kind.ErrorKind.TheVariants.{OutOfMemory}
use Rattle.clap.specs.declared.parser.matches.ArgMatches.{ArgMatches}
use Rattle.mw_main.proofs.GivenValues.{values_given}
use Rattle.mw_main.specs.Commands.{command_of, rule_of_argument}
use Rattle.mw_main.specs.declared.command_line.CommandLine.{CommandLine}
use Rattle.mw_config.specs.CommandLine.{AreAsked, AreAskedBy, AreTaken, IsModeAsked, IsNumberOf, server_command, text_asked, value_asked}
use Rattle.mw_config.specs.declared.command_line.Args.{Args}
use Rattle.mw_config.specs.declared.command_line.Mode.{Mode}
use Rattle.mw_config.specs.declared.command_line.Mode.TheVariants.{Listen, Script}
use Rattle.mw_config.specs.ServerOptions.{server_rules}

mode_same : (value other : List ℕ → Option (List ℕ)) → ((name : List ℕ) → other name ≡ value name) → (mode : Mode) → IsModeAsked value mode → IsModeAsked other mode
mode_same value other same (Listen listening) asked = (same _ ∙ asked.0, same _ ∙ asked.1, same _ ∙ asked.2, same _ ∙ asked.3)
mode_same value other same (Script path) asked = (same _ ∙ asked.0, same _ ∙ asked.1)

-- a command line of this name with these arguments is the server's
is_servers : (line : CommandLine) → line.name.now ≡ codes "mwserve" → map rule_of_argument line.arguments.now ≡ server_rules → command_of line ≡ server_command
is_servers line called has =
    ap (λ (name : List ℕ). on_top (λ top. record top { rules = map rule_of_argument line.arguments.now; has_version = true }) (new_app name)) called
    ∙ ap (λ (rules : List Rule). on_top (λ top. record top { rules = rules; has_version = true }) (new_app (codes "mwserve"))) has

simple : is_simple server_command ≡ true
simple = refl

free : is_simple_and_free server_command ≡ true
free = refl

-- what the matches have is what the words ask for
asked_by : (words : List (List ℕ)) (matches : ArgMatches) (args : Args) → HasMatchesOf server_command words matches
    → (is_simple_and_free server_command ≡ true → fault_of server_command words ≡ [])
    → AreAskedBy (first_value (found_of matches)) (one_text (found_of matches)) args → AreAsked words args
asked_by words matches args has faultless asked =
    let same : (name : List ℕ) → value_asked words name ≡ first_value (found_of matches) name =
    λ name. sym (first_value-rows (found_of matches) name ∙ ap (first_of name) (has simple).0) in
    let read : (name : List ℕ) → one_text (found_of matches) name ≡ text_asked words name =
    λ name. one_text-rows (found_of matches) name ∙ ap (one_of name) (has simple).0 in
    let number : (name : List ℕ) (number : ℕ) → IsNumberOf (one_text (found_of matches) name) number → IsNumberOf (text_asked words name) number =
    λ name number is. subst (λ (text : Option (List ℕ)). IsNumberOf text number) (read name) is in
    let tenants : value_asked words (codes "tenants") ≡ Some (string_bytes args.tenants) = same _ ∙ asked.tenants in
    record {
      faultless = faultless free;
      read = record {
        tenants = tenants;
        pool = number _ _ asked.pool;
        workers = number _ _ asked.workers;
        mode = mode_same (first_value (found_of matches)) (value_asked words) same args.mode asked.mode;
      };
      tenants = values_given (codes "tenants") (built server_command).top.rules refl (drop 1 words) (string_bytes args.tenants) tenants;
    }

pub asked_of : (line : CommandLine) (words : List (List ℕ)) (matches : ArgMatches) (args : Args) → line.name.now ≡ codes "mwserve" → map rule_of_argument line.arguments.now ≡ server_rules
    → HasMatchesOf (command_of line) words matches
    → (is_simple_and_free (command_of line) ≡ true → fault_of (command_of line) words ≡ []) → AreAskedBy (first_value (found_of matches)) (one_text (found_of matches)) args → AreAsked words args
asked_of line words matches args called listed has faultless asked =
    let same = is_servers line called listed in
    asked_by words matches args (subst (λ (app : App). HasMatchesOf app words matches) same has)
    (subst (λ (app : App). is_simple_and_free app ≡ true → fault_of app words ≡ []) same faultless) asked

-- clap refuses words that it takes only if memory is out
pub taken_of : (line : CommandLine) (words : List (List ℕ)) (fault : Error) → line.name.now ≡ codes "mwserve" → map rule_of_argument line.arguments.now ≡ server_rules
    → (takes (command_of line) words ≡ true → kind_of fault ≡ OutOfMemory) → AreTaken words → kind_of fault ≡ OutOfMemory
taken_of line words fault called listed out taken = out (ap (λ (app : App). takes app words) (is_servers line called listed) ∙ taken)
