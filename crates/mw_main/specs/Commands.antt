-- Defines what clap reads of a program's command line, by the table of its arguments.
-- Used by: src/command_line.rt, mw_config. It changes with what `CommandLine::matches` makes of the table.
use Rattle.std.specs.Prelude.{◌≡◌, ℕ, ◌∷◌, ◌++◌, List, length, map, Some, None, if◌then◌else◌, true}
use Rattle.clap.specs.Simple.{on_top}
use Rattle.clap.specs.Words.{App, Rule, new_app, new_rule}
use Rattle.mw_main.specs.declared.command_line.Argument.{Argument}
use Rattle.mw_main.specs.declared.command_line.CommandLine.{CommandLine}

-- What clap reads of an argument of the table. An option is `--NAME`; what isn't one is known by its place.
abbrev pub rule_of_argument : Argument → Rule
rule_of_argument argument = record (new_rule argument.name.now) {
  long = if argument.is_option then Some argument.name.now else None;
  action = Some argument.action;
  value_names = length argument.value.now;
  defaults = map (λ text. text.now) argument.usual.now;
  parser = Some argument.parser;
  required = argument.is_needed;
}

-- a command of this name, which has just these arguments and a version
abbrev pub command_with : List ℕ → List Argument → App
command_with name arguments = on_top (λ top. record top { rules = map rule_of_argument arguments; has_version = true }) (new_app name)

-- the command of a program
abbrev pub command_of : CommandLine → App
command_of line = command_with line.name.now line.arguments.now

-- the words have this value of the option of this name, in the word after `--NAME` or as `--NAME=VALUE`
pub data IsGiven (name : List ℕ) (words : List (List ℕ)) (value : List ℕ) : Type 0 where
  After : (before after : List (List ℕ)) → words ≡ before ++ ((45 ∷ 45 ∷ name) ∷ value ∷ after) → IsGiven name words value
  With : (before after : List (List ℕ)) → words ≡ before ++ ((45 ∷ 45 ∷ (name ++ 61 ∷ value)) ∷ after) → IsGiven name words value
