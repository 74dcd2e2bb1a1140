-- Goals of `CommandLine::command` (src/command_line.rt).
use Rattle.std.proofs.Common.{◌≡◌, ◌∙◌, ◌++◌, ap, sym, subst, false, map, true, List}
use Rattle.std.specs.List.{AllByRecursion}
use Rattle.clap.specs.Simple.{on_top}
use Rattle.clap.specs.Words.{AddsArg, AddsInTurn, App, Rule, app_of, new_app, rule_of}
use Rattle.clap.specs.declared.builder.arg.Arg.{Arg}
use Rattle.mw_main.specs.Commands.{command_of, rule_of_argument}
use Rattle.mw_main.proofs.Chains.{chain_rules, ok_by, with_rules}
use Rattle.mw_main.proofs.command_line.CommandLine.command.Goals as goal

-- the command has the rules of just the arguments that were added
pub returns : goal.returns
returns c =
    let args = c.push_all.new.args.items in
    let rules = c.in_ok-push_all.ensures.rules
    ∙ ap (λ (before : List Arg). map rule_of before ++ map rule_of_argument c.args.self.now.arguments.now) c.new-args.ensures.items in
    let local = c.in_ok-push_all.ensures.local (subst (λ (before : List Arg). AllByRecursion (λ arg. arg.global ≡ false) before) (sym c.new-args.ensures.items) tt) in
    ok_by c.args-2.result (AddsInTurn AddsArg c.head.result args) (λ command. app_of command ≡ command_of c.args.self.now)
    (λ command added. chain_rules c.head.result command args added local
    ∙ (ap (λ (app : App). with_rules app (map rule_of args)) c.head.ensures ∙ ap (λ (all : List Rule). with_rules (on_top (λ top. record top { has_version = true }) (new_app c.args.self.now.name.now)) all) rules))
    c.args-2.ensures
