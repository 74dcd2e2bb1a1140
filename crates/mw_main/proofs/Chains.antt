-- A command to which arguments were added in turn has the rules of just these, after its own.
-- Used by: CommandLine::command.
use Rattle.std.proofs.Common.{◌≡◌, ◌∙◌, ap, sym, List, [], ◌∷◌, ◌++◌, append-nil, append_assoc, map, false, IfOk, Result, Ok, Err}
use Rattle.std.specs.List.{AllByRecursion}
use Rattle.clap.specs.Simple.{on_top}
use Rattle.clap.specs.Words.{AddsArg, AddsInTurn, App, Rule, app_of, rule_of}
use Rattle.clap.specs.declared.builder.arg.Arg.{Arg}
use Rattle.clap.specs.declared.builder.command.Command.{Command}

-- the command with these rules after its own
abbrev pub with_rules : App → List Rule → App
with_rules app rules = on_top (λ top. record top { rules = top.rules ++ rules }) app

same_top : (app : App) (xs ys : List Rule) → xs ≡ ys → on_top (λ top. record top { rules = xs }) app ≡ on_top (λ top. record top { rules = ys }) app
same_top app xs ys same = ap (λ (rules : List Rule). on_top (λ top. record top { rules = rules }) app) same

pub chain_rules : (old new : Command) (xs : List Arg) → AddsInTurn AddsArg old xs new → AllByRecursion (λ x. x.global ≡ false) xs
    → app_of new ≡ with_rules (app_of old) (map rule_of xs)
chain_rules old new [] added local = ap app_of (sym added) ∙ sym (same_top (app_of old) _ _ (append-nil (app_of old).top.rules))
chain_rules old new (x ∷ xs) added local =
    chain_rules added.0 new xs added.2 local.1 ∙ (ap (λ app. with_rules app (map rule_of xs)) (added.1.shape local.0)
    ∙ same_top (app_of old) _ _ (append_assoc (app_of old).top.rules (rule_of x ∷ []) (map rule_of xs)))

-- what follows of each value follows of the value of an `Ok`
pub ok_by : {X E : Type 0} (r : Result X E) (P Q : X → Type 0) → ((x : X) → P x → Q x) → IfOk r P → IfOk r Q
ok_by (Ok x) P Q f h = f x h
ok_by (Err e) P Q f h = tt
