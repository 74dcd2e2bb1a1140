-- Goals of `push_all` (src/command_line.rt).
use Rattle.std.proofs.Common.{◌≡◌, ◌∙◌, ◌++◌, ◌∷◌, [], List, ap, subst, sym, false, map, rules, true, if◌then◌else◌, is_ok, arith}
use Rattle.std.proofs.lemmas.List.{append_assoc, drop_more, map-append}
use Rattle.std.specs.List.{AllByRecursion}
use Rattle.clap.specs.Words.{Rule, rule_of}
use Rattle.clap.specs.declared.builder.arg.Arg.{Arg}
use Rattle.mw_main.specs.Commands.{rule_of_argument}
use Rattle.mw_main.specs.declared.command_line.Argument.{Argument}
use Rattle.std.proofs.lemmas.Grind.{common_steps}
use Rattle.mw_main.proofs.command_line.push_all.Goals as goal

-- the arguments of a command are its own alone, with one more too
local_more : (done : List Arg) (arg : Arg) → AllByRecursion (λ arg. arg.global ≡ false) done → arg.global ≡ false
    → AllByRecursion (λ arg. arg.global ≡ false) (done ++ arg ∷ [])
local_more [] arg before local = (local, tt)
local_more (first ∷ rest) arg before local = (before.0, local_more rest arg before.1 local)

-- one more argument has its rule
rule_more : (done now : List Arg) (arg : Arg) (left rest : List Argument) (argument : Argument) (all : List Rule)
    → now ≡ done ++ arg ∷ [] → left ≡ argument ∷ rest → rule_of arg ≡ rule_of_argument argument
    → map rule_of done ++ map rule_of_argument left ≡ all → map rule_of now ++ map rule_of_argument rest ≡ all
rule_more done now arg left rest argument all pushed next same so_far =
    ap (λ (args : List Arg). map rule_of args ++ map rule_of_argument rest) pushed
    ∙ (ap (λ (some : List Rule). some ++ map rule_of_argument rest) (map-append rule_of done (arg ∷ []))
    ∙ (append_assoc (map rule_of done) (rule_of arg ∷ []) (map rule_of_argument rest)
    ∙ (ap (λ (rule : Rule). map rule_of done ++ rule ∷ map rule_of_argument rest) same
    ∙ (ap (λ (some : List Argument). map rule_of done ++ map rule_of_argument some) (sym next) ∙ so_far))))

pub loop-argument-preserved : goal.loop-argument-preserved
loop-argument-preserved c =
    let done = c.loop-argument.args.items in
    let ok : is_ok c.push.result ≡ true = search rules in
    let pushed = c.push.ensures.items ∙ ap (λ b. if b then done ++ c.arg_of.result ∷ [] else done) ok in
    record {
      rules = rule_more done c.push.new.self.items c.arg_of.result _ _ _ _ pushed (drop_more c.args.arguments.now c.loop-argument.argument-index _ c.loop-argument-test.true) c.arg_of.ensures.rule c.loop-argument.invariant.rules;
      local = λ before. subst (λ (args : List Arg). AllByRecursion (λ arg. arg.global ≡ false) args) (sym pushed)
          (local_more done c.arg_of.result (c.loop-argument.invariant.local before) c.arg_of.ensures.local);
    }

pub returns-clause-rules : goal.returns-clause-rules
returns-clause-rules c = grind (arith, common_steps)
