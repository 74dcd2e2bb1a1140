-- Loop invariants of `push_all` (src/command_line.rt).
use Rattle.std.proofs.Common.{◌≡◌, ◌++◌, drop, false, map}
use Rattle.std.specs.List.{AllByRecursion}
use Rattle.clap.specs.Words.{rule_of}
use Rattle.mw_main.specs.Commands.{rule_of_argument}
use Rattle.mw_main.proofs.command_line.push_all.Given as goal

-- the rules so far, and those of the arguments that are left
abbrev pub invariant-loop-argument : goal.invariant-loop-argument
invariant-loop-argument l = record {
  rules : map rule_of l.args.items ++ map rule_of_argument (drop l.argument-index l.arguments) ≡ map rule_of l.initial.args.items ++ map rule_of_argument l.arguments;
  local : AllByRecursion (λ arg. arg.global ≡ false) l.initial.args.items → AllByRecursion (λ arg. arg.global ≡ false) l.args.items;
}
