-- Goals of `read_args` (src/command_line.rt).
use Rattle.std.proofs.Common.{Global, map, string_bytes}
use Rattle.mw_config.proofs.AskedWords.{asked_of, taken_of}
use Rattle.mw_config.proofs.command_line.read_args.Goals as goal

-- what the matches have is what the words ask for
pub returns-in-Ok-args_of-clause-asked : goal.returns-in-Ok-args_of-clause-asked
returns-in-Ok-args_of-clause-asked c =
    asked_of c.command_line.result (map (string_bytes {Z = Global}) c.args.args.now) c.in-Ok.matches c.in-Ok-args_of.args
    c.command_line.ensures.name c.command_line.ensures.rules c.in-Ok.ensures.matches c.in-Ok.ensures.faultless c.in-Ok-args_of.ensures.asked

-- clap refuses words that it takes only if memory is out
pub returns-clause-taken : goal.returns-clause-taken
returns-clause-taken c = λ taken refused.
    c.from-in-Err.ensures (taken_of c.command_line.result (map (string_bytes {Z = Global}) c.args.args.now) c.in-Err.fault
    c.command_line.ensures.name c.command_line.ensures.rules c.in-Err.ensures.taken taken) refused
