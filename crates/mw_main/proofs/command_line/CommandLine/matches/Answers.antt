-- Goals of `CommandLine::matches` (src/command_line.rt).
use Rattle.std.proofs.Common.{◌≡◌, [], Err, IfErr, IfOk, Ok, Result, map, string_bytes, subst, true, Global}
use Rattle.clap.specs.Words.{App, FailsBy, Kinds, fault_of, is_simple_and_free, kind_of, takes}
use Rattle.clap.specs.declared.error.Error.{Error}
use Rattle.clap.specs.declared.error.kind.ErrorKind.TheVariants.{OutOfMemory}
use Rattle.mw_main.proofs.command_line.CommandLine.matches.Goals as goal

-- the command that refuses the words is the table's
pub returns-in-Ok-clause-taken : goal.returns-in-Ok-clause-taken
returns-in-Ok-clause-taken c =
    subst (λ (app : App). IfErr c.try_get_matches_from.result (λ fault. takes app (map (string_bytes {Z = Global}) c.args.args.now) ≡ true → kind_of fault ≡ OutOfMemory))
    c.in-Ok.ensures c.try_get_matches_from.ensures.passes

-- what fails by no kind of fault has none
none_of : {T : Type 0} (P : Type 0) (kinds : Kinds) (outcome : Result T Error) → (P → FailsBy kinds outcome) → IfOk outcome (λ value. P → kinds ≡ [])
none_of P kinds (Ok value) fails = fails
none_of P kinds (Err fault) fails = tt

-- the command that finds no fault is the table's
pub returns-in-Ok-clause-faultless : goal.returns-in-Ok-clause-faultless
returns-in-Ok-clause-faultless c =
    let words = map (string_bytes {Z = Global}) c.args.args.now in
    subst (λ (app : App). IfOk c.try_get_matches_from.result (λ matches. is_simple_and_free app ≡ true → fault_of app words ≡ []))
    c.in-Ok.ensures (none_of _ _ c.try_get_matches_from.result c.try_get_matches_from.ensures.kinds)
