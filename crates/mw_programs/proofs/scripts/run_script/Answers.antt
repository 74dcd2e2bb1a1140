-- Goals of `run_script` (src/scripts.rt).
use Rattle.std.proofs.lemmas.Result.{on_ok_weaker}
use Rattle.mw_programs.proofs.scripts.run_script.Goals as goal

-- the session that the console ran is one of the script that was opened, by the first worker
pub returns : goal.returns
returns g c = record {
  script = on_ok_weaker c.outcome.result (λ well. record {
    script = c.in_ok-script.script;
    opened = c.in_ok-script.ensures;
    old = c.in_ok-worker.worker.pass;
    new = c.run.new.worker.pass;
    begins = c.in_ok-worker.ensures;
    ended = c.run.result;
    well = well;
    session = c.run.ensures.session;
  }) c.outcome.ensures;
}
