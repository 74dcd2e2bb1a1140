-- Goals of `Printed::run` (src/console.rt).
use Rattle.std.proofs.Common.{[], ◌∷◌, ap, rules, subst}
use Rattle.std.specs.Io.KnownBytes.{Appends, prepend_known}
use Rattle.mw_programs.proofs.LentWriters.{given_back}
use Rattle.mw_programs.proofs.ScriptSessions.{of_session}
use Rattle.mw_programs.proofs.console.PrintedScriptConsole.run.Goals as goal

-- nothing is recorded of the stream before the session, it gives what the script does, and its writer is the console's
pub returns : goal.returns
returns g c =
    let held = g.W.Write.contents in
    let tied = c.run.ensures.tied in
    let lent = c.run.new.stream.inner.writer.out in
    let gained = subst (λ it. Appends (prepend_known (it.writer.out.ghost_name ∷ []) (held it.writer.out.now)) (prepend_known (lent.ghost_name ∷ []) (held lent.now)) tied.written)
    c.new-stream.ensures.inner tied.gained in
    record {
      session = of_session (g.I.Read.remaining c.args.script) _ _ (held c.args.self.now.out) _ g.J.EngineBrand.identity c.args.worker.now.pass c.run.new.self.pass c.run.result _ _ _ _ tied.read tied.written
          (ap (λ it. g.I.Read.remaining it.reader.now) c.new-stream.ensures.inner) c.new-stream.ensures.reads c.new-stream.ensures.writes
          c.args.worker.now.own c.run.ensures.session tied.is_read tied.lost c.run.ensures.at_end
          tied.is_written (given_back _ _ (held c.args.self.now.out) _ _ tied.written (λ is. search rules) gained);
    }
