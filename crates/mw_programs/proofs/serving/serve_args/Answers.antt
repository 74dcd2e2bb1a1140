-- Goals of `serve_args` (src/serving.rt).
use Rattle.std.proofs.Common.{sym}
use Rattle.mw_programs.proofs.serving.serve_args.Goals as goal

-- the start has the arguments that it was given, so what was promised of these is promised of it
pub serve_files-requires-clause-promise : goal.serve_files-requires-clause-promise
serve_files-requires-clause-promise g c κs within = rw c.in-Ok.ensures.given c.requires.promise

pub returns-in-Ok : goal.returns-in-Ok
returns-in-Ok g c = record { script = rw (sym c.in-Ok.ensures.given) c.serve_files.ensures.script }
