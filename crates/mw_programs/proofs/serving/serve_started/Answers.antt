-- Goals of `serve_started` (src/serving.rt).
use Rattle.std.specs.Prelude.{◌≡◌, ℕ, ◌≤◌, Option, Some, None, IfSome, String}
use Rattle.std.proofs.Common.{Global, subst}
use Rattle.mw_config.specs.declared.command_line.Listening.{Listening}
use Rattle.mw_config.specs.declared.command_line.Mode.{Mode}
use Rattle.mw_config.specs.declared.command_line.Mode.TheVariants.{Listen, Script}
use Rattle.mw_config.specs.declared.command_line.SharedWorkers.{SharedWorkers}
use Rattle.mw_config.specs.CommandLine.{AreSharedWell, SuitsWorkers}
use Rattle.mw_programs.proofs.serving.serve_started.Goals as goal

-- if workers are shared well, there are clients
some_clients : (workers : ℕ) (shared : Option SharedWorkers) → IfSome shared (AreSharedWell workers) → IfSome shared (λ one. 1 ≤ one.clients)
some_clients workers None well = tt
some_clients workers (Some one) well = well.clients.0

pub serve_all_clients-requires-clause-clients : goal.serve_all_clients-requires-clause-clients
serve_all_clients-requires-clause-clients g c κs within =
    some_clients c.args.setup.now.args.workers c.in-Listen.listening.shared
    (subst (λ (mode : Mode). SuitsWorkers c.args.setup.now.args.workers mode) c.in-Listen.is c.requires.args.shared)

-- a mode has one script
same_path : (mode : Mode) (a b : String Global) → mode ≡ Script a → mode ≡ Script b → b ≡ a
same_path mode a b first second = cc

pub returns-in-Script : goal.returns-in-Script
returns-in-Script g c = record {
  script = λ path is.
      let same : path ≡ c.in-Script.path = same_path c.args.setup.now.args.mode c.in-Script.path path c.in-Script.is is in
      rw (same, ← c.as_str.ensures.value) c.run_script.ensures.script;
}
