-- What a new pass knows of the run goes back to the engine's start. Used by: locked.
use Rattle.std.specs.Prelude.{◌≡◌, is_some, [], Option, Some}
use Rattle.std.proofs.Common.{refl, sym, ap, ◌∙◌}
use Rattle.std.proofs.lemmas.Option.{same_Some}
use Rattle.mw_rule.specs.KnownRuns.{KnownRun, ExtendsRun, known_run_of}
use Rattle.mw_engine.specs.Brand.{Identity}
use Rattle.mw_engine.specs.FromBelow.{Pass, opening_at}
use Rattle.mw_engine.specs.Passes.{IsNew}
use Rattle.mw_service.specs.SinceStart.{IsSinceStart}

of_run : (identity : Identity) (one : KnownRun) (known : Option KnownRun) → known ≡ Some one → ExtendsRun (known_run_of identity.config (opening_at identity.openings) [] []) one → IsSinceStart identity known
of_run identity one known is extends = record {
  there = ap is_some is;
  openings = λ other it. ap (λ (run : KnownRun). run.openings) (same_Some other one (sym it ∙ is)) ∙ extends.same_openings;
  before = λ other it. ap (λ (run : KnownRun). run.before) (same_Some other one (sym it ∙ is)) ∙ extends.same_before;
}

-- a new pass knows the start alone
pub of_new : (identity : Identity) (pass : Pass) → IsNew identity pass → IsSinceStart identity pass.seat.me.0.known_run
of_new identity pass new =
    of_run identity (known_run_of identity.config (opening_at identity.openings) [] []) pass.seat.me.0.known_run new.begun (record { same_openings = refl; same_before = refl; since = []; events = refl })
