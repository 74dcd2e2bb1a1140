-- Goals of `repair` (src/opening.rt).
use Rattle.std.proofs.Common.{◌⊎◌, ◌==◌, ◌≤◌, length, sym, ◌∙◌}
use Rattle.std.proofs.lemmas.Bool.{eqb-true, not-false}
use Rattle.mw_disk.proofs.RunLaws.{leaves_same, same_but_refl}
use Rattle.mw_file.specs.PlaceStates.{commit_writes}
use Rattle.mw_file.specs.RollForward.{Behind, InHomes, AtCommits}
use Rattle.mw_file.proofs.RollLoop.{on_ok}
use Rattle.mw_file.proofs.Recalled.{none_sealed}
use Rattle.mw_file.proofs.Rolled.{at_rest_has}
use Rattle.mw_disk.proofs.RunLaws.{touched_none}
use Rattle.mw_file.proofs.opening.repair.Goals as goal

pub returns-then-not-has_sealed-clause-moments : goal.returns-then-not-has_sealed-clause-moments
returns-then-not-has_sealed-clause-moments g c contents can =
    let f = g.D.Disk.facts c.args.disk.now in
    leaves_same f (at_rest_has f c.args.at c.args.words (length c.args.states.now) c.args.states.now contents can)

pub returns-then-not-has_sealed-clause-done : goal.returns-then-not-has_sealed-clause-done
returns-then-not-has_sealed-clause-done g c contents can =
    let f = g.D.Disk.facts c.args.disk.now in
    let states = c.args.states.now in
    let none = eqb-true (commit_writes states) 0 (not-false (commit_writes states == 0) (sym c.has_sealed.ensures ∙ c.if-not-has_sealed.true)) in
    record {
      rest = can.rest;
      same = same_but_refl (Behind c.args.at (λ k. InHomes states k ⊎ AtCommits c.args.words 0 states k)) f.reads;
      shut = λ place lt sealed. absurd (none_sealed states place none lt sealed);
    }

pub returns-clause-moments : goal.returns-clause-moments
returns-clause-moments g c contents can = c.roll_forward.ensures.moments (length c.args.states.now) contents can.roll

pub returns-clause-read : goal.returns-clause-read
returns-clause-read g c contents can = c.roll_forward.ensures.read (length c.args.states.now) contents can.roll

pub returns-clause-done : goal.returns-clause-done
returns-clause-done g c = on_ok _ _ c.roll_forward.result (λ done contents can. done (length c.args.states.now) contents can.roll) c.roll_forward.ensures.done

pub returns-then-not-has_sealed-clause-touched : goal.returns-then-not-has_sealed-clause-touched
returns-then-not-has_sealed-clause-touched g c contents can = touched_none (λ k. c.args.at ≤ k) (g.D.Disk.facts c.args.disk.now)

pub returns-clause-touched : goal.returns-clause-touched
returns-clause-touched g c contents can = c.roll_forward.ensures.touched (length c.args.states.now) contents can.roll
