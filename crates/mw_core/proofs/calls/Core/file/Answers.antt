-- Goals of `Core::file` (src/file_calls.rt).
use Rattle.std.specs.Prelude.{Option}
use Rattle.std.proofs.Common.{ℕ, ap, subst, sym, ◌∙◌}
use Rattle.mw_table.specs.declared.shared.Shared.{Shared}
use Rattle.mw_table.specs.FromRule.{KnownRun, ExtendsKnownRun, View}
use Rattle.mw_table.specs.HeldFiles.{HasFile}
use Rattle.mw_table.specs.Passes.{IsOf}
use Rattle.mw_core.proofs.CallWithItsFile.{agrees_back, agrees_taken, carried_back, carried_taken, files_once, has_taken, may_give_back}
use Rattle.mw_core.proofs.calls.Core.file.Goals as goal

pub make_call-went_well-requires-clause-carried : goal.make_call-went_well-requires-clause-carried
make_call-went_well-requires-clause-carried g c =
    carried_taken g.D.Disk.facts c.args.self.now.shared c.args.pass.now c.take.new.pass c.args.actor.now c.args.file_pass c.requires.free c.take.ensures.same
    (subst (λ (shared : Shared). IsOf shared c.take.new.pass) c.shared.ensures c.take.ensures.own) c.take.ensures.took c.take.ensures.has c.requires.whose c.requires.carried

pub make_call-went_well-requires-clause-has : goal.make_call-went_well-requires-clause-has
make_call-went_well-requires-clause-has g c =
    has_taken g.D.Disk.facts c.args.self.now.shared c.args.pass.now c.take.new.pass c.args.actor.now c.args.file_pass c.requires.free c.take.ensures.same
    (subst (λ (shared : Shared). IsOf shared c.take.new.pass) c.shared.ensures c.take.ensures.own) c.take.ensures.took c.take.ensures.has c.requires.whose

pub make_call-went_well-requires-clause-agrees : goal.make_call-went_well-requires-clause-agrees
make_call-went_well-requires-clause-agrees g c =
    agrees_taken g.D.Disk.facts c.args.self.now.shared c.args.pass.now c.take.new.pass c.args.actor.now c.args.file_pass c.requires.free c.take.ensures.same
    (subst (λ (shared : Shared). IsOf shared c.take.new.pass) c.shared.ensures c.take.ensures.own) c.take.ensures.took c.take.ensures.has c.requires.whose c.args.book.now c.requires.agrees

pub give_back-requires-clause-has : goal.give_back-requires-clause-has
give_back-requires-clause-has g c =
    subst (λ (tenant : ℕ). HasFile c.make_call-went_well.new.pass.seat.me.0 tenant) (sym c.tenant-tenant.ensures)
    (may_give_back g.D.Disk.facts c.args.self.now.shared c.args.pass.now c.take.new.pass c.args.actor.now c.args.file_pass c.requires.free c.take.ensures.same
    (subst (λ (shared : Shared). IsOf shared c.take.new.pass) c.shared.ensures c.take.ensures.own) c.take.ensures.took c.take.ensures.has c.requires.whose
    c.args.waiting.now c.make_call-went_well.new.pass c.args.book.now c.make_call-went_well.new.book c.make_call-went_well.result c.make_call-went_well.ensures.same c.make_call-went_well.ensures.made)

pub returns-clause-carried : goal.returns-clause-carried
returns-clause-carried g c =
    carried_back g.D.Disk.facts c.args.self.now.shared c.args.pass.now c.take.new.pass c.args.actor.now c.args.file_pass c.requires.free c.take.ensures.same
    (subst (λ (shared : Shared). IsOf shared c.take.new.pass) c.shared.ensures c.take.ensures.own) c.take.ensures.took c.take.ensures.has c.requires.whose
    c.args.waiting.now c.make_call-went_well.new.pass c.args.book.now c.make_call-went_well.new.book c.make_call-went_well.result c.make_call-went_well.ensures.same c.make_call-went_well.ensures.made
    c.give_back.new.pass c.tell.new.self c.give_back.result c.attempt.result c.give_back.ensures.same c.give_back.ensures.left c.give_back.ensures.file c.attempt.ensures c.tell.ensures
    c.requires.carried

pub returns-clause-files : goal.returns-clause-files
returns-clause-files g c =
    files_once g.D.Disk.facts c.args.self.now.shared c.args.pass.now c.take.new.pass c.args.actor.now c.args.file_pass c.requires.free c.take.ensures.same
    (subst (λ (shared : Shared). IsOf shared c.take.new.pass) c.shared.ensures c.take.ensures.own) c.take.ensures.took c.take.ensures.has c.requires.whose
    c.args.waiting.now c.make_call-went_well.new.pass c.args.book.now c.make_call-went_well.new.book c.make_call-went_well.result c.make_call-went_well.ensures.same c.make_call-went_well.ensures.made
    c.give_back.new.pass c.tell.new.self c.give_back.result c.attempt.result c.give_back.ensures.same c.give_back.ensures.left c.give_back.ensures.file c.attempt.ensures c.tell.ensures
    c.requires.agrees c.make_call-went_well.ensures.agrees

pub returns-clause-agrees : goal.returns-clause-agrees
returns-clause-agrees g c =
    agrees_back g.D.Disk.facts c.args.self.now.shared c.args.pass.now c.take.new.pass c.args.actor.now c.args.file_pass c.requires.free c.take.ensures.same
    (subst (λ (shared : Shared). IsOf shared c.take.new.pass) c.shared.ensures c.take.ensures.own) c.take.ensures.took c.take.ensures.has c.requires.whose
    c.args.waiting.now c.make_call-went_well.new.pass c.args.book.now c.make_call-went_well.new.book c.make_call-went_well.result c.make_call-went_well.ensures.same c.make_call-went_well.ensures.made
    c.give_back.new.pass c.tell.new.self c.give_back.result c.attempt.result c.give_back.ensures.same c.give_back.ensures.left c.give_back.ensures.file c.attempt.ensures c.tell.ensures
    c.make_call-went_well.ensures.own (c.give_back.ensures.whose ∙ c.tenant-tenant.ensures) c.make_call-went_well.ensures.agrees

pub returns-clause-known : goal.returns-clause-known
returns-clause-known g c = ap (λ (view : View). view.known_run) c.give_back.ensures.is ∙ sym (ap (λ (view : View). view.known_run) c.give_back.ensures.left)

pub returns-clause-follows : goal.returns-clause-follows
returns-clause-follows g c =
    let last = c.make_call-went_well.new.pass.seat.me.0 in
    let told = c.make_call-went_well.ensures.made.follows in
    subst (λ (known : Option KnownRun). ExtendsKnownRun c.args.file_pass.seat.me.0.known_run known) (sym (ap (λ (view : View). view.known_run) c.give_back.ensures.is))
    (subst (λ (view : View). ExtendsKnownRun view.learned_run last.known_run) c.take.ensures.took told)
