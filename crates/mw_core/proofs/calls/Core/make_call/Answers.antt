-- Goals of `Core::make_call` (src/file_calls.rt).
use Rattle.std.proofs.Common.{◌≤◌, sym, subst, ◌∙◌}
use Rattle.mw_words.specs.declared.limits.TheConstants.{MAX_POOL}
use Rattle.mw_table.specs.declared.shared.Shared.{Shared}
use Rattle.mw_table.specs.Passes.{IsOf}
use Rattle.mw_core.proofs.CalledFiles.{ended_badly, ended_well, may_call, may_end, may_fault, may_find, not_made, readable, skipped, skipped_agrees}
use Rattle.mw_core.proofs.calls.Core.make_call.Goals as goal

pub find_status-bits-requires-clause-may : goal.find_status-bits-requires-clause-may
find_status-bits-requires-clause-may g c =
    may_find g.D.Disk.facts c.args.pass.now c.args.pass.now c.args.actor.now c.args.book.now c.in-File.call c.in-File.slot c.requires.call c.requires.carried c.requires.has c.requires.agrees
    (sym c.ask.ensures.is ∙ c.in-File.is)

pub unreachable-requires-in_default-unpack : goal.unreachable-requires-in_default-unpack
unreachable-requires-in_default-unpack g c =
    readable g.D.Disk.facts c.args.pass.now c.find_status-bits.new.pass c.args.actor.now c.args.book.now c.in-File.call c.in-File.slot c.requires.call c.requires.carried c.requires.has c.requires.agrees
    (sym c.ask.ensures.is ∙ c.in-File.is) c.find_status-bits.result c.find_status-bits.ensures.found (sym c.unpack.ensures.is ∙ c.in_default-unpack.is)

pub returns-then-not-starts_from-clause-made : goal.returns-then-not-starts_from-clause-made
returns-then-not-starts_from-clause-made g c =
    skipped g.D.Disk.facts c.args.pass.now c.find_status-bits.new.pass c.args.actor.now c.args.book.now c.in-File.call c.in-File.slot c.requires.call c.requires.carried c.requires.has c.requires.agrees
    (sym c.ask.ensures.is ∙ c.in-File.is) c.find_status-bits.result c.find_status-bits.ensures.found c.in-Some.status (sym c.unpack.ensures.is ∙ c.in-Some.is)
    c.args.waiting.now (sym c.starts_from.ensures ∙ c.if-not-starts_from.true) c.find_status-bits.ensures.event

pub returns-then-not-starts_from-clause-agrees : goal.returns-then-not-starts_from-clause-agrees
returns-then-not-starts_from-clause-agrees g c =
    skipped_agrees g.D.Disk.facts c.args.pass.now c.find_status-bits.new.pass c.args.actor.now c.args.book.now c.in-File.call c.in-File.slot c.requires.call c.requires.carried c.requires.has c.requires.agrees
    (sym c.ask.ensures.is ∙ c.in-File.is) c.find_status-bits.result c.find_status-bits.ensures.found c.in-Some.status (sym c.unpack.ensures.is ∙ c.in-Some.is)
    (sym c.starts_from.ensures ∙ c.if-not-starts_from.true)

pub call-requires : goal.call-requires
call-requires g c = record {
  may =
      may_call g.D.Disk.facts c.args.pass.now c.find_status-bits.new.pass c.args.actor.now c.args.book.now c.in-File.call c.in-File.slot c.requires.call c.requires.carried c.requires.has c.requires.agrees
      (sym c.ask.ensures.is ∙ c.in-File.is) c.find_status-bits.result c.find_status-bits.ensures.found c.in-Some.status (sym c.unpack.ensures.is ∙ c.in-Some.is)
      c.find_status-bits.ensures.same (sym c.starts_from.ensures ∙ c.if-not-starts_from.false) c.entries_for.result.now.items
      (subst (λ config. config.pool ≤ MAX_POOL) (sym c.requires.own.config) c.args.self.now.shared.made.pool.1) c.entries_for.ensures;
}

pub end_call-requires-clause-may : goal.end_call-requires-clause-may
end_call-requires-clause-may g c =
    may_end g.D.Disk.facts c.args.pass.now c.find_status-bits.new.pass c.args.actor.now c.args.book.now c.in-File.call c.in-File.slot c.requires.call c.requires.carried c.requires.has c.requires.agrees
    (sym c.ask.ensures.is ∙ c.in-File.is) c.find_status-bits.result c.find_status-bits.ensures.found c.in-Some.status (sym c.unpack.ensures.is ∙ c.in-Some.is)
    c.find_status-bits.ensures.same (sym c.starts_from.ensures ∙ c.if-not-starts_from.false) c.args.waiting.now c.call.new.self c.entries_for.result.now.items c.entries_for.ensures c.call.result c.call.ensures.places
    c.call.ensures.ends c.call.ensures.moments c.in-Made.is

pub fault-requires : goal.fault-requires
fault-requires g c = record {
  own = subst (λ (shared : Shared). IsOf shared c.find_status-bits.new.pass) (c.shared.ensures ∙ sym c.shared-in-Broken.ensures) c.find_status-bits.ensures.own;
  may =
      may_fault g.D.Disk.facts c.args.pass.now c.find_status-bits.new.pass c.args.actor.now c.args.book.now c.in-File.call c.in-File.slot c.requires.call c.requires.carried c.requires.has c.requires.agrees
      (sym c.ask.ensures.is ∙ c.in-File.is) c.find_status-bits.result c.find_status-bits.ensures.found c.in-Some.status (sym c.unpack.ensures.is ∙ c.in-Some.is)
      c.find_status-bits.ensures.same (sym c.starts_from.ensures ∙ c.if-not-starts_from.false) c.args.waiting.now c.call.new.self c.entries_for.result.now.items c.entries_for.ensures c.call.result c.call.ensures.places
      c.call.ensures.ends c.call.ensures.moments c.tenant.result c.tenant.ensures (not_made c.call.result c.in-Broken.is);
}

pub returns-in-Made-clause-made : goal.returns-in-Made-clause-made
returns-in-Made-clause-made g c =
    (ended_well g.D.Disk.facts c.args.pass.now c.find_status-bits.new.pass c.args.actor.now c.args.book.now c.in-File.call c.in-File.slot c.requires.call c.requires.carried c.requires.has c.requires.agrees
    (sym c.ask.ensures.is ∙ c.in-File.is) c.find_status-bits.result c.find_status-bits.ensures.found c.in-Some.status (sym c.unpack.ensures.is ∙ c.in-Some.is)
    c.find_status-bits.ensures.same (sym c.starts_from.ensures ∙ c.if-not-starts_from.false) c.args.waiting.now c.call.new.self c.entries_for.result.now.items c.entries_for.ensures c.call.result c.call.ensures.places
    c.call.ensures.ends c.call.ensures.moments c.end_call.new.pass c.in-Made.is c.end_call.ensures.went c.end_call.ensures.event).0

pub returns-in-Made-clause-agrees : goal.returns-in-Made-clause-agrees
returns-in-Made-clause-agrees g c =
    (ended_well g.D.Disk.facts c.args.pass.now c.find_status-bits.new.pass c.args.actor.now c.args.book.now c.in-File.call c.in-File.slot c.requires.call c.requires.carried c.requires.has c.requires.agrees
    (sym c.ask.ensures.is ∙ c.in-File.is) c.find_status-bits.result c.find_status-bits.ensures.found c.in-Some.status (sym c.unpack.ensures.is ∙ c.in-Some.is)
    c.find_status-bits.ensures.same (sym c.starts_from.ensures ∙ c.if-not-starts_from.false) c.args.waiting.now c.call.new.self c.entries_for.result.now.items c.entries_for.ensures c.call.result c.call.ensures.places
    c.call.ensures.ends c.call.ensures.moments c.end_call.new.pass c.in-Made.is c.end_call.ensures.went c.end_call.ensures.event).1

pub returns-in-Broken : goal.returns-in-Broken
returns-in-Broken g c = record {
  own = subst (λ (shared : Shared). IsOf shared c.fault.new.pass) c.shared-in-Broken.ensures c.fault.ensures.own;
  same = record {
    same_worker = c.fault.ensures.same.same_worker ∙ c.find_status-bits.ensures.same.same_worker;
    same_attempt = c.fault.ensures.same.same_attempt ∙ c.find_status-bits.ensures.same.same_attempt;
    same_idle = c.fault.ensures.same.same_idle ∙ c.find_status-bits.ensures.same.same_idle;
  };
  made =
      (ended_badly g.D.Disk.facts c.args.pass.now c.find_status-bits.new.pass c.args.actor.now c.args.book.now c.in-File.call c.in-File.slot c.requires.call c.requires.carried c.requires.has c.requires.agrees
      (sym c.ask.ensures.is ∙ c.in-File.is) c.find_status-bits.result c.find_status-bits.ensures.found c.in-Some.status (sym c.unpack.ensures.is ∙ c.in-Some.is)
      c.find_status-bits.ensures.same (sym c.starts_from.ensures ∙ c.if-not-starts_from.false) c.args.waiting.now c.call.new.self c.entries_for.result.now.items c.entries_for.ensures c.call.result c.call.ensures.places
      c.call.ensures.ends c.call.ensures.moments c.fault.new.pass (not_made c.call.result c.in-Broken.is) c.fault.ensures.went c.fault.ensures.event).0;
  agrees =
      (ended_badly g.D.Disk.facts c.args.pass.now c.find_status-bits.new.pass c.args.actor.now c.args.book.now c.in-File.call c.in-File.slot c.requires.call c.requires.carried c.requires.has c.requires.agrees
      (sym c.ask.ensures.is ∙ c.in-File.is) c.find_status-bits.result c.find_status-bits.ensures.found c.in-Some.status (sym c.unpack.ensures.is ∙ c.in-Some.is)
      c.find_status-bits.ensures.same (sym c.starts_from.ensures ∙ c.if-not-starts_from.false) c.args.waiting.now c.call.new.self c.entries_for.result.now.items c.entries_for.ensures c.call.result c.call.ensures.places
      c.call.ensures.ends c.call.ensures.moments c.fault.new.pass (not_made c.call.result c.in-Broken.is) c.fault.ensures.went c.fault.ensures.event).1;
}
