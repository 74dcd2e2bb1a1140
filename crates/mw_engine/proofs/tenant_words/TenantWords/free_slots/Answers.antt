-- Goals of `TenantWords::free_slots` (src/figures.rt).
use Rattle.std.specs.Prelude.{◌≡◌, ◌+◌, cond}
use Rattle.std.proofs.Common.{sym, ◌∙◌, arith}
use Rattle.mw_engine.specs.Figures.{is_free}
use Rattle.mw_engine.proofs.FiguresSoFar.{counted, free_more, looked_on, no_slots, not_counted, not_looked}
use Rattle.mw_engine.proofs.tenant_words.TenantWords.free_slots.Goals.{then-is_free, else-is_free}
use Rattle.mw_engine.proofs.tenant_words.TenantWords.free_slots.Goals as goal

pub loop-slot-init : goal.loop-slot-init
loop-slot-init c =
    let pass = c.args.pass.now in
    record { own = c.requires.own; looked = not_looked pass c.requires.idle; few = omega arith; tells = no_slots c.args.self.now.core.shared.pool pass.seat.me.0 }

pub loop-slot-preserved : goal.loop-slot-preserved
loop-slot-preserved c =
    let old = c.args.pass.now in
    let between = c.loop-slot.pass in
    let new = c.gate-gate.new.pass in
    let gate = c.gate-gate.result in
    let free = c.loop-slot.free in
    let inv = c.loop-slot.invariant in
    let more : c.if-is_free.free ≡ free + cond (is_free gate) 1 0 = elim c.if-is_free.branch [
      | then-is_free w ↦ counted (is_free gate) free c.if-is_free.free (sym c.is_free.ensures ∙ w.if-is_free.true) w.free-is
      | else-is_free w ↦ not_counted (is_free gate) free c.if-is_free.free (sym c.is_free.ensures ∙ w.if-is_free.false) w.free-is
    ] in
    record {
      own = c.gate-gate.ensures.own;
      looked = looked_on old between new inv.looked c.gate-gate.ensures.looked;
      few = elim c.if-is_free.branch [
        | then-is_free w ↦ let is = w.free-is in let few = inv.few in omega (arith, is, few)
        | else-is_free w ↦ let is = w.free-is in let few = inv.few in omega (arith, is, few)
      ];
      tells = free_more c.args.self.now.core.shared.pool old.seat.me.0 between.seat.me.0 new.seat.me.0 c.loop-slot.slot free c.if-is_free.free gate inv.tells c.gate-gate.ensures.found more;
    }
