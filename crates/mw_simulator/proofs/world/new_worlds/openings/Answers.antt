-- Goals of `openings` (src/world/new_worlds.rt).
use Rattle.std.proofs.Common.{subst, sym, ap, ◌∙◌, ◌+◌, length}
use Rattle.std.proofs.lemmas.List.{length_push}
use Rattle.mw_world_file.specs.StartValues.{IsGiven}
use Rattle.mw_simulator.specs.Starts.{EachOf}
use Rattle.mw_simulator.proofs.FirstWorlds.{each_none, each_of_more}
use Rattle.mw_simulator.proofs.world.new_worlds.openings.Goals as goal

pub loop-tenant_state-init : goal.loop-tenant_state-init
loop-tenant_state-init c = record {
  count = ap length c.in_ok-openings.ensures.items;
  each = subst (EachOf (λ tenant shown opening. IsGiven shown.book opening) c.args.tenant_states.now) (sym c.in_ok-openings.ensures.items) (each_none _);
}

pub loop-tenant_state-preserved : goal.loop-tenant_state-preserved
loop-tenant_state-preserved c =
    let before = c.loop-tenant_state.openings.items in
    let index = c.loop-tenant_state.tenant_state-index in
    let given = c.in_ok-opening.field-0 in
    record {
      count = ap length c.in_ok-push.ensures.items ∙ length_push before given ∙ ap (λ n. n + 1) c.loop-tenant_state.invariant.count;
      each = subst (EachOf (λ tenant shown opening. IsGiven shown.book opening) c.args.tenant_states.now) (sym c.in_ok-push.ensures.items)
          (each_of_more (λ tenant shown opening. IsGiven shown.book opening) c.args.tenant_states.now before index c.tenant_state-item.result given c.loop-tenant_state.invariant.count
          c.tenant_state-item.is c.in_ok-opening.ensures c.loop-tenant_state.invariant.each);
    }
