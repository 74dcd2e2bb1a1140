-- Goals of `World::cut` (src/world/stopped_calls.rt).
use Rattle.std.specs.Prelude.{◌≡◌, false, true, length, Some}
use Rattle.std.proofs.Common.{ap, subst, sym, ◌∙◌}
use Rattle.mw_actor.specs.ActorState.{entries_of_job, own_entries}
use Rattle.mw_world_file.specs.declared.cut.Cut.{Cut}
use Rattle.mw_world.specs.Definition.Calls.{Called, is_formed, starts_from}
use Rattle.mw_world.specs.Definition.Extent.{has_slot}
use Rattle.mw_simulator.specs.CallEnds.{called_of}
use Rattle.mw_simulator.specs.Stops.{IsCut}
use Rattle.mw_simulator.proofs.CallsAtStop.{cut_is, in_slot, not_formed}
use Rattle.mw_simulator.proofs.world.World.cut.Goals as goal

pub returns-then-not-is_formed-clause-shown : goal.returns-then-not-is_formed-clause-shown
returns-then-not-is_formed-clause-shown c state shows =
    let config = c.args.self.now.config in
    let actor = c.args.actor.now in
    let made = c.args.made in
    let called : Called = called_of c.args.called in
    let file = (state.tenant_states actor.tenant).file in
    let same = (shows.tenant_states actor.tenant c.args.tenant_state.now c.requires.there).book.same_contents in
    let long : length file.contents ≡ c.words.result = ap length same ∙ sym c.words.ensures in
    let own = c.entries_of-entries.ensures ∙ ap entries_of_job c.job.ensures in
    let formed : is_formed called.call file (own_entries actor) ≡ false =
    ap (is_formed called.call file) (sym own) ∙ sym (c.is_formed.ensures.is file long) ∙ c.if-not-is_formed.true in
    not_formed config state actor called made formed c.requires.some

pub returns-clause-shown : goal.returns-clause-shown
returns-clause-shown c state shows =
    let config = c.args.self.now.config in
    let actor = c.args.actor.now in
    let made = c.args.made in
    let called : Called = called_of c.args.called in
    let slot = c.args.called.change.slot in
    let seq = c.args.called.change.seq in
    let file = (state.tenant_states actor.tenant).file in
    let same = (shows.tenant_states actor.tenant c.args.tenant_state.now c.requires.there).book.same_contents in
    let long : length file.contents ≡ c.words.result = ap length same ∙ sym c.words.ensures in
    let own = c.entries_of-entries.ensures ∙ ap entries_of_job c.job.ensures in
    let formed : is_formed called.call file (own_entries actor) ≡ true =
    ap (is_formed called.call file) (sym own) ∙ sym (c.is_formed.ensures.is file long) ∙ c.if-not-is_formed.false in
    let there = in_slot (has_slot config slot) c.in-Some.status (state.cells.statuses slot) (c.in-Some.ensures.shown state shows) in
    let starts : starts_from called.call (state.cells.statuses slot) ≡ true =
    ap (starts_from called.call) (sym there.1) ∙ sym c.starts_from.ensures ∙ c.if-not-starts_from.false in
    let entries = c.entries_of-entries.result in
    let cut : Cut = record { call = c.args.called.call; slot = slot; entries = entries; made = made } in
    let is = cut_is config state actor called made entries c.request.result there.0 formed starts c.requires.some (c.request.ensures ∙ shows.claims.requests slot seq) own in
    subst (λ sealing. IsCut config state actor called made (record { cut = Some cut; sealing = sealing })) (sym c.sealed_request.ensures) is
