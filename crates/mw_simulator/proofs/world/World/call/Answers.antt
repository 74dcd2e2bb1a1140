-- Goals of `World::call` (src/world/calls.rt): the request learns how its call ended.
use Rattle.std.proofs.Common.{◌≡◌, ap, sym, subst, ◌∙◌, Some}
use Rattle.mw_world.specs.Definition.Calls.{called_at, calling}
use Rattle.mw_world.specs.Definition.Extent.{has_slot}
use Rattle.mw_simulator.specs.CallEnds.{Closed, called_of}
use Rattle.mw_simulator.specs.UnchangedParts.{IsUnchanged, book_at, served_by}
use Rattle.mw_simulator.specs.StepParts.{HasRoom}
use Rattle.mw_simulator.proofs.CallEndLaws.{call_ends_well, has_status, room_if, status_is_so}
use Rattle.mw_simulator.proofs.Crashes.{call_safe, same_some}
use Rattle.mw_simulator.proofs.Unchanged.{unchanged_books}
use Rattle.mw_simulator.proofs.world.World.call.Goals as goal

pub tell_file-requires-clause-room : goal.tell_file-requires-clause-room
tell_file-requires-clause-room c =
    c.end.ensures.rest.room c.in-Some.actor.tenant
    (subst (λ t. HasRoom c.reserve.new.self.claims c.reserve.new.self.tenant_states.items t) c.tenant.ensures
    (room_if c.reserve.result _ c.reserve.ensures.room (sym c.is_err.ensures.value ∙ c.if-is_err.false)))

pub returns-in-Ok-clause-ends : goal.returns-in-Ok-clause-ends
returns-in-Ok-clause-ends c state shows =
    let config = c.args.self.now.config in
    let actor = c.in-Some.actor in
    let called = called_of c.in-Some-called_at.called in
    let status = c.in-Some-status.status in
    let at = sym (c.in-Some-called_at.ensures ∙ ap (λ point. called_at point) c.point.ensures.is) in
    let slot = c.in-Some-status.ensures.shown state shows in
    let same = status_is_so (has_slot config called.change.slot) (state.cells.statuses called.change.slot) status slot in
    let closed = subst (λ config. Closed c.end.new.self state actor.tenant (calling config state actor called c.args.outcome) c.in-Ok.ended) c.reserve.ensures.config
    (c.in-Ok.ensures.ends state (c.reserve.ensures.shows state shows) same) in
    call_ends_well config state c.args.worker actor (state.worker_states c.args.worker).actor called status c.args.outcome (c.in-Some.ensures.shown state shows) at slot
    c.end.new.self c.tell_file.new.self c.in-Ok.ended closed (λ s shown. c.tell_file.ensures.shows s shown)

pub returns-in-Ok-clause-moments : goal.returns-in-Ok-clause-moments
returns-in-Ok-clause-moments c state shows =
    let config = c.args.self.now.config in
    let actor = c.in-Some.actor in
    let called = called_of c.in-Some-called_at.called in
    let status = c.in-Some-status.status in
    let at = sym (c.in-Some-called_at.ensures ∙ ap (λ point. called_at point) c.point.ensures.is) in
    let slot = c.in-Some-status.ensures.shown state shows in
    let same = status_is_so (has_slot config called.change.slot) (state.cells.statuses called.change.slot) status slot in
    let has = has_status (has_slot config called.change.slot) (state.cells.statuses called.change.slot) status slot in
    let shown = c.reserve.ensures.shows state shows in
    let closed = subst (λ config. Closed c.end.new.self state actor.tenant (calling config state actor called c.args.outcome) c.in-Ok.ended) c.reserve.ensures.config
    (c.in-Ok.ensures.ends state shown same) in
    call_safe config state c.args.worker actor called (c.in-Some.ensures.shown state shows) at c.args.self.now c.reserve.new.self c.end.new.self c.tell_file.new.self status c.args.outcome closed.made
    (unchanged_books c.args.self.now c.reserve.new.self c.reserve.ensures.unchanged) c.tell_file.ensures.files shown c.in-Ok.ensures.moments has same closed.is c.in-Some.ensures.served

pub returns-in-Ok-clause-files : goal.returns-in-Ok-clause-files
returns-in-Ok-clause-files c tenant apart =
    c.tell_file.ensures.files tenant ∙ c.end.ensures.files tenant (λ e. apart (c.in-Some.ensures.served ∙ ap Some (sym e)))
    ∙ unchanged_books c.args.self.now c.reserve.new.self c.reserve.ensures.unchanged tenant

pub returns-then-is_err-clause-files : goal.returns-then-is_err-clause-files
returns-then-is_err-clause-files c tenant apart = unchanged_books c.args.self.now c.reserve.new.self c.reserve.ensures.unchanged tenant

pub returns-in-Err-clause-files : goal.returns-in-Err-clause-files
returns-in-Err-clause-files c tenant apart =
    c.end.ensures.files tenant (λ e. apart (c.in-Some.ensures.served ∙ ap Some (sym e))) ∙ unchanged_books c.args.self.now c.reserve.new.self c.reserve.ensures.unchanged tenant

pub returns-in-Err-clause-unchanged : goal.returns-in-Err-clause-unchanged
returns-in-Err-clause-unchanged c = subst (λ world. IsUnchanged c.args.self.now world) (sym c.in-Err.ensures.unchanged) c.reserve.ensures.unchanged

pub returns-in-Ok-clause-disks : goal.returns-in-Ok-clause-disks
returns-in-Ok-clause-disks c state shows tenant was now of_tenant is_was is_now =
    let config = c.args.self.now.config in
    let actor = c.in-Some.actor in
    let called = called_of c.in-Some-called_at.called in
    let at = sym (c.in-Some-called_at.ensures ∙ ap (λ point. called_at point) c.point.ensures.is) in
    let slot = c.in-Some-status.ensures.shown state shows in
    let same = status_is_so (has_slot config called.change.slot) (state.cells.statuses called.change.slot) c.in-Some-status.status slot in
    let here = same_some (served_by c.args.self.now c.args.worker) tenant actor.tenant of_tenant c.in-Some.ensures.served in
    let old_here = subst (λ t. book_at c.args.self.now t ≡ Some was) here is_was in
    let new_here = subst (λ t. book_at c.tell_file.new.self t ≡ Some now) here is_now in
    record {
      actor = actor;
      is = sym (c.in-Some.ensures.shown state shows);
      called = called;
      at = at;
      came = c.in-Ok.ensures.disks state was now (c.reserve.ensures.shows state shows) same
          (unchanged_books c.args.self.now c.reserve.new.self c.reserve.ensures.unchanged actor.tenant ∙ old_here) (sym (c.tell_file.ensures.files actor.tenant) ∙ new_here);
    }
