-- Goals of `World::end` (src/world/calls.rt): a call does nothing, or fails on a file that failed before, or is made.
use Rattle.std.proofs.Common.{ap, inl, inr, refl, sym, subst, true, false, ◌∙◌}
use Rattle.mw_actor.specs.ActorState.{own_entries}
use Rattle.mw_world.specs.Definition.Calls.{starts_from}
use Rattle.mw_simulator.specs.CallEnds.{called_of, faulted}
use Rattle.mw_simulator.specs.DisksOfCalls.{is_made_on_file}
use Rattle.mw_simulator.specs.Representation.{Represents}
use Rattle.mw_simulator.specs.StepParts.{with_cells}
use Rattle.mw_simulator.specs.UnchangedParts.{book_at}
use Rattle.mw_simulator.proofs.Crashes.{on_any, on_ok}
use Rattle.mw_simulator.proofs.CalledDisks.{does_not_start, is_made, not_made, starts_by}
use Rattle.mw_simulator.proofs.CallEndLaws.{call_refuses, call_skips, found_at, same_found, shown_at}
use Rattle.mw_simulator.proofs.world.World.end.Goals as goal

pub returns-then-not-starts_from-clause-ends : goal.returns-then-not-starts_from-clause-ends
returns-then-not-starts_from-clause-ends c state shows same =
    call_skips c.args.self.now.config state c.args.actor.now (called_of c.args.called) c.args.status c.args.outcome same c.args.self.now c.skipped.result
    (sym c.starts_from.ensures ∙ c.if-not-starts_from.true) c.skipped.ensures shows

pub returns-then-fails_on-clause-ends : goal.returns-then-fails_on-clause-ends
returns-then-fails_on-clause-ends c state shows same =
    let actor = c.args.actor.now in
    let one = shown_at c.args.self.now state c.from.result actor.tenant c.index.result.now shows (c.from.ensures ∙ c.tenant.ensures) c.requires.tenant c.index.ensures in
    call_refuses c.args.self.now.config state actor (called_of c.args.called) c.args.status c.args.outcome same c.args.self.now c.refuse.new.self c.refuse.result
    (sym c.starts_from.ensures ∙ c.if-not-starts_from.false) (sym (c.fails_on.ensures.is (state.tenant_states actor.tenant).file (one.book.same_failed ∙ sym c.has_failed.ensures)) ∙ c.if-fails_on.true) c.refuse.ensures.is
    (λ good. subst (λ t. Represents c.refuse.new.self (with_cells state (faulted state.cells t))) c.tenant-then-fails_on.ensures (c.refuse.ensures.good good state shows))
    (λ bad. subst (λ w. Represents w state) (sym (c.refuse.ensures.other bad)) shows)

pub work-requires-clause-sound : goal.work-requires-clause-sound
work-requires-clause-sound c other tenant_state is =
    ap (λ shown. shown.book.has_failed)
    (same_found c.args.self.now.tenant_states.items c.args.actor.now.tenant tenant_state c.index.result.now is
    (found_at c.args.self.now.tenant_states.items c.from.result c.args.actor.now.tenant c.index.result.now (c.from.ensures ∙ c.tenant.ensures) c.requires.tenant c.index.ensures))
    ∙ sym c.has_failed.ensures ∙ c.fails_on.ensures.unless c.if-fails_on.false other

pub returns-clause-ends : goal.returns-clause-ends
returns-clause-ends c state shows same =
    let actor = c.args.actor.now in
    let one = shown_at c.args.self.now state c.from.result actor.tenant c.index.result.now shows (c.from.ensures ∙ c.tenant.ensures) c.requires.tenant c.index.ensures in
    c.work.ensures.ends state shows same (sym c.starts_from.ensures ∙ c.if-not-starts_from.false)
    (sym (c.fails_on.ensures.is (state.tenant_states actor.tenant).file (one.book.same_failed ∙ sym c.has_failed.ensures)) ∙ c.if-fails_on.false)

pub returns-then-not-starts_from-clause-moments : goal.returns-then-not-starts_from-clause-moments
returns-then-not-starts_from-clause-moments c = on_any c.skipped.result (inl (λ tenant. refl))

pub returns-then-fails_on-clause-moments : goal.returns-then-fails_on-clause-moments
returns-then-fails_on-clause-moments c = on_any c.refuse.result (inl c.refuse.ensures.files)

pub returns-clause-moments : goal.returns-clause-moments
returns-clause-moments c =
    let actor = c.args.actor.now in
    on_ok c.work.result
    (λ worked. inr (record {
      starts = sym c.starts_from.ensures ∙ c.if-not-starts_from.false;
      sound = λ state shows.
          let one = shown_at c.args.self.now state c.from.result actor.tenant c.index.result.now shows (c.from.ensures ∙ c.tenant.ensures) c.requires.tenant c.index.ensures in
          sym (c.fails_on.ensures.is (state.tenant_states actor.tenant).file (one.book.same_failed ∙ sym c.has_failed.ensures)) ∙ c.if-fails_on.false;
      worked = worked;
    })) c.work.ensures.moments

pub returns-then-not-starts_from-clause-disks : goal.returns-then-not-starts_from-clause-disks
returns-then-not-starts_from-clause-disks c =
    on_any c.skipped.result (λ state was now shows same is_was is_now.
    let actor = c.args.actor.now in
    let called = called_of c.args.called in
    let book = book_at c.args.self.now actor.tenant in
    not_made (is_made_on_file state actor called) called (own_entries actor) c.args.outcome book book was now
    (does_not_start state actor called (ap (λ s. starts_from called.call s) same ∙ sym c.starts_from.ensures ∙ c.if-not-starts_from.true)) refl is_was is_now)

pub returns-then-fails_on-clause-disks : goal.returns-then-fails_on-clause-disks
returns-then-fails_on-clause-disks c =
    on_any c.refuse.result (λ state was now shows same is_was is_now.
    let actor = c.args.actor.now in
    let called = called_of c.args.called in
    let one = shown_at c.args.self.now state c.from.result actor.tenant c.index.result.now shows (c.from.ensures ∙ c.tenant.ensures) c.requires.tenant c.index.ensures in
    not_made (is_made_on_file state actor called) called (own_entries actor) c.args.outcome (book_at c.args.self.now actor.tenant) (book_at c.refuse.new.self actor.tenant) was now
    (starts_by state actor called true (ap (λ s. starts_from called.call s) same ∙ sym c.starts_from.ensures ∙ c.if-not-starts_from.false)
    (sym (c.fails_on.ensures.is (state.tenant_states actor.tenant).file (one.book.same_failed ∙ sym c.has_failed.ensures)) ∙ c.if-fails_on.true))
    (c.refuse.ensures.files actor.tenant) is_was is_now)

pub returns-clause-disks : goal.returns-clause-disks
returns-clause-disks c =
    on_ok c.work.result
    (λ came state was now shows same is_was is_now.
    let actor = c.args.actor.now in
    let called = called_of c.args.called in
    let one = shown_at c.args.self.now state c.from.result actor.tenant c.index.result.now shows (c.from.ensures ∙ c.tenant.ensures) c.requires.tenant c.index.ensures in
    is_made (is_made_on_file state actor called) called (own_entries actor) c.args.outcome was now
    (starts_by state actor called false (ap (λ s. starts_from called.call s) same ∙ sym c.starts_from.ensures ∙ c.if-not-starts_from.false)
    (sym (c.fails_on.ensures.is (state.tenant_states actor.tenant).file (one.book.same_failed ∙ sym c.has_failed.ensures)) ∙ c.if-fails_on.false))
    (came was now is_was is_now)) c.work.ensures.disks
