-- Goals of `World::work` (src/world/calls.rt): a call that can be made leaves its tenant the file after it, and ends by what the
-- device did.
use Rattle.std.specs.Prelude.{◌≡◌, Some}
use Rattle.std.specs.Option.{option_map}
use Rattle.std.proofs.Common.{refl, ap, subst, sym, ◌∙◌, true, false, Ok, Err}
use Rattle.mw_actor.specs.ActorState.{entries_of_job, own_entries}
use Rattle.mw_world.specs.Files.State.{File}
use Rattle.mw_world_file.specs.SoundBooks.{HasSound}
use Rattle.mw_world_file.specs.CallEffects.{Works}
use Rattle.mw_world_file.proofs.SoundBooks.{sound_after}
use Rattle.mw_world.specs.Definition.State.{tenant_at}
use Rattle.mw_simulator.specs.CallEnds.{IsBookOf, called_of, cells_closed}
use Rattle.mw_simulator.specs.Representation.{Represents}
use Rattle.mw_simulator.specs.UnchangedParts.{book_at}
use Rattle.mw_simulator.specs.StepParts.{with_cells, with_file}
use Rattle.mw_simulator.proofs.CalledDisks.{came_so}
use Rattle.mw_simulator.proofs.CallEndLaws.{both_same, call_fails, call_unformed, call_works, formed_is, found_at, shown_at, why_failed}
use Rattle.mw_simulator.proofs.world.World.work.Goals as goal

pub returns-then-not-is_formed-clause-ends : goal.returns-then-not-is_formed-clause-ends
returns-then-not-is_formed-clause-ends c state shows same starts fails =
    let actor = c.args.actor.now in
    let one = shown_at c.args.self.now state c.from-tenant.result actor.tenant c.index.result.now shows (c.from-tenant.ensures ∙ c.tenant.ensures) c.requires.tenant c.index.ensures in
    let own = c.entries_of-entries.ensures ∙ ap (λ job. entries_of_job job) c.job.ensures in
    let formed = formed_is c.args.called.call (state.tenant_states actor.tenant).file c.index.result.now.book.contents.items c.words.result c.entries_of-entries.result.items (own_entries actor) c.is_formed.result false
    one.book.same_contents c.words.ensures own c.is_formed.ensures.is c.if-not-is_formed.true in
    (call_unformed c.args.self.now.config state actor (called_of c.args.called) c.args.status c.args.outcome same starts fails formed, shows)

pub work-requires-clause-sound : goal.work-requires-clause-sound
work-requires-clause-sound c other =
    c.requires.sound other c.index-2.result.now
    (found_at c.args.self.now.tenant_states.items c.from-tenant.result c.args.actor.now.tenant c.index-2.result.now (c.from-tenant.ensures ∙ c.tenant.ensures) c.requires.tenant c.index-2.ensures)

pub file-requires-clause-sound : goal.file-requires-clause-sound
file-requires-clause-sound c =
    let config = c.args.self.now.config in
    let tenant = c.args.actor.now.tenant in
    let shown = c.index-2.result.now in
    let here = found_at c.args.self.now.tenant_states.items c.from-tenant.result tenant shown (c.from-tenant.ensures ∙ c.tenant.ensures) c.requires.tenant c.index-2.ensures in
    subst (λ t. HasSound (tenant_at config t).words c.in-Ok.book) (sym c.tenant-2.ensures)
    (sound_after (tenant_at config tenant).words shown.book c.in-Ok.book _ (c.args.self.now.books tenant shown here) c.in-Ok.ensures.works)

pub returns-in-Err-clause-ends : goal.returns-in-Err-clause-ends
returns-in-Err-clause-ends c state shows same starts fails =
    let actor = c.args.actor.now in
    let book = c.index-2.result.now.book in
    let one = shown_at c.args.self.now state c.from-tenant.result actor.tenant c.index.result.now shows (c.from-tenant.ensures ∙ c.tenant.ensures) c.requires.tenant c.index.ensures in
    let two = shown_at c.args.self.now state c.from-tenant.result actor.tenant c.index-2.result.now shows (c.from-tenant.ensures ∙ c.tenant.ensures) c.requires.tenant c.index-2.ensures in
    let own = c.entries_of-entries.ensures ∙ ap (λ job. entries_of_job job) c.job.ensures in
    let formed = formed_is c.args.called.call (state.tenant_states actor.tenant).file c.index.result.now.book.contents.items c.words.result c.entries_of-entries.result.items (own_entries actor) c.is_formed.result true
    one.book.same_contents c.words.ensures own c.is_formed.ensures.is c.if-not-is_formed.false in
    let worked = subst (λ entries. Works book c.args.called.call c.args.called.change.slot entries c.args.outcome (Err c.in-Err.fault)) own c.in-Err.ensures.works in
    call_fails c.args.self.now.config state actor (called_of c.args.called) c.args.status c.args.outcome same starts fails formed _ two.places c.args.self.now book c.in-Err.fault shows refl
    (why_failed book c.args.called.call c.args.called.change.slot (own_entries actor) c.args.outcome c.in-Err.fault (state.tenant_states actor.tenant).file worked two.book)

pub returns-clause-ends : goal.returns-clause-ends
returns-clause-ends c state shows same starts fails =
    let actor = c.args.actor.now in
    let book = c.index-2.result.now.book in
    let one = shown_at c.args.self.now state c.from-tenant.result actor.tenant c.index.result.now shows (c.from-tenant.ensures ∙ c.tenant.ensures) c.requires.tenant c.index.ensures in
    let two = shown_at c.args.self.now state c.from-tenant.result actor.tenant c.index-2.result.now shows (c.from-tenant.ensures ∙ c.tenant.ensures) c.requires.tenant c.index-2.ensures in
    let own = c.entries_of-entries.ensures ∙ ap (λ job. entries_of_job job) c.job.ensures in
    let formed = formed_is c.args.called.call (state.tenant_states actor.tenant).file c.index.result.now.book.contents.items c.words.result c.entries_of-entries.result.items (own_entries actor) c.is_formed.result true
    one.book.same_contents c.words.ensures own c.is_formed.ensures.is c.if-not-is_formed.false in
    let turns = subst (λ entries. Works book c.args.called.call c.args.called.change.slot entries c.args.outcome (Ok c.in-Ok.book)) own c.in-Ok.ensures.works in
    let turned = turns.shows (state.tenant_states actor.tenant).file two.book in
    let filed = subst (λ t. (file : File) → IsBookOf c.args.self.now.config state t c.in-Ok.book file → Represents c.file.new.self (with_file state t file)) c.tenant-2.ensures (λ file. c.file.ensures.shows state file shows) in
    let then_shows = filed turned.0 (record { shows = turned.2; places = turns.places ∙ two.places; file_places = turns.has ∙ two.file_places; words = turns.words ∙ two.words_are }) in
    let closed = subst (λ t. Represents c.close.new.self (with_cells (with_file state actor.tenant turned.0) (cells_closed state.cells t c.args.called.call c.args.called.change.slot c.args.status c.args.outcome))) c.tenant-3.ensures
    (c.close.ensures.shows (with_file state actor.tenant turned.0) then_shows same) in
    call_works c.args.self.now.config state actor (called_of c.args.called) c.args.status c.args.outcome same starts fails formed _ two.places c.close.new.self turned.0 c.close.result turned.1 c.close.ensures.is closed

pub returns-clause-rest : goal.returns-clause-rest
returns-clause-rest c = both_same c.args.self.now c.file.new.self c.close.new.self c.file.ensures.rest c.close.ensures.rest

pub returns-clause-moments : goal.returns-clause-moments
returns-clause-moments c =
    let tenant = c.args.actor.now.tenant in
    let shown = c.index-2.result.now in
    let here = found_at c.args.self.now.tenant_states.items c.from-tenant.result tenant shown (c.from-tenant.ensures ∙ c.tenant.ensures) c.requires.tenant c.index-2.ensures in
    record {
      was = shown.book;
      now = c.in-Ok.book;
      is_old = ap (λ o. option_map (λ tenant_state. tenant_state.book) o) here;
      is_new = c.close.ensures.files tenant ∙ subst (λ t. book_at c.file.new.self t ≡ Some c.in-Ok.book) c.tenant-2.ensures c.file.ensures.is;
      safe = c.in-Ok.ensures.moments;
    }

pub returns-clause-disks : goal.returns-clause-disks
returns-clause-disks c was now is_was is_now =
    let tenant = c.args.actor.now.tenant in
    let shown = c.index-2.result.now in
    let here = found_at c.args.self.now.tenant_states.items c.from-tenant.result tenant shown (c.from-tenant.ensures ∙ c.tenant.ensures) c.requires.tenant c.index-2.ensures in
    let own = c.entries_of-entries.ensures ∙ ap (λ job. entries_of_job job) c.job.ensures in
    came_so (book_at c.args.self.now tenant) (book_at c.close.new.self tenant) was now shown.book c.in-Ok.book (called_of c.args.called) c.entries_of-entries.result.items (own_entries c.args.actor.now) c.args.outcome
    (ap (λ o. option_map (λ tenant_state. tenant_state.book) o) here) (c.close.ensures.files tenant ∙ subst (λ t. book_at c.file.new.self t ≡ Some c.in-Ok.book) c.tenant-2.ensures c.file.ensures.is)
    is_was is_now own c.in-Ok.ensures.exact
