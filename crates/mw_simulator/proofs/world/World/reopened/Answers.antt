-- Goals of `World::reopened` (src/world/restarts.rt).
use Rattle.std.specs.Prelude.{[], ◌∷◌, ◌++◌}
use Rattle.std.proofs.Common.{refl, sym, ap, subst, ◌∙◌}
use Rattle.std.proofs.lemmas.List.{append_assoc}
use Rattle.mw_lone.specs.declared.marks.Mark.TheVariants.{Restart as IsRestart}
use Rattle.mw_world_file.specs.Recovery.{IsRestarted}
use Rattle.mw_world_file.proofs.SoundBooks.{sound_again}
use Rattle.mw_world.specs.Definition.State.{marks_in, tenant_at}
use Rattle.mw_simulator.specs.Events.{Outage}
use Rattle.mw_simulator.proofs.Reopened.{is_reopened, not_reopened}
use Rattle.mw_simulator.proofs.Restarted.{none_is}
use Rattle.mw_simulator.proofs.world.World.reopened.Goals as goal

pub returns-in-Err-clause-reopens : goal.returns-in-Err-clause-reopens
returns-in-Err-clause-reopens c state shows =
    not_reopened c.args.self.now state c.args.tenant c.args.tenant_state.now (record { interrupted = c.args.interrupted; torn = c.args.torn.now; fails_at = c.args.fails_at; quota = c.args.told }) c.in-Some.halt c.quota_of-quota.result c.in-Err.fault c.requires.there shows
    (c.in-Some.ensures.shown state shows) c.in-Err.ensures

pub returns-clause-sound : goal.returns-clause-sound
returns-clause-sound c =
    let shown = c.args.tenant_state.now in
    sound_again (tenant_at c.args.self.now.config c.args.tenant).words shown.book c.in-Some.halt.cut c.args.torn.now c.args.fails_at c.quota_of-quota.result c.in-Ok.restarted
    (c.args.self.now.books c.args.tenant shown c.requires.there) c.in-Ok.ensures

pub returns-clause-reopens : goal.returns-clause-reopens
returns-clause-reopens c state shows new follows =
    let world = c.args.self.now in
    let tenant = c.args.tenant in
    let shown = c.args.tenant_state.now in
    let outage : Outage = record { interrupted = c.args.interrupted; torn = c.args.torn.now; fails_at = c.args.fails_at; quota = c.args.told } in
    let halt = c.in-Some.halt in
    let told = c.quota_of-quota.result in
    let took = c.in-Ok.restarted.1 in
    let shown_so = shows.tenant_states tenant shown c.requires.there in
    let started = c.in-Ok.ensures (state.tenant_states tenant).file shown_so.book in
    is_reopened world.config state tenant shown outage halt (tenant_at world.config tenant).words shown_so
    (c.in-Some.ensures.shown state shows) took c.is_none.result told new c.quota_of-quota.ensures
    (subst (λ book. IsRestarted shown.book (state.tenant_states tenant).file halt.cut outage.torn outage.fails_at told book took) (sym follows.book) started)
    (none_is c.args.fails_at c.is_none.result c.is_none.ensures) follows.quota follows.asked
    (ap (λ lines. lines.items) follows.lines ∙ c.in-Ok-since.ensures.lines)
    (follows.closed ∙ ap (λ own. shown.lines.closed.items ++ own) c.in-Ok-since.ensures.closed
    ∙ sym (append_assoc shown.lines.closed.items (marks_in shown.lines.lines.items) (IsRestart halt.sealing took c.is_none.result told ∷ []))) refl
