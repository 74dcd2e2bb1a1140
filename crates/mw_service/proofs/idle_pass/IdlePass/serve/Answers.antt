-- Goals of `IdlePass::serve` (src/idle_pass.rt).
use Rattle.std.specs.Prelude.{[], ◌∷◌, Some}
use Rattle.std.proofs.Common.{ap, sym, subst, ◌∙◌}
use Rattle.mw_engine.specs.FromBelow.{View, note}
use Rattle.mw_engine.specs.History.{IsAnswered}
use Rattle.mw_service.specs.Borrowed.{IsAnsweredBy}
use Rattle.mw_service.specs.OwnReplies.{came_to}
use Rattle.mw_service.specs.RequestTokens.{source_of, token_of}
use Rattle.mw_service.proofs.OwnTokens.{HasOne, came_one, has_one, its_token}
use Rattle.mw_service.proofs.idle_pass.IdlePass.serve.Goals as goal

-- the note changes nothing of what the pass knows
pub returns-clause-answered : goal.returns-clause-answered
returns-clause-answered g c =
    let same = sym (λ i. (c.note-note.ensures.knows i).0) in
    let learned = c.learn.new.self in
    let last = c.note-note.new.pass in
    let worker = c.note-note.ensures.stays.same_worker ∙ c.serve-reply.ensures.worker in
    let its : IsAnsweredBy g.J.EngineBrand.identity c.args.self.now.pass last c.args.note c.args.tenant c.args.job.now c.serve-reply.result (Some c.note-note.result) =
    record {
      borrows = record {
        own = c.args.self.now.own;
        idle = c.args.self.now.idle;
        begun = c.args.self.now.begun;
        learned = learned.pass;
        same = c.learn.ensures.same;
        learns = c.learn.ensures.learned;
        same_worker = c.note-note.ensures.stays.same_worker ∙ (c.serve-reply.ensures.worker ∙ c.learn.ensures.same.same_worker);
        stays_own = c.note-note.ensures.own;
        stays_idle = c.note-note.ensures.stays.same_idle ∙ c.serve-reply.ensures.idle;
        says = c.note-note.ensures.says ∙ ap note same;
      };
      answered = subst (λ (view : View). IsAnswered learned.pass.seat.me.0 view c.args.tenant c.args.job.now c.serve-reply.result) same c.serve-reply.ensures.answered;
      possible = c.serve-reply.ensures.answers;
    } in
    let before = has_one learned.pass.seat.me.0.tokens learned.pass.worker learned.pass.attempt learned.pass.numbered in
    let after = has_one last.seat.me.0.tokens learned.pass.worker last.attempt (last.numbered ∙ ap (λ n. (n, last.attempt) ∷ []) worker) in
    (its, c.take-token.ensures.token learned.pass.worker (came_to learned.pass.seat.me.0.tokens) learned.counted ∙ ap (λ token. token ∷ []) (sym (its_token learned.pass.seat.me.0 last.seat.me.0 learned.pass.worker c.args.tenant c.args.job.now c.serve-reply.result before after its.answered)))

-- one request came to the worker, and its source gave one token out
pub invariant_of-self-clause-counted : goal.invariant_of-self-clause-counted
invariant_of-self-clause-counted g c =
    let same = sym (λ i. (c.note-note.ensures.knows i).0) in
    let learned = c.learn.new.self in
    let last = c.note-note.new.pass in
    let worker = c.note-note.ensures.stays.same_worker ∙ c.serve-reply.ensures.worker in
    let answered = subst (λ (view : View). IsAnswered learned.pass.seat.me.0 view c.args.tenant c.args.job.now c.serve-reply.result) same c.serve-reply.ensures.answered in
    let before = has_one learned.pass.seat.me.0.tokens learned.pass.worker learned.pass.attempt learned.pass.numbered in
    let after = has_one last.seat.me.0.tokens learned.pass.worker last.attempt (last.numbered ∙ ap (λ n. (n, last.attempt) ∷ []) worker) in
    let more = came_one learned.pass.seat.me.0 last.seat.me.0 learned.pass.worker c.args.tenant c.args.job.now c.serve-reply.result before after answered in
    c.take-token.ensures.after learned.pass.worker (came_to learned.pass.seat.me.0.tokens) learned.counted ∙ (λ i. source_of (sym worker i) (sym more i))
