-- Goals of `Borrower::ask` (src/borrower.rt).
use Rattle.std.specs.Prelude.{◌≡◌, ℕ, List, ◌++◌, Option, Some}
use Rattle.std.proofs.Common.{ap, refl, subst, sym, ◌∙◌}
use Rattle.mw_words.specs.declared.jobs.Job.{Job}
use Rattle.mw_words.specs.declared.jobs.Job.TheVariants.{Get}
use Rattle.mw_words.specs.declared.replies.Reply.{Reply}
use Rattle.mw_session.specs.Talk.{Asks}
use Rattle.mw_engine.specs.Brand.{Identity}
use Rattle.mw_engine.specs.FromBelow.{Note}
use Rattle.mw_service.specs.declared.token_views.RequestToken.{RequestToken}
use Rattle.mw_service.specs.OwnReplies.{AnswersOwn, IsAnsweredOwnWith}
use Rattle.mw_service.proofs.borrower.BorrowerService.ask.Goals.{in-Some-Get, in_default}
use Rattle.mw_service.proofs.borrower.BorrowerService.ask.Goals as goal

-- what a pool answered, given by equal parts, with its token added to those of the session
answered_so : {X : Type 0} (tokens : X → List RequestToken) (identity : Identity) (note old : Option Note) (tenant : ℕ) (asked job : Job) (got reply : Reply × Note × X) (had has : List RequestToken) → note ≡ old → asked ≡ job → reply ≡ got
    → IsAnsweredOwnWith identity note tenant asked got.0 (Some got.1) (tokens got.2) → has ≡ had ++ tokens reply.2
    → AnswersOwn identity (record { note = old; tokens = had }) (Asks tenant job reply.0) (record { note = Some reply.1; tokens = has })
answered_so tokens identity note old tenant asked job got reply had has same_note same_job is answered added =
    let its =
    subst (λ (one : Option Note). IsAnsweredOwnWith identity one tenant job reply.0 (Some reply.1) (tokens reply.2)) same_note
    (subst (λ (one : Job). IsAnsweredOwnWith identity note tenant one reply.0 (Some reply.1) (tokens reply.2)) same_job
    (subst (λ one. IsAnsweredOwnWith identity note tenant asked one.0 (Some one.1) (tokens one.2)) (sym is) answered)) in
    (its.0, added ∙ ap (λ (more : List RequestToken). had ++ more) its.1)

pub returns-in-Fault-clause-answered : goal.returns-in-Fault-clause-answered
returns-in-Fault-clause-answered g c = elim c.match-self.branch [
  | in-Some-Get w ↦
      answered_so (λ own. own.seat.me.0.tokens) g.J.EngineBrand.identity c.take-note.result c.args.self.now.note c.args.tenant (Get w.in-Some-Get.address) c.args.job.now w.read.result c.match-self.reply _ _ c.take-note.ensures.value
      (sym w.in-Some-Get.is-1) w.reply-is w.read.ensures.answered c.add.ensures
  | in_default w ↦
      answered_so (λ own. own.seat.me.0.tokens) g.J.EngineBrand.identity c.take-note.result c.args.self.now.note c.args.tenant c.args.job.now c.args.job.now w.serve.result c.match-self.reply _ _ c.take-note.ensures.value refl w.reply-is
      w.serve.ensures.answered c.add.ensures
]

pub returns-in_default-reply : goal.returns-in_default-reply
returns-in_default-reply g c = record {
  answered = elim c.match-self.branch [
    | in-Some-Get w ↦
        answered_so (λ own. own.seat.me.0.tokens) g.J.EngineBrand.identity c.take-note.result c.args.self.now.note c.args.tenant (Get w.in-Some-Get.address) c.args.job.now w.read.result c.match-self.reply _ _ c.take-note.ensures.value
        (sym w.in-Some-Get.is-1) w.reply-is w.read.ensures.answered c.add.ensures
    | in_default w ↦
        answered_so (λ own. own.seat.me.0.tokens) g.J.EngineBrand.identity c.take-note.result c.args.self.now.note c.args.tenant c.args.job.now c.args.job.now w.serve.result c.match-self.reply _ _ c.take-note.ensures.value refl w.reply-is
        w.serve.ensures.answered c.add.ensures
  ];
  words = λ number words has. has;
}
